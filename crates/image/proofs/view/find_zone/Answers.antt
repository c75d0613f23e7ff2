-- `position` over the records looks for the slave address where `sought_in` does.
use Rattle.std.proofs.Common.{sym, ◌∙◌, ◌==◌, rules, tests}
use Rattle.std.proofs.lemmas.Iterator.Search.{position_from_yields_List}
use Rattle.image.proofs.Views.{slaves_yielded, shown_some, shown_none}
use Rattle.image.proofs.view.find_zone.Goals as goal

pub returns : goal.returns
returns c =
    let p = position_from_yields_List (λ s. s == c.args.slave) _ _ c.position.result c.position.ensures.ran (slaves_yielded _ c.chunks_exact.ensures.size) (λ x b q k. search (rules, tests)) in
    let clean = sym c.bus_fault.ensures ∙ c.in_ok-bus_fault.was in
    rw c.from.ensures (sym (shown_some _ _ _ clean c.if-zone-gt-HIGHEST_ZONE.false _ (rw c.chunks_exact.ensures.rest at (sym p ∙ c.in-Some.is))))

pub returns-in_default : goal.returns-in_default
returns-in_default c =
    let p = position_from_yields_List (λ s. s == c.args.slave) _ _ c.position.result c.position.ensures.ran (slaves_yielded _ c.chunks_exact.ensures.size) (λ x b q k. search (rules, tests)) in
    let clean = sym c.bus_fault.ensures ∙ c.in_ok-bus_fault.was in
    rw c.at-in_default.ensures (sym (shown_none _ _ _ clean c.if-zone-gt-HIGHEST_ZONE.false (rw c.chunks_exact.ensures.rest at (sym p ∙ c.in_default.is))))
