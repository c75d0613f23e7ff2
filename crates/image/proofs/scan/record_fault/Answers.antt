-- The search for a reserved byte that is not FFh finds what `filled` counts up to.
use Rattle.std.proofs.Common.{◌≡◌, sym, ◌∙◌, length, take, drop, not, ◌==◌, rules, tests, arith}
use Rattle.std.proofs.lemmas.Iterator.{YieldsList-from_slice}
use Rattle.std.proofs.lemmas.Iterator.Search.{position_from_yields_List}
use Rattle.image.specs.Layout.{reserved_at, reserved_size, reserved_byte}
use Rattle.image.specs.Scan.{record_fault, reserved_good}
use Rattle.image.proofs.Lists.{filled_is, place_some, place_none}
use Rattle.image.proofs.Records.{starts_mark, not_is_not, Fine, clean_of}
use Rattle.image.proofs.scan.record_fault.Goals as goal

pub returns-in-Some : goal.returns-in-Some
unfolding record_fault
returns-in-Some c =
    let p = position_from_yields_List (λ x. not (x == reserved_byte)) _ _ c.position.result c.position.ensures.ran (YieldsList-from_slice _ c.iter.ensures.rest) (λ x b q k. search (rules, tests)) in
    let f = place_some _ _ _ (sym p ∙ c.in-Some.is) in
    let good : reserved_good c.args.bytes.now ≡ c.in-Some.good = filled_is _ ∙ f.0 in
    search (rules, good)

pub returns : goal.returns
returns c =
    let p = position_from_yields_List (λ x. not (x == reserved_byte)) _ _ c.position.result c.position.ensures.ran (YieldsList-from_slice _ c.iter.ensures.rest) (λ x b q k. search (rules, tests)) in
    let f = place_none _ _ (sym p ∙ c.in_default.is) in
    let n : length (take reserved_size (drop reserved_at c.args.bytes.now)) ≡ reserved_size = search rules in
    let e = filled_is (take reserved_size (drop reserved_at c.args.bytes.now)) in
    let fine : Fine c.args.least c.args.bytes.now =
    record {
      mark = starts_mark c.args.bytes.now (sym c.starts_with.ensures.value ∙ c.if-not-starts_with.false);
      part = not_is_not _ (sym c.is_part.ensures ∙ c.if-not-is_part.false);
      slave = c.if-slave-gt-HIGHEST_SLAVE.false;
      above = c.if-slave-least.false;
      flags = c.if-bytes-gt-HIGHEST_FLAGS.false;
      reserved = omega (arith, n, f, e);
    } in
    sym (clean_of c.args.at c.args.least c.args.bytes.now fine)
