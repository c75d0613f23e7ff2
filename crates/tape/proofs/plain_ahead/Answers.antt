use Rattle.std.proofs.Common.{rules, tests}
use Rattle.std.proofs.lemmas.Iterator.Consumers.{YieldsList-at, count_from_yields_List}
use Rattle.std.proofs.lemmas.Iterator.Search.{YieldsList-from_take_while}
use Rattle.std.proofs.lemmas.List.Folds.{length-prefix_len}
use Rattle.faults.proofs.Lists.{rest_is}
use Rattle.tape.specs.Tape.{plain}
use Rattle.tape.proofs.PlainLaws.{threes_yielded, plain_run}
use Rattle.tape.proofs.plain_ahead.Goals as goal

pub returns : goal.returns
returns c =
    let pieces = threes_yielded c.chunks_exact.result c.chunks_exact.ensures.size in
    let counted = count_from_yields_List c.take_while.result _ c.count.ensures.ran
    (YieldsList-from_take_while _ plain (YieldsList-at c.take_while.ensures.source pieces) c.take_while.ensures.closure c.take_while.ensures.done (λ x b q k. search (rules, tests))) in
    rw (counted, length-prefix_len, c.chunks_exact.ensures.rest, rest_is) (plain_run c.args.tape.now c.args.start c.requires)
