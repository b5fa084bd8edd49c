use Rattle.std.proofs.Common.{rules, tests, arith, unwrap_or, ap, sym, ◌∙◌}
use Rattle.std.specs.List.{range_with_len}
use Rattle.std.proofs.lemmas.Iterator.{YieldsList-from_range, YieldsList-from_map}
use Rattle.std.proofs.lemmas.Iterator.Consumers.{reduce_from_yields_List}
use Rattle.std.proofs.lemmas.List.Folds.{max_of_map}
use Rattle.own_times.proofs.Spans.{size_of, stride_of}
use Rattle.own_times.proofs.stride.Goals as goal

pub returns : goal.returns
returns c =
    let n = c.args.sheet.now.view.jobs in
    let size = size_of c.args.span.now in
    rw (sym c.args.sheet.now.counted.jobs)
    (stride_of n c.args.span.now
    (c.unwrap_or.ensures ∙ ap (λ o. unwrap_or o 0)
    (reduce_from_yields_List _ c.map.result _ c.max.ensures.ran
    (YieldsList-from_map _ size (YieldsList-from_range 0 n n (cc) (omega arith)) c.map.ensures.closure (λ x b q k. search (rules, tests))))
    ∙ max_of_map size (range_with_len 0 n)))
