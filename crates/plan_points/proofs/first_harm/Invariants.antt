use Rattle.std.proofs.Common.{◌+◌}
use Rattle.plan_points.proofs.Laws.{Sparing}
use Rattle.plan_points.proofs.first_harm.Given as goal

abbrev pub invariant-loop-x : goal.invariant-loop-x
invariant-loop-x l =
    Sparing l.rows l.fn.span.lo l.fn.span.hi l.need l.after (l.from + l.x-index)
