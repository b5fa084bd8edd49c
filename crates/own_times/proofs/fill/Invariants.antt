use Rattle.own_times.specs.View.{FilledWith}
use Rattle.own_times.proofs.fill.Given as goal

abbrev pub invariant-loop-e : goal.invariant-loop-e
invariant-loop-e l = FilledWith l.fn.range.lo l.e l.floor l.initial.x l.x
