use Prim.Native.Nat.{◌-◌}
use Rattle.plan_points.proofs.Laws.{Splitting}
use Rattle.plan_points.proofs.split.Given as goal

abbrev pub invariant-loop-low : goal.invariant-loop-low
invariant-loop-low l =
    Splitting l.rows l.initial.low l.initial.high l.d l.u l.low l.high

abbrev pub decreases-loop-low : goal.decreases-loop-low
decreases-loop-low l =
    l.high - l.low
