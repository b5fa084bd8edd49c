use Rattle.own_times.proofs.Laws.{Needing}
use Rattle.own_times.specs.Rules.{SameRoom}
use Rattle.sheet.specs.WellFormed.{said_by}
use Prim.Native.Nat.{◌-◌}
use Rattle.own_times.proofs.add_needs.Given as goal

abbrev pub invariant-loop-e : goal.invariant-loop-e
invariant-loop-e l =
    Needing (said_by l.sheet) l.e l.from l.to l.weight l.n
    × SameRoom l.initial.from l.initial.to l.initial.weight l.from l.to l.weight

abbrev pub decreases-loop-e : goal.decreases-loop-e
decreases-loop-e l =
    (said_by l.sheet).events - l.e
