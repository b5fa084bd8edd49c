use Prim.Native.Nat.{◌*◌, ◌-◌}
use Rattle.laws.specs.Pairs.{AtPair}
use Rattle.sheet.specs.WellFormed.{said_by}
use Rattle.own_times.specs.Rules.{Collected, SameRoom}
use Rattle.own_times.proofs.add_bounds.Given as goal

abbrev pub invariant-loop-i : goal.invariant-loop-i
invariant-loop-i l =
    Collected (said_by l.sheet) l.i 0 (2 * l.i) l.from l.to l.weight l.n × AtPair (said_by l.sheet) l.i × SameRoom l.initial.from l.initial.to l.initial.weight l.from l.to l.weight

abbrev pub decreases-loop-i : goal.decreases-loop-i
decreases-loop-i l =
    (said_by l.sheet).bounds - l.i
