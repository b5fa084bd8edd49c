use Prim.Native.Nat.{◌-◌}
use Rattle.rules.specs.RunList.{plan_of}
use Rattle.sheet.specs.WellFormed.{said_by}
use Rattle.instances.proofs.Pairs.{PairsMet}
use Rattle.instances.proofs.bounds_met.Given as goal

abbrev pub invariant-loop-k : goal.invariant-loop-k
invariant-loop-k l =
    PairsMet (said_by l.sheet) (plan_of (said_by l.sheet) l.l) l.k

abbrev pub decreases-loop-k : goal.decreases-loop-k
decreases-loop-k l =
    l.sheet.view.bounds - l.k
