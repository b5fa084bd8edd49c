use Rattle.plan_points.specs.Flat.{cell}
use Rattle.instances.specs.Rows.{time_at}
use Rattle.instances.specs.Own.{MeetsAt}
use Rattle.instances.specs.Chain.{behind}
use Rattle.instances.proofs.Links.{Walked}
use Rattle.instances.proofs.pair_met.Given as goal

abbrev pub invariant-loop-last : goal.invariant-loop-last
invariant-loop-last l =
    Walked l.job l.at.job l.count (λ i. MeetsAt l.c (time_at l.l (cell l.place i) l.at.first l.c.later) (time_at l.l (cell l.place i) l.at.first l.c.earlier)) l.last

abbrev pub decreases-loop-last : goal.decreases-loop-last
decreases-loop-last l = behind l.last
