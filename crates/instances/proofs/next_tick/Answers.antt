use native.Mathlib.Omega.{arith}
use Rattle.plan_points.specs.Flat.{cell}
use Rattle.instances.proofs.Laws.{next_some, next_none}
use Rattle.instances.proofs.next_tick.Goals as goal

pub returns-then-k-count : goal.returns-then-k-count
unfolding cell
returns-then-k-count c =
    (next_some _ _ _ _ c.if-k-count.true c.tick.ensures.0, c.tick.ensures.1)

pub returns-else-k-count : goal.returns-else-k-count
returns-else-k-count c =
    (next_none _ _ _ c.if-k-count.false, omega arith)
