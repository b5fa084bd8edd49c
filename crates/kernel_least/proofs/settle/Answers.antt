use Rattle.kernel_least.proofs.Turns.{sweep_start, settle_done, picked_none, picked_left}
use Rattle.kernel_least.proofs.settle.Goals as goal

pub returns-then-is_none : goal.returns-then-is_none
returns-then-is_none c =
    settle_done _ _ _ _ _ _ (sweep_start _ _ _) (picked_none _ _ _ _ c.if-is_none.ensures c.find-marked.ensures)

pub returns : goal.returns
returns c =
    settle_done _ _ _ _ _ _ c.loop-marked.invariant.0 (picked_left _ _ _ _ c.in_default.not-Some c.loop-marked.invariant.2)
