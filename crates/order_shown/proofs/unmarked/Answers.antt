use Rattle.order_shown.proofs.GridLaws.{marked_is, list_skip, list_add}
use Rattle.order_shown.proofs.unmarked.Goals as goal
use Rattle.order_shown.proofs.unmarked.Goals.{then-not-last-f, else-not-last-f}

pub loop-f-preserved : goal.loop-f-preserved
loop-f-preserved c =
    elim c.if-not-last-f.branch [
      | then-not-last-f w ↦ rw (w.rest-is, w.push.ensures) (list_add c.loop-f.invariant)
      | else-not-last-f w ↦ rw w.rest-is (list_skip c.loop-f.invariant (marked_is _ _ w.if-not-last-f.false))
    ]
