use Rattle.order_shown.proofs.GridLaws.{marked_is, not_marked}
use Rattle.laws.specs.Throughout.{throughout_more}
use Rattle.order_shown.proofs.next_from.Goals as goal
use Rattle.order_shown.proofs.next_from.Goals.{else-last-p-via-then-last-p+else-not-done-p, else-last-p-via-else-last-p}

pub returns-then-not-done-p : goal.returns-then-not-done-p
returns-then-not-done-p c =
    record { exists = c.loop-p-test.true; marked = marked_is _ _ c.if-last-p.true; untried = not_marked _ _ c.if-not-done-p.true }

pub loop-p-preserved : goal.loop-p-preserved
loop-p-preserved c =
    throughout_more c.loop-p.invariant
    (elim c.else-last-p.branch [
      | else-last-p-via-then-last-p+else-not-done-p w ↦ λ h. marked_is _ _ w.if-not-done-p.false
      | else-last-p-via-else-last-p w ↦ λ h. absurd (not_marked _ _ w.if-last-p.false h)
    ])
