use Rattle.laws.specs.Test.{said, denied}
use Rattle.late.specs.Rows.{SetFault.free, SetFault.met}
use Rattle.late.proofs.set_fault.Goals as goal

pub returns-then-free : goal.returns-then-free
returns-then-free c =
    free (said c.free.result (rw c.tick-at.ensures.0 at c.free.ensures) c.if-free.true)

pub returns-else-free : goal.returns-else-free
returns-else-free c =
    rw c.tick-at.ensures.0
    (met (denied c.free.result (rw c.tick-at.ensures.0 at c.free.ensures) c.if-free.false))
