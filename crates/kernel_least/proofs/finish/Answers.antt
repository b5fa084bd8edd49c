use mathlib.Core.Path.{ap}
use Rattle.std.specs.Prelude.{Ok}
use Rattle.kernel_least.proofs.Turns.{sweep_on, settle_done}
use Rattle.kernel_least.proofs.finish.Goals as goal

pub returns-then-not-branch : goal.returns-then-not-branch
returns-then-not-branch c =
    settle_done _ _ _ _ _ _ (sweep_on c.loop.invariant c.in_ok-sweep.ensures.swept c.sweep.auto.x c.sweep.auto.marks) (c.in_ok-sweep.ensures.clear (ap Ok c.if-not-branch.true))
