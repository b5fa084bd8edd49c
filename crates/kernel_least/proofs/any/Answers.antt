use Rattle.kernel_least.proofs.Turns.{gather_step}
use Rattle.kernel_least.proofs.any.Goals as goal

pub loop-v-preserved : goal.loop-v-preserved
loop-v-preserved c =
    gather_step c.loop-v.invariant c.loop-v-test.true
