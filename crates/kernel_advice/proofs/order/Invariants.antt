use Prim.Native.Nat.{◌≤◌}
use Rattle.kernel_advice.specs.Readable.{variables}
use Rattle.kernel_advice.proofs.order.Given as goal

abbrev pub invariant-loop-v : goal.invariant-loop-v
invariant-loop-v l =
    l.at ≤ variables
