use Prim.Native.Nat.{◌<◌}
use Rattle.kernel_advice.specs.Readable.{places}
use Rattle.kernel_advice.proofs.enter.Given as goal

abbrev pub invariant-loop-i : goal.invariant-loop-i
invariant-loop-i l =
    (l.i < places)

abbrev pub decreases-loop-i : goal.decreases-loop-i
decreases-loop-i l =
    l.i
