use Rattle.kernel_least.proofs.Turns.{Gathered}
use Rattle.kernel_least.proofs.any.Given as goal

abbrev pub invariant-loop-v : goal.invariant-loop-v
invariant-loop-v l =
    Gathered l.lo l.hi l.marks l.some l.v
