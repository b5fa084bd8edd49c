use Rattle.kernel_widest.proofs.Laws.{Copying}
use Rattle.kernel_widest.proofs.copy.Given as goal

abbrev pub invariant-loop-v : goal.invariant-loop-v
invariant-loop-v l =
    Copying l.lo l.hi l.x l.initial.row l.row l.v
