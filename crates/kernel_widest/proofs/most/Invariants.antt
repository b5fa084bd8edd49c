use Rattle.kernel_widest.proofs.Laws.{Mosting}
use Rattle.kernel_widest.proofs.most.Given as goal

abbrev pub invariant-loop-v : goal.invariant-loop-v
invariant-loop-v l =
    Mosting l.lo l.hi l.row l.m l.v
