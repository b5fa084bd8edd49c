use Rattle.kernel_widest.proofs.Laws.{Lowering}
use Rattle.kernel_widest.proofs.lower.Given as goal

abbrev pub invariant-loop-v : goal.invariant-loop-v
invariant-loop-v l =
    Lowering l.lo l.hi l.s l.x l.initial.row l.row l.v
