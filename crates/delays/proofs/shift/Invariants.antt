use Rattle.delays.proofs.Laws.{Shifting}
use Rattle.delays.proofs.shift.Given as goal

abbrev pub invariant-loop-k : goal.invariant-loop-k
invariant-loop-k l =
    Shifting l.delays l.initial.rows l.rows l.k
