use Rattle.instances.proofs.Laws.{FillingBody}
use Rattle.instances.proofs.fill_body.Given as goal

abbrev pub invariant-loop-e : goal.invariant-loop-e
invariant-loop-e l = FillingBody l.keys l.at l.l l.n l.initial.rows l.rows l.e
