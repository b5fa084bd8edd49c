use lib.ListN.{length}
use Rattle.sheet.specs.WellFormed.{said_by}
use Rattle.instances.proofs.Laws.{FillingAll}
use Rattle.instances.proofs.fill.Given as goal

abbrev pub invariant-loop-i : goal.invariant-loop-i
invariant-loop-i l = FillingAll (said_by l.sheet) l.l (length l.initial.rows) l.rows l.n l.i
