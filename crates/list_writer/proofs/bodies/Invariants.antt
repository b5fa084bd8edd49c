use Rattle.sheet.specs.WellFormed.{said_by}
use Rattle.list_writer.specs.ListBytes.{marked, tick_of}
use Rattle.list_writer.proofs.Laws.{Bodying}
use Rattle.list_writer.proofs.bodies.Given as goal

abbrev pub invariant-loop-j : goal.invariant-loop-j
invariant-loop-j l =
    Bodying (said_by l.sheet) (marked l.jobs) (tick_of l.x) l.initial.out l.out l.at l.j
