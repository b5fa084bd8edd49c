use Rattle.sheet.specs.WellFormed.{said_by}
use Rattle.list_writer.specs.ListBytes.{marked}
use Rattle.list_writer.proofs.Laws.{Entering}
use Rattle.list_writer.proofs.entries.Given as goal

abbrev pub invariant-loop-j : goal.invariant-loop-j
invariant-loop-j l =
    Entering (said_by l.sheet) (marked l.jobs) l.initial.out l.out l.at l.place l.j
