use Rattle.sheet.specs.WellFormed.{said_by}
use Rattle.list_writer.specs.ListBytes.{marked}
use Rattle.list_writer.proofs.Laws.{Timing}
use Rattle.list_writer.proofs.times.Given as goal

abbrev pub invariant-loop-j : goal.invariant-loop-j
invariant-loop-j l =
    Timing (said_by l.sheet) (marked l.jobs) l.n l.j
