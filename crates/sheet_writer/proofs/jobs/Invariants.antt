use Rattle.sheet.specs.WellFormed.{said_by}
use Rattle.byte_writer.specs.Fill.{Rows}
use Rattle.sheet_bytes.specs.SheetBytes.{job_bytes}
use Rattle.sheet_writer.proofs.jobs.Given as goal

abbrev pub invariant-loop-j : goal.invariant-loop-j
invariant-loop-j l =
    Rows l.initial.out l.at (job_bytes l.edition (said_by l.sheet)) (said_by l.sheet).jobs l.j l.out
