use Rattle.sheet.specs.WellFormed.{said_by}
use Rattle.byte_writer.specs.Fill.{Rows}
use Rattle.sheet_writer.specs.View.{mark_byte}
use Rattle.sheet_writer.proofs.marks.Given as goal

abbrev pub invariant-loop-f : goal.invariant-loop-f
invariant-loop-f l =
    Rows l.initial.out l.at (mark_byte (said_by l.sheet)) (said_by l.sheet).facts l.f l.out
