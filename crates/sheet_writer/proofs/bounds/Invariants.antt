use Rattle.sheet.specs.WellFormed.{said_by}
use Rattle.byte_writer.specs.Fill.{Rows}
use Rattle.sheet_bytes.specs.SheetBytes.{bound_bytes}
use Rattle.sheet_writer.proofs.bounds.Given as goal

abbrev pub invariant-loop-i : goal.invariant-loop-i
invariant-loop-i l =
    Rows l.initial.out l.at (λ i. bound_bytes ((said_by l.sheet).bound i)) (said_by l.sheet).bounds l.i l.out
