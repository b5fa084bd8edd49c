use Rattle.sheet.specs.WellFormed.{said_by}
use Rattle.byte_writer.specs.Fill.{Rows}
use Rattle.sheet_bytes.specs.SheetBytes.{event_bytes}
use Rattle.sheet_writer.proofs.events.Given as goal

abbrev pub invariant-loop-e : goal.invariant-loop-e
invariant-loop-e l =
    Rows l.initial.out l.at (λ i. event_bytes ((said_by l.sheet).event i)) (said_by l.sheet).events l.e l.out
