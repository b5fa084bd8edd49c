use mathlib.Core.Path.{refl}
use Rattle.byte_writer.specs.Fill.{rows_start, rows_room, rows_step, rows_end}
use Rattle.sheet_bytes.specs.SheetBytes.{event_size, events_size, events_bytes}
use Rattle.sheet_bytes.specs.Sizes.{event_length}
use Rattle.std.proofs.Common.{rules}
use Rattle.sheet_writer.proofs.events.Goals as goal

pub loop-e-init : goal.loop-e-init
loop-e-init c =
    rows_start _ _ _ _

pub event-requires : goal.event-requires
unfolding events_size
event-requires c =
    (search rules, rows_room _ _ _ _ c.loop-e.invariant event_size c.requires (search rules))

pub loop-e-preserved : goal.loop-e-preserved
loop-e-preserved c =
    rows_step _ _ _ _ c.loop-e.invariant event_size (λ i. event_length _) (search rules) refl c.event.ensures

pub returns : goal.returns
unfolding events_bytes
returns c =
    rows_end _ _ _ _ c.loop-e.invariant (search rules)
