-- What the lent reader gives of an event.
use Rattle.std.specs.Prelude.{ℕ, cond, ltb, Option, Some, None}
use Rattle.rules.specs.Sheet.{Sheet}
use Rattle.sheet.specs.View.{event_from}
use Rattle.sheet.specs.declared.Event.{Event}

-- event e of the sheet s, with its job's code; none, if s has no such event
abbrev pub row_of : Sheet → ℕ → Option (ℕ × Event)
row_of s e = cond (ltb e s.events) (Some (s.code (s.event e).job, event_from (s.event e).kind (s.event e).fact)) None
