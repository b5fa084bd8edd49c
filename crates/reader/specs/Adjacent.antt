-- The rows as the code tests them, each by the row before it: keys rise, and so the two ends of a need stand side by side.
use Rattle.std.specs.Prelude.{ℕ, zero, suc, Bool, true, false, not, ◌&&◌, ◌||◌, leb, eqb}
use Rattle.rules.specs.Count.{every}
use Rattle.rules.specs.Sheet.{Sheet, event_key, within_horizon, bound_ok}
use Rattle.sheet.specs.View.{event_from}
use Rattle.sheet.specs.declared.Event.{Event}
use Rattle.sheet.specs.declared.Event.TheVariants.{Begins, Ends, Sets, Clears}
use Rattle.reader.specs.Loop.{after}
use Rattle.laws.specs.Formed.{row_ok}

-- no key of three bytes is so great
abbrev pub key_end : ℕ
key_end = 16777216

-- the event begins a need
abbrev pub opens : Event → Bool
opens (Begins f) = true
opens (Ends f) = false
opens (Sets f) = false
opens (Clears f) = false

-- the event must follow the one before, which begins a need or not
abbrev pub follows : Event → Bool → Bool
follows (Begins f) begun = begun
follows (Ends f) begun = true
follows (Sets f) begun = begun
follows (Clears f) begun = begun

unfoldable pub event_of : Sheet → ℕ → Event
event_of s e = event_from (s.event e).kind (s.event e).fact

-- the event before event e begins a need
unfoldable pub begun : Sheet → ℕ → Bool
begun s zero = false
begun s (suc e) = opens (event_of s e)

abbrev pub order_key_of : Sheet → ℕ → ℕ
order_key_of s e = event_key (s.event e)

-- event e comes right after the one before it, if it must
unfoldable pub linked : Sheet → ℕ → Bool
linked s e = eqb (after (order_key_of s) e) (order_key_of s e) || not (follows (event_of s e) (begun s e))

-- the events below n, the last of which begins no need
unfoldable pub event_rows : Sheet → ℕ → Bool
event_rows s n = every (λ e. row_ok s e && leb (after (order_key_of s) e) (order_key_of s e) && linked s e) n && not (begun s n)

unfoldable pub marks_ok : Sheet → ℕ → Bool
marks_ok s n = every (λ f. leb (s.mark f) 3) n

-- the last three tests of bound_ok: low is not above high, and each is none or within its range
unfoldable pub sides_ok : (low high : ℕ) → Bool
sides_ok low high = leb low high && (eqb low 0 || within_horizon low) && (eqb high 65535 || within_horizon high)

unfoldable pub bound_rows_ok : Sheet → ℕ → Bool
bound_rows_ok s n = every (λ i. bound_ok s (s.bound i)) n
