-- The run state as the code holds it, and what a move is of the rows of a plan's events.
use Rattle.std.specs.Prelude.{ℕ, ◌+◌, ◌^◌, ◌≤◌, ◌<◌, ◌≡◌, ◌⊎◌, true, List, Result, Ok, Err}
use Rattle.std.specs.Int.Bits.{bit_or}
use Rattle.rules.specs.Sheet.{Sheet, initial}
use Rattle.rules.specs.Late as rules
use Rattle.rules.specs.Late.{On, Bits}
use Rattle.sheet.specs.View.{event_from}
use Rattle.sheet.specs.declared.Event.{Event}
use Rattle.sheet.specs.declared.Event.TheVariants.{Begins, Ends, Sets, Clears}
use Rattle.plan_points.specs.Flat.{cell, tick_at, type_in, fact_in}
use Rattle.run_state.specs.Bits.{Among}
use Rattle.reader.specs.Reads as reads
use Rattle.reader.specs.declared.Fault.{Fault}
use Rattle.judge.specs.declared.Refusal.{Refusal}
use Rattle.run_state.specs.declared.Run.{Run}
use Rattle.run_state.specs.declared.Change.{Change}

abbrev pub state_of : Run → rules.Run
state_of x = record { next = x.next; held = x.held }

-- ---- the answers: the number, and what stands after a call where old stood before it, which stays with a refusal

abbrev pub fresh_number : Result ℕ Fault → ℕ
fresh_number (Err x) = reads.number_of x
fresh_number (Ok h) = 0

abbrev pub held_or : ℕ → Result ℕ Fault → ℕ
held_or old (Err x) = old
held_or old (Ok h) = h

abbrev pub state_or : rules.Run → Result Run Refusal → rules.Run
state_or old (Err x) = old
state_or old (Ok y) = state_of y

-- ---- the rows

-- the event of row k
abbrev pub event_at : List ℕ → ℕ → Event
event_at rows k = event_from (type_in (cell rows k)) (fact_in (cell rows k))

-- row k is event e, at tick t
pub record RowIs (rows : List ℕ) (t k : ℕ) (e : Event) : Type 0 where
  pub on_tick : tick_at rows k ≡ t
  pub is : event_at rows k ≡ e

-- one of the first n rows sets fact f at tick t, clears it
abbrev pub RowSets : List ℕ → (n t f : ℕ) → Type 0
RowSets rows n t f = Among (λ k f. RowIs rows t k (Sets f)) n f

abbrev pub RowClears : List ℕ → (n t f : ℕ) → Type 0
RowClears rows n t f = Among (λ k f. RowIs rows t k (Clears f)) n f

-- what the first n rows set and clear at tick t
pub record Changes (rows : List ℕ) (n t : ℕ) (c : Change) : Type 0 where
  pub sets : Bits c.sets (RowSets rows n t)
  pub clears : Bits c.clears (RowClears rows n t)

-- facts as bits, and what an event sets besides, what it clears
abbrev pub sets_with : Event → ℕ → ℕ
sets_with (Begins f) h = h
sets_with (Ends f) h = h
sets_with (Sets f) h = bit_or h (2 ^ f)
sets_with (Clears f) h = h

abbrev pub clears_with : Event → ℕ → ℕ
clears_with (Begins f) h = h
clears_with (Ends f) h = h
clears_with (Sets f) h = h
clears_with (Clears f) h = bit_or h (2 ^ f)

-- fact k is f, and initial
pub record Marked (s : Sheet) (k f : ℕ) : Type 0 where
  pub same : f ≡ k
  pub is_initial : initial s k ≡ true

-- ---- one move

pub record HeldRows (rows : List ℕ) (n t held f : ℕ) : Type 0 where
  pub source : On held f ⊎ RowSets rows n t f
  pub not_cleared : RowClears rows n t f → ⊥

-- the state after one move over the first n rows, up to the tick last
pub data Steps (rows : List ℕ) (n last : ℕ) (r : rules.Run) : rules.Run → Type 0 where
  stays : last < r.next → Steps rows n last r r
  moves
      : (h : ℕ)
      → r.next ≤ last
      → Bits h (HeldRows rows n r.next r.held)
      → Steps rows n last r (record { next = r.next + 1; held = h })
