-- What the code's Sheet, Bound and Event hold, in the terms of the definitions.
use Rattle.std.specs.Prelude.{ℕ, zero, suc, ◌+◌, ◌*◌, ◌≤◌, ◌<◌, ◌≡◌, ◌⊎◌, true, cond, List, length, eqb}
use Rattle.rules.specs.Count.{byte, two}
use Rattle.rules.specs.Sheet as rules
use Rattle.rules.specs.Sheet.{sheet_of, edition, facts_head, job_row, facts_at, jobs_at, events_at, bounds_at, event_at, bound_at, tightest, well_formed}
use Rattle.rules.specs.Sheet.{begins, ends, sets, clears, max_facts}
use Rattle.laws.specs.Formed.{Formed}
use Rattle.laws.specs.Events.{Small}
use Rattle.laws.specs.Limits.{most_gap}
use Rattle.laws.specs.Pairs.{PairStarts, PairEnds}
use Rattle.sheet.specs.declared.Sheet.{Sheet}
use Rattle.sheet.specs.declared.Places.{Places}
use Rattle.sheet.specs.declared.Row.{Row}
use Rattle.sheet.specs.declared.Bound.{Bound}
use Rattle.sheet.specs.declared.Pair.{Pair}
use Rattle.sheet.specs.declared.Event.{Event}
use Rattle.sheet.specs.declared.Event.TheVariants.{Begins, Ends, Sets, Clears}
use Rattle.numbers.specs.Size.{byte_values, word}

-- no place of a body is so far: four lengths of two bytes each
abbrev pub near_end : ℕ
near_end = 262144

-- nor a row of it
abbrev pub far_row : ℕ
far_row = 1048576

-- p has the places of the four bodies of the bytes b
pub record PlacesAre (b : List ℕ) (p : Places) : Type 0 where
  pub facts : p.facts ≡ facts_at b
  pub jobs : p.jobs ≡ jobs_at b
  pub events : p.events ≡ events_at b
  pub bounds : p.bounds ≡ bounds_at b
  pub near : p.bounds < near_end

-- where the revision of edition 2 stands
abbrev pub revision_place : ℕ
revision_place = 30

-- a job's row as long as in edition 1, or as in edition 2
abbrev pub row1 : ℕ
row1 = 2

abbrev pub row2 : ℕ
row2 = 4

abbrev pub TwoRows : ℕ → Type 0
TwoRows row = (row ≡ row1) ⊎ (row ≡ row2)

-- what edition 2 alone says, told by the length of a job's row
unfoldable pub in_row2 : (row number : ℕ) → ℕ
in_row2 row x = cond (eqb row row2) x 0

-- what the code's sheet v says over the bytes b: everything behind the reader speaks of this
unfoldable pub meaning : Sheet → List ℕ → rules.Sheet
meaning v b =
    record {
      facts = v.facts;
      horizon = v.horizon;
      gap = v.gap;
      revision = in_row2 v.job_row (two b revision_place);
      mark = λ f. byte b (v.marks_at + f);
      jobs = v.jobs;
      code = λ j. two b (v.jobs_at + v.job_row * j);
      release = λ j. in_row2 v.job_row (two b (v.jobs_at + v.job_row * j + 2));
      events = v.events;
      event = λ e. event_at b (v.events_at + 3 * e);
      bounds = v.bounds;
      bound = λ i. bound_at b (v.bounds_at + 6 * i);
    }

-- the places of v are near: a place and a number that it may have add up
pub record Near (v : Sheet) : Type 0 where
  pub marks : v.marks_at < near_end
  pub jobs : v.jobs_at < near_end
  pub row : TwoRows v.job_row
  pub events : v.events_at < near_end
  pub bounds : v.bounds_at < near_end

-- the rows that v counts lie within the bytes b
pub record RowsInside (v : Sheet) (b : List ℕ) : Type 0 where
  pub marks : v.marks_at + v.facts ≤ length b
  pub jobs : v.jobs_at + v.job_row * v.jobs ≤ length b
  pub events : v.events_at + 3 * v.events ≤ length b
  pub bounds : v.bounds_at + 6 * v.bounds ≤ length b

-- and v's counts and gap are those of what it means (which they always are: it is said here for those who count)
pub record Counted (v : Sheet) (b : List ℕ) : Type 0 where
  pub facts : v.facts ≡ (meaning v b).facts
  pub horizon : v.horizon ≡ (meaning v b).horizon
  pub gap : v.gap ≡ (meaning v b).gap
  pub jobs : v.jobs ≡ (meaning v b).jobs
  pub events : v.events ≡ (meaning v b).events
  pub bounds : v.bounds ≡ (meaning v b).bounds
  pub near : Near v
  pub inside : RowsInside v b

-- and i is one of n rows: of v's facts, jobs, events or bounds
pub record RowOf (v : Sheet) (b : List ℕ) (n i : ℕ) : Type 0 where
  pub sheet : Counted v b
  pub below : i < n

-- the one thing that is asked of a sheet behind the reader: its places are near, and what it means is well formed
pub record IsFormed (v : Sheet) (b : List ℕ) : Type 0 where
  pub sheet : Counted v b
  pub well : well_formed (meaning v b) ≡ true
  pub few : Small (meaning v b)
  pub gap : (meaning v b).gap ≤ most_gap
  pub formed : Formed (meaning v b)

-- the code's sheet v is what the bytes b say, with the places that they have
pub record SheetIs (b : List ℕ) (v : Sheet) : Type 0 where
  pub facts : v.facts ≡ (sheet_of b).facts
  pub horizon : v.horizon ≡ (sheet_of b).horizon
  pub gap : v.gap ≡ (sheet_of b).gap
  pub jobs : v.jobs ≡ (sheet_of b).jobs
  pub events : v.events ≡ (sheet_of b).events
  pub bounds : v.bounds ≡ (sheet_of b).bounds
  pub marks_at : v.marks_at ≡ facts_at b + facts_head (edition b)
  pub jobs_at : v.jobs_at ≡ jobs_at b
  pub job_row : v.job_row ≡ job_row (edition b)
  pub events_at : v.events_at ≡ events_at b
  pub bounds_at : v.bounds_at ≡ bounds_at b
  pub near : Near v

pub record RowIs (e : rules.Event) (v : Row) : Type 0 where
  pub job : v.job ≡ e.job
  pub kind : v.kind ≡ e.kind
  pub fact : v.fact ≡ e.fact
  pub small_job : v.job < byte_values
  pub small_kind : v.kind < byte_values
  pub small_fact : v.fact < byte_values

pub record BoundIs (c : rules.Bound) (v : Bound) : Type 0 where
  pub later : v.later ≡ c.later
  pub earlier : v.earlier ≡ c.earlier
  pub low : v.low ≡ c.low
  pub high : v.high ≡ c.high
  pub small_later : v.later < byte_values
  pub small_earlier : v.earlier < byte_values
  pub small_low : v.low < word
  pub small_high : v.high < word

-- a pair starts at row i
pub record PairRow (s : rules.Sheet) (i : ℕ) : Type 0 where
  pub in_sheet : i < s.bounds
  pub starts : PairStarts s i

-- v is the pair of row i with the tightest of its rows, and the first row behind them
pub record PairIs (s : rules.Sheet) (i : ℕ) (v : Pair) : Type 0 where
  pub later : v.later ≡ (s.bound i).later
  pub earlier : v.earlier ≡ (s.bound i).earlier
  pub low : v.low ≡ (tightest s (s.bound i).later (s.bound i).earlier).low
  pub high : v.high ≡ (tightest s (s.bound i).later (s.bound i).earlier).high
  pub next : PairEnds s i v.next
  pub small_later : v.later < byte_values
  pub small_earlier : v.earlier < byte_values
  pub small_low : v.low < word
  pub small_high : v.high < word

-- an event's type and fact in the code's cases
abbrev pub type_of : Event → ℕ
type_of (Begins f) = begins
type_of (Ends f) = ends
type_of (Sets f) = sets
type_of (Clears f) = clears

abbrev pub fact_of : Event → ℕ
fact_of (Begins f) = f
fact_of (Ends f) = f
fact_of (Sets f) = f
fact_of (Clears f) = f

-- type and fact as one number: all keys of a type stand before those of the next
abbrev pub key_of_event : Event → ℕ
key_of_event e = max_facts * type_of e + fact_of e

-- the event of a type and a fact
unfoldable pub event_from : ℕ → ℕ → Event
event_from zero f = Begins f
event_from (suc zero) f = Ends f
event_from (suc (suc zero)) f = Sets f
event_from (suc (suc (suc k))) f = Clears f
