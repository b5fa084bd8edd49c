-- The sheet before edition 2: what it said and its faults, as document 01 alone was written down. Nothing but the records Event and Bound is
-- taken from rules/specs/Sheet, so that a change there does not move this text.
use Rattle.std.specs.Prelude.{ℕ, zero, suc, ◌+◌, ◌*◌, ◌/◌, ◌%◌, Bool, cond, not, ◌&&◌, ◌||◌, List, length, leb, ltb, eqb}
use Rattle.rules.specs.Count.{every, any, rises, byte, two}
use Rattle.rules.specs.Sheet.{Event, Bound}

-- the limits
unfoldable pub max_facts : ℕ
max_facts = 64

unfoldable pub max_horizon : ℕ
max_horizon = 10080

unfoldable pub max_jobs : ℕ
max_jobs = 32

unfoldable pub max_events : ℕ
max_events = 256

unfoldable pub max_bounds : ℕ
max_bounds = 256

-- signed numbers stand here plus 32,768, so that -32,768 is 0 and 32,767 is 65,535
unfoldable pub origin : ℕ
origin = 32768

-- two of an event's types: sets, clears
abbrev pub sets : ℕ
sets = 2

abbrev pub clears : ℕ
clears = 3

-- what a sheet said, apart from its bytes; facts, jobs, events and bounds are numbered from 0
pub record FormerSheet : Type 0 where
  pub facts : ℕ
  pub horizon : ℕ
  pub mark : ℕ → ℕ
  pub jobs : ℕ
  pub code : ℕ → ℕ
  pub events : ℕ
  pub event : ℕ → Event
  pub bounds : ℕ
  pub bound : ℕ → Bound

-- ---- the bytes

-- the contents' entry of part i: kind, a zero byte, offset, length
unfoldable pub kind_of : List ℕ → ℕ → ℕ
kind_of b i = byte b (2 + 6 * i)

unfoldable pub zero_of : List ℕ → ℕ → ℕ
zero_of b i = byte b (3 + 6 * i)

unfoldable pub offset_of : List ℕ → ℕ → ℕ
offset_of b i = two b (4 + 6 * i)

unfoldable pub length_of : List ℕ → ℕ → ℕ
length_of b i = two b (6 + 6 * i)

-- where body i starts: the first at 26, each next one where the last ends
unfoldable pub start_of : List ℕ → ℕ → ℕ
start_of b zero = 26
start_of b (suc i) = start_of b i + length_of b i

-- the places of the four bodies
abbrev pub facts_at : List ℕ → ℕ
facts_at b = start_of b 0

abbrev pub jobs_at : List ℕ → ℕ
jobs_at b = start_of b 1

abbrev pub events_at : List ℕ → ℕ
events_at b = start_of b 2

abbrev pub bounds_at : List ℕ → ℕ
bounds_at b = start_of b 3

-- an events row: job number, type, fact
unfoldable pub event_at : List ℕ → ℕ → Event
event_at b at = record { job = byte b at; kind = byte b (at + 1); fact = byte b (at + 2) }

-- a signed two-byte number, plus 32,768
unfoldable pub signed : List ℕ → ℕ → ℕ
signed b at = (two b at + origin) % 65536

-- a bounds row: e, d, low, high
unfoldable pub bound_at : List ℕ → ℕ → Bound
bound_at b at = record { later = byte b at; earlier = byte b (at + 1); low = signed b (at + 2); high = signed b (at + 4) }

-- what the bytes said
unfoldable pub former_sheet : List ℕ → FormerSheet
former_sheet b =
    record {
      facts = byte b (facts_at b);
      horizon = two b (facts_at b + 1);
      mark = λ f. byte b (facts_at b + 3 + f);
      jobs = length_of b 1 / 2;
      code = λ j. two b (jobs_at b + 2 * j);
      events = length_of b 2 / 3;
      event = λ e. event_at b (events_at b + 3 * e);
      bounds = length_of b 3 / 6;
      bound = λ i. bound_at b (bounds_at b + 6 * i);
    }

-- ---- the rules

-- the contents: edition 1, 4 parts, their entries, and the last body ends with the sheet
unfoldable pub entry_ok : List ℕ → ℕ → Bool
entry_ok b i = eqb (kind_of b i) (i + 1) && eqb (zero_of b i) 0 && eqb (offset_of b i) (start_of b i)

unfoldable pub contents_ok : List ℕ → Bool
contents_ok b = leb 26 (length b) && eqb (byte b 0) 1 && eqb (byte b 1) 4 && every (entry_ok b) 4 && eqb (start_of b 4) (length b)

-- kind 1
unfoldable pub facts_ok : FormerSheet → Bool
facts_ok s = leb s.facts max_facts && leb s.horizon max_horizon && every (λ f. leb (s.mark f) 3) s.facts

-- kind 2: the codes rise strictly
unfoldable pub jobs_ok : FormerSheet → Bool
jobs_ok s = leb s.jobs max_jobs && rises s.code s.jobs

-- events rise by job, then fact, then type: the three as the digits of one number
unfoldable pub event_key : Event → ℕ
event_key e = 65536 * e.job + 256 * e.fact + e.kind

-- e and d are the two ends of one need
unfoldable pub two_ends : Event → Event → Bool
two_ends e d = eqb e.job d.job && eqb e.fact d.fact && eqb (e.kind + d.kind) 1

-- an event's type, job and fact exist, and a need has both its ends
unfoldable pub event_ok : FormerSheet → ℕ → Bool
event_ok s e =
    leb (s.event e).kind clears && ltb (s.event e).job s.jobs && ltb (s.event e).fact s.facts
    && (leb sets (s.event e).kind || any (λ d. two_ends (s.event e) (s.event d)) s.events)

-- kind 3
unfoldable pub events_ok : FormerSheet → Bool
events_ok s = leb s.events max_events && every (event_ok s) s.events && rises (λ e. event_key (s.event e)) s.events

-- pairs (e, d) rise: the two as the digits of one number
unfoldable pub bound_key : Bound → ℕ
bound_key c = 256 * c.later + c.earlier

-- a low or a high is none, or lies in -10,080 to 10,080
unfoldable pub within_horizon : ℕ → Bool
within_horizon v = leb origin (v + max_horizon) && leb v (origin + max_horizon)

unfoldable pub bound_ok : FormerSheet → Bound → Bool
bound_ok s c =
    ltb c.later s.events && ltb c.earlier s.events && not (eqb c.later c.earlier)
    && eqb (s.event c.later).job (s.event c.earlier).job && leb c.low c.high
    && (eqb c.low 0 || within_horizon c.low) && (eqb c.high 65535 || within_horizon c.high)

-- kind 4
unfoldable pub bounds_ok : FormerSheet → Bool
bounds_ok s = leb s.bounds max_bounds && every (λ i. bound_ok s (s.bound i)) s.bounds && rises (λ i. bound_key (s.bound i)) s.bounds

-- each body's rules, with its length in whole rows
unfoldable pub facts_body_ok : List ℕ → Bool
facts_body_ok b = eqb (length_of b 0) (3 + (former_sheet b).facts) && facts_ok (former_sheet b)

unfoldable pub jobs_body_ok : List ℕ → Bool
jobs_body_ok b = eqb (length_of b 1) (2 * (former_sheet b).jobs) && jobs_ok (former_sheet b)

unfoldable pub events_body_ok : List ℕ → Bool
events_body_ok b = eqb (length_of b 2) (3 * (former_sheet b).events) && events_ok (former_sheet b)

unfoldable pub bounds_body_ok : List ℕ → Bool
bounds_body_ok b = eqb (length_of b 3) (6 * (former_sheet b).bounds) && bounds_ok (former_sheet b)

-- the number of the first broken rule, 0 if the sheet is well formed
unfoldable pub former_fault : List ℕ → ℕ
former_fault b =
    cond (not (contents_ok b)) 10
    (cond (not (facts_body_ok b)) 11
    (cond (not (jobs_body_ok b)) 12
    (cond (not (events_body_ok b)) 13
    (cond (not (bounds_body_ok b)) 14 0))))
