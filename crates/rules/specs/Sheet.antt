-- "The sheet", in both its editions: its limits, its meaning as one record, its bytes, and its rules with the number that each
-- broken one draws.
use Rattle.std.specs.Prelude.{ℕ, zero, suc, ◌+◌, ◌*◌, ◌/◌, ◌%◌, Bool, cond, not, ◌&&◌, ◌||◌, List, length, leb, ltb, eqb}
use Rattle.rules.specs.Count.{every, any, rises, never_falls, greatest, least, byte, two}

-- the limits
unfoldable pub max_facts : ℕ
max_facts = 64

unfoldable pub max_horizon : ℕ
max_horizon = 10080

-- of a settling gap
unfoldable pub max_gap : ℕ
max_gap = 60

unfoldable pub max_jobs : ℕ
max_jobs = 32

unfoldable pub max_events : ℕ
max_events = 256

unfoldable pub max_bounds : ℕ
max_bounds = 256

-- signed numbers stand here plus 32,768, so that -32,768 is 0 and 32,767 is 65,535
unfoldable pub origin : ℕ
origin = 32768

-- an event's types: need begins, need ends, sets, clears
abbrev pub begins : ℕ
begins = 0

abbrev pub ends : ℕ
ends = 1

abbrev pub sets : ℕ
sets = 2

abbrev pub clears : ℕ
clears = 3

pub record Event : Type 0 where
  pub job : ℕ
  pub kind : ℕ
  pub fact : ℕ

-- low ≤ time(later) − time(earlier) ≤ high: the paper's e and d; low and high plus 32,768
pub record Bound : Type 0 where
  pub later : ℕ
  pub earlier : ℕ
  pub low : ℕ
  pub high : ℕ

-- what a sheet says, apart from its bytes; facts, jobs, events and bounds are numbered from 0, gap and release are in ticks
pub record Sheet : Type 0 where
  pub facts : ℕ
  pub horizon : ℕ
  pub gap : ℕ
  pub revision : ℕ
  pub mark : ℕ → ℕ
  pub jobs : ℕ
  pub code : ℕ → ℕ
  pub release : ℕ → ℕ
  pub events : ℕ
  pub event : ℕ → Event
  pub bounds : ℕ
  pub bound : ℕ → Bound

-- a fact's marks: 1 initial, 2 goal, 3 both
unfoldable pub initial : Sheet → ℕ → Bool
initial s f = eqb (s.mark f) 1 || eqb (s.mark f) 3

unfoldable pub goal : Sheet → ℕ → Bool
goal s f = eqb (s.mark f) 2 || eqb (s.mark f) 3

-- row i is a bound of the pair (e, d)
unfoldable pub of_pair : Sheet → (e d i : ℕ) → Bool
of_pair s e d i = eqb (s.bound i).later e && eqb (s.bound i).earlier d

-- the tightest low and high of a pair (e, d): the greatest low and the least high of its rows; none is 0, and 65,535
unfoldable pub tightest : Sheet → (e d : ℕ) → Bound
tightest s e d =
    record {
      later = e;
      earlier = d;
      low = greatest (of_pair s e d) (λ i. (s.bound i).low) 0 s.bounds;
      high = least (of_pair s e d) (λ i. (s.bound i).high) 65535 s.bounds;
    }

-- ---- the editions

-- the head of the facts body, before the marks: F, H; in edition 2 also gap and revision
unfoldable pub facts_head : (edition : ℕ) → ℕ
facts_head n = cond (eqb n 2) 6 3

-- the row of a job: its code; in edition 2 also its release
unfoldable pub job_row : (edition : ℕ) → ℕ
job_row n = cond (eqb n 2) 4 2

-- the settling gap in ticks: in edition 2 its byte says it, and 0 stands for the default, two ticks; in edition 1 it is one tick
unfoldable pub gap_ticks : (edition byte : ℕ) → ℕ
gap_ticks n g = cond (eqb n 2) (cond (eqb g 0) 2 g) 1

-- a number that edition 2 alone says: in edition 1 it is 0
unfoldable pub added : (edition number : ℕ) → ℕ
added n x = cond (eqb n 2) x 0

-- ---- the bytes

unfoldable pub edition : List ℕ → ℕ
edition b = byte b 0

-- the contents' entry of part i: kind, a zero byte, offset, length
unfoldable pub kind_of : List ℕ → ℕ → ℕ
kind_of b i = byte b (2 + 6 * i)

unfoldable pub zero_of : List ℕ → ℕ → ℕ
zero_of b i = byte b (3 + 6 * i)

unfoldable pub offset_of : List ℕ → ℕ → ℕ
offset_of b i = two b (4 + 6 * i)

unfoldable pub length_of : List ℕ → ℕ → ℕ
length_of b i = two b (6 + 6 * i)

-- where body i starts: the first at 26, each next one where the last ends
unfoldable pub start_of : List ℕ → ℕ → ℕ
start_of b zero = 26
start_of b (suc i) = start_of b i + length_of b i

-- the places of the four bodies
abbrev pub facts_at : List ℕ → ℕ
facts_at b = start_of b 0

abbrev pub jobs_at : List ℕ → ℕ
jobs_at b = start_of b 1

abbrev pub events_at : List ℕ → ℕ
events_at b = start_of b 2

abbrev pub bounds_at : List ℕ → ℕ
bounds_at b = start_of b 3

-- an events row: job number, type, fact
unfoldable pub event_at : List ℕ → ℕ → Event
event_at b at = record { job = byte b at; kind = byte b (at + 1); fact = byte b (at + 2) }

-- a signed two-byte number, plus 32,768
unfoldable pub signed : List ℕ → ℕ → ℕ
signed b at = (two b at + origin) % 65536

-- a bounds row: e, d, low, high
unfoldable pub bound_at : List ℕ → ℕ → Bound
bound_at b at = record { later = byte b at; earlier = byte b (at + 1); low = signed b (at + 2); high = signed b (at + 4) }

-- edition 2: the gap byte, and where the revision stands
unfoldable pub gap_byte : List ℕ → ℕ
gap_byte b = byte b (facts_at b + 3)

unfoldable pub revision_at : List ℕ → ℕ
revision_at b = facts_at b + 4

-- where the row of job j starts
unfoldable pub job_at : List ℕ → ℕ → ℕ
job_at b j = jobs_at b + job_row (edition b) * j

-- what the bytes say
unfoldable pub sheet_of : List ℕ → Sheet
sheet_of b =
    record {
      facts = byte b (facts_at b);
      horizon = two b (facts_at b + 1);
      gap = gap_ticks (edition b) (gap_byte b);
      revision = added (edition b) (two b (revision_at b));
      mark = λ f. byte b (facts_at b + facts_head (edition b) + f);
      jobs = length_of b 1 / job_row (edition b);
      code = λ j. two b (job_at b j);
      release = λ j. added (edition b) (two b (job_at b j + 2));
      events = length_of b 2 / 3;
      event = λ e. event_at b (events_at b + 3 * e);
      bounds = length_of b 3 / 6;
      bound = λ i. bound_at b (bounds_at b + 6 * i);
    }

-- ---- the rules

-- the contents: edition 1 or 2, 4 parts, their entries, and the last body ends with the sheet
unfoldable pub edition_ok : List ℕ → Bool
edition_ok b = eqb (edition b) 1 || eqb (edition b) 2

unfoldable pub entry_ok : List ℕ → ℕ → Bool
entry_ok b i = eqb (kind_of b i) (i + 1) && eqb (zero_of b i) 0 && eqb (offset_of b i) (start_of b i)

unfoldable pub contents_ok : List ℕ → Bool
contents_ok b = leb 26 (length b) && edition_ok b && eqb (byte b 1) 4 && every (entry_ok b) 4 && eqb (start_of b 4) (length b)

-- kind 1
unfoldable pub facts_ok : Sheet → Bool
facts_ok s =
    leb s.facts max_facts && leb s.horizon max_horizon && leb s.gap max_gap && every (λ f. leb (s.mark f) 3) s.facts

-- kind 2: the codes rise strictly, whatever the releases
unfoldable pub jobs_ok : Sheet → Bool
jobs_ok s = leb s.jobs max_jobs && rises s.code s.jobs

-- events rise by job, then fact, then type: the three as the digits of one number
unfoldable pub event_key : Event → ℕ
event_key e = 65536 * e.job + 256 * e.fact + e.kind

-- e and d are the two ends of one need
unfoldable pub two_ends : Event → Event → Bool
two_ends e d = eqb e.job d.job && eqb e.fact d.fact && eqb (e.kind + d.kind) 1

-- an event's type, job and fact exist, and a need has both its ends
unfoldable pub event_ok : Sheet → ℕ → Bool
event_ok s e =
    leb (s.event e).kind clears && ltb (s.event e).job s.jobs && ltb (s.event e).fact s.facts
    && (leb sets (s.event e).kind || any (λ d. two_ends (s.event e) (s.event d)) s.events)

-- kind 3
unfoldable pub events_ok : Sheet → Bool
events_ok s = leb s.events max_events && every (event_ok s) s.events && rises (λ e. event_key (s.event e)) s.events

-- pairs (e, d) rise: the two as the digits of one number
unfoldable pub bound_key : Bound → ℕ
bound_key c = 256 * c.later + c.earlier

-- a low or a high is none, or lies in -10,080 to 10,080
unfoldable pub within_horizon : ℕ → Bool
within_horizon v = leb origin (v + max_horizon) && leb v (origin + max_horizon)

unfoldable pub bound_ok : Sheet → Bound → Bool
bound_ok s c =
    ltb c.later s.events && ltb c.earlier s.events && not (eqb c.later c.earlier)
    && eqb (s.event c.later).job (s.event c.earlier).job && leb c.low c.high
    && (eqb c.low 0 || within_horizon c.low) && (eqb c.high 65535 || within_horizon c.high)

-- kind 4: the pairs rise, not always strictly, so that the rows of one pair stand together, in any order
unfoldable pub bounds_ok : Sheet → Bool
bounds_ok s = leb s.bounds max_bounds && every (λ i. bound_ok s (s.bound i)) s.bounds && never_falls (λ i. bound_key (s.bound i)) s.bounds

-- each body's rules, with its length in whole rows
unfoldable pub facts_body_ok : List ℕ → Bool
facts_body_ok b = eqb (length_of b 0) (facts_head (edition b) + (sheet_of b).facts) && facts_ok (sheet_of b)

unfoldable pub jobs_body_ok : List ℕ → Bool
jobs_body_ok b = eqb (length_of b 1) (job_row (edition b) * (sheet_of b).jobs) && jobs_ok (sheet_of b)

unfoldable pub events_body_ok : List ℕ → Bool
events_body_ok b = eqb (length_of b 2) (3 * (sheet_of b).events) && events_ok (sheet_of b)

unfoldable pub bounds_body_ok : List ℕ → Bool
bounds_body_ok b = eqb (length_of b 3) (6 * (sheet_of b).bounds) && bounds_ok (sheet_of b)

-- the number of the first broken rule, 0 if the sheet is well formed
unfoldable pub sheet_fault : List ℕ → ℕ
sheet_fault b =
    cond (not (contents_ok b)) 10
    (cond (not (facts_body_ok b)) 11
    (cond (not (jobs_body_ok b)) 12
    (cond (not (events_body_ok b)) 13
    (cond (not (bounds_body_ok b)) 14 0))))

-- the same of a sheet that has to be of edition n: any other edition is a fault of the contents
unfoldable pub fault_in : (n : ℕ) → List ℕ → ℕ
fault_in n b = cond (eqb (edition b) n) (sheet_fault b) 10

-- "well formed", of what the bytes say
unfoldable pub well_formed : Sheet → Bool
well_formed s = facts_ok s && jobs_ok s && events_ok s && bounds_ok s
