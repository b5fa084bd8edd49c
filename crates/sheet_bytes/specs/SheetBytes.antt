-- The bytes of a sheet, computed from its edition n, its gap byte g and what it says: s.
use Rattle.std.specs.Prelude.{ℕ, ◌+◌, ◌*◌, ◌%◌, List, [], ◌∷◌, ◌++◌, eqb}
use Rattle.rules.specs.Sheet.{Sheet, Event, Bound, facts_head, job_row, origin}
use Rattle.byte_writer.specs.Bytes.{pair_limit, pair, when, joined}

-- how many bytes the contents have, an event's row, a bound's row
abbrev pub contents_size : ℕ
contents_size = 26

abbrev pub event_size : ℕ
event_size = 3

abbrev pub bound_size : ℕ
bound_size = 6

-- what edition 2 alone has
unfoldable pub in_edition2 : (n : ℕ) → List ℕ → List ℕ
in_edition2 n bytes = when (eqb n 2) bytes

-- the facts body: F, H; in edition 2 gap and revision; the marks
unfoldable pub head_bytes : (n g : ℕ) → Sheet → List ℕ
head_bytes n g s = s.facts ∷ pair s.horizon ++ in_edition2 n (g ∷ pair s.revision)

unfoldable pub facts_bytes : (n g : ℕ) → Sheet → List ℕ
facts_bytes n g s = head_bytes n g s ++ joined (λ f. s.mark f ∷ []) s.facts

-- the jobs body: codes; in edition 2 each with its release
unfoldable pub job_bytes : ℕ → Sheet → ℕ → List ℕ
job_bytes n s j = pair (s.code j) ++ in_edition2 n (pair (s.release j))

unfoldable pub jobs_bytes : ℕ → Sheet → List ℕ
jobs_bytes n s = joined (job_bytes n s) s.jobs

-- the events body
unfoldable pub event_bytes : Event → List ℕ
event_bytes e = e.job ∷ e.kind ∷ e.fact ∷ []

unfoldable pub events_bytes : Sheet → List ℕ
events_bytes s = joined (λ e. event_bytes (s.event e)) s.events

-- a signed number that is held plus 32,768, in two bytes
unfoldable pub signed_pair : ℕ → List ℕ
signed_pair x = pair ((x + origin) % pair_limit)

-- the bounds body
unfoldable pub bound_bytes : Bound → List ℕ
bound_bytes c = c.later ∷ c.earlier ∷ signed_pair c.low ++ signed_pair c.high

unfoldable pub bounds_bytes : Sheet → List ℕ
bounds_bytes s = joined (λ i. bound_bytes (s.bound i)) s.bounds

-- the lengths of the bodies
unfoldable pub facts_size : ℕ → Sheet → ℕ
facts_size n s = facts_head n + s.facts

unfoldable pub jobs_size : ℕ → Sheet → ℕ
jobs_size n s = job_row n * s.jobs

unfoldable pub events_size : Sheet → ℕ
events_size s = event_size * s.events

unfoldable pub bounds_size : Sheet → ℕ
bounds_size s = bound_size * s.bounds

-- the contents' entry of a part: kind, a zero byte, offset, length
unfoldable pub entry_bytes : (kind offset size : ℕ) → List ℕ
entry_bytes kind offset size = kind ∷ 0 ∷ pair offset ++ pair size

unfoldable pub contents_bytes : ℕ → Sheet → List ℕ
contents_bytes n s =
    n ∷ 4 ∷ entry_bytes 1 contents_size (facts_size n s)
    ++ entry_bytes 2 (contents_size + facts_size n s) (jobs_size n s)
    ++ entry_bytes 3 (contents_size + facts_size n s + jobs_size n s) (events_size s)
    ++ entry_bytes 4 (contents_size + facts_size n s + jobs_size n s + events_size s) (bounds_size s)

unfoldable pub sheet_bytes : (n g : ℕ) → Sheet → List ℕ
sheet_bytes n g s = contents_bytes n s ++ facts_bytes n g s ++ jobs_bytes n s ++ events_bytes s ++ bounds_bytes s

-- how many they are
unfoldable pub sheet_size : ℕ → Sheet → ℕ
sheet_size n s = contents_size + facts_size n s + jobs_size n s + events_size s + bounds_size s
