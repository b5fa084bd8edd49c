-- The bytes of the planner's list, computed from a sheet s, the marks m of the jobs to be listed and the tick t of each event.
use Rattle.std.specs.Prelude.{ℕ, ◌+◌, ◌*◌, Bool, false, cond, List, ◌∷◌, ◌++◌, get_or, eqb}
use Rattle.rules.specs.Count.{count, sum}
use Rattle.rules.specs.Sheet.{Sheet, max_jobs, max_events}
use Rattle.rules.specs.RunList.{events_of}
use Rattle.byte_writer.specs.Bytes.{pair_size, pair, when, joined}

-- how many bytes the head has, an entry, a time
abbrev pub head_size : ℕ
head_size = 4

abbrev pub entry_size : ℕ
entry_size = 4

abbrev pub time_size : ℕ
time_size = pair_size

-- how many times the bodies of the marked jobs below j have
unfoldable pub times_to : Sheet → (ℕ → Bool) → ℕ → ℕ
times_to s m j = sum (λ i. cond (m i) (events_of s i) 0) j

-- where the body of job j starts, if those of the marked jobs below j stand before it
unfoldable pub body_at : Sheet → (ℕ → Bool) → ℕ → ℕ
body_at s m j = head_size + entry_size * count m s.jobs + time_size * times_to s m j

-- the head; the entry of job j: its code and where its body starts; its body: the tick of each of its events, in sheet order
unfoldable pub head_bytes : ℕ → List ℕ
head_bytes count = 1 ∷ 0 ∷ pair count

unfoldable pub entry_bytes : Sheet → (ℕ → Bool) → ℕ → List ℕ
entry_bytes s m j = when (m j) (pair (s.code j) ++ pair (body_at s m j))

unfoldable pub tick_bytes : Sheet → (ℕ → ℕ) → (j e : ℕ) → List ℕ
tick_bytes s t j e = when (eqb (s.event e).job j) (pair (t e))

unfoldable pub body_bytes : Sheet → (ℕ → Bool) → (ℕ → ℕ) → ℕ → List ℕ
body_bytes s m t j = when (m j) (joined (tick_bytes s t j) s.events)

-- the entries of the marked jobs by rising number, their bodies in the same order, and the list
abbrev pub entries_of : Sheet → (ℕ → Bool) → List ℕ
entries_of s m = joined (entry_bytes s m) s.jobs

abbrev pub bodies_of : Sheet → (ℕ → Bool) → (ℕ → ℕ) → List ℕ
bodies_of s m t = joined (body_bytes s m t) s.jobs

unfoldable pub list_bytes : Sheet → (ℕ → Bool) → (ℕ → ℕ) → List ℕ
list_bytes s m t = head_bytes (count m s.jobs) ++ entries_of s m ++ bodies_of s m t

-- the most bytes that a list has: its head, an entry for each job, a time for each event
abbrev pub max_length : ℕ
max_length = head_size + entry_size * max_jobs + time_size * max_events

-- n ticks from event e on: the body of a job whose events stand there
unfoldable pub ticks_from : (ℕ → ℕ) → (e i : ℕ) → List ℕ
ticks_from t e i = pair (t (e + i))

-- the marks and the ticks that the code's arrays hold
unfoldable pub marked : List Bool → ℕ → Bool
marked l j = get_or l j false

unfoldable pub tick_of : List ℕ → ℕ → ℕ
tick_of l e = get_or l e 0
