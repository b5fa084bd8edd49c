-- "The list": its limits, its bytes, its rules, and the plan that its bytes say.
use Rattle.std.specs.Prelude.{ℕ, zero, suc, ◌+◌, ◌*◌, Bool, ◌&&◌, List, length, leb, ltb, eqb}
use Rattle.rules.specs.Count.{every, count, first, byte, two}
use Rattle.rules.specs.Sheet.{Sheet}

-- the limits
unfoldable pub max_instances : ℕ
max_instances = 64

unfoldable pub max_times : ℕ
max_times = 512

-- a finite number of instances of jobs, of any jobs any number of times, with a tick for every event:
-- job i is the job of instance i, time i e the tick of event e in it. An instance is a place, not a value.
pub record Plan : Type 0 where
  pub count : ℕ
  pub job : ℕ → ℕ
  pub time : ℕ → ℕ → ℕ

-- how many events job j has, and how many of them stand before event e
unfoldable pub events_of : Sheet → ℕ → ℕ
events_of s j = count (λ e. eqb (s.event e).job j) s.events

unfoldable pub rank : Sheet → ℕ → ℕ
rank s e = count (λ d. eqb (s.event d).job (s.event e).job) e

-- the instance count K
unfoldable pub instances : List ℕ → ℕ
instances l = two l 2

-- entry k: a job code, and the offset of its body
unfoldable pub code_of : List ℕ → ℕ → ℕ
code_of l k = two l (4 + 4 * k)

unfoldable pub place_of : List ℕ → ℕ → ℕ
place_of l k = two l (6 + 4 * k)

-- the job with entry k's code, the count of jobs if there is none
unfoldable pub job_of : Sheet → List ℕ → ℕ → ℕ
job_of s l k = first (λ j. eqb (s.code j) (code_of l k)) s.jobs

-- where body k starts: the first after the entries, each next one where the last ends
unfoldable pub body_of : Sheet → List ℕ → ℕ → ℕ
body_of s l zero = 4 + 4 * instances l
body_of s l (suc k) = body_of s l k + 2 * events_of s (job_of s l k)

-- an entry's code is in the sheet, and its offset is where its body starts
unfoldable pub entry_fits : Sheet → List ℕ → ℕ → Bool
entry_fits s l k = ltb (job_of s l k) s.jobs && eqb (place_of l k) (body_of s l k)

-- the list is well formed: at most 64 entries and 512 times, and the last body ends with the list
unfoldable pub list_ok : Sheet → List ℕ → Bool
list_ok s l =
    eqb (byte l 0) 1 && eqb (byte l 1) 0 && leb (instances l) max_instances && every (entry_fits s l) (instances l)
    && leb (body_of s l (instances l)) (body_of s l 0 + 2 * max_times) && eqb (body_of s l (instances l)) (length l)

-- what the bytes say
unfoldable pub plan_of : Sheet → List ℕ → Plan
plan_of s l = record { count = instances l; job = job_of s l; time = λ k e. two l (body_of s l k + 2 * rank s e) }
