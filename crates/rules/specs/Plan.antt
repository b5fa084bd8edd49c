-- "What a plan is": own times, and the points 1 to 4, over lists of instances of any length.
use Rattle.std.specs.Prelude.{ℕ, ◌+◌, ◌*◌, ◌≤◌, ◌<◌, ◌≡◌, ◌≢◌, true, cond, eqb}
use Rattle.rules.specs.Sheet.{Sheet, Bound, origin, initial, goal, begins, ends, sets, clears}
use Rattle.rules.specs.RunList.{Plan}

-- the ticks that an event of job j may have: the job's release to H
unfoldable pub earliest : Sheet → ℕ → ℕ
earliest s j = s.release j

unfoldable pub latest : Sheet → ℕ → ℕ
latest s j = s.horizon

unfoldable pub gap : Sheet → ℕ
gap s = s.gap

-- 0 for the same instance, 1 for another; of jobs likewise
unfoldable pub apart : (i k : ℕ) → ℕ
apart i k = cond (eqb i k) 0 1

-- the ticks that lie at least between a source and a need, or a need and a clear: of other instances the gap, of the same none
unfoldable pub distance_by : (g i k : ℕ) → ℕ
distance_by g i k = g * apart i k

unfoldable pub distance : Sheet → (i k : ℕ) → ℕ
distance s i k = distance_by (gap s) i k

-- event e is of job j, of type kind, and of fact f
pub record Is (s : Sheet) (e j kind f : ℕ) : Type 0 where
  pub in_sheet : e < s.events
  pub of_job : (s.event e).job ≡ j
  pub of_kind : (s.event e).kind ≡ kind
  pub of_fact : (s.event e).fact ≡ f

-- low ≤ time(e) − time(d) ≤ high
pub record Meets (c : Bound) (t : ℕ → ℕ) : Type 0 where
  pub low : t c.earlier + c.low ≤ t c.later + origin
  pub high : t c.later + origin ≤ t c.earlier + c.high

-- "own times" of job j: ticks from its release to H that meet point 1 for that job alone
pub record OwnTimes (s : Sheet) (j : ℕ) (t : ℕ → ℕ) : Type 0 where
  pub early : (e : ℕ) → e < s.events → (s.event e).job ≡ j → earliest s j ≤ t e
  pub late : (e : ℕ) → e < s.events → (s.event e).job ≡ j → t e ≤ latest s j
  pub bounds : (i : ℕ) → i < s.bounds → (s.event (s.bound i).later).job ≡ j → Meets (s.bound i) t
  pub needs : (b e f : ℕ) → Is s b j begins f → Is s e j ends f → t b ≤ t e

-- event e, of type kind and of fact f, occurs in instance i
pub record Occurs (s : Sheet) (p : Plan) (i e kind f : ℕ) : Type 0 where
  pub in_plan : i < p.count
  pub is : Is s e (p.job i) kind f

-- point 3 for a need of f by instance i from tick b to tick e: the source, and no clear after it that harms
pub data Served (s : Sheet) (p : Plan) (i f b e : ℕ) : Type 0 where
  by_initial : initial s f ≡ true → ((k d : ℕ) → Occurs s p k d clears f → e + distance s i k ≤ p.time k d) → Served s p i f b e
  by_set
      : (k d : ℕ)
      → Occurs s p k d sets f
      → p.time k d + distance s k i ≤ b
      → ((l c : ℕ) → Occurs s p l c clears f → p.time k d < p.time l c → e + distance s i l ≤ p.time l c)
      → Served s p i f b e

-- point 4 for a goal f: a source with no clear after it
pub data Held (s : Sheet) (p : Plan) (f : ℕ) : Type 0 where
  by_initial : initial s f ≡ true → ((k d : ℕ) → Occurs s p k d clears f → ⊥) → Held s p f
  by_set
      : (k d : ℕ) → Occurs s p k d sets f → ((l c : ℕ) → Occurs s p l c clears f → p.time l c ≤ p.time k d) → Held s p f

pub record IsPlan (s : Sheet) (p : Plan) : Type 0 where
  pub jobs : (i : ℕ) → i < p.count → p.job i < s.jobs
  -- 1, with ticks from the release to H
  pub own : (i : ℕ) → i < p.count → OwnTimes s (p.job i) (p.time i)
  -- 2
  pub apart : (i e k d f : ℕ) → Occurs s p i e sets f → Occurs s p k d clears f → p.time i e ≢ p.time k d
  -- 3
  pub served : (i b e f : ℕ) → Occurs s p i b begins f → Occurs s p i e ends f → Served s p i f (p.time i b) (p.time i e)
  -- 4
  pub held : (f : ℕ) → f < s.facts → goal s f ≡ true → Held s p f
