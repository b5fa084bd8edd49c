-- The definitions as they were while a job without own times drew 15, word for word: wanted, the orders, the class, the reasons for no
-- plan, the least list, and the planner's answers. Nothing of the product cites them.
use Rattle.std.specs.Prelude.{ℕ, ◌+◌, ◌≤◌, ◌<◌, ◌≡◌, ◌≢◌, ◌⊎◌, true, false, List, ◌++◌, length, drop}
use Rattle.rules.specs.Count.{byte, None, Lowest}
use Rattle.rules.specs.Sheet.{Sheet, sheet_of, sheet_fault, initial, goal, begins, ends, sets, clears}
use Rattle.rules.specs.RunList.{Plan, list_ok, plan_of}
use Rattle.rules.specs.Plan.{Is, OwnTimes, IsPlan, distance}
use Rattle.rules.specs.Wanted.{RunsAlone, LeastTick}
use Rattle.rules.specs.Order.{AtMost}

-- event e, of job j, sets fact f, and the job is one that counts: every job is
abbrev pub Setter : Sheet → (e j f : ℕ) → Type 0
Setter s e j f = Is s e j sets f

-- "wanted": the least sets with every goal, every need of a wanted job, and every job that sets a wanted fact that is not initial
mutual
  pub data WantedFact (s : Sheet) : ℕ → Type 0 where
    is_goal : {f : ℕ} → f < s.facts → goal s f ≡ true → WantedFact s f
    is_need : {j f : ℕ} (e : ℕ) → WantedJob s j → Is s e j begins f → WantedFact s f

  pub data WantedJob (s : Sheet) : ℕ → Type 0 where
    is_setter : {j f : ℕ} (e : ℕ) → WantedFact s f → initial s f ≡ false → Setter s e j f → WantedJob s j

-- "the least list", as bytes: of a sheet that has a plan, one entry for each wanted job by rising code and no other,
-- each event at its least tick
pub record LeastList (s : Sheet) (l : List ℕ) : Type 0 where
  pub exists : (p : Plan) × IsPlan s p
  pub bytes : (i : ℕ) → byte l i < 256
  pub formed : list_ok s l ≡ true
  pub rising : (i k : ℕ) → i < k → k < (plan_of s l).count → s.code ((plan_of s l).job i) < s.code ((plan_of s l).job k)
  pub wanted : (i : ℕ) → i < (plan_of s l).count → WantedJob s ((plan_of s l).job i)
  pub whole : (j : ℕ) → WantedJob s j → (i : ℕ) × (i < (plan_of s l).count) × ((plan_of s l).job i ≡ j)
  pub ticks : (i e : ℕ) → i < (plan_of s l).count → e < s.events → (s.event e).job ≡ (plan_of s l).job i → LeastTick s e ((plan_of s l).time i e)

-- "cleared last" is shown of f: every set v of f, by any job i, and every clear y of f, by a wanted job a, has a guard.
-- A guard of v before y: a fact p shown cleared last, which i needs (until u) and a clears (at x),
-- with greatest x − y over a's own times ≤ least u − v over i's.
mutual
  pub data ClearedLast (s : Sheet) : ℕ → Type 0 where
    shown
        : {f : ℕ}
        → ((i v a y : ℕ) → Setter s v i f → Is s y a clears f → WantedJob s a → Guard s i v a y)
        → ClearedLast s f

  pub data Guard (s : Sheet) : (i v a y : ℕ) → Type 0 where
    guard
        : {i v a y : ℕ} (p u x : ℕ)
        → ClearedLast s p
        → Is s u i ends p
        → Is s x a clears p
        → AtMost s a x y i u v
        → Guard s i v a y

-- "cleared first" is shown of f: every clear y of f has a guard before every set v of f, both by wanted jobs
unfoldable pub ClearedFirst : Sheet → ℕ → Type 0
ClearedFirst s f =
    (i v a y : ℕ) → Is s v i sets f → WantedJob s i → Is s y a clears f → WantedJob s a → Guard s a y i v

-- a wanted job has an event of this type and fact
unfoldable pub ByWanted : Sheet → (kind f : ℕ) → Type 0
ByWanted s kind f = (e : ℕ) × (j : ℕ) × Is s e j kind f × WantedJob s j

unfoldable pub Unordered : Sheet → ℕ → Type 0
Unordered s f = (ClearedLast s f → ⊥) × (ClearedFirst s f → ⊥)

-- outside the class: a wanted fact, not initial, that two or more jobs set
pub record TwoSetters (s : Sheet) (f : ℕ) : Type 0 where
  pub is_wanted : WantedFact s f
  pub not_initial : initial s f ≡ false
  pub setters : (e : ℕ) × (i : ℕ) × (d : ℕ) × (j : ℕ) × Setter s e i f × Setter s d j f × (i ≢ j)

-- a wanted fact shown in neither order, or an initial one not shown cleared last
pub record WantedUnordered (s : Sheet) (f : ℕ) : Type 0 where
  pub is_wanted : WantedFact s f
  pub unshown : Unordered s f ⊎ ((initial s f ≡ true) × (ClearedLast s f → ⊥))

-- a fact not wanted, both set and cleared by wanted jobs, shown in neither order
pub record UnwantedUnordered (s : Sheet) (f : ℕ) : Type 0 where
  pub not_wanted : WantedFact s f → ⊥
  pub is_set : ByWanted s sets f
  pub is_cleared : ByWanted s clears f
  pub unshown : Unordered s f

-- inside the class
pub record Inside (s : Sheet) : Type 0 where
  pub one_setter : None (TwoSetters s) s.facts
  pub ordered : None (WantedUnordered s) s.facts
  pub unwanted_ordered : None (UnwantedUnordered s) s.facts

-- the list rules: ticks t for one instance of each wanted job. Before is one tick at least, to and from a need the gap; there, of the
-- same job: not after.
pub record ListRules (s : Sheet) (t : ℕ → ℕ) : Type 0 where
  pub own : (j : ℕ) → WantedJob s j → OwnTimes s j t
  pub set_need
      : (f i e j b : ℕ)
      → WantedFact s f
      → initial s f ≡ false
      → WantedJob s i
      → Is s e i sets f
      → WantedJob s j
      → Is s b j begins f
      → t e + distance s i j ≤ t b
  pub set_clear
      : (f i e j d : ℕ) → ClearedLast s f → WantedJob s i → Is s e i sets f → WantedJob s j → Is s d j clears f → t e < t d
  pub need_clear
      : (f i e j d : ℕ)
      → ClearedLast s f
      → WantedJob s i
      → Is s e i ends f
      → WantedJob s j
      → Is s d j clears f
      → t e + distance s i j ≤ t d
  pub clear_set
      : (f i e j d : ℕ) → ClearedFirst s f → WantedJob s i → Is s e i sets f → WantedJob s j → Is s d j clears f → t d < t e

-- the two other reasons for no plan: a wanted fact neither initial nor set by any job
pub record NoSource (s : Sheet) (f : ℕ) : Type 0 where
  pub is_wanted : WantedFact s f
  pub not_initial : initial s f ≡ false
  pub not_set : (e j : ℕ) → Setter s e j f → ⊥

-- a wanted job clears a goal shown cleared last
pub record ClearedGoal (s : Sheet) (f : ℕ) : Type 0 where
  pub is_goal : goal s f ≡ true
  pub is_last : ClearedLast s f
  pub is_cleared : ByWanted s clears f

-- a job without own times
unfoldable pub Stuck : Sheet → ℕ → Type 0
Stuck s j = RunsAlone s j → ⊥

-- what the planner's class tests have passed: 10 to 15, 20 to 22
pub record Plannable (b : List ℕ) : Type 0 where
  pub formed : sheet_fault b ≡ 0
  pub alone : None (Stuck (sheet_of b)) (sheet_of b).jobs
  pub inside : Inside (sheet_of b)

-- the planner, given sheet b and buffer w: number, detail, and the buffer after. It tests 10 to 15, 20 to 22, 1, 30.
pub data Planned (b w : List ℕ) : (number detail : ℕ) → List ℕ → Type 0 where
  bad_sheet : sheet_fault b ≢ 0 → Planned b w (sheet_fault b) 0 w
  stuck : (j : ℕ) → sheet_fault b ≡ 0 → Lowest (Stuck (sheet_of b)) (sheet_of b).jobs j → Planned b w 15 j w
  rule1
      : (f : ℕ)
      → sheet_fault b ≡ 0
      → None (Stuck (sheet_of b)) (sheet_of b).jobs
      → Lowest (TwoSetters (sheet_of b)) (sheet_of b).facts f
      → Planned b w 20 f w
  rule2
      : (f : ℕ)
      → sheet_fault b ≡ 0
      → None (Stuck (sheet_of b)) (sheet_of b).jobs
      → None (TwoSetters (sheet_of b)) (sheet_of b).facts
      → Lowest (WantedUnordered (sheet_of b)) (sheet_of b).facts f
      → Planned b w 21 f w
  rule3
      : (f : ℕ)
      → sheet_fault b ≡ 0
      → None (Stuck (sheet_of b)) (sheet_of b).jobs
      → None (TwoSetters (sheet_of b)) (sheet_of b).facts
      → None (WantedUnordered (sheet_of b)) (sheet_of b).facts
      → Lowest (UnwantedUnordered (sheet_of b)) (sheet_of b).facts f
      → Planned b w 22 f w
  no_plan : Plannable b → ((p : Plan) → IsPlan (sheet_of b) p → ⊥) → Planned b w 1 0 w
  short : (l : List ℕ) → Plannable b → LeastList (sheet_of b) l → length w < length l → Planned b w 30 (length l) w
  plan : (l : List ℕ) → Plannable b → LeastList (sheet_of b) l → length l ≤ length w → Planned b w 0 (length l) (l ++ drop (length l) w)
