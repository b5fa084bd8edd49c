-- What is said: demand 3, of plans that are finite lists of instances of any length, for a sheet inside the class.
use Rattle.std.specs.Prelude.{ℕ, ◌*◌, ◌≤◌, ◌<◌, ◌≡◌, ◌↔◌, List}
use Rattle.rules.specs.Sheet.{Sheet, sheet_of, sets, clears}
use Rattle.rules.specs.RunList.{Plan, plan_of}
use Rattle.rules.specs.Plan.{Occurs, IsPlan}
use Rattle.rules.specs.Wanted.{WantedJob, LeastTick, LeastList}
use Rattle.rules.specs.Order.{ClearedLast, ClearedFirst}
use Rattle.rules.specs.Class.{ListRules, NoSource, ClearedGoal}
use Rattle.rules.specs.Answer.{Plannable, Judged, Planned}
use Rattle.laws.specs.Limits.{byte_values, AllBytes}

-- an instance of job j stands in the plan
unfoldable pub Present : Plan → ℕ → Type 0
Present p j = (i : ℕ) × (i < p.count) × (p.job i ≡ j)

-- v is the least value that f has at the places below n that have P
pub record LeastOf (P : ℕ → Type 0) (f : ℕ → ℕ) (n v : ℕ) : Type 0 where
  pub at : ℕ
  pub inside : at < n
  pub has : P at
  pub value : f at ≡ v
  pub least : (i : ℕ) → i < n → P i → v ≤ f i

-- t has the least tick of each event of each wanted job, over the instances of that job in the plan
pub record LeastTicks (s : Sheet) (p : Plan) (t : ℕ → ℕ) : Type 0 where
  pub each
      : (e : ℕ)
      → e < s.events
      → WantedJob s (s.event e).job
      → LeastOf (λ i. p.job i ≡ (s.event e).job) (λ i. p.time i e) p.count (t e)

-- ticks that meet the list rules, where neither other reason for "no plan" holds
pub record Solution (s : Sheet) (t : ℕ → ℕ) : Type 0 where
  pub rules : ListRules s t
  pub sources : (f : ℕ) → NoSource s f → ⊥
  pub goals : (f : ℕ) → ClearedGoal s f → ⊥

-- and no ticks that meet the list rules are earlier at any event of a wanted job
pub record LeastSolution (s : Sheet) (t : ℕ → ℕ) : Type 0 where
  pub solution : Solution s t
  pub least
      : (u : ℕ → ℕ) → ListRules s u → (e : ℕ) → e < s.events → WantedJob s (s.event e).job → t e ≤ u e

-- one instance of each wanted job and of no other, at the ticks t
pub record OneEach (s : Sheet) (t : ℕ → ℕ) (p : Plan) : Type 0 where
  pub wanted : (i : ℕ) → i < p.count → WantedJob s (p.job i)
  pub once : (i k : ℕ) → i < p.count → k < p.count → p.job i ≡ p.job k → i ≡ k
  pub whole : (j : ℕ) → WantedJob s j → Present p j
  pub ticks : (i e : ℕ) → i < p.count → e < s.events → (s.event e).job ≡ p.job i → p.time i e ≡ t e

-- what holds of every plan p
pub record OfPlan (s : Sheet) (p : Plan) : Type 0 where
  -- 1: shown cleared last: every set, by any job, is before every clear by a wanted job
  pub sets_first
      : (f : ℕ)
      → ClearedLast s f
      → (i v k y : ℕ)
      → Occurs s p i v sets f
      → Occurs s p k y clears f
      → WantedJob s (p.job k)
      → p.time i v < p.time k y
  -- shown cleared first: every clear is before every set, among wanted jobs
  pub clears_first
      : (f : ℕ)
      → ClearedFirst s f
      → (i v k y : ℕ)
      → Occurs s p i v sets f
      → WantedJob s (p.job i)
      → Occurs s p k y clears f
      → WantedJob s (p.job k)
      → p.time k y < p.time i v
  -- 2: every wanted job is there
  pub present : (j : ℕ) → WantedJob s j → Present p j
  -- 3: the least ticks meet the list rules, and neither other reason for "no plan" holds
  pub least_ticks : (t : ℕ → ℕ) → LeastTicks s p t → Solution s t
  pub exist : (t : ℕ → ℕ) × LeastTicks s p t

-- what holds of every least list l: it is a plan, and no plan p lacks one of its jobs or has any of its steps earlier
pub record OfLeastList (s : Sheet) (l : List ℕ) (p : Plan) : Type 0 where
  pub is_plan : IsPlan s (plan_of s l)
  pub none_lacks : (i : ℕ) → i < (plan_of s l).count → Present p ((plan_of s l).job i)
  pub none_earlier
      : (i k e : ℕ)
      → i < (plan_of s l).count
      → k < p.count
      → p.job k ≡ (plan_of s l).job i
      → e < s.events
      → (s.event e).job ≡ p.job k
      → (plan_of s l).time i e ≤ p.time k e

-- what two bytes can say
abbrev pub pair_values : ℕ
pair_values = byte_values * byte_values

-- each job code fits its two bytes; in a sheet of bytes it does
unfoldable pub CodesFit : Sheet → Type 0
CodesFit s = (j : ℕ) → j < s.jobs → s.code j < pair_values

pub record Demand (s : Sheet) : Type 0 where
  -- 1 to 3
  pub of_plan : (p : Plan) → IsPlan s p → OfPlan s p
  -- 4: one instance of each wanted job at ticks that solve the sheet is a plan
  pub is_plan : (t : ℕ → ℕ) (p : Plan) → Solution s t → OneEach s t p → IsPlan s p
  -- 5: there is a plan exactly when the list rules can be met and neither other reason holds
  pub exactly : ((p : Plan) × IsPlan s p) ↔ ((t : ℕ → ℕ) × Solution s t)
  -- the list rules have a least solution whenever they have one
  pub least_solution : (u : ℕ → ℕ) → Solution s u → (t : ℕ → ℕ) × LeastSolution s t
  -- its ticks are the least that any plan has
  pub least_tick
      : (t : ℕ → ℕ)
      → LeastSolution s t
      → (e : ℕ)
      → e < s.events
      → WantedJob s (s.event e).job
      → LeastTick s e (t e)
  -- there is a least list whenever there is a plan
  pub exists : CodesFit s → (p : Plan) → IsPlan s p → (l : List ℕ) × LeastList s l
  pub of_least_list : (l : List ℕ) → LeastList s l → (p : Plan) → IsPlan s p → OfLeastList s l p
  -- the least list is unique
  pub unique : (l m : List ℕ) → LeastList s l → LeastList s m → l ≡ m

-- what holds of the answers to sheet b
pub record Answers (b : List ℕ) : Type 0 where
  -- a sheet of bytes that passes the planner's tests and has a plan has a least list
  pub exists : AllBytes b → Plannable b → (p : Plan) → IsPlan (sheet_of b) p → (l : List ℕ) × LeastList (sheet_of b) l
  -- the judge says yes to the least list
  pub accepted : (l : List ℕ) → Plannable b → LeastList (sheet_of b) l → Judged b l 0 0
  -- for each list the judge's number and detail are determined
  pub judged : (l : List ℕ) (n d n' d' : ℕ) → Judged b l n d → Judged b l n' d' → (n ≡ n') × (d ≡ d')
  -- for each buffer the planner's number, its detail and the buffer after are determined
  pub planned
      : (w : List ℕ) (n d n' d' : ℕ) (o o' : List ℕ)
      → Planned b w n d o
      → Planned b w n' d' o'
      → (n ≡ n') × (d ≡ d') × (o ≡ o')
