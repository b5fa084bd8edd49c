-- "The class, and when there is no plan": the three class rules, the list rules, and the reasons for no plan.
use Rattle.std.specs.Prelude.{ℕ, ◌+◌, ◌≤◌, ◌<◌, ◌≡◌, ◌≢◌, ◌⊎◌, true, false}
use Rattle.rules.specs.Count.{None}
use Rattle.rules.specs.Sheet.{Sheet, initial, goal, begins, ends, sets, clears}
use Rattle.rules.specs.Plan.{Is, OwnTimes, distance}
use Rattle.rules.specs.Wanted.{OfPresent, WantedFact, WantedJob}
use Rattle.rules.specs.Order.{ClearedLast, ClearedFirst}

-- a wanted job has an event of this type and fact
unfoldable pub ByWanted : Sheet → (kind f : ℕ) → Type 0
ByWanted s kind f = (e : ℕ) × (j : ℕ) × Is s e j kind f × WantedJob s j

unfoldable pub Unordered : Sheet → ℕ → Type 0
Unordered s f = (ClearedLast s f → ⊥) × (ClearedFirst s f → ⊥)

-- outside the class: a wanted fact, not initial, that two or more present jobs set
pub record TwoSetters (s : Sheet) (f : ℕ) : Type 0 where
  pub is_wanted : WantedFact s f
  pub not_initial : initial s f ≡ false
  pub setters : (e : ℕ) × (i : ℕ) × (d : ℕ) × (j : ℕ) × OfPresent s e i sets f × OfPresent s d j sets f × (i ≢ j)

-- a wanted fact shown in neither order, or an initial one not shown cleared last
pub record WantedUnordered (s : Sheet) (f : ℕ) : Type 0 where
  pub is_wanted : WantedFact s f
  pub unshown : Unordered s f ⊎ ((initial s f ≡ true) × (ClearedLast s f → ⊥))

-- a fact not wanted, both set and cleared by wanted jobs, shown in neither order
pub record UnwantedUnordered (s : Sheet) (f : ℕ) : Type 0 where
  pub not_wanted : WantedFact s f → ⊥
  pub is_set : ByWanted s sets f
  pub is_cleared : ByWanted s clears f
  pub unshown : Unordered s f

-- inside the class
pub record Inside (s : Sheet) : Type 0 where
  pub one_setter : None (TwoSetters s) s.facts
  pub ordered : None (WantedUnordered s) s.facts
  pub unwanted_ordered : None (UnwantedUnordered s) s.facts

-- the list rules: ticks t for one instance of each wanted job. Before is one tick at least, to and from a need the gap; there, of the
-- same job: not after.
pub record ListRules (s : Sheet) (t : ℕ → ℕ) : Type 0 where
  pub own : (j : ℕ) → WantedJob s j → OwnTimes s j t
  pub set_need
      : (f i e j b : ℕ)
      → WantedFact s f
      → initial s f ≡ false
      → WantedJob s i
      → Is s e i sets f
      → WantedJob s j
      → Is s b j begins f
      → t e + distance s i j ≤ t b
  pub set_clear
      : (f i e j d : ℕ) → ClearedLast s f → WantedJob s i → Is s e i sets f → WantedJob s j → Is s d j clears f → t e < t d
  pub need_clear
      : (f i e j d : ℕ)
      → ClearedLast s f
      → WantedJob s i
      → Is s e i ends f
      → WantedJob s j
      → Is s d j clears f
      → t e + distance s i j ≤ t d
  pub clear_set
      : (f i e j d : ℕ) → ClearedFirst s f → WantedJob s i → Is s e i sets f → WantedJob s j → Is s d j clears f → t d < t e

-- the two other reasons for no plan: a wanted fact neither initial nor set by any present job
pub record NoSource (s : Sheet) (f : ℕ) : Type 0 where
  pub is_wanted : WantedFact s f
  pub not_initial : initial s f ≡ false
  pub not_set : (e j : ℕ) → OfPresent s e j sets f → ⊥

-- a wanted job clears a goal shown cleared last
pub record ClearedGoal (s : Sheet) (f : ℕ) : Type 0 where
  pub is_goal : goal s f ≡ true
  pub is_last : ClearedLast s f
  pub is_cleared : ByWanted s clears f
