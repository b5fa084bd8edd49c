-- What the search finds: the first tick at which a row of a delayed list goes wrong, and whether all rows are in time.
use Rattle.std.specs.Prelude.{ℕ, ◌+◌, ◌≤◌, ◌<◌, ◌≡◌, ◌⊎◌, List}
use Rattle.rules.specs.Sheet.{Sheet, begins, sets, initial}
use Rattle.rules.specs.Count.{None, Lowest}
use Rattle.rules.specs.RunList.{Plan}
use Rattle.rules.specs.Plan.{IsPlan}
use Rattle.rules.specs.Late.{Fault}
use Rattle.plan_points.specs.Flat.{cell, Every, tick_in, type_in, fact_in, tick_at, Free, FaultOf, never}
use Rattle.instances.specs.Own.{next_tick}
use Rattle.judge.specs.Points.{need_of}

-- the tick at which a set of fact f at tick t goes wrong: its own, if a clear of the fact has it too
pub data SetFault (first sorted : List ℕ) (f t : ℕ) : ℕ → Type 0 where
  free : Free first sorted f t → SetFault first sorted f t never
  met : (Free first sorted f t → ⊥) → SetFault first sorted f t t

-- the tick at which row x goes wrong, if the next row has tick u
pub data RowFault (s : Sheet) (first sorted : List ℕ) (x u : ℕ) : ℕ → Type 0 where
  need : {r : ℕ} → type_in x ≡ begins → FaultOf first sorted (need_of s x u) (initial s (fact_in x)) r → RowFault s first sorted x u r
  set : {r : ℕ} → type_in x ≡ sets → SetFault first sorted (fact_in x) (tick_in x) r → RowFault s first sorted x u r
  other : (type_in x ≡ begins → ⊥) → (type_in x ≡ sets → ⊥) → RowFault s first sorted x u never

abbrev pub RowFaultAt : Sheet → (first sorted rows : List ℕ) → (n k r : ℕ) → Type 0
RowFaultAt s first sorted rows n k r = RowFault s first sorted (cell rows k) (next_tick rows n k) r

-- r is a tick at which one of the first k rows goes wrong, and each of them lies no earlier, or goes wrong no earlier
pub record FirstFault (s : Sheet) (first sorted rows : List ℕ) (n k r : ℕ) : Type 0 where
  pub some : r < never → (j : ℕ) × (j < k) × RowFaultAt s first sorted rows n j r
  pub least : (j : ℕ) → j < k → (r ≤ tick_at rows j) ⊎ ((t : ℕ) × (r ≤ t) × RowFaultAt s first sorted rows n j t)

-- no row's tick lies above the latest
abbrev pub RowsInTime : List ℕ → (n latest : ℕ) → Type 0
RowsInTime rows n latest = Every (λ k. tick_at rows k ≤ latest) n

-- what is said of a delayed list: number and detail
pub data Found (s : Sheet) (p : Plan) : (number detail : ℕ) → Type 0 where
  holds : IsPlan s p → Found s p 0 0
  fault : (t : ℕ) → (IsPlan s p → ⊥) → Lowest (Fault s p) (s.horizon + 1) t → Found s p 41 t
  no_fault : (IsPlan s p → ⊥) → None (Fault s p) (s.horizon + 1) → Found s p 41 s.horizon
