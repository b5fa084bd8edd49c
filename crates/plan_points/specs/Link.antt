-- What ties rows to a plan: its sets and clears are rows, each and no other.
use Rattle.std.specs.Prelude.{ℕ, ◌+◌, ◌≤◌, ◌<◌, ◌≡◌, List}
use Rattle.rules.specs.Sheet.{Sheet, max_facts}
use Rattle.rules.specs.RunList.{Plan}
use Rattle.rules.specs.Plan.{Occurs}
use Rattle.plan_points.specs.Flat.{cell, group_of, entry_at, tick_at}

-- an event of the plan that has this instance, fact and tick
pub record Stamp (s : Sheet) (p : Plan) (kind i f t : ℕ) : Type 0 where
  pub event : ℕ
  pub occurs : Occurs s p i event kind f
  pub on_tick : t ≡ p.time i event

-- a row of group g that has this instance and tick
pub record RowFor (first rows : List ℕ) (i g t : ℕ) : Type 0 where
  pub place : ℕ
  pub from : cell first g ≤ place
  pub to : place < cell first (g + 1)
  pub of_entry : entry_at rows place ≡ i
  pub on_tick : tick_at rows place ≡ t

-- the rows are the events of the plan
pub record TableOf (s : Sheet) (p : Plan) (first rows : List ℕ) : Type 0 where
  pub sound
      : (kind f r : ℕ)
      → kind ≤ 3
      → f < max_facts
      → cell first (group_of kind f) ≤ r
      → r < cell first (group_of kind f + 1)
      → Stamp s p kind (entry_at rows r) f (tick_at rows r)
  pub whole : (kind i e f : ℕ) → Occurs s p i e kind f → RowFor first rows i (group_of kind f) (p.time i e)
