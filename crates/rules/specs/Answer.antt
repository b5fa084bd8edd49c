-- "Answer numbers": for every input the one number and detail, and what the buffer holds after.
use Rattle.std.specs.Prelude.{ℕ, ◌≤◌, ◌<◌, ◌≡◌, ◌≢◌, true, false, List, ◌++◌, length, drop}
use Rattle.rules.specs.Count.{None, Lowest}
use Rattle.rules.specs.Sheet.{sheet_of, sheet_fault}
use Rattle.rules.specs.RunList.{Plan, list_ok, plan_of}
use Rattle.rules.specs.Plan.{IsPlan}
use Rattle.rules.specs.Wanted.{LeastList}
use Rattle.rules.specs.Class.{TwoSetters, WantedUnordered, UnwantedUnordered, Inside}

-- the judge, given sheet b and list l: number and detail. It tests 10 to 14, 40, 41.
pub data Judged (b l : List ℕ) : (number detail : ℕ) → Type 0 where
  bad_sheet : sheet_fault b ≢ 0 → Judged b l (sheet_fault b) 0
  bad_list : sheet_fault b ≡ 0 → list_ok (sheet_of b) l ≡ false → Judged b l 40 0
  no_plan : sheet_fault b ≡ 0 → list_ok (sheet_of b) l ≡ true → (IsPlan (sheet_of b) (plan_of (sheet_of b) l) → ⊥) → Judged b l 41 0
  is_plan : sheet_fault b ≡ 0 → list_ok (sheet_of b) l ≡ true → IsPlan (sheet_of b) (plan_of (sheet_of b) l) → Judged b l 0 0

-- what the planner's class tests have passed: 10 to 14, 20 to 22
pub record Plannable (b : List ℕ) : Type 0 where
  pub formed : sheet_fault b ≡ 0
  pub inside : Inside (sheet_of b)

-- the planner, given sheet b and buffer w: number, detail, and the buffer after. It tests 10 to 14, 20 to 22, 1, 30.
pub data Planned (b w : List ℕ) : (number detail : ℕ) → List ℕ → Type 0 where
  bad_sheet : sheet_fault b ≢ 0 → Planned b w (sheet_fault b) 0 w
  rule1
      : (f : ℕ)
      → sheet_fault b ≡ 0
      → Lowest (TwoSetters (sheet_of b)) (sheet_of b).facts f
      → Planned b w 20 f w
  rule2
      : (f : ℕ)
      → sheet_fault b ≡ 0
      → None (TwoSetters (sheet_of b)) (sheet_of b).facts
      → Lowest (WantedUnordered (sheet_of b)) (sheet_of b).facts f
      → Planned b w 21 f w
  rule3
      : (f : ℕ)
      → sheet_fault b ≡ 0
      → None (TwoSetters (sheet_of b)) (sheet_of b).facts
      → None (WantedUnordered (sheet_of b)) (sheet_of b).facts
      → Lowest (UnwantedUnordered (sheet_of b)) (sheet_of b).facts f
      → Planned b w 22 f w
  no_plan : Plannable b → ((p : Plan) → IsPlan (sheet_of b) p → ⊥) → Planned b w 1 0 w
  short : (l : List ℕ) → Plannable b → LeastList (sheet_of b) l → length w < length l → Planned b w 30 (length l) w
  plan : (l : List ℕ) → Plannable b → LeastList (sheet_of b) l → length l ≤ length w → Planned b w 0 (length l) (l ++ drop (length l) w)
