-- The planner's answers to a well-formed sheet, whatever bytes it comes from; those to bytes follow.
use Rattle.std.specs.Prelude.{ℕ, ◌≤◌, ◌<◌, ◌≡◌, List, ◌++◌, length, drop}
use Rattle.std.proofs.Common.{subst}
use Rattle.rules.specs.Count.{None, Lowest}
use Rattle.rules.specs.Sheet.{Sheet, sheet_of, sheet_fault}
use Rattle.rules.specs.RunList.{Plan}
use Rattle.rules.specs.Plan.{IsPlan}
use Rattle.rules.specs.Wanted.{LeastList}
use Rattle.rules.specs.Class.{TwoSetters, WantedUnordered, UnwantedUnordered, Inside}
use Rattle.rules.specs.Answer as rules
use Rattle.rules.specs.Answer.{Plannable, Planned}

-- the planner, given sheet s and buffer w: number, detail, and the buffer after
pub data PlannedFor (s : Sheet) (w : List ℕ) : (number detail : ℕ) → List ℕ → Type 0 where
  rule1 : (f : ℕ) → Lowest (TwoSetters s) s.facts f → PlannedFor s w 20 f w
  rule2
      : (f : ℕ)
      → None (TwoSetters s) s.facts
      → Lowest (WantedUnordered s) s.facts f
      → PlannedFor s w 21 f w
  rule3
      : (f : ℕ)
      → None (TwoSetters s) s.facts
      → None (WantedUnordered s) s.facts
      → Lowest (UnwantedUnordered s) s.facts f
      → PlannedFor s w 22 f w
  no_plan : Inside s → ((p : Plan) → IsPlan s p → ⊥) → PlannedFor s w 1 0 w
  short : (l : List ℕ) → Inside s → LeastList s l → length w < length l → PlannedFor s w 30 (length l) w
  plan : (l : List ℕ) → Inside s → LeastList s l → length l ≤ length w → PlannedFor s w 0 (length l) (l ++ drop (length l) w)

-- bytes without a fault get the answer of the sheet that they say
plannable : {b : List ℕ} → sheet_fault b ≡ 0 → Inside (sheet_of b) → Plannable b
plannable formed inside = record { formed = formed; inside = inside }

module _ {b w : List ℕ} (formed : sheet_fault b ≡ 0) where
  said : {n d : ℕ} {w' : List ℕ} → PlannedFor (sheet_of b) w n d w' → Planned b w n d w'
  said (rule1 f h) = rules.rule1 f formed h
  said (rule2 f h k) = rules.rule2 f formed h k
  said (rule3 f h i k) = rules.rule3 f formed h i k
  said (no_plan c h) = rules.no_plan (plannable formed c) h
  said (short l c h k) = rules.short l (plannable formed c) h k
  said (plan l c h k) = rules.plan l (plannable formed c) h k

  pub planned_bytes
      : {s : Sheet} {n d : ℕ} {w' : List ℕ} → s ≡ sheet_of b → PlannedFor s w n d w' → Planned b w n d w'
  planned_bytes {n = n} {d = d} {w' = w'} q h = said (subst (λ (x : Sheet). PlannedFor x w n d w') q h)
