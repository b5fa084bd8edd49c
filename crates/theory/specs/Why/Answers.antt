-- From bytes: which numbers the judge has and what its 0 says; and it says yes to the least list.
use Rattle.std.specs.Prelude.{ℕ, ◌≤◌, ◌≡◌, refl, ◌⊎◌, true, List}
use Rattle.std.proofs.Common.{inl, inr, arith}
use Rattle.rules.specs.Sheet.{
  sheet_of,
  sheet_fault,
}
use Rattle.rules.specs.RunList.{list_ok, plan_of}
use Rattle.rules.specs.Plan.{IsPlan}
use Rattle.rules.specs.Wanted.{LeastList}
use Rattle.rules.specs.Answer.{Judged, Plannable}
use Rattle.laws.specs.Formed.{formed}
use Rattle.laws.specs.Faults.{last_fault, fault_small, sheet_numbers, well_formed_lem}
use Rattle.theory.specs.Why.Entries.{least_list_plan}

-- ---- the judge

pub judged_numbers : {b l : List ℕ} {n d : ℕ} → Judged b l n d → (n ≤ last_fault) ⊎ (n ≡ 40) ⊎ (n ≡ 41)
judged_numbers {b} (Judged.bad_sheet g) = inl (fault_small (sheet_numbers b))
judged_numbers (Judged.bad_list h g) = inr (inl refl)
judged_numbers (Judged.no_plan h k g) = inr (inr refl)
judged_numbers (Judged.is_plan h k p) = inl (omega arith)

-- what 0 says
abbrev pub Accepted : (b l : List ℕ) → Type 0
Accepted b l = (sheet_fault b ≡ 0) × (list_ok (sheet_of b) l ≡ true) × IsPlan (sheet_of b) (plan_of (sheet_of b) l)

pub accepted : {b l : List ℕ} → Judged b l 0 0 → Accepted b l
accepted {b} {l} j = go j refl
  where
    go : {n d : ℕ} → Judged b l n d → n ≡ 0 → Accepted b l
    go (Judged.bad_sheet g) q = absurd (g q)
    go (Judged.bad_list h g) q = absurd (omega arith)
    go (Judged.no_plan h k g) q = absurd (omega arith)
    go (Judged.is_plan h k p) q = (h, k, p)

pub judge_accepts
    : {b l : List ℕ} → Plannable b → LeastList (sheet_of b) l → Judged b l 0 0
judge_accepts {b} ok least =
    Judged.is_plan ok.formed least.formed (least_list_plan (formed (sheet_of b) (well_formed_lem b ok.formed)) ok.inside least)
