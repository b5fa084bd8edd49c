-- Alike sheets get the same answers, of the judge and of the planner; so do bytes without a fault that say sheets that agree.
use Rattle.std.specs.Prelude.{ℕ, ◌≡◌, refl, List}
use Rattle.std.proofs.Common.{sym, ◌∙◌}
use Rattle.rules.specs.Count.{None}
use Rattle.rules.specs.Sheet.{Sheet, sheet_of, sheet_fault}
use Rattle.rules.specs.RunList.{plan_of}
use Rattle.rules.specs.Plan.{IsPlan}
use Rattle.rules.specs.Class.{TwoSetters, WantedUnordered}
use Rattle.rules.specs.Answer as rules
use Rattle.rules.specs.Answer.{Planned, Judged}
use Rattle.laws.specs.Planned.{PlannedFor, rule1, rule2, rule3, no_plan, short, plan, planned_bytes}
use Rattle.laws.specs.Faults.{well_formed_lem}
use Rattle.agree.specs.Agree.{Agree}
use Rattle.laws.specs.Below.{none_below, lowest_below}
use Rattle.agree.specs.Formed.{Alike, alike, flip}
use Rattle.agree.specs.Plan.{same_plan, plan_agree}
use Rattle.agree.specs.RunList.{list_ok_agree, plan_of_agree}
use Rattle.agree.specs.Class.{two_setters, wanted_unordered, unwanted_unordered, inside_agree}
use Rattle.agree.specs.Least.{least_list}

-- ---- the judge

-- what a list says is a plan of both or of neither
pub list_agree : {s t : Sheet} → Alike s t → (l : List ℕ) → IsPlan s (plan_of s l) → IsPlan t (plan_of t l)
list_agree h l p = same_plan h (plan_of_agree h.agree l) p

-- ---- the planner

module _ {s t : Sheet} (h : Alike s t) where
  one_setter_lem : None (TwoSetters s) s.facts → None (TwoSetters t) t.facts
  one_setter_lem r = none_below h.agree.facts (λ f l. two_setters (flip h)) r

  ordered : None (WantedUnordered s) s.facts → None (WantedUnordered t) t.facts
  ordered r = none_below h.agree.facts (λ f l. wanted_unordered (flip h)) r

  pub planned_for_agree : {w w' : List ℕ} {n d : ℕ} → PlannedFor s w n d w' → PlannedFor t w n d w'
  planned_for_agree (rule1 f r) = rule1 f (lowest_below h.agree.facts (λ k l. two_setters h) (λ k l. two_setters (flip h)) r)
  planned_for_agree (rule2 f b r) =
      rule2 f (one_setter_lem b) (lowest_below h.agree.facts (λ k l. wanted_unordered h) (λ k l. wanted_unordered (flip h)) r)
  planned_for_agree (rule3 f b c r) =
      rule3 f (one_setter_lem b) (ordered c)
      (lowest_below h.agree.facts (λ k l. unwanted_unordered h) (λ k l. unwanted_unordered (flip h)) r)
  planned_for_agree (no_plan c r) = no_plan (inside_agree h c) (λ p is_plan. r p (plan_agree (flip h) is_plan))
  planned_for_agree (short l c r m) = short l (inside_agree h c) (least_list h r) m
  planned_for_agree (plan l c r m) = plan l (inside_agree h c) (least_list h r) m

-- ---- bytes

-- the answer to bytes without a fault is that of the sheet that they say
planned_sheet : {b w w' : List ℕ} {n d : ℕ} → sheet_fault b ≡ 0 → Planned b w n d w' → PlannedFor (sheet_of b) w n d w'
planned_sheet ok (rules.bad_sheet bad) = absurd (bad ok)
planned_sheet ok (rules.rule1 f x r) = rule1 f r
planned_sheet ok (rules.rule2 f x b r) = rule2 f b r
planned_sheet ok (rules.rule3 f x b c r) = rule3 f b c r
planned_sheet ok (rules.no_plan c r) = no_plan c.inside r
planned_sheet ok (rules.short l c r m) = short l c.inside r m
planned_sheet ok (rules.plan l c r m) = plan l c.inside r m

alike_bytes : (b c : List ℕ) → sheet_fault b ≡ 0 → Agree (sheet_of b) (sheet_of c) → Alike (sheet_of b) (sheet_of c)
alike_bytes b c ok a = alike a (well_formed_lem b ok)

module _ {b c : List ℕ} (fine : sheet_fault b ≡ 0) (fine' : sheet_fault c ≡ 0) (a : Agree (sheet_of b) (sheet_of c)) where
  pub planned_agree : {w w' : List ℕ} {n d : ℕ} → Planned b w n d w' → Planned c w n d w'
  planned_agree r = planned_bytes fine' refl (planned_for_agree (alike_bytes b c fine a) (planned_sheet fine r))

  pub judged_agree : {l : List ℕ} {n d : ℕ} → Judged b l n d → Judged c l n d
  judged_agree (Judged.bad_sheet bad) = absurd (bad fine)
  judged_agree {l} (Judged.bad_list x q) = Judged.bad_list fine' (sym (list_ok_agree a l) ∙ q)
  judged_agree {l} (Judged.no_plan x q r) =
      Judged.no_plan fine' (sym (list_ok_agree a l) ∙ q) (λ p. r (list_agree (flip (alike_bytes b c fine a)) l p))
  judged_agree {l} (Judged.is_plan x q r) =
      Judged.is_plan fine' (sym (list_ok_agree a l) ∙ q) (list_agree (alike_bytes b c fine a) l r)
