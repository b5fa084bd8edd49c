-- The answers leave no choice: planner and judge have one number, one detail and one buffer for each input.
use Rattle.std.specs.Prelude.{ℕ, ◌≤◌, ◌<◌, ◌≡◌, refl, ◌≢◌, ◌⊎◌, false, List, ◌++◌, length, drop}
use Rattle.std.proofs.Common.{sym, ◌∙◌, ap, subst, inl, inr, arith}
use Rattle.rules.specs.Count.{None, Lowest}
use Rattle.rules.specs.Sheet.{sheet_of, sheet_fault}
use Rattle.rules.specs.RunList.{Plan, list_ok, plan_of}
use Rattle.rules.specs.Plan.{IsPlan}
use Rattle.rules.specs.Wanted.{LeastList}
use Rattle.rules.specs.Class.{TwoSetters, WantedUnordered, UnwantedUnordered}
use Rattle.rules.specs.Answer.{Judged, Planned, Plannable}
use Rattle.laws.specs.Bools.{clash}
use Rattle.laws.specs.Places.{lowest_one}
use Rattle.theory.specs.Why.Bytes.{least_list_unique}

-- ---- tests in order

-- P holds of one value at most
abbrev One : {X : Type 0} → (X → Type 0) → Type 0
One {X} P = (x y : X) → P x → P y → x ≡ y

-- P holds of x, or P holds of nothing and Q of x
abbrev First : {X : Type 0} → (X → Type 0) → (X → Type 0) → X → Type 0
First {X} P Q x = P x ⊎ (((y : X) → P y → ⊥) × Q x)

first_one : {X : Type 0} (P Q : X → Type 0) → One P → One Q → One (First P Q)
first_one P Q p q x y (inl a) (inl b) = p x y a b
first_one P Q p q x y (inl a) (inr b) = absurd (b.0 x a)
first_one P Q p q x y (inr a) (inl b) = absurd (a.0 y b)
first_one P Q p q x y (inr a) (inr b) = q x y a.1 b.1

-- A holds, and the answer is v
abbrev Gives : {X : Type 0} → Type 0 → X → X → Type 0
Gives A v x = A × (x ≡ v)

gives_one : {X : Type 0} (A : Type 0) (v : X) → One (Gives A v)
gives_one A v x y a b = a.1 ∙ sym b.1

-- the lowest place that has P is named in the answer
abbrev Names : {X : Type 0} → (ℕ → Type 0) → ℕ → (ℕ → X) → X → Type 0
Names P n v x = (i : ℕ) × Lowest P n i × (x ≡ v i)

names_one : {X : Type 0} (P : ℕ → Type 0) (n : ℕ) (v : ℕ → X) → One (Names P n v)
names_one P n v x y (i, a, p) (k, b, q) = p ∙ ap v (lowest_one a b) ∙ sym q

names_none : {X : Type 0} (P : ℕ → Type 0) (n : ℕ) (v : ℕ → X) → None P n → (x : X) → Names P n v x → ⊥
unfolding None
names_none P n v none x (i, a, q) = none i a.below a.has

-- ---- the judge

module _ (b l : List ℕ) where
  abbrev PlanTest : ℕ × ℕ → Type 0
  PlanTest = First (Gives (IsPlan (sheet_of b) (plan_of (sheet_of b) l) → ⊥) (41, 0)) (Gives (IsPlan (sheet_of b) (plan_of (sheet_of b) l)) (0, 0))

  abbrev Read : ℕ × ℕ → Type 0
  Read = First (Gives (list_ok (sheet_of b) l ≡ false) (40, 0)) PlanTest

  judged_tests : {n d : ℕ} → Judged b l n d → First (Gives (sheet_fault b ≢ 0) (sheet_fault b, 0)) Read (n, d)
  judged_tests (Judged.bad_sheet h) = inl (h, refl)
  judged_tests (Judged.bad_list g h) = inr (λ y x. x.0 g, inl (h, refl))
  judged_tests (Judged.no_plan g k h) = inr (λ y x. x.0 g, inr (λ y x. clash k x.0, inl (h, refl)))
  judged_tests (Judged.is_plan g k h) = inr (λ y x. x.0 g, inr (λ y x. clash k x.0, inr (λ y x. x.0 h, (h, refl))))

  judged_one : One (First (Gives (sheet_fault b ≢ 0) (sheet_fault b, 0)) Read)
  judged_one =
      first_one _ _ (gives_one _ _) (first_one _ _ (gives_one _ _) (first_one _ _ (gives_one _ _) (gives_one _ _)))

pub judged_unique : {b l : List ℕ} {n d n' d' : ℕ} → Judged b l n d → Judged b l n' d' → (n ≡ n') × (d ≡ d')
judged_unique {b} {l} p q =
    let same = judged_one b l _ _ (judged_tests b l p) (judged_tests b l q) in
    (ap (λ x. x.0) same, ap (λ x. x.1) same)

-- ---- the planner

module _ (b w : List ℕ) where
  -- number, detail and buffer
  abbrev Out : Type 0
  Out = ℕ × ℕ × List ℕ

  abbrev Written : List ℕ → Out → Type 0
  Written l = First (Gives (length w < length l) (30, length l, w)) (Gives (length l ≤ length w) (0, length l, l ++ drop (length l) w))

  abbrev Fits : Out → Type 0
  Fits x = (l : List ℕ) × LeastList (sheet_of b) l × Written l x

  abbrev Solved : Out → Type 0
  Solved = First (Gives ((p : Plan) → IsPlan (sheet_of b) p → ⊥) (1, 0, w)) Fits

  abbrev Ruled₃ : Out → Type 0
  Ruled₃ = First (Names (UnwantedUnordered (sheet_of b)) (sheet_of b).facts (λ f. (22, f, w))) Solved

  abbrev Ruled₂ : Out → Type 0
  Ruled₂ = First (Names (WantedUnordered (sheet_of b)) (sheet_of b).facts (λ f. (21, f, w))) Ruled₃

  abbrev Ruled₁ : Out → Type 0
  Ruled₁ = First (Names (TwoSetters (sheet_of b)) (sheet_of b).facts (λ f. (20, f, w))) Ruled₂

  abbrev Answer : Out → Type 0
  Answer = First (Gives (sheet_fault b ≢ 0) (sheet_fault b, 0, w)) Ruled₁

  fits_one : One Fits
  fits_one x y (l, a, p) (m, c, q) =
      first_one _ _ (gives_one _ _) (gives_one _ _) x y p (subst (λ (k : List ℕ). Written k y) (least_list_unique c a) q)

  answer_one : One Answer
  answer_one =
      first_one _ _ (gives_one _ _)
      (first_one _ _ (names_one _ _ _)
      (first_one _ _ (names_one _ _ _) (first_one _ _ (names_one _ _ _) (first_one _ _ (gives_one _ _) fits_one))))

  formed : {x : Out} → sheet_fault b ≡ 0 → Ruled₁ x → Answer x
  formed h r = inr (λ y g. g.0 h, r)

  past : {x : Out} → Plannable b → Solved x → Answer x
  past ok r =
      formed ok.formed
      (inr (
        names_none _ _ _ ok.inside.one_setter,
        inr (names_none _ _ _ ok.inside.ordered, inr (names_none _ _ _ ok.inside.unwanted_ordered, r)),
      ))

  solved : {l : List ℕ} {x : Out} → LeastList (sheet_of b) l → Written l x → Solved x
  solved {l} least r = let (p, plan) = least.exists in inr (λ y g. g.0 p plan, (l, least, r))

  planned_tests : {n d : ℕ} {o : List ℕ} → Planned b w n d o → Answer (n, d, o)
  planned_tests (Planned.bad_sheet h) = inl (h, refl)
  planned_tests (Planned.rule1 f h r) = formed h (inl (f, r, refl))
  planned_tests (Planned.rule2 f h p r) = formed h (inr (names_none _ _ _ p, inl (f, r, refl)))
  planned_tests (Planned.rule3 f h p q r) = formed h (inr (names_none _ _ _ p, inr (names_none _ _ _ q, inl (f, r, refl))))
  planned_tests (Planned.no_plan ok r) = past ok (inl (r, refl))
  planned_tests (Planned.short l ok least h) = past ok (solved least (inl (h, refl)))
  planned_tests (Planned.plan l ok least h) = past ok (solved least (inr (λ y g. omega arith, (h, refl))))

pub planned_unique
    : {b w : List ℕ} {n d n' d' : ℕ} {o o' : List ℕ}
    → Planned b w n d o
    → Planned b w n' d' o'
    → (n ≡ n') × (d ≡ d') × (o ≡ o')
planned_unique {b} {w} p q =
    let same = answer_one b w _ _ (planned_tests b w p) (planned_tests b w q) in
    (ap (λ x. x.0) same, ap (λ x. x.1) same, ap (λ x. x.2) same)
