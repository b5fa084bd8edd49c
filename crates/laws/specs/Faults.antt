-- A sheet's fault: the numbers that it can have; what bytes without a fault have passed; and bytes that have to be of edition n.
use Rattle.std.specs.Prelude.{ℕ, ◌≤◌, ◌≡◌, ◌≢◌, ◌⊎◌, Bool, not, List}
use native.Mathlib.Omega.{arith}
use Rattle.std.proofs.Math.Path.{refl}
use Rattle.std.proofs.Common.{inl, inr, eqb-true, eq-eqb, ne_eqb}
use Rattle.std.proofs.Math.Logic.{⊎_elim}
use Rattle.std.proofs.Math.Bool.{true, false, cond}
use Rattle.std.proofs.Math.Dec.{eqb}
use Rattle.rules.specs.Sheet.{
  edition,
  length_of,
  sheet_of,
  contents_ok,
  facts_ok,
  jobs_ok,
  events_ok,
  bounds_ok,
  facts_body_ok,
  jobs_body_ok,
  events_body_ok,
  bounds_body_ok,
  sheet_fault,
  fault_in,
  well_formed,
}
use Rattle.laws.specs.Bools.{and_get, and_put, decided, passed}

-- ---- the numbers

-- the least and the greatest
abbrev pub first_fault : ℕ
first_fault = 10

abbrev pub last_fault : ℕ
last_fault = 14

-- none, or one of them
abbrev pub FaultNumber : ℕ → Type 0
FaultNumber n = (n ≡ 0) ⊎ ((first_fault ≤ n) × (n ≤ last_fault))

pub fault_small : {n : ℕ} → FaultNumber n → n ≤ last_fault
fault_small f = ⊎_elim (λ z. omega (arith, z)) (λ p. p.1) f

tested : (t : Bool) {x y : ℕ} → (first_fault ≤ x) × (x ≤ last_fault) → FaultNumber y → FaultNumber (cond (not t) x y)
tested true p q = q
tested false p q = inr p

pub sheet_numbers : (b : List ℕ) → FaultNumber (sheet_fault b)
unfolding sheet_fault
sheet_numbers b =
    tested (contents_ok b) (omega arith, omega arith)
    (tested (facts_body_ok b) (omega arith, omega arith)
    (tested (jobs_body_ok b) (omega arith, omega arith)
    (tested (events_body_ok b) (omega arith, omega arith) (tested (bounds_body_ok b) (omega arith, omega arith) (inl refl)))))

-- ---- no fault

-- every test of the bytes has been passed
pub record AllPassed (b : List ℕ) : Type 0 where
  pub contents : contents_ok b ≡ true
  pub facts : facts_body_ok b ≡ true
  pub jobs : jobs_body_ok b ≡ true
  pub events : events_body_ok b ≡ true
  pub bounds : bounds_body_ok b ≡ true

module _ (b : List ℕ) (h : sheet_fault b ≡ 0) where
  pub all_passed : AllPassed b
  unfolding sheet_fault
  all_passed =
      let (contents, q₁) = passed (contents_ok b) 10 _ (omega arith) h in
      let (facts, q₂) = passed (facts_body_ok b) 11 _ (omega arith) q₁ in
      let (jobs, q₃) = passed (jobs_body_ok b) 12 _ (omega arith) q₂ in
      let (events, q₄) = passed (events_body_ok b) 13 _ (omega arith) q₃ in
      let (bounds, q₅) = passed (bounds_body_ok b) 14 _ (omega arith) q₄ in
      record { contents = contents; facts = facts; jobs = jobs; events = events; bounds = bounds }

  pub well_formed_lem : well_formed (sheet_of b) ≡ true
  unfolding well_formed facts_body_ok jobs_body_ok events_body_ok bounds_body_ok
  well_formed_lem =
      let s = sheet_of b in
      let p = all_passed in
      let f = (and_get (eqb (length_of b 0) _) (facts_ok s) p.facts).1 in
      let j = (and_get (eqb (length_of b 1) _) (jobs_ok s) p.jobs).1 in
      let e = (and_get (eqb (length_of b 2) _) (events_ok s) p.events).1 in
      let d = (and_get (eqb (length_of b 3) _) (bounds_ok s) p.bounds).1 in
      and_put (and_put (and_put f j) e) d

-- ---- of edition n

module _ (n : ℕ) (b : List ℕ) where
  pub fault_numbers : FaultNumber (fault_in n b)
  unfolding fault_in
  fault_numbers =
      ⊎_elim (λ q. rw q (sheet_numbers b)) (λ q. rw q (inr (omega arith, omega arith))) (decided (eqb (edition b) n))

  pub other_edition : edition b ≢ n → fault_in n b ≡ first_fault
  unfolding fault_in
  other_edition h = rw (ne_eqb _ _ h)

  pub its_edition : edition b ≡ n → fault_in n b ≡ sheet_fault b
  unfolding fault_in
  its_edition h = rw (eq-eqb _ _ h)

  -- bytes without a fault are of that edition
  pub in_edition : fault_in n b ≡ 0 → (edition b ≡ n) × (sheet_fault b ≡ 0)
  unfolding fault_in
  in_edition h = go (eqb (edition b) n) refl h
    where
      go : (t : Bool) → eqb (edition b) n ≡ t → cond t (sheet_fault b) 10 ≡ 0 → (edition b ≡ n) × (sheet_fault b ≡ 0)
      go true q z = (eqb-true _ _ q, z)
      go false q z = absurd (omega arith)
