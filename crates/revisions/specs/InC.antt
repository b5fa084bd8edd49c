-- What C is told: number and detail, which sheet counts, and the length of the part.
use Rattle.std.specs.Prelude.{ℕ, ◌≤◌, ◌≡◌, ◌≢◌, ◌⊎◌, List, length}
use native.Mathlib.Omega.{arith}
use Rattle.std.proofs.Math.Path.{refl}
use Rattle.std.proofs.Common.{ap}
use Rattle.std.proofs.Math.Logic.{inl, inr}
use Rattle.rules.specs.Newer.{Which, Newer, part_of, which_in_c, NewerInC}
use Rattle.revisions.specs.Answers.{first_iff, second_iff, none_refused, newer_unique, newer_exists}

module _ {a b : List ℕ} where
  pub newer_in_c_unique
      : {n m d e p q k l : ℕ} → NewerInC a b n d p k → NewerInC a b m e q l → (n ≡ m) × (d ≡ e) × (p ≡ q) × (k ≡ l)
  newer_in_c_unique (NewerInC.told n w s) (NewerInC.told m x t) =
      let (same, which) = newer_unique s t in (same, refl, ap which_in_c which, ap (λ (y : Which). length (part_of a b y)) which)

  pub no_detail : {n d p l : ℕ} → NewerInC a b n d p l → d ≡ 0
  no_detail (NewerInC.told n w s) = refl

  pub low_which : {n d p l : ℕ} → NewerInC a b n d p l → p ≤ 1
  unfolding which_in_c
  low_which (NewerInC.told n Which.first s) = omega arith
  low_which (NewerInC.told n Which.second s) = omega arith
  low_which (NewerInC.told n Which.none s) = omega arith

  -- with a refusal which and length are 0
  pub refused_in_c : {n d p l : ℕ} → NewerInC a b n d p l → n ≢ 0 → (p ≡ 0) × (l ≡ 0)
  unfolding which_in_c part_of
  refused_in_c (NewerInC.told n Which.first s) some = absurd (some (first_iff.0 s).0)
  refused_in_c (NewerInC.told n Which.second s) some = absurd (some (second_iff.0 s).0)
  refused_in_c (NewerInC.told n Which.none s) some = (refl, refl)

  -- with 0 they are those of one of the two sheets
  pub zero_in_c
      : {n d p l : ℕ}
      → NewerInC a b n d p l
      → n ≡ 0
      → (Newer a b 0 Which.first × (p ≡ 0) × (l ≡ length a)) ⊎ (Newer a b 0 Which.second × (p ≡ 1) × (l ≡ length b))
  unfolding which_in_c part_of
  zero_in_c (NewerInC.told n Which.first s) z = inl (rw z at s, refl, refl)
  zero_in_c (NewerInC.told n Which.second s) z = inr (rw z at s, refl, refl)
  zero_in_c (NewerInC.told n Which.none s) z = absurd (none_refused s z)

pub newer_in_c_exists : (a b : List ℕ) → (n : ℕ) × (d : ℕ) × (p : ℕ) × (l : ℕ) × NewerInC a b n d p l
newer_in_c_exists a b = let (n, w, x) = newer_exists a b in (n, 0, _, _, NewerInC.told n w x)
