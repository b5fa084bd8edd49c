-- The places below a number: every, any and None as statements on all of them, and the lowest that has P.
use Prim.Native.Nat.{ℕ, zero, suc, ◌+◌, ◌<◌}
use native.Mathlib.Omega.{arith}
use Rattle.std.proofs.Math.Numerals.{add-one}
use Rattle.std.proofs.Math.Decide.{dec_lt}
use Rattle.std.specs.Prelude.{◌≡◌, ◌⊎◌, Bool, true, false, ◌&&◌}
use Rattle.std.proofs.Math.Path.{refl, ap}
use Rattle.std.proofs.Common.{sym, ◌∙◌, inl, inr}
use Rattle.std.proofs.Math.Logic.{⊎_elim, dite}
use borrow.Author.Count.{below_more}
use Rattle.rules.specs.Count.{every, any, None, Lowest}
use Rattle.laws.specs.Bools.{clash, and_get, and_not, and_put, or_get, or_left, or_right}

-- below suc n: below n, or n
pub below : (i n : ℕ) → i < suc n → (i < n) ⊎ (i ≡ n)
below i n h = dite (dec_lt i n) (λ l. inl l) (λ g. inr (omega arith))

module _ (f : ℕ → Bool) where
  pub every_none : every f 0 ≡ true
  unfolding every
  every_none = refl

  pub every_more : (n : ℕ) → every f (n + 1) ≡ every f n && f n
  unfolding every
  every_more n = rw add-one refl

  pub every_get : (n : ℕ) → every f n ≡ true → (i : ℕ) → i < n → f i ≡ true
  unfolding every
  every_get zero h i l = absurd (omega arith)
  every_get (suc n) h i l =
      let p = and_get (every f n) (f n) h in
      ⊎_elim (λ m. every_get n p.0 i m) (λ q. ap f q ∙ p.1) (below i n l)

  pub every_put : (n : ℕ) → ((i : ℕ) → i < n → f i ≡ true) → every f n ≡ true
  unfolding every
  every_put zero h = refl
  every_put (suc n) h = and_put (every_put n (λ i l. h i (omega arith))) (h n (omega arith))

  pub every_not : (n : ℕ) → every f n ≡ false → (i : ℕ) × (i < n) × (f i ≡ false)
  unfolding every
  every_not zero h = absurd (clash refl h)
  every_not (suc n) h =
      ⊎_elim (λ p. let (i, l, q) = every_not n p in (i, omega arith, q)) (λ p. (n, omega arith, p)) (and_not (every f n) (f n) h)

  pub any_get : (n : ℕ) → any f n ≡ true → (i : ℕ) × (i < n) × (f i ≡ true)
  unfolding any
  any_get zero h = absurd (clash h refl)
  any_get (suc n) h =
      ⊎_elim (λ p. let (i, l, q) = any_get n p in (i, omega arith, q)) (λ p. (n, omega arith, p)) (or_get (any f n) (f n) h)

  pub any_put : (n i : ℕ) → i < n → f i ≡ true → any f n ≡ true
  unfolding any
  any_put zero i l h = absurd (omega arith)
  any_put (suc n) i l h =
      ⊎_elim (λ m. or_left (f n) (any_put n i m h)) (λ q. or_right (any f n) (ap f (sym q) ∙ h)) (below i n l)

swap : (a b c d : Bool) → a && b && (c && d) ≡ a && c && (b && d)
swap false b c d = refl
swap true true c d = refl
swap true false true d = refl
swap true false false d = refl

module _ (f g : ℕ → Bool) where
  pub every_both : (n : ℕ) → every (λ i. f i && g i) n ≡ every f n && every g n
  unfolding every
  every_both zero = refl
  every_both (suc n) = ap (λ (a : Bool). a && (f n && g n)) (every_both n) ∙ swap (every f n) (every g n) (f n) (g n)

-- ---- a search: no place passed has P

module _ (P : ℕ → Type 0) where
  pub none_yet : None P 0
  unfolding None
  none_yet i l p = omega arith

  pub none_more : (n : ℕ) → None P n → (P n → ⊥) → None P (n + 1)
  unfolding None
  none_more n h d = below_more (λ i. P i → ⊥) n h d

-- there is one lowest place
pub lowest_one : {P : ℕ → Type 0} {n i j : ℕ} → Lowest P n i → Lowest P n j → i ≡ j
unfolding None
lowest_one {i = i} {j} h k =
    dite (dec_lt i j) (λ l. absurd (k.lower i l h.has))
    (λ g. dite (dec_lt j i) (λ l. absurd (h.lower j l k.has)) (λ d. omega arith))
