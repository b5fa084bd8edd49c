-- The first place below a number at which a test holds.
use Prim.Native.Nat.{ℕ, zero, suc, ◌≤◌, ◌<◌}
use Rattle.std.proofs.Common.{arith, sym, ◌∙◌, ⊎_elim, lt-ltb, le-ltb}
use Rattle.std.proofs.Math.Decide.{dec_lt}
use Rattle.std.specs.Prelude.{◌≡◌, Bool, true, false}
use Rattle.std.proofs.Math.Path.{refl}
use Rattle.std.proofs.Math.Logic.{dite}
use Rattle.rules.specs.Count.{first, or_here}
use Rattle.laws.specs.Bools.{decided}
use Rattle.laws.specs.Places.{below}

module _ (f : ℕ → Bool) where
  first_old : (n : ℕ) → first f n < n → first f (suc n) ≡ first f n
  unfolding first or_here
  first_old n l = rw (lt-ltb (first f n) n l)

  first_here : (n : ℕ) → n ≤ first f n → f n ≡ true → first f (suc n) ≡ n
  unfolding first or_here
  first_here n l q = rw (le-ltb (first f n) n l, q)

  first_past : (n : ℕ) → n ≤ first f n → f n ≡ false → first f (suc n) ≡ suc n
  unfolding first or_here
  first_past n l q = rw (le-ltb (first f n) n l, q)

  -- f holds nowhere
  pub first_none : (n : ℕ) → ((i : ℕ) → i < n → f i ≡ false) → first f n ≡ n
  unfolding first
  first_none zero p = refl
  first_none (suc n) p = first_past n (omega (arith, first_none n (λ i l. p i (omega arith)))) (p n (omega arith))

  -- f holds at j and at no place before it
  pub first_at : (n j : ℕ) → ((i : ℕ) → i < j → f i ≡ false) → j < n → f j ≡ true → first f n ≡ j
  first_at zero j p l h = absurd (omega arith)
  first_at (suc n) j p l h =
      ⊎_elim (λ m. let r = first_at n j p m h in first_old n (omega arith) ∙ r)
      (λ q. first_here n (omega (arith, first_none n (λ i m. p i (omega arith)))) (rw q at h) ∙ sym q) (below j n l)

  -- the first has f, if it is below n
  pub first_get : (n : ℕ) → first f n < n → f (first f n) ≡ true
  first_get zero h = absurd (omega arith)
  first_get (suc n) h =
      dite (dec_lt (first f n) n) (λ l. rw (first_old n l) (first_get n l))
      (λ g.
      let past : n ≤ first f n = omega arith in
      ⊎_elim (λ q. rw (first_here n past q) q) (λ q. absurd (omega (arith, first_past n past q))) (decided (f n)))

  -- j alone has f
  pub first_of : (n j : ℕ) → j < n → f j ≡ true → ((i : ℕ) → i < n → f i ≡ true → i ≡ j) → first f n ≡ j
  first_of n j l h other =
      first_at n j (λ i m. ⊎_elim (λ q. absurd (omega (arith, other i (omega arith) q))) (λ q. q) (decided (f i))) l h
