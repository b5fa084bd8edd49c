-- Tests that are equal at the places below a number: the same counts, the same first place, the same answer of all or of one.
use Prim.Native.Nat.{ℕ, zero, suc, ◌<◌}
use Rattle.std.proofs.Common.{arith}
use Rattle.std.specs.Prelude.{◌≡◌, Bool, leb, ltb}
use Rattle.std.proofs.Math.Path.{refl}
use Rattle.rules.specs.Count.{every, any, count, first, rises, never_falls, None, Lowest}

module _ (f g : ℕ → Bool) where
  pub every_below : (n : ℕ) → ((i : ℕ) → i < n → f i ≡ g i) → every f n ≡ every g n
  unfolding every
  every_below zero h = refl
  every_below (suc n) h = rw (every_below n (λ i l. h i (omega arith)), h n (omega arith))

  pub any_below : (n : ℕ) → ((i : ℕ) → i < n → f i ≡ g i) → any f n ≡ any g n
  unfolding any
  any_below zero h = refl
  any_below (suc n) h = rw (any_below n (λ i l. h i (omega arith)), h n (omega arith))

  pub count_below : (n : ℕ) → ((i : ℕ) → i < n → f i ≡ g i) → count f n ≡ count g n
  unfolding count
  count_below zero h = refl
  count_below (suc n) h = rw (count_below n (λ i l. h i (omega arith)), h n (omega arith))

  pub first_below : (n : ℕ) → ((i : ℕ) → i < n → f i ≡ g i) → first f n ≡ first g n
  unfolding first
  first_below zero h = refl
  first_below (suc n) h = rw (first_below n (λ i l. h i (omega arith)), h n (omega arith))

pub rises_below : (f g : ℕ → ℕ) (n : ℕ) → ((i : ℕ) → i < n → f i ≡ g i) → rises f n ≡ rises g n
unfolding rises
rises_below f g zero h = refl
rises_below f g (suc n) h =
    every_below (λ i. ltb (f i) (f (suc i))) (λ i. ltb (g i) (g (suc i))) n
    (λ i l. rw (h i (omega arith), h (suc i) (omega arith)))

pub never_falls_below : (f g : ℕ → ℕ) (n : ℕ) → ((i : ℕ) → i < n → f i ≡ g i) → never_falls f n ≡ never_falls g n
unfolding never_falls
never_falls_below f g zero h = refl
never_falls_below f g (suc n) h =
    every_below (λ i. leb (f i) (f (suc i))) (λ i. leb (g i) (g (suc i))) n
    (λ i l. rw (h i (omega arith), h (suc i) (omega arith)))

-- ---- statements

module _ {P Q : ℕ → Type 0} where
  pub none_below : {n m : ℕ} → n ≡ m → ((i : ℕ) → i < n → Q i → P i) → None P n → None Q m
  unfolding None
  none_below q back none i l has = none i (omega arith) (back i (omega arith) has)

  pub lowest_below
      : {n m i : ℕ} → n ≡ m → ((k : ℕ) → k < n → P k → Q k) → ((k : ℕ) → k < n → Q k → P k) → Lowest P n i → Lowest Q m i
  lowest_below {i = i} q to back low =
      record {
        below = omega arith;
        has = to i low.below low.has;
        lower = none_below refl (λ k l. back k (omega arith)) low.lower;
      }
