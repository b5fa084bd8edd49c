-- Numbers that rise from place to place, strictly or not.
use Prim.Native.Nat.{ℕ, zero, suc, ◌≤◌, ◌<◌}
use Rattle.std.proofs.Common.{arith, sym, ap, ⊎_elim}
use Rattle.std.proofs.Math.Decide.{dec_lt}
use Rattle.std.specs.Prelude.{◌≡◌, true}
use Rattle.std.proofs.Math.Logic.{dite}
use Rattle.std.proofs.Math.Dec.{leb, ltb}
use borrow.Author.Tests.{ltb-true, leb-true}
use Rattle.rules.specs.Count.{rises, never_falls}
use Rattle.laws.specs.Places.{below, every_get}

-- f rises strictly over the places below n
abbrev pub Up : (ℕ → ℕ) → ℕ → Type 0
Up f n = (i j : ℕ) → i < j → j < n → f i < f j

module _ (f : ℕ → ℕ) where
  rises_next : (n : ℕ) → rises f n ≡ true → (i : ℕ) → suc i < n → f i < f (suc i)
  unfolding rises
  rises_next zero h i l = absurd (omega arith)
  rises_next (suc n) h i l = ltb-true (f i) (f (suc i)) (every_get (λ k. ltb (f k) (f (suc k))) n h i (omega arith))

  pub rises_get : (n : ℕ) → rises f n ≡ true → Up f n
  rises_get n h i zero l m = absurd (omega arith)
  rises_get n h i (suc j) l m =
      let s = rises_next n h j m in
      ⊎_elim (λ k. omega (arith, rises_get n h i j k (omega arith))) (λ q. rw q s) (below i j l)

-- f rises over the places below n, not always strictly
abbrev pub UpOrLevel : (ℕ → ℕ) → ℕ → Type 0
UpOrLevel f n = (i j : ℕ) → i ≤ j → j < n → f i ≤ f j

module _ (f : ℕ → ℕ) where
  falls_next : (n : ℕ) → never_falls f n ≡ true → (i : ℕ) → suc i < n → f i ≤ f (suc i)
  unfolding never_falls
  falls_next zero h i l = absurd (omega arith)
  falls_next (suc n) h i l = leb-true (f i) (f (suc i)) (every_get (λ k. leb (f k) (f (suc k))) n h i (omega arith))

  pub never_falls_get : (n : ℕ) → never_falls f n ≡ true → UpOrLevel f n
  never_falls_get n h i zero l m = let z : i ≡ 0 = omega arith in omega (arith, ap f z)
  never_falls_get n h i (suc j) l m =
      dite (dec_lt i (suc j))
      (λ k. omega (arith, never_falls_get n h i j (omega arith) (omega arith), falls_next n h j m))
      (λ g. let z : i ≡ suc j = omega arith in omega (arith, ap f z))

-- one number has one place, and the next number the next place
module _ (f : ℕ → ℕ) (n : ℕ) (up : Up f n) where
  pub up_same : (i j : ℕ) → i < n → j < n → f i ≡ f j → i ≡ j
  up_same i j l m h =
      dite (dec_lt i j) (λ k. absurd (omega (arith, up i j k m)))
      (λ g. dite (dec_lt j i) (λ k. absurd (omega (arith, up j i k l))) (λ d. omega arith))

  up_back : (i j : ℕ) → i < n → j < n → f i < f j → i < j
  up_back i j l m h =
      dite (dec_lt i j) (λ k. k)
      (λ g. ⊎_elim (λ k. absurd (omega (arith, up j i k l))) (λ q. absurd (omega (arith, ap f q))) (below j i (omega arith)))

  pub up_after : (i j : ℕ) → i < n → j < n → f j ≡ suc (f i) → j ≡ suc i
  up_after i j l m h =
      let k = up_back i j l m (omega arith) in
      dite (dec_lt (suc i) j)
      (λ a. absurd (omega (arith, up i (suc i) (omega arith) (omega arith), up (suc i) j a m)))
      (λ g. omega arith)

  -- numbers below m: at most m of them
  pub up_size : (m : ℕ) → ((k : ℕ) → k < n → f k < m) → n ≤ m
  up_size m under = dite (dec_lt m n) (λ l. absurd (omega (arith, room m l, under m l))) (λ g. omega arith)
    where
      room : (k : ℕ) → k < n → k ≤ f k
      room zero h = omega arith
      room (suc k) h = omega (arith, room k (omega arith), up k (suc k) (omega arith) h)

-- each number of the one is one of the other: it stands no earlier there
up_within
    : (f g : ℕ → ℕ) (n m : ℕ)
    → Up f n
    → Up g m
    → ((i : ℕ) → i < n → (k : ℕ) × (k < m) × (g k ≡ f i))
    → (i k : ℕ)
    → i < n
    → k < m
    → g k ≡ f i
    → i ≤ k
up_within f g n m fs gs each zero k iIn kIn q = omega arith
up_within f g n m fs gs each (suc i) k iIn kIn q =
    let (h, hIn, r) = each i (omega arith) in
    let le = up_within f g n m fs gs each i h (omega arith) hIn r in
    let lt = up_back g m gs h k hIn kIn (omega (arith, fs i (suc i) (omega arith) iIn)) in
    omega arith

-- two with the same numbers are the same, place by place
pub up_equal
    : (f g : ℕ → ℕ) (n m : ℕ)
    → Up f n
    → Up g m
    → ((i : ℕ) → i < n → (k : ℕ) × (k < m) × (g k ≡ f i))
    → ((k : ℕ) → k < m → (i : ℕ) × (i < n) × (f i ≡ g k))
    → (i k : ℕ)
    → i < n
    → k < m
    → g k ≡ f i
    → i ≡ k
up_equal f g n m fs gs to from i k iIn kIn q =
    omega (arith, up_within f g n m fs gs to i k iIn kIn q, up_within g f m n gs fs from k i kIn iIn (sym q))
