-- The greatest and the least number at the places below a number that have a test: each is one of them or the start, and none is beyond it.
use Rattle.std.specs.Prelude.{ℕ, zero, suc, ◌≤◌, ◌<◌, ◌≡◌, ◌⊎◌, Bool, true, false, cond, ◌&&◌, ltb}
use Rattle.std.proofs.Common.{arith, sym, ap, ◌∙◌, inl, inr, ⊎_elim, ltb-true, ltb-false}
use Rattle.std.proofs.Math.Decide.{dec_lt}
use Rattle.std.proofs.Math.Path.{refl}
use Rattle.std.proofs.Math.Logic.{dite}
use Rattle.rules.specs.Count.{greatest, least}
use Rattle.laws.specs.Bools.{decided}
use Rattle.laws.specs.Places.{below}

-- ---- both at once

-- a direction in which numbers go, with its test: a comes before b
pub record Direction : Type 1 where
  pub before : ℕ → ℕ → Type 0
  pub same : (a : ℕ) → before a a
  pub then : (a b c : ℕ) → before a b → before b c → before a c
  pub ahead : ℕ → ℕ → Bool
  pub is_ahead : (a b : ℕ) → ahead a b ≡ true → before a b
  pub is_not : (a b : ℕ) → ahead a b ≡ false → before b a

abbrev pub upward : Direction
upward =
    record {
      before = λ a b. a ≤ b;
      same = λ a. omega arith;
      then = λ a b c h k. omega arith;
      ahead = ltb;
      is_ahead = λ a b h. omega (arith, ltb-true a b h);
      is_not = λ a b h. ltb-false a b h;
    }

abbrev pub downward : Direction
downward =
    record {
      before = λ a b. b ≤ a;
      same = λ a. omega arith;
      then = λ a b c h k. omega arith;
      ahead = λ a b. ltb b a;
      is_ahead = λ a b h. omega (arith, ltb-true b a h);
      is_not = λ a b h. ltb-false b a h;
    }

-- one place after the other, g goes on to f's number where the place has the test and the number lies ahead
abbrev pub Takes : (o : Direction) (test : ℕ → Bool) (f g : ℕ → ℕ) → Type 0
Takes o test f g = (n : ℕ) → g (suc n) ≡ cond (test n && o.ahead (g n) (f n)) (f n) (g n)

module _ (o : Direction) (test : ℕ → Bool) (f g : ℕ → ℕ) (next : Takes o test f g) where
  -- a place without the test changes nothing, and one with it takes the better
  left_out : (n : ℕ) → test n ≡ false → g (suc n) ≡ g n
  left_out n h = next n ∙ rw h refl

  pub taken : (n : ℕ) → test n ≡ true → g (suc n) ≡ cond (o.ahead (g n) (f n)) (f n) (g n)
  taken n h = next n ∙ rw h refl

  better
      : (n : ℕ)
      → test n ≡ true
      → o.before (g n) (g (suc n)) × o.before (f n) (g (suc n)) × ((g (suc n) ≡ f n) ⊎ (g (suc n) ≡ g n))
  better n h =
      ⊎_elim
      (λ p. let q : g (suc n) ≡ f n = taken n h ∙ rw p refl in rw q (o.is_ahead _ _ p, o.same _, inl refl))
      (λ p. let q : g (suc n) ≡ g n = taken n h ∙ rw p refl in rw q (o.same _, o.is_not _ _ p, inr refl))
      (decided (o.ahead (g n) (f n)))

  grows : (n : ℕ) → o.before (g n) (g (suc n))
  grows n = ⊎_elim (λ h. (better n h).0) (λ h. rw (left_out n h) (o.same _)) (decided (test n))

  best_from : (n : ℕ) → o.before (g 0) (g n)
  best_from zero = o.same _
  best_from (suc n) = o.then _ _ _ (best_from n) (grows n)

  pub best_above : (n i : ℕ) → i < n → test i ≡ true → o.before (f i) (g n)
  best_above zero i l h = absurd (omega arith)
  best_above (suc n) i l h =
      ⊎_elim (λ m. o.then _ _ _ (best_above n i m h) (grows n)) (λ q. rw q (better n (ap test (sym q) ∙ h)).1) (below i n l)

  -- it is one of the numbers, or there is none
  pub best_of : (n : ℕ) → (g n ≡ g 0) ⊎ ((i : ℕ) × (i < n) × (test i ≡ true) × (f i ≡ g n))
  best_of zero = inl refl
  best_of (suc n) =
      ⊎_elim (λ p. ⊎_elim (λ q. inr (n, omega arith, p, sym q)) (old (best_of n)) (better n p).2) (λ p. old (best_of n) (left_out n p))
      (decided (test n))
    where
      old
          : (g n ≡ g 0) ⊎ ((i : ℕ) × (i < n) × (test i ≡ true) × (f i ≡ g n))
          → g (suc n) ≡ g n
          → (g (suc n) ≡ g 0) ⊎ ((i : ℕ) × (i < suc n) × (test i ≡ true) × (f i ≡ g (suc n)))
      old w q = ⊎_elim (λ z. inl (q ∙ z)) (λ (i, l, t, r). inr (i, omega arith, t, r ∙ sym q)) w

  -- where no place has the test nothing changes
  pub best_stays : (n m : ℕ) → n ≤ m → ((i : ℕ) → n ≤ i → i < m → test i ≡ false) → g m ≡ g n
  best_stays n zero l h = let z : n ≡ 0 = omega arith in ap g (sym z)
  best_stays n (suc m) l h =
      dite (dec_lt m n)
      (λ k. let z : n ≡ suc m = omega arith in ap g (sym z))
      (λ k. left_out m (h m (omega arith) (omega arith)) ∙ best_stays n m (omega arith) (λ i x y. h i x (omega arith)))

-- ---- the greatest

module _ (test : ℕ → Bool) (f : ℕ → ℕ) where
  greatest_zero : (z : ℕ) → greatest test f z 0 ≡ z
  unfolding greatest
  greatest_zero z = refl

  greatest_suc : (z n : ℕ) → greatest test f z (suc n) ≡ cond (test n && ltb (greatest test f z n) (f n)) (f n) (greatest test f z n)
  unfolding greatest
  greatest_suc z n = refl

  pub greatest_above : (z n i : ℕ) → i < n → test i ≡ true → f i ≤ greatest test f z n
  greatest_above z n i l h = best_above upward test f (greatest test f z) (greatest_suc z) n i l h

  pub greatest_is : (z n : ℕ) → (greatest test f z n ≡ z) ⊎ ((i : ℕ) × (i < n) × (test i ≡ true) × (f i ≡ greatest test f z n))
  greatest_is z n = ⊎_elim (λ q. inl (q ∙ greatest_zero z)) inr (best_of upward test f (greatest test f z) (greatest_suc z) n)

-- ---- the least

module _ (test : ℕ → Bool) (f : ℕ → ℕ) where
  least_zero : (z : ℕ) → least test f z 0 ≡ z
  unfolding least
  least_zero z = refl

  least_suc : (z n : ℕ) → least test f z (suc n) ≡ cond (test n && ltb (f n) (least test f z n)) (f n) (least test f z n)
  unfolding least
  least_suc z n = refl

  pub least_below : (z n i : ℕ) → i < n → test i ≡ true → least test f z n ≤ f i
  least_below z n i l h = best_above downward test f (least test f z) (least_suc z) n i l h

  pub least_to : (z n : ℕ) → least test f z n ≤ z
  least_to z n = omega (arith, least_zero z, best_from downward test f (least test f z) (least_suc z) n)

  pub least_is : (z n : ℕ) → (least test f z n ≡ z) ⊎ ((i : ℕ) × (i < n) × (test i ≡ true) × (f i ≡ least test f z n))
  least_is z n = ⊎_elim (λ q. inl (q ∙ least_zero z)) inr (best_of downward test f (least test f z) (least_suc z) n)
