-- The greatest span of a job, as the greatest of a list of numbers.
use Prim.Native.Nat.{ℕ, zero, suc, ◌+◌, ◌-◌, ◌≤◌, ◌<◌, max}
use native.Mathlib.Omega.{arith}
use native.Mathlib.Nat.{eq-or-lt_of_le}
use mathlib.Core.Path.{◌≡◌, subst}
use mathlib.Core.Logic.{⊎_elim}
use mathlib.Core.List.{List}
use lib.ListN.{get_or}
use Rattle.std.specs.List.{fold, range_with_len}
use Rattle.own_times.specs.View.{StrideIs}

-- the greatest of a and of n sizes from i on
module _ (size : ℕ → ℕ) where
  abbrev most : (a i n : ℕ) → ℕ
  most a i n = fold (λ b j. max b (size j)) a (range_with_len i n)

  first_below : (a i n : ℕ) → a ≤ most a i n
  first_below a i zero = omega arith
  first_below a i (suc n) = let h = first_below (max a (size i)) (i + 1) n in omega (arith, h)

  size_below : (a i n j : ℕ) → i ≤ j → j < i + n → size j ≤ most a i n
  size_below a i zero j p q = absurd (omega arith)
  size_below a i (suc n) j p q =
      ⊎_elim
      (λ (e : i ≡ j).
      subst (λ k. size k ≤ most (max a (size i)) (i + 1) n) e
      (let h = first_below (max a (size i)) (i + 1) n in omega (arith, h)))
      (λ l. size_below (max a (size i)) (i + 1) n j (omega arith) (omega arith))
      (eq-or-lt_of_le p)

  most_below : (a i n k : ℕ) → a ≤ k → ((j : ℕ) → i ≤ j → j < i + n → size j ≤ k) → most a i n ≤ k
  most_below a i zero k p q = p
  most_below a i (suc n) k p q =
      most_below (max a (size i)) (i + 1) n k (omega (arith, p, q i (omega arith) (omega arith))) (λ j l m. q j (omega arith) (omega arith))

abbrev pub size_of : List ℕ → ℕ → ℕ
size_of jobs j = get_or jobs (j + 1) 0 - get_or jobs j 0

pub stride_of : (n : ℕ) (jobs : List ℕ) {m : ℕ} → m ≡ fold (λ a j. max a (size_of jobs j)) 0 (range_with_len 0 n) → StrideIs n jobs m
stride_of n jobs e =
    record {
      spans = λ j l. omega (arith, e, size_below (size_of jobs) 0 0 n j (omega arith) (omega arith));
      least = λ k h. omega (arith, e, most_below (size_of jobs) 0 0 n k (omega arith) (λ j l r. omega (arith, h j (omega arith))));
    }
