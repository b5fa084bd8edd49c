-- Any list's instances divided into two groups: the sums of the groups make up the sum of the whole.
use Rattle.std.specs.Prelude.{ℕ, ◌+◌, ◌<◌, ◌≡◌, refl, Bool, true, not, cond, ◌&&◌, List, eqb}
use Rattle.std.proofs.Common.{arith, sym, ap, ◌∙◌, eqb-true, eq-eqb}
use Rattle.std.proofs.Math.Decide.{dec_lt}
use Rattle.std.proofs.Math.Logic.{dite}
use Rattle.rules.specs.Count.{count, first, sum}
use Rattle.rules.specs.Sheet.{Sheet}
use Rattle.rules.specs.RunList.{Plan}
use Rattle.rules.specs.Cost.{sum_of}
use Rattle.laws.specs.Bools.{and_get, and_put}
use Rattle.laws.specs.Counts.{count_at, count_find}
use Rattle.laws.specs.First.{first_of}
use Rattle.laws.specs.Sums.{sum_split, sum_marked}
use Rattle.billing.specs.Picked.{charge, picked, picked_sum}

-- ---- the groups as marks

-- the sum over the marked instances
unfoldable pub marked_sum : Sheet → Plan → List ℕ → (ℕ → Bool) → ℕ
marked_sum s p r m = sum (λ i. cond (m i) (charge s p r i) 0) p.count

pub split : (s : Sheet) (p : Plan) (r : List ℕ) (m : ℕ → Bool) → sum_of s p r ≡ marked_sum s p r m + marked_sum s p r (λ i. not (m i))
unfolding sum_of marked_sum
split s p r m = sum_split (charge s p r) m p.count

-- ---- the groups as lists of their own

-- the place below n that is marked and has k marked ones before it
unfoldable pub marked_at : (m : ℕ → Bool) → (n k : ℕ) → ℕ
marked_at m n k = first (λ i. m i && eqb (count m i) k) n

-- two marked places with as many before them are one
same_count : (m : ℕ → Bool) (i j : ℕ) → m i ≡ true → m j ≡ true → count m j ≡ count m i → j ≡ i
same_count m i j h k q =
    dite (dec_lt j i) (λ l. absurd (omega (arith, count_at m j i l k)))
    (λ g. dite (dec_lt i j) (λ l. absurd (omega (arith, count_at m i j l h))) (λ x. omega arith))

pub marked_at_lem : (m : ℕ → Bool) (n i : ℕ) → i < n → m i ≡ true → marked_at m n (count m i) ≡ i
unfolding marked_at
marked_at_lem m n i l h =
    first_of _ n i l (and_put h (eq-eqb (count m i) _ refl))
    (λ j k both. let (x, y) = and_get (m j) _ both in same_count m i j h x (eqb-true _ _ y))

-- and each place below their number is that of a marked one, with as many before it
pub marked_place
    : (m : ℕ → Bool) (n k : ℕ)
    → k < count m n
    → (marked_at m n k < n) × (m (marked_at m n k) ≡ true) × (count m (marked_at m n k) ≡ k)
marked_place m n k l =
    let (i, inside, h, q) = count_find m n k l in
    let here : marked_at m n k ≡ i = ap (marked_at m n) (sym q) ∙ marked_at_lem m n i inside h in
    rw here (inside, h, q)

-- the marked instances, in their order
unfoldable pub marked : Plan → (ℕ → Bool) → Plan
marked p m = picked p (marked_at m p.count) (count m p.count)

module _ (s : Sheet) (p : Plan) (r : List ℕ) (m : ℕ → Bool) where
  pub marked_sum_lem : sum_of s (marked p m) r ≡ marked_sum s p r m
  unfolding marked marked_sum
  marked_sum_lem = picked_sum s p r _ _ ∙ sum_marked (charge s p r) m (marked_at m p.count) p.count (marked_at_lem m p.count)

-- a list's sum is that of its marked and that of its other instances
pub split_plans
    : (s : Sheet) (p : Plan) (r : List ℕ) (m : ℕ → Bool) → sum_of s p r ≡ sum_of s (marked p m) r + sum_of s (marked p (λ i. not (m i))) r
split_plans s p r m = omega (arith, split s p r m, marked_sum_lem s p r m, marked_sum_lem s p r (λ i. not (m i)))
