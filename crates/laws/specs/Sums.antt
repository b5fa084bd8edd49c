-- Sums over the places below a number.
use Prim.Native.Nat.{ℕ, zero, suc, ◌+◌, ◌*◌, ◌≤◌, ◌<◌}
use Rattle.std.proofs.Common.{arith, suc-mul, sym, ap, ◌∙◌, ⊎_elim, eq-eqb, ne_eqb}
use Rattle.std.specs.Prelude.{◌≡◌, ◌≢◌, Bool, true, false, not, cond, eqb}
use Rattle.std.proofs.Math.Path.{refl}
use Rattle.rules.specs.Count.{count, sum}
use Rattle.laws.specs.Bools.{decided}
use Rattle.laws.specs.Places.{below}
use Rattle.laws.specs.Counts.{count_zero, count_yes, count_no}

module _ (f : ℕ → ℕ) where
  pub sum_zero : sum f 0 ≡ 0
  unfolding sum
  sum_zero = refl

  pub sum_suc : (n : ℕ) → sum f (suc n) ≡ sum f n + f n
  unfolding sum
  sum_suc n = refl

  -- f is 0 everywhere
  sum_none : (n : ℕ) → ((i : ℕ) → i < n → f i ≡ 0) → sum f n ≡ 0
  sum_none zero h = sum_zero
  sum_none (suc n) h = omega (arith, sum_suc n, h n (omega arith), sum_none n (λ i l. h i (omega arith)))

  -- f is 0 but at place k
  sum_at : (n k : ℕ) → k < n → ((i : ℕ) → i < n → i ≢ k → f i ≡ 0) → sum f n ≡ f k
  sum_at zero k l h = absurd (omega arith)
  sum_at (suc n) k l h =
      ⊎_elim
      (λ m. omega (arith, sum_suc n, h n (omega arith) (λ q. omega arith), sum_at n k m (λ i j. h i (omega arith))))
      (λ q. omega (arith, sum_suc n, ap f q, sum_none n (λ i j. h i (omega arith) (λ z. omega arith))))
      (below k n l)

  -- f is at most u
  pub sum_most : (u n : ℕ) → ((i : ℕ) → i < n → f i ≤ u) → sum f n ≤ n * u
  sum_most u zero h = omega (arith, sum_zero)
  sum_most u (suc n) h = omega (arith, sum_suc n, suc-mul n u, h n (omega arith), sum_most u n (λ i l. h i (omega arith)))

module _ (f g : ℕ → ℕ) where
  pub sum_below : (n : ℕ) → ((i : ℕ) → i < n → f i ≡ g i) → sum f n ≡ sum g n
  unfolding sum
  sum_below zero h = refl
  sum_below (suc n) h = rw (sum_below n (λ i l. h i (omega arith)), h n (omega arith))

  sum_add : (n : ℕ) → sum (λ i. f i + g i) n ≡ sum f n + sum g n
  sum_add zero = omega (arith, sum_zero f, sum_zero g, sum_zero (λ i. f i + g i))
  sum_add (suc n) = omega (arith, sum_suc f n, sum_suc g n, sum_suc (λ i. f i + g i) n, sum_add n)

-- two sums change places
sum_exchange : (f : ℕ → ℕ → ℕ) (n m : ℕ) → sum (λ i. sum (f i) m) n ≡ sum (λ j. sum (λ i. f i j) n) m
unfolding sum
sum_exchange f zero m = sym (sum_none (λ j. 0) m (λ i l. refl))
sum_exchange f (suc n) m = rw (sum_exchange f n m) (sym (sum_add (λ j. sum (λ i. f i j) n) (f n) m))

-- ---- the places with a test, and those without

module _ (f : ℕ → ℕ) (m : ℕ → Bool) where
  either : (t : Bool) (x : ℕ) → x ≡ cond t x 0 + cond (not t) x 0
  either true x = omega arith
  either false x = omega arith

  pub sum_split : (n : ℕ) → sum f n ≡ sum (λ i. cond (m i) (f i) 0) n + sum (λ i. cond (not (m i)) (f i) 0) n
  sum_split n = sum_below _ _ n (λ i l. either (m i) (f i)) ∙ sum_add _ _ n

  -- the places with the test one after the other: at k stands the one that has k of them before it
  pub sum_marked
      : (at : ℕ → ℕ) (n : ℕ)
      → ((i : ℕ) → i < n → m i ≡ true → at (count m i) ≡ i)
      → sum (λ k. f (at k)) (count m n) ≡ sum (λ i. cond (m i) (f i) 0) n
  sum_marked at zero h = ap (sum (λ k. f (at k))) (count_zero m) ∙ (sum_zero _ ∙ sym (sum_zero _))
  sum_marked at (suc n) h =
      let old = sum_marked at n (λ i l. h i (omega arith)) in
      let next = sum_suc (λ i. cond (m i) (f i) 0) n in
      ⊎_elim
      (λ q.
      ap (sum (λ k. f (at k))) (count_yes m n q)
      ∙ omega (arith, sum_suc (λ k. f (at k)) (count m n), ap f (h n (omega arith) q), ap (λ (t : Bool). cond t (f n) 0) q))
      (λ q. ap (sum (λ k. f (at k))) (count_no m n q) ∙ omega (arith, ap (λ (t : Bool). cond t (f n) 0) q))
      (decided (m n))

-- ---- another order

-- π takes the places below n to places below n, and ρ takes them back
pub record Reorders (π ρ : ℕ → ℕ) (n : ℕ) : Type 0 where
  pub inside : (i : ℕ) → i < n → π i < n
  pub back : (i : ℕ) → i < n → ρ (π i) ≡ i

pub sum_order
    : (f π ρ : ℕ → ℕ) (n : ℕ) → Reorders π ρ n → Reorders ρ π n → sum (λ i. f (π i)) n ≡ sum f n
sum_order f π ρ n to from =
    sum_below _ _ n (λ i l. sym (row i l)) ∙ sum_exchange cell n n ∙ sum_below _ _ n column
  where
    -- f's number j, where place i is taken to j
    cell : ℕ → ℕ → ℕ
    cell i j = cond (eqb j (π i)) (f j) 0

    row : (i : ℕ) → i < n → sum (cell i) n ≡ f (π i)
    row i l = sum_at (cell i) n (π i) (to.inside i l) (λ j m g. rw (ne_eqb j (π i) g)) ∙ rw (eq-eqb (π i) (π i) refl)

    column : (j : ℕ) → j < n → sum (λ i. cell i j) n ≡ f j
    column j l =
        sum_at (λ i. cell i j) n (ρ j) (from.inside j l)
        (λ i m g. rw (ne_eqb j (π i) (λ q. g (sym (to.back i m) ∙ ap ρ (sym q)))))
        ∙ rw (eq-eqb j (π (ρ j)) (sym (from.back j l)))
