-- The marked jobs, listed by rising number: job j stands at the place that counts the marked jobs below it.
use Rattle.std.specs.Prelude.{ℕ, ◌<◌, ◌≡◌, refl, Bool, true, ◌&&◌}
use Rattle.std.proofs.Common.{arith, sym, ap, ◌∙◌, eq-eqb, eqb-true}
use Rattle.std.proofs.Math.Decide.{dec_lt}
use Rattle.std.proofs.Math.Logic.{dite}
use Rattle.std.proofs.Math.Dec.{eqb}
use Rattle.rules.specs.Count.{count, first}
use Rattle.laws.specs.Bools.{and_get, and_put}
use Rattle.laws.specs.Counts.{count_at, count_up, count_find}
use Rattle.laws.specs.First.{first_of}
use Rattle.theory.specs.Why.Places.{PlacesOf}

-- the marked job below n that has k marked jobs below it
unfoldable pub nth : (ℕ → Bool) → (n k : ℕ) → ℕ
nth m n k = first (λ j. m j && eqb (count m j) k) n

module _ (m : ℕ → Bool) where
  -- of two marked jobs with as many below them
  place_once : (i j : ℕ) → m i ≡ true → m j ≡ true → count m i ≡ count m j → i ≡ j
  place_once i j p q h =
      dite (dec_lt i j) (λ l. absurd (omega (arith, count_at m i j l p)))
      (λ g. dite (dec_lt j i) (λ l. absurd (omega (arith, count_at m j i l q))) (λ f. omega arith))

  pub nth_at : (n j : ℕ) → j < n → m j ≡ true → nth m n (count m j) ≡ j
  unfolding nth
  nth_at n j h q =
      first_of (λ i. m i && eqb (count m i) (count m j)) n j h (and_put q (eq-eqb (count m j) (count m j) refl))
      (λ i l r. let p = and_get (m i) (eqb (count m i) (count m j)) r in place_once i j p.0 q (eqb-true _ _ p.1))

  -- what stands at place k
  pub record Place (n k : ℕ) : Type 0 where
    pub job : ℕ
    pub inside : job < n
    pub has : m job ≡ true
    pub number : count m job ≡ k
    pub at : nth m n k ≡ job

  pub place : (n k : ℕ) → k < count m n → Place n k
  place n k h =
      let (j, l, q, c) = count_find m n k h in
      record { job = j; inside = l; has = q; number = c; at = ap (nth m n) (sym c) ∙ nth_at n j l q }

  pub place_rises : (n i k : ℕ) → Place n i → Place n k → i < k → nth m n i < nth m n k
  place_rises n i k p q l =
      dite (dec_lt p.job q.job) (λ h. omega (arith, p.at, q.at))
      (λ g. absurd (omega (arith, count_up m q.job p.job (omega arith), p.number, q.number)))

  -- the marked jobs are those that have P: they are listed
  unfoldable pub listed
      : {P : ℕ → Type 0} (n : ℕ) → ((j : ℕ) → m j ≡ true → P j) → ((j : ℕ) → P j → m j ≡ true) → PlacesOf P n
  listed n to from =
      record {
        count = count m n;
        at = nth m n;
        inside = λ k h. let p = place n k h in omega (arith, p.at, p.inside);
        has = λ k h. let p = place n k h in rw p.at (to p.job p.has);
        rising = λ i k l h. place_rises n i k (place n i (omega arith)) (place n k h) l;
        whole = λ j l h. (count m j, count_at m j n l (from j h), nth_at n j l (from j h));
      }
