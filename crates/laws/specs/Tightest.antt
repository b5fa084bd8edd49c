-- The tightest low and high of a pair: the greatest low and the least high of its rows. Ticks meet those of a pair that has a row exactly if
-- they meet each row; own times within the horizon meet those of a pair without rows too (repeated_bounds).
use Rattle.std.specs.Prelude.{ℕ, suc, ◌+◌, ◌≤◌, ◌<◌, ◌≡◌, ◌↔◌, ◌⊎◌, true, false, cond, ◌&&◌, ltb}
use Rattle.std.proofs.Common.{arith, sym, ap, ◌∙◌, inl, inr, ⊎_elim, ltb-false, eqb-true, eq-eqb}
use Rattle.std.proofs.Math.Path.{refl}
use Rattle.rules.specs.Count.{greatest, least}
use Rattle.rules.specs.Sheet.{Sheet, Bound, origin, of_pair, tightest, max_horizon}
use Rattle.rules.specs.Plan.{Meets}
use Rattle.laws.specs.Bools.{decided, and_get, and_put}
use Rattle.laws.specs.Limits.{no_low, no_high}
use Rattle.laws.specs.Formed.{Formed, FormedBound}
use Rattle.laws.specs.Extremes.{upward, downward, taken, best_above, best_of, best_stays}

-- none never loosens
above_none : (x : ℕ) → cond (ltb no_low x) x no_low ≡ x
above_none x =
    ⊎_elim (λ h. rw h refl) (λ h. rw h (let q : no_low ≡ x = omega (arith, ltb-false no_low x h) in q)) (decided (ltb no_low x))

below_none : (x : ℕ) → x ≤ no_high → cond (ltb x no_high) x no_high ≡ x
below_none x l =
    ⊎_elim (λ h. rw h refl) (λ h. rw h (let q : no_high ≡ x = omega (arith, ltb-false x no_high h) in q)) (decided (ltb x no_high))

-- ---- the rows of a pair

-- row i of the sheet is of the pair (e, d)
pub record InPair (s : Sheet) (e d i : ℕ) : Type 0 where
  pub in_sheet : i < s.bounds
  pub later : (s.bound i).later ≡ e
  pub earlier : (s.bound i).earlier ≡ d

pub of_pair_lem : (s : Sheet) (e d i : ℕ) → of_pair s e d i ≡ true → ((s.bound i).later ≡ e) × ((s.bound i).earlier ≡ d)
unfolding of_pair
of_pair_lem s e d i h = let p = and_get _ _ h in (eqb-true _ _ p.0, eqb-true _ _ p.1)

pub is_of_pair : (s : Sheet) (e d i : ℕ) → (s.bound i).later ≡ e → (s.bound i).earlier ≡ d → of_pair s e d i ≡ true
unfolding of_pair
is_of_pair s e d i p q = and_put (eq-eqb _ _ p) (eq-eqb _ _ q)

-- the greatest low and the least high of the rows below n
module _ (s : Sheet) (e d : ℕ) where
  unfoldable pub low_below : ℕ → ℕ
  low_below n = greatest (of_pair s e d) (λ i. (s.bound i).low) 0 n

  unfoldable pub high_below : ℕ → ℕ
  high_below n = least (of_pair s e d) (λ i. (s.bound i).high) 65535 n

module _ (s : Sheet) (e d : ℕ) where
  low_next
      : (n : ℕ)
      → low_below s e d (suc n) ≡ cond (of_pair s e d n && ltb (low_below s e d n) (s.bound n).low) (s.bound n).low (low_below s e d n)
  unfolding low_below greatest
  low_next n = refl

  high_next
      : (n : ℕ)
      → high_below s e d (suc n) ≡ cond (of_pair s e d n && ltb (s.bound n).high (high_below s e d n)) (s.bound n).high (high_below s e d n)
  unfolding high_below least
  high_next n = refl

  pub tightest_low : (tightest s e d).low ≡ low_below s e d s.bounds
  unfolding tightest low_below
  tightest_low = refl

  pub tightest_high : (tightest s e d).high ≡ high_below s e d s.bounds
  unfolding tightest high_below
  tightest_high = refl

  -- no row is tighter, and each side is that of a row, or none
  pub low_of_row : (i : ℕ) → InPair s e d i → (s.bound i).low ≤ (tightest s e d).low
  low_of_row i r =
      let p = is_of_pair s e d i r.later r.earlier in
      let q
      : (s.bound i).low ≤ low_below s e d s.bounds
      = best_above upward (of_pair s e d) (λ k. (s.bound k).low) (low_below s e d) low_next s.bounds i r.in_sheet p
      in
      omega (arith, tightest_low)

  pub high_of_row : (i : ℕ) → InPair s e d i → (tightest s e d).high ≤ (s.bound i).high
  high_of_row i r =
      let p = is_of_pair s e d i r.later r.earlier in
      let q
      : high_below s e d s.bounds ≤ (s.bound i).high
      = best_above downward (of_pair s e d) (λ k. (s.bound k).high) (high_below s e d) high_next s.bounds i r.in_sheet p
      in
      omega (arith, tightest_high)

  low_none : low_below s e d 0 ≡ no_low
  unfolding low_below greatest
  low_none = refl

  high_none : high_below s e d 0 ≡ no_high
  unfolding high_below least
  high_none = refl

  -- rows of other pairs, one row more of this one, and its first row
  pub low_stays : (n m : ℕ) → n ≤ m → ((i : ℕ) → n ≤ i → i < m → of_pair s e d i ≡ false) → low_below s e d m ≡ low_below s e d n
  low_stays = best_stays upward (of_pair s e d) (λ i. (s.bound i).low) (low_below s e d) low_next

  pub low_step
      : (n : ℕ)
      → of_pair s e d n ≡ true
      → low_below s e d (suc n) ≡ cond (ltb (low_below s e d n) (s.bound n).low) (s.bound n).low (low_below s e d n)
  low_step = taken upward (of_pair s e d) (λ i. (s.bound i).low) (low_below s e d) low_next

  pub low_start
      : (n : ℕ)
      → ((i : ℕ) → i < n → of_pair s e d i ≡ false)
      → of_pair s e d n ≡ true
      → low_below s e d (suc n) ≡ (s.bound n).low
  low_start n before here =
      low_step n here ∙ rw (low_stays 0 n (omega arith) (λ i l m. before i m) ∙ low_none) (above_none (s.bound n).low)

  pub high_stays
      : (n m : ℕ)
      → n ≤ m
      → ((i : ℕ) → n ≤ i → i < m → of_pair s e d i ≡ false)
      → high_below s e d m ≡ high_below s e d n
  high_stays = best_stays downward (of_pair s e d) (λ i. (s.bound i).high) (high_below s e d) high_next

  pub high_step
      : (n : ℕ)
      → of_pair s e d n ≡ true
      → high_below s e d (suc n) ≡ cond (ltb (s.bound n).high (high_below s e d n)) (s.bound n).high (high_below s e d n)
  high_step = taken downward (of_pair s e d) (λ i. (s.bound i).high) (high_below s e d) high_next

  pub high_start
      : (n : ℕ)
      → ((i : ℕ) → i < n → of_pair s e d i ≡ false)
      → of_pair s e d n ≡ true
      → (s.bound n).high ≤ no_high
      → high_below s e d (suc n) ≡ (s.bound n).high
  high_start n before here l =
      high_step n here ∙ rw (high_stays 0 n (omega arith) (λ i k m. before i m) ∙ high_none) (below_none (s.bound n).high l)

  in_pair : (i : ℕ) → i < s.bounds → of_pair s e d i ≡ true → InPair s e d i
  in_pair i l h = let p = of_pair_lem s e d i h in record { in_sheet = l; later = p.0; earlier = p.1 }

  pub low_found : ((tightest s e d).low ≡ no_low) ⊎ ((i : ℕ) × InPair s e d i × ((s.bound i).low ≡ (tightest s e d).low))
  low_found =
      ⊎_elim
      (λ q. inl (tightest_low ∙ q ∙ low_none))
      (λ (i, l, h, q). inr (i, in_pair i l h, q ∙ sym tightest_low))
      (best_of upward _ _ (low_below s e d) low_next s.bounds)

  pub high_found : ((tightest s e d).high ≡ no_high) ⊎ ((i : ℕ) × InPair s e d i × ((s.bound i).high ≡ (tightest s e d).high))
  high_found =
      ⊎_elim
      (λ q. inl (tightest_high ∙ q ∙ high_none))
      (λ (i, l, h, q). inr (i, in_pair i l h, q ∙ sym tightest_high))
      (best_of downward _ _ (high_below s e d) high_next s.bounds)

  tightest_later : (tightest s e d).later ≡ e
  unfolding tightest
  tightest_later = refl

  tightest_earlier : (tightest s e d).earlier ≡ d
  unfolding tightest
  tightest_earlier = refl

-- a high that is there is no lower than any tick asks, and a row's high is at most none
pub high_most : {s : Sheet} {c : Bound} → FormedBound s c → (0 < c.high) × (c.high ≤ no_high)
unfolding origin max_horizon
high_most f = ⊎_elim (λ p. (omega arith, omega arith)) (λ p. (omega arith, omega arith)) f.high

-- ---- ticks that meet it

module _ (s : Sheet) (e d : ℕ) (t : ℕ → ℕ) where
  -- a low and a high, of the two ticks
  abbrev pub MeetsSides : (low high : ℕ) → Type 0
  MeetsSides low high = (t d + low ≤ t e + origin) × (t e + origin ≤ t d + high)

  row_meets : (i : ℕ) → InPair s e d i → Meets (s.bound i) t → MeetsSides (s.bound i).low (s.bound i).high
  row_meets i r m = (omega (arith, m.low, ap t r.later, ap t r.earlier), omega (arith, m.high, ap t r.later, ap t r.earlier))

  pub meets_row : (i : ℕ) → InPair s e d i → Meets (tightest s e d) t → Meets (s.bound i) t
  meets_row i r m =
      let later = ap t r.later in
      let earlier = ap t r.earlier in
      let e' = ap t (tightest_later s e d) in
      let d' = ap t (tightest_earlier s e d) in
      record {
        low = omega (arith, m.low, low_of_row s e d i r);
        high = omega (arith, m.high, high_of_row s e d i r);
      }

  -- each row is met, and so is none
  pub meets_all : MeetsSides no_low no_high → ((i : ℕ) → InPair s e d i → Meets (s.bound i) t) → Meets (tightest s e d) t
  meets_all none all =
      let e' = ap t (tightest_later s e d) in
      let d' = ap t (tightest_earlier s e d) in
      record {
        low =
            ⊎_elim
            (λ q. omega (arith, none.0))
            (λ (i, r, q). omega (arith, (row_meets i r (all i r)).0))
            (low_found s e d);
        high =
            ⊎_elim
            (λ q. omega (arith, none.1))
            (λ (i, r, q). omega (arith, (row_meets i r (all i r)).1))
            (high_found s e d);
      }

  -- of a pair that has a row
  pub tightest_meets
      : Formed s → (k : ℕ) → InPair s e d k → Meets (tightest s e d) t ↔ ((i : ℕ) → InPair s e d i → Meets (s.bound i) t)
  tightest_meets f k row = (
    λ m i r. meets_row i r m,
    λ all.
        let m = row_meets k row (all k row) in
        meets_all (omega (arith, m.0), omega (arith, m.1, (high_most (f.bound k row.in_sheet)).1)) all,
  )
