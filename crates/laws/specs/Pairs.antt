-- The rows of the bounds, pair by pair: where a pair starts, the first row behind it, and its tightest low and high, row by row.
use Rattle.std.specs.Prelude.{ℕ, ◌+◌, ◌≤◌, ◌<◌, ◌≡◌, refl, ◌≢◌, false, cond, ltb}
use Rattle.std.proofs.Common.{arith, add-one, sym, subst, ◌∙◌, ⊎_elim}
use Rattle.std.proofs.Math.Decide.{dec_lt}
use Rattle.std.proofs.Math.Logic.{dite}
use Rattle.rules.specs.Sheet.{Sheet, Bound, bound_key, of_pair, tightest}
use Rattle.laws.specs.Bools.{decided}
use Rattle.laws.specs.Formed.{Formed}
use Rattle.laws.specs.Tightest.{InPair, of_pair_lem, is_of_pair, low_below, high_below, tightest_low, tightest_high, high_most}
use Rattle.laws.specs.Tightest.{low_start, low_step, low_stays, high_start, high_step, high_stays}

abbrev pub pair_key : Sheet → ℕ → ℕ
pair_key s i = bound_key (s.bound i)

-- the tightest of the pair of row i
abbrev pub tightest_at : Sheet → ℕ → Bound
tightest_at s i = tightest s (s.bound i).later (s.bound i).earlier

-- a pair starts at row i, or the rows end there: all rows before are of lower pairs than all from there on
abbrev pub PairStarts : Sheet → ℕ → Type 0
PairStarts s i = (k m : ℕ) → k < i → i ≤ m → m < s.bounds → pair_key s k < pair_key s m

-- a walk through the pairs has come to row i
pub record AtPair (s : Sheet) (i : ℕ) : Type 0 where
  pub within : i ≤ s.bounds
  pub starts : PairStarts s i

-- the rows of the pair of row i stand from i up to n, and n is the first row behind them
pub record PairEnds (s : Sheet) (i n : ℕ) : Type 0 where
  pub above : i < n
  pub within : n ≤ s.bounds
  pub rows : (k : ℕ) → i ≤ k → k < n → InPair s (s.bound i).later (s.bound i).earlier k
  pub behind : (k : ℕ) → n ≤ k → k < s.bounds → pair_key s i < pair_key s k

module _ (s : Sheet) where
  pub first_pair : AtPair s 0
  first_pair = record { within = omega arith; starts = λ k m l h r. absurd (omega arith) }

  -- rows of one pair have one key
  pub same_key : (e d i k : ℕ) → InPair s e d i → InPair s e d k → pair_key s i ≡ pair_key s k
  unfolding bound_key
  same_key e d i k p q = omega (arith, p.later, p.earlier, q.later, q.earlier)

  pub row_itself : (i : ℕ) → i < s.bounds → InPair s (s.bound i).later (s.bound i).earlier i
  row_itself i l = record { in_sheet = l; later = refl; earlier = refl }

  module _ {i n : ℕ} (p : PairEnds s i n) where
    -- a row of the pair, in its place
    ends_key : (k : ℕ) → i ≤ k → k < n → pair_key s k ≡ pair_key s i
    ends_key k l m =
        same_key _ _ k i (p.rows k l m) (row_itself i (omega (arith, p.above, p.within)))

    -- it has the tightest of the pair
    pub ends_tightest : (k : ℕ) → i ≤ k → k < n → tightest_at s k ≡ tightest_at s i
    ends_tightest k l m = let r = p.rows k l m in rw (r.later, r.earlier) refl

    -- the next pair starts there
    next_starts : PairStarts s i → PairStarts s n
    next_starts start k m l h r =
        dite (dec_lt k i)
        (λ x. start k m x (omega (arith, p.above)) r)
        (λ x. omega (arith, ends_key k (omega arith) l, p.behind m h r))

    pub next_pair : AtPair s i → AtPair s n
    next_pair w = record { within = p.within; starts = next_starts w.starts }

    -- and there is one such row
    pub ends_once : {m : ℕ} → PairEnds s i m → n ≤ m
    ends_once {m} q =
        dite (dec_lt m n)
        (λ x. absurd (omega (arith, ends_key m (omega (arith, q.above)) x, q.behind m (omega arith) (omega (arith, p.within)))))
        (λ x. omega arith)

-- ---- row by row

-- the rows from i up to n are of the pair of row i, and low and high are the tightest of them
pub record PairSoFar (s : Sheet) (i low high n : ℕ) : Type 0 where
  pub above : i < n
  pub within : n ≤ s.bounds
  pub rows : (k : ℕ) → i ≤ k → k < n → InPair s (s.bound i).later (s.bound i).earlier k
  pub is_low : low ≡ low_below s (s.bound i).later (s.bound i).earlier n
  pub is_high : high ≡ high_below s (s.bound i).later (s.bound i).earlier n

module _ (s : Sheet) (f : Formed s) (i : ℕ) (in_sheet : i < s.bounds) where
  abbrev later : ℕ
  later = (s.bound i).later

  abbrev earlier : ℕ
  earlier = (s.bound i).earlier

  other : (k : ℕ) → k < s.bounds → pair_key s k ≢ pair_key s i → of_pair s later earlier k ≡ false
  other k l h =
      ⊎_elim
      (λ p. let q = of_pair_lem s later earlier k p in
      absurd (h (same_key s later earlier k i (record { in_sheet = l; later = q.0; earlier = q.1 }) (row_itself s i in_sheet))))
      (λ p. p)
      (decided (of_pair s later earlier k))

  pub so_far_start : PairStarts s i → PairSoFar s i (s.bound i).low (s.bound i).high (i + 1)
  so_far_start start =
      let before : (k : ℕ) → k < i → of_pair s later earlier k ≡ false =
      λ k l. other k (omega arith) (λ h. omega (arith, start k i l (omega arith) in_sheet)) in
      let here = is_of_pair s later earlier i refl refl in
      record {
        above = omega arith;
        within = omega arith;
        rows = λ k l m. let q : i ≡ k = omega arith in subst (InPair s later earlier) q (row_itself s i in_sheet);
        is_low = sym (rw add-one (low_start s later earlier i before here));
        is_high = sym (rw add-one (high_start s later earlier i before here (high_most (f.bound i in_sheet)).1));
      }

  module _ {low high n : ℕ} (p : PairSoFar s i low high n) where
    pub so_far_step
        : n < s.bounds
        → (s.bound n).later ≡ later
        → (s.bound n).earlier ≡ earlier
        → PairSoFar s i (cond (ltb low (s.bound n).low) (s.bound n).low low) (cond (ltb (s.bound n).high high) (s.bound n).high high) (n + 1)
    so_far_step l x y =
        let here = is_of_pair s later earlier n x y in
        record {
          above = omega (arith, p.above);
          within = omega arith;
          rows =
              λ k g h.
              dite (dec_lt k n)
              (λ o. p.rows k g o)
              (λ o. let q : n ≡ k = omega arith in subst (InPair s later earlier) q (record { in_sheet = l; later = x; earlier = y }));
          is_low = rw (p.is_low, add-one n) (sym (low_step s later earlier n here));
          is_high = rw (p.is_high, add-one n) (sym (high_step s later earlier n here));
        }

    module _ (behind : (k : ℕ) → n ≤ k → k < s.bounds → pair_key s i < pair_key s k) where
      without : (k : ℕ) → n ≤ k → k < s.bounds → of_pair s later earlier k ≡ false
      without k l m = other k m (λ h. omega (arith, behind k l m))

      pub so_far_ends : PairEnds s i n
      so_far_ends = record { above = p.above; within = p.within; rows = p.rows; behind = behind }

      pub so_far_low : low ≡ (tightest s later earlier).low
      so_far_low = p.is_low ∙ sym (low_stays s later earlier n s.bounds p.within without) ∙ sym (tightest_low s later earlier)

      pub so_far_high : high ≡ (tightest s later earlier).high
      so_far_high = p.is_high ∙ sym (high_stays s later earlier n s.bounds p.within without) ∙ sym (tightest_high s later earlier)

    -- no row is left
    pub none_behind : s.bounds ≤ n → (k : ℕ) → n ≤ k → k < s.bounds → pair_key s i < pair_key s k
    none_behind h k l m = absurd (omega arith)

    -- the next row is of another pair
    pub other_behind : n < s.bounds → pair_key s n ≢ pair_key s i → (k : ℕ) → n ≤ k → k < s.bounds → pair_key s i < pair_key s k
    other_behind l h k g m = omega (arith, f.pairs i n (omega (arith, p.above)) l, f.pairs n k g m, h)
