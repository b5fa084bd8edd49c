-- The lookup of a pair leaves no choice; and where pairs rise strictly, it gives the one row of the pair.
use Rattle.std.specs.Prelude.{ℕ, ◌+◌, ◌≤◌, ◌<◌, ◌≡◌, true}
use Rattle.std.proofs.Common.{arith, sym, ap, ◌∙◌, ⊎_elim}
use Rattle.std.proofs.Math.Decide.{dec_lt}
use Rattle.std.proofs.Math.Logic.{dite}
use Rattle.rules.specs.Sheet.{Sheet, tightest}
use Rattle.laws.specs.Rise.{Up, rises_get, up_same}
use Rattle.laws.specs.Formed.{Formed}
use Rattle.laws.specs.Tightest.{InPair, low_of_row, high_of_row, low_found, high_found, high_most}
use Rattle.laws.specs.Pairs.{pair_key, tightest_at, row_itself, same_key, ends_once}
use Rattle.sheet.specs.View.{PairIs}
use Rattle.sheet.specs.declared.Pair.{Pair}
use Rattle.repeated_bounds.specs.FormerPairs.{pairs_rise}

-- one answer for each row at which a pair starts
pub looked_up_once
    : (s : Sheet) (i : ℕ) {c c' : Pair}
    → PairIs s i c
    → PairIs s i c'
    → (c.later ≡ c'.later) × (c.earlier ≡ c'.earlier) × (c.low ≡ c'.low) × (c.high ≡ c'.high) × (c.next ≡ c'.next)
looked_up_once s i p q = (
  p.later ∙ sym q.later,
  p.earlier ∙ sym q.earlier,
  p.low ∙ sym q.low,
  p.high ∙ sym q.high,
  omega (arith, ends_once s p.next q.next, ends_once s q.next p.next),
)

-- where pairs rise strictly, the tightest of a pair is its one row
module _ (s : Sheet) (f : Formed s) (rise : pairs_rise s ≡ true) (i : ℕ) (in_sheet : i < s.bounds) where
  up : Up (pair_key s) s.bounds
  unfolding pairs_rise
  up = rises_get (pair_key s) s.bounds rise

  abbrev e : ℕ
  e = (s.bound i).later

  abbrev d : ℕ
  d = (s.bound i).earlier

  alone : (k : ℕ) → InPair s e d k → k ≡ i
  alone k r = up_same (pair_key s) s.bounds up k i r.in_sheet in_sheet (same_key s e d k i r (row_itself s i in_sheet))

  one_low : (tightest_at s i).low ≡ (s.bound i).low
  one_low =
      ⊎_elim
      (λ z. let l = low_of_row s e d i (row_itself s i in_sheet) in omega arith)
      (λ (k, r, q). sym q ∙ ap (λ x. (s.bound x).low) (alone k r))
      (low_found s e d)

  one_high : (tightest_at s i).high ≡ (s.bound i).high
  one_high =
      ⊎_elim
      (λ z. let l = high_of_row s e d i (row_itself s i in_sheet) in omega (arith, (high_most (f.bound i in_sheet)).1))
      (λ (k, r, q). sym q ∙ ap (λ x. (s.bound x).high) (alone k r))
      (high_found s e d)

  pub one_row : tightest_at s i ≡ s.bound i
  unfolding tightest
  one_row = λ x. record { later = e; earlier = d; low = one_low x; high = one_high x }

  -- what the lookup gives: that row, and the row after it
  pub one_looked_up
      : {c : Pair}
      → PairIs s i c
      → (c.later ≡ e) × (c.earlier ≡ d) × (c.low ≡ (s.bound i).low) × (c.high ≡ (s.bound i).high) × (c.next ≡ i + 1)
  one_looked_up {c} p =
      let n = p.next in
      let last : c.next ≤ i + 1 = dite (dec_lt (i + 1) c.next)
      (λ l. absurd (omega (arith, alone (i + 1) (n.rows (i + 1) (omega arith) l))))
      (λ l. omega arith) in
      (p.later, p.earlier, p.low ∙ one_low, p.high ∙ one_high, omega (arith, n.above))
