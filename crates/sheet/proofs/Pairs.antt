-- Looking up a pair: its first row, one row more, and the row behind it.
use Prim.Native.Nat.{ℕ, ◌+◌, ◌≤◌, ◌<◌, max, min}
use native.Mathlib.Omega.{arith}
use mathlib.Core.Path.{◌≡◌, refl, sym, subst, ◌∙◌}
use mathlib.Core.Logic.{◌≢◌, ⊎_elim}
use mathlib.Core.Bool.{Bool, true, false, cond, not, ◌||◌}
use mathlib.Core.List.{List}
use lib.Dec.{ltb, eqb}
use borrow.Author.Tests.{eqb-true, eqb-false, ltb-true, ltb-false, not-true}
use Rattle.rules.specs.Sheet.{bound_key}
use Rattle.laws.specs.Bools.{clash, or_get}
use Rattle.laws.specs.Pairs.{pair_key, PairSoFar, so_far_start, so_far_step, so_far_ends, so_far_low, so_far_high, none_behind, other_behind}
use Rattle.numbers.specs.Size.{word}
use Rattle.sheet.specs.declared.Sheet.{Sheet}
use Rattle.sheet.specs.declared.Bound.{Bound}
use Rattle.sheet.specs.declared.Pair.{Pair}
use Rattle.sheet.specs.View.{meaning, IsFormed, BoundIs, PairRow, PairIs}

-- the rows up to n, with low and high that have room
pub record UpTo (v : Sheet) (b : List ℕ) (i low high n : ℕ) : Type 0 where
  pub so_far : PairSoFar (meaning v b) i low high n
  pub small_low : low < word
  pub small_high : high < word

-- p has the events of c, these sides and the row behind
abbrev pub PairMade : Bound → (low high next : ℕ) → Pair → Type 0
PairMade c low high next p = (p.later ≡ c.later) × (p.earlier ≡ c.earlier) × (p.low ≡ low) × (p.high ≡ high) × (p.next ≡ next)

-- the test of both events
pub alike : (e x d y : ℕ) → not (eqb e x) || not (eqb d y) ≡ false → (e ≡ x) × (d ≡ y)
alike e x d y h = both (eqb e x) (eqb d y) (eqb-true e x) (eqb-true d y) h
  where
    both : (a b : Bool) → (a ≡ true → e ≡ x) → (b ≡ true → d ≡ y) → not a || not b ≡ false → (e ≡ x) × (d ≡ y)
    both true true p q h = (p refl, q refl)
    both true false p q h = absurd (clash refl h)
    both false b p q h = absurd (clash refl h)

pub unlike : (e x d y : ℕ) → not (eqb e x) || not (eqb d y) ≡ true → e ≡ x → d ≢ y
unlike e x d y h p =
    ⊎_elim (λ q. absurd (eqb-false e x (not-true _ q) p)) (λ q. eqb-false d y (not-true _ q)) (or_get (not (eqb e x)) (not (eqb d y)) h)

-- the greater and the lesser of two, as a test says them
greater_is : (x y : ℕ) → max x y ≡ cond (ltb x y) y x
greater_is x y = pick (ltb x y) refl
  where
    pick : (t : Bool) → ltb x y ≡ t → max x y ≡ cond t y x
    pick true h = omega (arith, ltb-true x y h)
    pick false h = omega (arith, ltb-false x y h)

lesser_is : (x y : ℕ) → min x y ≡ cond (ltb y x) y x
lesser_is x y = pick (ltb y x) refl
  where
    pick : (t : Bool) → ltb y x ≡ t → min x y ≡ cond t y x
    pick true h = omega (arith, ltb-true y x h)
    pick false h = omega (arith, ltb-false y x h)

module _ {v : Sheet} {b : List ℕ} (w : IsFormed v b) {i : ℕ} (row : PairRow (meaning v b) i) {first : Bound}
    (is : BoundIs ((meaning v b).bound i) first) where
  pub up_to_start : UpTo v b i first.low first.high (i + 1)
  up_to_start =
      record {
        so_far = rw (is.low, is.high) (so_far_start (meaning v b) w.formed i row.in_sheet row.starts);
        small_low = is.small_low;
        small_high = is.small_high;
      }

  module _ {low high n : ℕ} (u : UpTo v b i low high n) where
    module _ (l : n < v.bounds) {c : Bound} (at : BoundIs ((meaning v b).bound n) c) where
      inside : n < (meaning v b).bounds
      inside = omega (arith, w.sheet.bounds)

      -- the row is of the pair
      pub up_to_step
          : {low' high' : ℕ}
          → c.later ≡ first.later
          → c.earlier ≡ first.earlier
          → low' ≡ max low c.low
          → high' ≡ min high c.high
          → UpTo v b i low' high' (n + 1)
      up_to_step x y p q =
          record {
            so_far =
                rw (p ∙ greater_is low c.low, q ∙ lesser_is high c.high, at.low, at.high)
                (so_far_step (meaning v b) w.formed i row.in_sheet u.so_far inside (sym at.later ∙ x ∙ is.later)
                (sym at.earlier ∙ y ∙ is.earlier));
            small_low = omega (arith, p, at.small_low, u.small_low);
            small_high = omega (arith, q, at.small_high, u.small_high);
          }

      -- it is not
      pub other_row : (c.later ≡ first.later → c.earlier ≢ first.earlier) → pair_key (meaning v b) n ≢ pair_key (meaning v b) i
      unfolding bound_key
      other_row h k =
          h
          (omega (arith, k, at.small_earlier, is.small_earlier, at.later, at.earlier, is.later, is.earlier))
          (omega (arith, k, at.small_earlier, is.small_earlier, at.later, at.earlier, is.later, is.earlier))

    pair_ends
        : ((k : ℕ) → n ≤ k → k < (meaning v b).bounds → pair_key (meaning v b) i < pair_key (meaning v b) k)
        → {p : Pair}
        → PairMade first low high n p
        → PairIs (meaning v b) i p
    pair_ends behind {p} (later, earlier, is_low, is_high, next) =
        let s = meaning v b in
        record {
          later = later ∙ is.later;
          earlier = earlier ∙ is.earlier;
          low = is_low ∙ so_far_low s w.formed i row.in_sheet u.so_far behind;
          high = is_high ∙ so_far_high s w.formed i row.in_sheet u.so_far behind;
          next = rw next (so_far_ends s w.formed i row.in_sheet u.so_far behind);
          small_later = omega (arith, later, is.small_later);
          small_earlier = omega (arith, earlier, is.small_earlier);
          small_low = omega (arith, is_low, u.small_low);
          small_high = omega (arith, is_high, u.small_high);
        }

    pub ends_at_last : v.bounds ≡ n → {p : Pair} → PairMade first low high v.bounds p → PairIs (meaning v b) i p
    ends_at_last h {p} made =
        pair_ends (none_behind (meaning v b) w.formed i row.in_sheet u.so_far (omega (arith, w.sheet.bounds)))
        (subst (λ (k : ℕ). PairMade first low high k p) h made)

    pub ends_at_other
        : n < v.bounds
        → pair_key (meaning v b) n ≢ pair_key (meaning v b) i
        → {p : Pair}
        → PairMade first low high n p
        → PairIs (meaning v b) i p
    ends_at_other l h =
        pair_ends (other_behind (meaning v b) w.formed i row.in_sheet u.so_far (omega (arith, w.sheet.bounds)) h)
