-- The sides of a bound, with the ends of their range in the place of none: one test of both is that of the definitions.
use Prim.Native.Nat.{ℕ, ◌+◌, ◌≤◌}
use native.Mathlib.Omega.{arith}
use mathlib.Core.Path.{◌≡◌, refl}
use mathlib.Core.Logic.{◌≢◌, ◌⊎◌, inl, inr, ⊎_elim}
use mathlib.Core.Bool.{true, cond, ◌&&◌, ◌||◌}
use lib.Dec.{leb, eqb}
use borrow.Author.Tests.{eqb-true, eqb-false, eq-eqb, le-leb, leb-true}
use Rattle.rules.specs.Sheet.{origin, max_horizon, within_horizon}
use Rattle.laws.specs.Bools.{decided, and_get, and_put, or_get, or_left, or_right, same}
use Rattle.laws.specs.Limits.{no_low, no_high}
use Rattle.reader.specs.Adjacent.{sides_ok}

-- a side, with the end of its range in the place of none
side_is : (x none end : ℕ) → ((x ≡ none) × (cond (eqb x none) end x ≡ end)) ⊎ ((x ≢ none) × (cond (eqb x none) end x ≡ x))
side_is x none end =
    ⊎_elim (λ p. inl (eqb-true x none p, rw p refl)) (λ p. inr (eqb-false x none p, rw p refl)) (decided (eqb x none))

-- -10,080 and 10,080, plus 32,768
abbrev least_side : ℕ
least_side = 22688

abbrev most_side : ℕ
most_side = 42848

within_put : (x : ℕ) → least_side ≤ x → x ≤ most_side → within_horizon x ≡ true
unfolding within_horizon origin max_horizon
within_put x l h = and_put (le-leb origin (x + max_horizon) (omega arith)) (le-leb x (origin + max_horizon) (omega arith))

within_get : (x : ℕ) → within_horizon x ≡ true → (least_side ≤ x) × (x ≤ most_side)
unfolding within_horizon origin max_horizon
within_get x h =
    let p = and_get (leb origin (x + max_horizon)) (leb x (origin + max_horizon)) h in
    (omega (arith, leb-true origin (x + max_horizon) p.0), omega (arith, leb-true x (origin + max_horizon) p.1))

-- none, or within: the same of the side with the end of its range for none
module _ (x none end : ℕ) (low : least_side ≤ end) (high : end ≤ most_side) where
  side_get : eqb x none || within_horizon x ≡ true → (least_side ≤ cond (eqb x none) end x) × (cond (eqb x none) end x ≤ most_side)
  side_get h =
      ⊎_elim
      (λ (p, q). (omega (arith, q), omega (arith, q)))
      (λ (p, q).
      let r = within_get x (⊎_elim (λ z. absurd (p (eqb-true x none z))) (λ z. z) (or_get (eqb x none) (within_horizon x) h)) in
      (omega (arith, q), omega (arith, q)))
      (side_is x none end)

  side_put : least_side ≤ cond (eqb x none) end x → cond (eqb x none) end x ≤ most_side → eqb x none || within_horizon x ≡ true
  side_put l m =
      ⊎_elim
      (λ (p, q). or_left (within_horizon x) (eq-eqb x none p))
      (λ (p, q). or_right (eqb x none) (within_put x (omega (arith, q)) (omega (arith, q))))
      (side_is x none end)

module _ (low high : ℕ) where
  abbrev least : ℕ
  least = cond (eqb low no_low) least_side low

  abbrev most : ℕ
  most = cond (eqb high no_high) most_side high

  -- both within their ranges: the order of the sides is that of their ends
  order_put : least_side ≤ least → least ≤ most → most ≤ most_side → low ≤ high
  order_put l o m =
      ⊎_elim
      (λ (p, q). omega arith)
      (λ (p, q). ⊎_elim (λ (x, y). omega (arith, q, y)) (λ (x, y). omega (arith, q, y)) (side_is high no_high most_side))
      (side_is low no_low least_side)

  order_get : low ≤ high → least ≤ most_side → least_side ≤ most → least ≤ most
  order_get o l m =
      ⊎_elim
      (λ (p, q). omega (arith, q))
      (λ (p, q). ⊎_elim (λ (x, y). omega (arith, y)) (λ (x, y). omega (arith, q, y)) (side_is high no_high most_side))
      (side_is low no_low least_side)

  pub sides_are : leb least_side least && leb least most && leb most most_side ≡ sides_ok low high
  unfolding sides_ok
  sides_are = same _ _ to back
    where
      to
          : leb least_side least && leb least most && leb most most_side ≡ true
          → leb low high && (eqb low no_low || within_horizon low) && (eqb high no_high || within_horizon high) ≡ true
      to h =
          let p = and_get (leb least_side least && leb least most) (leb most most_side) h in
          let q = and_get (leb least_side least) (leb least most) p.0 in
          let l = leb-true least_side least q.0 in
          let o = leb-true least most q.1 in
          let m = leb-true most most_side p.1 in
          and_put
          (and_put (le-leb _ _ (order_put l o m)) (side_put low no_low least_side (omega arith) (omega arith) l (omega arith)))
          (side_put high no_high most_side (omega arith) (omega arith) (omega arith) m)

      back
          : leb low high && (eqb low no_low || within_horizon low) && (eqb high no_high || within_horizon high) ≡ true
          → leb least_side least && leb least most && leb most most_side ≡ true
      back h =
          let p = and_get (leb low high && (eqb low no_low || within_horizon low)) (eqb high no_high || within_horizon high) h in
          let q = and_get (leb low high) (eqb low no_low || within_horizon low) p.0 in
          let l = side_get low no_low least_side (omega arith) (omega arith) q.1 in
          let m = side_get high no_high most_side (omega arith) (omega arith) p.1 in
          and_put (and_put (le-leb _ _ l.0) (le-leb _ _ (order_get (leb-true _ _ q.0) l.1 m.0))) (le-leb _ _ m.1)
