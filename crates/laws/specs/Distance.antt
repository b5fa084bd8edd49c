-- The least distance between the events of two instances: none for the same, the gap for another. No other law opens how it is
-- formed; the examples do, which compute it.
use Rattle.std.specs.Prelude.{ℕ, ◌≤◌, ◌≡◌, refl, ◌≢◌, cond, eqb}
use Rattle.std.proofs.Common.{arith, ◌∙◌, eq-eqb, ne_eqb}
use Rattle.rules.specs.Sheet.{Sheet}
use Rattle.rules.specs.Plan.{gap, apart, distance_by, distance}
use Rattle.laws.specs.Set.{same_or_not}

-- ---- at any gap

-- what the text was before the product
pub distance_by_as_before : (g i k : ℕ) → distance_by g i k ≡ cond (eqb i k) 0 g
unfolding distance_by apart
distance_by_as_before g i k =
    same_or_not i k (λ same. rw (eq-eqb i k same) (omega arith)) (λ other. rw (ne_eqb i k other) (omega arith))

pub distance_by_same : (g i k : ℕ) → i ≡ k → distance_by g i k ≡ 0
distance_by_same g i k same = distance_by_as_before g i k ∙ rw (eq-eqb i k same) refl

pub distance_by_other : (g i k : ℕ) → i ≢ k → distance_by g i k ≡ g
distance_by_other g i k other = distance_by_as_before g i k ∙ rw (ne_eqb i k other) refl

pub distance_by_within : (g i k : ℕ) → distance_by g i k ≤ g
distance_by_within g i k =
    same_or_not i k (λ same. omega (arith, distance_by_same g i k same)) (λ other. omega (arith, distance_by_other g i k other))

-- ---- at a sheet's gap

pub distance_by_lem : (s : Sheet) (i k : ℕ) → distance s i k ≡ distance_by (gap s) i k
unfolding distance
distance_by_lem s i k = refl

pub distance_as_before : (s : Sheet) (i k : ℕ) → distance s i k ≡ cond (eqb i k) 0 (gap s)
distance_as_before s i k = distance_by_lem s i k ∙ distance_by_as_before (gap s) i k

pub distance_same : (s : Sheet) (i k : ℕ) → i ≡ k → distance s i k ≡ 0
distance_same s i k same = distance_by_lem s i k ∙ distance_by_same (gap s) i k same

pub distance_other : (s : Sheet) (i k : ℕ) → i ≢ k → distance s i k ≡ gap s
distance_other s i k other = distance_by_lem s i k ∙ distance_by_other (gap s) i k other

pub distance_within : (s : Sheet) (i k : ℕ) → distance s i k ≤ gap s
distance_within s i k = rw (distance_by_lem s i k) (distance_by_within (gap s) i k)
