-- One number for each of n places, none above a limit: how such a test is opened and closed.
use Rattle.std.specs.Prelude.{ℕ, ◌+◌, ◌≤◌, ◌<◌, ◌≡◌, refl, Bool, true, false, ◌&&◌, List, leb, eqb, length, get_or}
use Rattle.std.proofs.Common.{arith, sym, leb-true, le-leb, eqb-true, eq-eqb}
use Rattle.rules.specs.Count.{every}
use Rattle.laws.specs.Set.{same_or_not}
use Rattle.laws.specs.Bools.{clash, same, and_get, and_put}
use Rattle.laws.specs.Places.{every_get, every_put}

abbrev pub one_each : (most : ℕ) → List ℕ → ℕ → Bool
one_each most d n = eqb (length d) n && every (λ i. leb (get_or d i 0) most) n

-- the first i numbers are within the limit
abbrev pub FirstFit : (most : ℕ) → List ℕ → ℕ → Type 0
FirstFit most d i = (j : ℕ) → j < i → get_or d j 0 ≤ most

pub fit_more : (most : ℕ) (d : List ℕ) (i : ℕ) → FirstFit most d i → get_or d i 0 ≤ most → FirstFit most d (i + 1)
fit_more most d i w h j l = same_or_not j i (λ z. rw z h) (λ z. w j (omega arith))

module _ (most : ℕ) (d : List ℕ) (n : ℕ) where
  pub one_each_get : one_each most d n ≡ true → (length d ≡ n) × FirstFit most d n
  one_each_get h =
      let p = and_get (eqb (length d) n) (every (λ i. leb (get_or d i 0) most) n) h in
      (eqb-true _ _ p.0, λ j l. leb-true _ _ (every_get (λ i. leb (get_or d i 0) most) n p.1 j l))

  pub one_each_put : length d ≡ n → FirstFit most d n → true ≡ one_each most d n
  one_each_put e w = sym (and_put (eq-eqb _ _ e) (every_put (λ i. leb (get_or d i 0) most) n (λ j l. le-leb _ _ (w j l))))

  pub one_each_not : (one_each most d n ≡ true → ⊥) → false ≡ one_each most d n
  one_each_not g = same false (one_each most d n) (λ h. absurd (clash h refl)) (λ h. absurd (g h))
