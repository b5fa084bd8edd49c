-- Two numbers are the same or not; and what holds of each place's value holds after a store.
use Rattle.std.specs.Prelude.{ℕ, ◌<◌, ◌≡◌, ◌≢◌, List, length, get_or, set}
use Rattle.std.proofs.Math.Decide.{ℕ_discrete}
use Rattle.std.proofs.Common.{get_or-set_same, get_or-set_other}

pub same_or_not : {A : Type 0} (m n : ℕ) → (m ≡ n → A) → (m ≢ n → A) → A
same_or_not {A = A} m n f g = go (ℕ_discrete m n)
  where
    go : Dec (m ≡ n) → A
    go (yes e) = f e
    go (no d) = g d

-- what holds of each place's value holds after a store, if it holds of the value stored
pub set_cases
    : {A : Type 0} (P : ℕ → A → Type 0) (d : A) (l : List A) (i : ℕ) (x : A) (j : ℕ)
    → i < length l
    → P i x
    → (j ≢ i → P j (get_or l j d))
    → P j (get_or (set l i x) j d)
set_cases P d l i x j small new old =
    same_or_not j i
    (λ e. rw (e, get_or-set_same l i x d small) new)
    (λ n. rw (get_or-set_other l i j x d n) (old n))
