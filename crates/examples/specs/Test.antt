-- Tests that are computed: what each says, as a statement, and that a test passes exactly when what it says is so.
use Rattle.std.specs.Prelude.{ℕ, suc, ◌≤◌, ◌<◌, ◌≡◌, ◌↔◌, ◌⊎◌, Bool, true, false, not, ◌&&◌, ◌||◌, leb, eqb}
use Rattle.std.proofs.Common.{inl, inr, ⊎_elim, leb-true, eqb-true, le-leb, eq-eqb}
use Rattle.std.proofs.lemmas.Bool.{not-true}
use Rattle.rules.specs.Count.{every, any}
use Rattle.laws.specs.Bools.{decided, clash, and_get, and_put, or_get, or_left, or_right}
use Rattle.laws.specs.Places.{every_get, every_put, any_get, any_put}

infixr 45 ◌&◌
pub data Test : Type 0 where
  eq : ℕ → ℕ → Test
  le : ℕ → ℕ → Test
  on : Bool → Test
  off : Bool → Test
  ◌&◌ : Test → Test → Test
  or : Test → Test → Test
  when : Test → Test → Test
  -- at each place, at some place below n
  each : ℕ → (ℕ → Test) → Test
  some : ℕ → (ℕ → Test) → Test

abbrev pub lt : ℕ → ℕ → Test
lt a b = le (suc a) b

abbrev pub Passes : Test → Type 0
Passes (eq a b) = a ≡ b
Passes (le a b) = a ≤ b
Passes (on b) = b ≡ true
Passes (off b) = b ≡ false
Passes (a & b) = Passes a × Passes b
Passes (or a b) = Passes a ⊎ Passes b
Passes (when a b) = Passes a → Passes b
Passes (each n f) = (i : ℕ) → i < n → Passes (f i)
Passes (some n f) = (i : ℕ) × (i < n) × Passes (f i)

unfoldable pub passes : Test → Bool
passes (eq a b) = eqb a b
passes (le a b) = leb a b
passes (on b) = b
passes (off b) = not b
passes (a & b) = passes a && passes b
passes (or a b) = passes a || passes b
passes (when a b) = not (passes a) || passes b
passes (each n f) = every (λ i. passes (f i)) n
passes (some n f) = any (λ i. passes (f i)) n

not_put : {a : Bool} → a ≡ false → not a ≡ true
not_put p = rw p

pub exact : (t : Test) → (passes t ≡ true) ↔ Passes t
unfolding passes
exact (eq a b) = (eqb-true a b, eq-eqb a b)
exact (le a b) = (leb-true a b, le-leb a b)
exact (on b) = (λ h. h, λ h. h)
exact (off b) = (not-true b, not_put)
exact (a & b) = (
  λ h. let r = and_get (passes a) (passes b) h in ((exact a).0 r.0, (exact b).0 r.1),
  λ h. and_put ((exact a).1 h.0) ((exact b).1 h.1),
)
exact (or a b) = (
  λ h. ⊎_elim (λ l. inl ((exact a).0 l)) (λ r. inr ((exact b).0 r)) (or_get (passes a) (passes b) h),
  ⊎_elim (λ l. or_left (passes b) ((exact a).1 l)) (λ r. or_right (passes a) ((exact b).1 r)),
)
exact (when a b) = (
  λ h p. ⊎_elim (λ l. absurd (clash ((exact a).1 p) (not-true (passes a) l))) (exact b).0 (or_get (not (passes a)) (passes b) h),
  λ f.
      ⊎_elim (λ y. or_right (not (passes a)) ((exact b).1 (f ((exact a).0 y)))) (λ g. or_left (passes b) (not_put g))
      (decided (passes a)),
)
exact (each n f) = (
  λ h i l. (exact (f i)).0 (every_get (λ k. passes (f k)) n h i l),
  λ all. every_put (λ k. passes (f k)) n (λ i l. (exact (f i)).1 (all i l)),
)
exact (some n f) = (
  λ h. let (i, l, p) = any_get (λ k. passes (f k)) n h in (i, l, (exact (f i)).0 p),
  λ r. any_put (λ k. passes (f k)) n r.0 r.1 ((exact (f r.0)).1 r.2),
)
