-- A test is true or false, and what a conjunction or a disjunction says.
use Rattle.std.proofs.Common.{arith, sym, inl, inr}
use Rattle.std.specs.Prelude.{ℕ, ◌<◌, ◌≡◌, refl, ◌⊎◌, Bool, true, false, not, cond, ◌&&◌, ◌||◌}

pub decided : (t : Bool) → (t ≡ true) ⊎ (t ≡ false)
decided true = inl refl
decided false = inr refl

pub clash : {t : Bool} → t ≡ true → t ≡ false → ⊥
clash p q = let z : ◌≡◌ {A = ℕ} 0 1 = cc in omega arith

pub and_get : (a b : Bool) → a && b ≡ true → (a ≡ true) × (b ≡ true)
and_get true b h = (refl, h)
and_get false b h = absurd (clash h refl)

pub and_not : (a b : Bool) → a && b ≡ false → (a ≡ false) ⊎ (b ≡ false)
and_not true b h = inr h
and_not false b h = inl refl

pub and_put : {a b : Bool} → a ≡ true → b ≡ true → a && b ≡ true
and_put p q = rw (p, q)

pub or_get : (a b : Bool) → a || b ≡ true → (a ≡ true) ⊎ (b ≡ true)
or_get true b h = inl refl
or_get false b h = inr h

pub or_left : {a : Bool} (b : Bool) → a ≡ true → a || b ≡ true
or_left b p = rw p

pub or_right : (a : Bool) {b : Bool} → b ≡ true → a || b ≡ true
or_right true p = refl
or_right false p = p

-- a test whose fault has a number, and the tests after it
pub passed : (a : Bool) (n x : ℕ) → 0 < n → cond (not a) n x ≡ 0 → (a ≡ true) × (x ≡ 0)
passed true n x h q = (refl, q)
passed false n x h q = absurd (omega arith)

-- two tests with the same consequences are equal
pub same : (a b : Bool) → (a ≡ true → b ≡ true) → (b ≡ true → a ≡ true) → a ≡ b
same true b p q = sym (p refl)
same false true p q = q refl
same false false p q = refl
