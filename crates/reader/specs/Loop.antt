-- A loop that tests every row below n and leaves at the first broken one: its invariant, with start, step and end, and what a broken row
-- says; and the same for a loop whose rows rise, strictly or not, which carries the least number that the next row may have.
use Rattle.std.specs.Prelude.{ℕ, zero, suc, ◌+◌, ◌≤◌, ◌<◌, ◌≡◌, Bool, true, false, ◌&&◌, leb, ltb}
use Rattle.std.proofs.Common.{arith, sym, ap, ap₂, ◌∙◌, ⊎_elim, ltb-true, leb-true, lt-ltb, le-leb}
use Rattle.std.proofs.Math.Numerals.{add-one}
use Rattle.std.proofs.Math.Path.{refl}
use Rattle.std.proofs.lemmas.Bool.{lt-leb}
use Rattle.rules.specs.Count.{every, rises, never_falls}
use Rattle.laws.specs.Bools.{same, clash, decided, and_put}
use Rattle.laws.specs.Places.{every_none, every_more, every_get, every_put, every_both}

-- the rows below i have passed
pub record Passed (f : ℕ → Bool) (n i : ℕ) : Type 0 where
  pub at_most : i ≤ n
  pub all : every f i ≡ true

module _ (f : ℕ → Bool) (n : ℕ) where
  pub passed_start : Passed f n 0
  passed_start = record { at_most = omega arith; all = every_none f }

  pub passed_step : (i : ℕ) → Passed f n i → i < n → f i ≡ true → Passed f n (i + 1)
  passed_step i w l h = record { at_most = omega arith; all = every_more f i ∙ and_put w.all h }

  pub passed_end : (i : ℕ) → Passed f n i → n ≤ i → true ≡ every f n
  passed_end i w l = let e : i ≡ n = omega (arith, w.at_most) in sym w.all ∙ ap (every f) e

  -- a row is broken
  pub broken_at : (i : ℕ) → i < n → f i ≡ false → false ≡ every f n
  broken_at i l h =
      ⊎_elim (λ p. absurd (clash (every_get f n p i l) h)) (λ p. sym p) (decided (every f n))

-- the number after that of the row before, 0 at the first row
unfoldable pub after : (ℕ → ℕ) → ℕ → ℕ
after f zero = 0
after f (suc i) = suc (f i)

-- rising, each row by the one before it
pub rises_after : (f : ℕ → ℕ) (n : ℕ) → every (λ i. leb (after f i) (f i)) n ≡ rises f n
unfolding rises every after
rises_after f zero = refl
rises_after f (suc zero) = le-leb 0 (f 0) (omega arith)
rises_after f (suc (suc n)) = ap₂ ◌&&◌ (rises_after f (suc n)) (next (f n) (f (suc n)))
  where
    next : (a b : ℕ) → leb (suc a) b ≡ ltb a b
    next a b =
        same (leb (suc a) b) (ltb a b)
        (λ h. lt-ltb a b (omega (arith, leb-true (suc a) b h)))
        (λ h. le-leb (suc a) b (omega (arith, ltb-true a b h)))

-- the number of the row before, 0 at the first row
unfoldable pub before : (ℕ → ℕ) → ℕ → ℕ
before f zero = 0
before f (suc i) = f i

-- rising, not always strictly, each row by the one before it
pub never_falls_before : (f : ℕ → ℕ) (n : ℕ) → every (λ i. leb (before f i) (f i)) n ≡ never_falls f n
unfolding never_falls every before
never_falls_before f zero = refl
never_falls_before f (suc zero) = le-leb 0 (f 0) (omega arith)
never_falls_before f (suc (suc n)) = ap (λ (t : Bool). t && leb (f n) (f (suc n))) (never_falls_before f (suc n))

module _ (f : ℕ → ℕ) where
  pub after_start : 0 ≡ after f 0
  unfolding after
  after_start = refl

  pub after_step : (i x : ℕ) → x ≡ f i → x + 1 ≡ after f (i + 1)
  unfolding after
  after_step i x h = rw (add-one i, add-one x, h) refl

  pub before_start : 0 ≡ before f 0
  unfolding before
  before_start = refl

  pub before_step : (i x : ℕ) → x ≡ f i → x ≡ before f (i + 1)
  unfolding before
  before_step i x h = rw (add-one i, h) refl

-- the rows below i have passed, and none is below its floor; next is the floor of row i
pub record Rising (f floor : ℕ → ℕ) (g : ℕ → Bool) (n next i : ℕ) : Type 0 where
  pub passed : Passed (λ k. g k && leb (floor k) (f k)) n i
  pub is_floor : next ≡ floor i

module _ (f floor : ℕ → ℕ) (g : ℕ → Bool) (n : ℕ) where
  abbrev row : ℕ → Bool
  row k = g k && leb (floor k) (f k)

  row_is : {t : Bool} {next i x : ℕ} → Rising f floor g n next i → t ≡ g i → x ≡ f i → row i ≡ t && leb next x
  row_is w h q = rw (h, w.is_floor, q) refl

  pub rising_start : 0 ≡ floor 0 → Rising f floor g n 0 0
  rising_start z = record { passed = passed_start _ _; is_floor = z }

  pub Rising-step
      : {t : Bool} {next next' i x : ℕ}
      → Rising f floor g n next i
      → i < n
      → t ≡ g i
      → x ≡ f i
      → t && leb next x ≡ true
      → next' ≡ floor (i + 1)
      → Rising f floor g n next' (i + 1)
  Rising-step {i = i} w l h q p z = record { passed = passed_step row n i w.passed l (row_is w h q ∙ p); is_floor = z }

  module _ {order : Bool} (sorted : every (λ k. leb (floor k) (f k)) n ≡ order) where
    rows : every row n ≡ every g n && order
    rows = every_both g (λ k. leb (floor k) (f k)) n ∙ ap (λ (t : Bool). every g n && t) sorted

    pub rising_broken
        : {t : Bool} {next i x : ℕ}
        → Rising f floor g n next i
        → i < n
        → t ≡ g i
        → x ≡ f i
        → t && leb next x ≡ false
        → false ≡ every g n && order
    rising_broken {i = i} w l h q p = broken_at row n i l (row_is w h q ∙ p) ∙ rows

    pub rising_end : {next i : ℕ} → Rising f floor g n next i → n ≤ i → true ≡ every g n && order
    rising_end {i = i} w l = passed_end row n i w.passed l ∙ rows

-- strictly, where no more is tested
abbrev pub Climbing : (ℕ → ℕ) → (n next i : ℕ) → Type 0
Climbing f = Rising f (after f) (λ k. true)

module _ (f : ℕ → ℕ) (n : ℕ) where
  only : every (λ k. true) n && rises f n ≡ rises f n
  only = ap (λ (t : Bool). t && rises f n) (every_put (λ k. true) n (λ k h. refl))

  pub only_start : Climbing f n 0 0
  only_start = rising_start f (after f) (λ k. true) n (after_start f)

  pub only_broken : {next i x : ℕ} → Climbing f n next i → i < n → x ≡ f i → x < next → false ≡ rises f n
  only_broken {next} {i} {x} w l q h =
      rising_broken f (after f) (λ k. true) n (rises_after f n) {t = true} w l refl q (lt-leb next x h) ∙ only

  pub only_step : {next i x : ℕ} → Climbing f n next i → i < n → x ≡ f i → next ≤ x → Climbing f n (x + 1) (i + 1)
  only_step {next} {i} {x} w l q h = Rising-step f (after f) (λ k. true) n {t = true} w l refl q (le-leb next x h) (after_step f i x q)

  pub only_end : {next i : ℕ} → Climbing f n next i → n ≤ i → true ≡ rises f n
  only_end w l = rising_end f (after f) (λ k. true) n (rises_after f n) w l ∙ only
