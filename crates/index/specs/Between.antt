-- What `any` and `find` say of the places from a up to b.
use Rattle.std.specs.Prelude.{ℕ, ◌+◌, ◌-◌, ◌≤◌, ◌<◌, Bool, true, false, Option, Some, None, MatchOption, List, length}
use Rattle.std.specs.Bool.{MatchBool}
use Rattle.std.specs.List.{range_with_len, HoldsAt, AllWithin}
use Rattle.std.proofs.Common.{◌≡◌, arith, subst, sym, ◌∙◌}
use Rattle.std.proofs.lemmas.List.FromFn.{length-range_with_len, get_or-range_with_len}

module _ (Yes No : ℕ → Type 0) (a b : ℕ) where
  abbrev places : List ℕ
  places = range_with_len a (b - a)

  -- all before this many places have No
  before : (n : ℕ) → n ≤ b - a → AllWithin No places 0 n → (i : ℕ) → a ≤ i → i < a + n → No i
  before n few h i l m =
      let e : a + (i - a) ≡ i = omega arith in
      subst No (get_or-range_with_len a (b - a) (i - a) 0 (omega arith) ∙ e) (h (i - a) 0 (omega arith) (omega arith))

  -- one has Yes, or all have No
  pub any_between
      : (r : Bool)
      → MatchBool r ((k : ℕ) × (k < length places) × HoldsAt Yes places k) (AllWithin No places 0 (length places))
      → MatchBool r ((i : ℕ) × (a ≤ i) × (i < b) × Yes i) ((i : ℕ) → a ≤ i → i < b → No i)
  any_between true (k, l, h) =
      let m : k < b - a = omega (arith, length-range_with_len a (b - a)) in
      (a + k, omega arith, omega arith, subst Yes (get_or-range_with_len a (b - a) k 0 m) (h 0))
  any_between false h = λ i l m.
      before (b - a) (omega arith) (λ k d low high. h k d low (omega (arith, length-range_with_len a (b - a)))) i l (omega arith)

  -- the first that has Yes, and all before it have No
  pub first_between
      : (r : Option ℕ)
      → MatchOption r (AllWithin No places 0 (length places))
      (λ x. Yes x × (i : ℕ) × (i < length places) × HoldsAt (λ y. y ≡ x) places i × AllWithin No places 0 i)
      → MatchOption r ((i : ℕ) → a ≤ i → i < b → No i)
      (λ x. (a ≤ x) × (x < b) × Yes x × ((i : ℕ) → a ≤ i → i < x → No i))
  first_between None h = λ i l m.
      before (b - a) (omega arith) (λ k d low high. h k d low (omega (arith, length-range_with_len a (b - a)))) i l (omega arith)
  first_between (Some x) (has, k, l, at, h) =
      let m : k < b - a = omega (arith, length-range_with_len a (b - a)) in
      let e : a + k ≡ x = sym (get_or-range_with_len a (b - a) k 0 m) ∙ at 0 in
      (omega arith, omega arith, has, λ i low high. before k (omega arith) h i low (omega arith))
