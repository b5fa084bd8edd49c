-- What exchanging the two sheets changes, a sheet beside itself, and that revisions decide in order.
use Rattle.std.specs.Prelude.{ℕ, ◌≤◌, ◌≡◌, refl, ◌≢◌, List}
use Rattle.std.proofs.Common.{arith, sym, ap, ◌∙◌, inl, ⊎_elim}
use Rattle.rules.specs.Sheet.{fault_in}
use Rattle.rules.specs.Newer.{Which, BothFormed, revision, Newer, part_of}
use Rattle.laws.specs.Set.{same_or_not}
use Rattle.revisions.specs.Answers.{both, first_iff, second_iff, none_refused, newer_unique}

-- ---- the sheets exchanged

unfoldable pub swapped : Which → Which
swapped Which.first = Which.second
swapped Which.second = Which.first
swapped Which.none = Which.none

pub swapped_part : (a b : List ℕ) (w : Which) → part_of a b w ≡ part_of b a (swapped w)
unfolding part_of swapped
swapped_part a b Which.first = refl
swapped_part a b Which.second = refl
swapped_part a b Which.none = refl

module _ {a b : List ℕ} where
  turned : BothFormed a b → BothFormed b a
  turned f = both f.second f.first

  -- first and second are exchanged where the revisions differ
  pub exchanged : {n : ℕ} {w : Which} → BothFormed a b → revision a ≢ revision b → Newer a b n w → Newer b a n (swapped w)
  unfolding swapped
  exchanged f other (Newer.bad_first bad) = absurd (bad f.first)
  exchanged f other (Newer.bad_second fine bad) = absurd (bad f.second)
  exchanged f other (Newer.other_bytes g q d) = absurd (other q)
  exchanged f other (Newer.same_bytes g q e) = absurd (other q)
  exchanged f other (Newer.first_higher g l) = Newer.second_higher (turned f) l
  exchanged f other (Newer.second_higher g l) = Newer.first_higher (turned f) l

  -- and where they are equal neither number nor bytes change
  pub unchanged
      : {n : ℕ} {w : Which}
      → BothFormed a b
      → revision a ≡ revision b
      → Newer a b n w
      → Newer b a n w × (part_of a b w ≡ part_of b a w)
  unfolding part_of
  unchanged f same (Newer.bad_first bad) = absurd (bad f.first)
  unchanged f same (Newer.bad_second fine bad) = absurd (bad f.second)
  unchanged f same (Newer.other_bytes g q d) = (Newer.other_bytes (turned f) (sym q) (λ e. d (sym e)), refl)
  unchanged f same (Newer.same_bytes g q e) = (Newer.same_bytes (turned f) (sym q) (sym e), e)
  unchanged f same (Newer.first_higher g l) = absurd (omega (arith, l, same))
  unchanged f same (Newer.second_higher g l) = absurd (omega (arith, l, same))

  -- in either order the number and the bytes handed back are the same
  pub either_order
      : {n m : ℕ} {w x : Which}
      → BothFormed a b
      → Newer a b n w
      → Newer b a m x
      → (n ≡ m) × (part_of a b w ≡ part_of b a x)
  either_order {w = w} f s t =
      same_or_not (revision a) (revision b)
      (λ q. let (u, p) = unchanged f q s in let (e, v) = newer_unique u t in (e, p ∙ ap (part_of b a) v))
      (λ d. let (e, v) = newer_unique (exchanged f d s) t in (e, swapped_part a b w ∙ ap (part_of b a) v))

-- ---- a sheet and itself

pub itself : (a : List ℕ) → fault_in 2 a ≡ 0 → Newer a a 0 Which.first
itself a fine = Newer.same_bytes (both fine fine) refl refl

pub itself_refused : (a : List ℕ) → fault_in 2 a ≢ 0 → Newer a a (fault_in 2 a) Which.none
itself_refused a bad = Newer.bad_first bad

-- ---- revisions in order

-- the sheet handed back has no lower revision than either
pub no_lower
    : {a b : List ℕ} {w : Which} → Newer a b 0 w → (revision a ≤ revision (part_of a b w)) × (revision b ≤ revision (part_of a b w))
unfolding part_of
no_lower {w = Which.first} x =
    ⊎_elim (λ l. (omega arith, omega (arith, l))) (λ e. (omega arith, omega (arith, ap revision e))) (first_iff.0 x).2
no_lower {w = Which.second} x = let l = (second_iff.0 x).2 in (omega (arith, l), omega arith)
no_lower {w = Which.none} x = absurd (none_refused x refl)

module _ {a b c : List ℕ} {n m : ℕ} where
  -- of three sheets, each later one superseding the one before it, the last supersedes the first
  pub second_transitive : Newer a b n Which.second → Newer b c m Which.second → Newer a c 0 Which.second
  second_transitive s t =
      let (z, f, l) = second_iff.0 s in
      let (y, g, k) = second_iff.0 t in
      Newer.second_higher (both f.first g.second) (omega (arith, l, k))

  -- and where each earlier one is handed back, the first is
  pub first_transitive : Newer a b n Which.first → Newer b c m Which.first → Newer a c 0 Which.first
  first_transitive s t =
      let (z, f, h) = first_iff.0 s in
      let (y, g, k) = first_iff.0 t in
      first_iff.1 (
        refl,
        both f.first g.second,
        ⊎_elim (λ l. inl (⊎_elim (λ j. omega (arith, l, j)) (λ e. rw (← e) l) k)) (λ e. rw e k) h,
      )
