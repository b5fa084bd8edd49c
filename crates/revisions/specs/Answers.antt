-- For any two lists of bytes there is one answer, and no other; and when each answer comes.
use Rattle.std.specs.Prelude.{ℕ, ◌≤◌, ◌<◌, ◌≡◌, ◌≢◌, ◌↔◌, ◌⊎◌, length}
use Rattle.std.proofs.Common.{arith, sym, ap, ◌∙◌, ⊎_elim}
use Rattle.std.proofs.Math.Decide.{ℕ_discrete, dec_lt}
use Rattle.std.proofs.Math.Path.{refl}
use Rattle.std.proofs.Math.Logic.{inl, inr, dite}
use mathlib.Core.List.{List, [], List-discrete}
use Rattle.rules.specs.Sheet.{edition, fault_in}
use Rattle.rules.specs.Newer.{Which, BothFormed, revision, Newer, part_of}
use Rattle.laws.specs.Set.{same_or_not}
use Rattle.laws.specs.Faults.{FaultNumber, fault_small, fault_numbers, other_edition}
use Rattle.revisions.specs.Revision.{formed_length}

pub both : {a b : List ℕ} → fault_in 2 a ≡ 0 → fault_in 2 b ≡ 0 → BothFormed a b
both f g = record { first = f; second = g }

-- ---- when each answer comes

module _ {a b : List ℕ} where
  pub first_iff : {n : ℕ} → Newer a b n Which.first ↔ ((n ≡ 0) × BothFormed a b × ((revision b < revision a) ⊎ (a ≡ b)))
  first_iff = (
    get,
    λ (z, f, higher). rw z (⊎_elim (λ l. Newer.first_higher f l) (λ e. Newer.same_bytes f (ap revision e) e) higher),
  )
    where
      get : {n : ℕ} → Newer a b n Which.first → (n ≡ 0) × BothFormed a b × ((revision b < revision a) ⊎ (a ≡ b))
      get (Newer.same_bytes f q e) = (refl, f, inr e)
      get (Newer.first_higher f l) = (refl, f, inl l)

  pub second_iff : {n : ℕ} → Newer a b n Which.second ↔ ((n ≡ 0) × BothFormed a b × (revision a < revision b))
  second_iff = (get, λ (z, f, l). rw z (Newer.second_higher f l))
    where
      get : {n : ℕ} → Newer a b n Which.second → (n ≡ 0) × BothFormed a b × (revision a < revision b)
      get (Newer.second_higher f l) = (refl, f, l)

  pub other_bytes_iff : {w : Which} → Newer a b 56 w ↔ ((w ≡ Which.none) × BothFormed a b × (revision a ≡ revision b) × (a ≢ b))
  other_bytes_iff = (λ x. get x refl, λ (z, f, q, d). rw z (Newer.other_bytes f q d))
    where
      small : (c : List ℕ) → fault_in 2 c ≡ 56 → ⊥
      small c q = omega (arith, fault_small (fault_numbers 2 c))

      get : {n : ℕ} {w : Which} → Newer a b n w → n ≡ 56 → (w ≡ Which.none) × BothFormed a b × (revision a ≡ revision b) × (a ≢ b)
      get (Newer.bad_first bad) z = absurd (small a z)
      get (Newer.bad_second fine bad) z = absurd (small b z)
      get (Newer.other_bytes f q d) z = (refl, f, q, d)
      get (Newer.same_bytes f q e) z = absurd (omega arith)
      get (Newer.first_higher f l) z = absurd (omega arith)
      get (Newer.second_higher f l) z = absurd (omega arith)

  -- the first sheet's fault, whole, or else the second's
  pub fault_iff
      : {n : ℕ} {w : Which}
      → n ≢ 0
      → n ≢ 56
      → Newer a b n w ↔ ((w ≡ Which.none) × ((fault_in 2 a ≡ n) ⊎ ((fault_in 2 a ≡ 0) × (fault_in 2 b ≡ n))))
  fault_iff some other = (
    get some other,
    λ (z, fault).
        rw z
        (⊎_elim (λ q. rw (← q) (Newer.bad_first (λ e. some (sym q ∙ e))))
        (λ (fine, q). rw (← q) (Newer.bad_second fine (λ e. some (sym q ∙ e))))
        fault),
  )
    where
      get
          : {n : ℕ} {w : Which}
          → n ≢ 0
          → n ≢ 56
          → Newer a b n w
          → (w ≡ Which.none) × ((fault_in 2 a ≡ n) ⊎ ((fault_in 2 a ≡ 0) × (fault_in 2 b ≡ n)))
      get some other (Newer.bad_first bad) = (refl, inl refl)
      get some other (Newer.bad_second fine bad) = (refl, inr (fine, refl))
      get some other (Newer.other_bytes f q d) = absurd (other refl)
      get some other (Newer.same_bytes f q e) = absurd (some refl)
      get some other (Newer.first_higher f l) = absurd (some refl)
      get some other (Newer.second_higher f l) = absurd (some refl)

  -- 0, 10 to 14, 56
  pub newer_numbers : {n : ℕ} {w : Which} → Newer a b n w → FaultNumber n ⊎ (n ≡ 56)
  newer_numbers (Newer.bad_first bad) = inl (fault_numbers 2 a)
  newer_numbers (Newer.bad_second fine bad) = inl (fault_numbers 2 b)
  newer_numbers (Newer.other_bytes f q d) = inr refl
  newer_numbers (Newer.same_bytes f q e) = inl (inl refl)
  newer_numbers (Newer.first_higher f l) = inl (inl refl)
  newer_numbers (Newer.second_higher f l) = inl (inl refl)

-- a sheet of edition 1, or of any that is not 2, gets 10
pub edition_first : (a b : List ℕ) → edition a ≢ 2 → Newer a b 10 Which.none
edition_first a b h = let q = other_edition 2 a h in rw (← q) (Newer.bad_first (λ z. omega arith))

pub edition_second : (a b : List ℕ) → fault_in 2 a ≡ 0 → edition b ≢ 2 → Newer a b 10 Which.none
edition_second a b fine h = let q = other_edition 2 b h in rw (← q) (Newer.bad_second fine (λ z. omega arith))

-- ---- the part

module _ {a b : List ℕ} where
  -- a refusal's is empty
  pub refused_empty : {n : ℕ} {w : Which} → Newer a b n w → n ≢ 0 → part_of a b w ≡ []
  unfolding part_of
  refused_empty (Newer.bad_first bad) some = refl
  refused_empty (Newer.bad_second fine bad) some = refl
  refused_empty (Newer.other_bytes f q d) some = refl
  refused_empty (Newer.same_bytes f q e) some = absurd (some refl)
  refused_empty (Newer.first_higher f l) some = absurd (some refl)
  refused_empty (Newer.second_higher f l) some = absurd (some refl)

  pub none_refused : {n : ℕ} → Newer a b n Which.none → n ≢ 0
  none_refused (Newer.bad_first bad) = bad
  none_refused (Newer.bad_second fine bad) = bad
  none_refused (Newer.other_bytes f q d) = λ z. omega arith

  pub zero_formed : {w : Which} → Newer a b 0 w → BothFormed a b
  zero_formed {w = Which.first} x = (first_iff.0 x).1
  zero_formed {w = Which.second} x = (second_iff.0 x).1
  zero_formed {w = Which.none} x = absurd (none_refused x refl)

  -- with 0 it is one of the two sheets
  pub zero_part : {w : Which} → Newer a b 0 w → ((w ≡ Which.first) × (part_of a b w ≡ a)) ⊎ ((w ≡ Which.second) × (part_of a b w ≡ b))
  unfolding part_of
  zero_part {w = Which.first} x = inl (refl, refl)
  zero_part {w = Which.second} x = inr (refl, refl)
  zero_part {w = Which.none} x = absurd (none_refused x refl)

  pub part_formed : {w : Which} → Newer a b 0 w → fault_in 2 (part_of a b w) ≡ 0
  part_formed x =
      let f = zero_formed x in ⊎_elim (λ (z, q). rw q f.first) (λ (z, q). rw q f.second) (zero_part x)

  pub part_length : {w : Which} → Newer a b 0 w → 26 ≤ length (part_of a b w)
  part_length x = formed_length _ (part_formed x)

-- ---- no choice

module _ {a b : List ℕ} where
  one_refusal : {n m : ℕ} → Newer a b n Which.none → Newer a b m Which.none → n ≡ m
  one_refusal (Newer.bad_first bad) (Newer.bad_first its) = refl
  one_refusal (Newer.bad_first bad) (Newer.bad_second fine its) = absurd (bad fine)
  one_refusal (Newer.bad_first bad) (Newer.other_bytes f q d) = absurd (bad f.first)
  one_refusal (Newer.bad_second fine bad) (Newer.bad_first its) = absurd (its fine)
  one_refusal (Newer.bad_second fine bad) (Newer.bad_second also its) = refl
  one_refusal (Newer.bad_second fine bad) (Newer.other_bytes f q d) = absurd (bad f.second)
  one_refusal (Newer.other_bytes f q d) (Newer.bad_first its) = absurd (its f.first)
  one_refusal (Newer.other_bytes f q d) (Newer.bad_second fine its) = absurd (its f.second)
  one_refusal (Newer.other_bytes f q d) (Newer.other_bytes g r e) = refl

  -- what a refusal of two well-formed sheets says
  refused_formed : {n : ℕ} → Newer a b n Which.none → BothFormed a b → (revision a ≡ revision b) × (a ≢ b)
  refused_formed (Newer.bad_first bad) f = absurd (bad f.first)
  refused_formed (Newer.bad_second fine bad) f = absurd (bad f.second)
  refused_formed (Newer.other_bytes g q d) f = (q, d)

  first_or_second : {n m : ℕ} → Newer a b n Which.first → Newer a b m Which.second → ⊥
  first_or_second s t =
      let l = (second_iff.0 t).2 in ⊎_elim (λ k. omega (arith, k, l)) (λ e. omega (arith, ap revision e, l)) (first_iff.0 s).2

  first_or_none : {n m : ℕ} → Newer a b n Which.first → Newer a b m Which.none → ⊥
  first_or_none s t =
      let (z, f, higher) = first_iff.0 s in
      let (q, d) = refused_formed t f in ⊎_elim (λ l. omega (arith, l, q)) d higher

  second_or_none : {n m : ℕ} → Newer a b n Which.second → Newer a b m Which.none → ⊥
  second_or_none s t = let (z, f, l) = second_iff.0 s in omega (arith, l, (refused_formed t f).0)

  pub newer_unique : {n m : ℕ} {w x : Which} → Newer a b n w → Newer a b m x → (n ≡ m) × (w ≡ x)
  newer_unique {w = Which.first} {x = Which.first} s t = ((first_iff.0 s).0 ∙ sym (first_iff.0 t).0, refl)
  newer_unique {w = Which.first} {x = Which.second} s t = absurd (first_or_second s t)
  newer_unique {w = Which.first} {x = Which.none} s t = absurd (first_or_none s t)
  newer_unique {w = Which.second} {x = Which.first} s t = absurd (first_or_second t s)
  newer_unique {w = Which.second} {x = Which.second} s t = ((second_iff.0 s).0 ∙ sym (second_iff.0 t).0, refl)
  newer_unique {w = Which.second} {x = Which.none} s t = absurd (second_or_none s t)
  newer_unique {w = Which.none} {x = Which.first} s t = absurd (first_or_none t s)
  newer_unique {w = Which.none} {x = Which.second} s t = absurd (second_or_none t s)
  newer_unique {w = Which.none} {x = Which.none} s t = (one_refusal s t, refl)

-- of two well-formed sheets
formed_exists : {a b : List ℕ} → BothFormed a b → (n : ℕ) × (w : Which) × Newer a b n w
formed_exists {a} {b} f =
    dite (dec_lt (revision b) (revision a)) (λ l. (_, _, Newer.first_higher f l))
    (λ g.
    dite (dec_lt (revision a) (revision b)) (λ l. (_, _, Newer.second_higher f l))
    (λ h.
    let q : revision a ≡ revision b = omega (arith, g, h) in
    dite (List-discrete ℕ_discrete a b) (λ e. (_, _, Newer.same_bytes f q e)) (λ d. (_, _, Newer.other_bytes f q d))))

pub newer_exists : (a b : List ℕ) → (n : ℕ) × (w : Which) × Newer a b n w
newer_exists a b =
    same_or_not (fault_in 2 a) 0
    (λ fine.
    same_or_not (fault_in 2 b) 0 (λ its. formed_exists (both fine its))
    (λ bad. (_, _, Newer.bad_second fine bad)))
    (λ bad. (_, _, Newer.bad_first bad))
