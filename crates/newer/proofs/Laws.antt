-- Why each choice is the one of the definition.
use lib.Pointwise.{pointwise}
use Rattle.std.specs.Cmp.Lexicographic.{same_text, other_text}
use Rattle.std.specs.Prelude.{Result, Ok, Err}
use Prim.Native.Nat.{ℕ, ◌≤◌, ◌<◌}
use native.Mathlib.Omega.{arith}
use mathlib.Core.Path.{◌≡◌, sym, ap, subst, ◌∙◌}
use mathlib.Core.Logic.{◌⊎◌, inl, inr}
use mathlib.Core.Bool.{Bool, true, false}
use mathlib.Core.List.{List}
use lib.ListN.{length}
use lib.Dec.{eqb}
use Rattle.rules.specs.Sheet as rules
use Rattle.rules.specs.Sheet.{fault_in}
use Rattle.rules.specs.Newer.{Which, BothFormed, revision, Newer}
use Rattle.sheet.specs.declared.formed.WellFormed.{WellFormed}
use Rattle.sheet.specs.WellFormed.{said_by}
use Rattle.reader.specs.Reads as reads
use Rattle.reader.specs.Reads.{ReadIn, refused_in, read_in_fine, read_means}
use Rattle.reader.specs.declared.Fault.{Fault}
use Rattle.newer.specs.View.{which_of, number_of, Handed}
use Rattle.newer.specs.declared.Choice.{Choice}
use Rattle.newer.specs.declared.Choice.TheVariants.{First, Second}
use Rattle.newer.specs.declared.Refusal.{Refusal}

-- ---- the choice

module _ {a b : List ℕ} where
  module _ (both : BothFormed a b) (equal : revision a ≡ revision b) {t : Bool} (h : t ≡ pointwise eqb a b) where
    pub first_counts : t ≡ true → Newer a b 0 Which.first
    first_counts q = Newer.same_bytes both equal (same_text a b (sym q ∙ h))

    pub none_counts : t ≡ false → Newer a b 56 Which.none
    none_counts q = Newer.other_bytes both equal (other_text a b (sym q ∙ h))

  module _ {v w : WellFormed} (p : ReadIn 2 a v) (q : ReadIn 2 b w) where
    pub both_formed : BothFormed a b
    both_formed = record { first = read_in_fine p; second = read_in_fine q }

    module _ {r s : ℕ} (one : r ≡ (said_by v).revision) (other : s ≡ (said_by w).revision) where
      its : r ≡ revision a
      its = one ∙ ap (λ (x : rules.Sheet). x.revision) (read_means p.read)

      others : s ≡ revision b
      others = other ∙ ap (λ (x : rules.Sheet). x.revision) (read_means q.read)

      pub first_higher_lem : s < r → Newer a b 0 Which.first
      first_higher_lem l = Newer.first_higher both_formed (omega (arith, its, others))

      pub second_higher_lem : r < s → Newer a b 0 Which.second
      second_higher_lem l = Newer.second_higher both_formed (omega (arith, its, others))

      pub same_revision : r ≤ s → s ≤ r → revision a ≡ revision b
      same_revision l m = omega (arith, its, others)

  pub refused_first : (x : Fault) → fault_in 2 a ≡ reads.number_of x → Newer a b (reads.number_of x) Which.none
  refused_first x f = subst (λ (m : ℕ). Newer a b m Which.none) f (Newer.bad_first (refused_in 2 a x f))

  pub refused_second : {v : WellFormed} (x : Fault) → ReadIn 2 a v → fault_in 2 b ≡ reads.number_of x → Newer a b (reads.number_of x) Which.none
  refused_second x p f = subst (λ (m : ℕ). Newer a b m Which.none) f (Newer.bad_second (read_in_fine p) (refused_in 2 b x f))

-- ---- the part

-- what is promised of number n and slice r, whose bytes are part
abbrev HandedBack : (a b : List ℕ) → ℕ → {S : Type 0} → (first second r : S) → (part : List ℕ) → Type 0
HandedBack a b n first second r part =
    (Newer a b n Which.first × (r ≡ first))
    ⊎ ((Newer a b n Which.second × (r ≡ second)) ⊎ (Newer a b n Which.none × (length part ≡ 0)))

module _ (a b : List ℕ) (S : Type 0) (first second r : S) (part : List ℕ) where
  pub handed_back
      : (x : Result Choice Refusal) {n : ℕ}
      → Newer a b (number_of x) (which_of x)
      → n ≡ number_of x
      → Handed (which_of x) first second r part
      → HandedBack a b n first second r part
  handed_back (Ok First) h e q = inl (rw e h, q)
  handed_back (Ok Second) h e q = inr (inl (rw e h, q))
  handed_back (Err x) h e q = inr (inr (rw e h, q))
