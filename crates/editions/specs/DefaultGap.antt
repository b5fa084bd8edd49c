-- What moved with the default gap, and that nothing else did. Gap byte 0 of edition 2 stood for one tick and stands for two; it went back,
-- and does not.
use Rattle.std.specs.Prelude.{ℕ, ◌≡◌, ◌↔◌, ◌≢◌, ◌⊎◌, false, ◌&&◌, List, leb, eqb}
use Rattle.std.proofs.Common.{arith, sym, subst, ◌∙◌, inl, inr, eqb-true, ne_eqb}
use Rattle.std.proofs.Math.Path.{refl, ap}
use Rattle.std.proofs.Math.Logic.{⊎_elim}
use Rattle.std.proofs.lemmas.Bool.{lt-leb}
use Rattle.rules.specs.Count.{every, byte}
use Rattle.rules.specs.Sheet.{sheet_of, edition, gap_ticks, gap_byte, max_gap, sheet_fault, fault_in}
use Rattle.rules.specs.Sheet.{facts_ok, jobs_ok, event_ok, events_ok, bound_ok, bounds_ok, facts_body_ok, jobs_body_ok, events_body_ok, bounds_body_ok}
use Rattle.rules.specs.Rewrite.{Edition2Of, goes_back}
use Rattle.laws.specs.Bools.{decided}
use Rattle.laws.specs.Set.{same_or_not}
use Rattle.laws.specs.Limits.{AllBytes}
use Rattle.laws.specs.Faults.{well_formed_lem}
use Rattle.sheet_bytes.specs.Faultless.{faultless}
use Rattle.sheet_bytes.specs.ReadsBack.{SaidBy, reads_back}
use Rattle.sheet_bytes.specs.OtherEdition.{plain_gap, plain_1, plain_sayable}
use Rattle.editions.specs.FormerGap.{former_ticks, sheet_with, sheet_before, fault_before, went_back}
use Rattle.editions.specs.Unique.{edition2_unique}
use Rattle.editions.specs.Answers.{its_edition2}
use Rattle.editions.specs.ThereAndBack.{SameSheet, same_there}

-- ---- the gap

-- the one edition and byte that has other ticks
abbrev Default : (n g : ℕ) → Type 0
Default n g = (n ≡ 2) × (g ≡ 0)

ticks_same : (n g : ℕ) → (Default n g → ⊥) → gap_ticks n g ≡ former_ticks n g
unfolding gap_ticks former_ticks
ticks_same n g other =
    ⊎_elim (λ q. rw q (⊎_elim (λ z. absurd (other (eqb-true n 2 q, eqb-true g 0 z))) (λ z. rw z) (decided (eqb g 0)))) (λ q. rw q)
    (decided (eqb n 2))

default_moved : gap_ticks 2 0 ≡ former_ticks 2 0 → ⊥
unfolding gap_ticks former_ticks
default_moved q = omega arith

pub ticks_unmoved : (n g : ℕ) → gap_ticks n g ≡ former_ticks n g ↔ (Default n g → ⊥)
ticks_unmoved n g = (λ same (e, z). default_moved (rw (← e, ← z) same), ticks_same n g)

-- ---- the sheet

module _ (b : List ℕ) where
  sheet_now : sheet_of b ≡ sheet_with b (gap_ticks (edition b) (gap_byte b))
  unfolding sheet_of sheet_with
  sheet_now = refl

  -- every sheet but those of edition 2 with gap byte 0 says what it said
  pub sheet_as_before : (byte b 0 ≢ 2) ⊎ (gap_byte b ≢ 0) → sheet_of b ≡ sheet_before b
  unfolding sheet_before edition
  sheet_as_before other =
      sheet_now ∙ ap (sheet_with b) (ticks_same (edition b) (gap_byte b) (λ (e, z). ⊎_elim (λ h. h e) (λ h. h z) other))

  not_2 : edition b ≡ 1 → byte b 0 ≢ 2
  unfolding edition
  not_2 e q = omega (arith, e, q)

  -- and those had one tick, and have two
  pub default_gap : edition b ≡ 2 → gap_byte b ≡ 0 → (sheet_before b ≡ sheet_with b 1) × (sheet_of b ≡ sheet_with b 2)
  unfolding sheet_before gap_ticks former_ticks
  default_gap e z = (ap (sheet_with b) (rw (e, z)), sheet_now ∙ ap (sheet_with b) (rw (e, z)))

-- ---- the faults

gap_limit : (n g : ℕ) → leb (gap_ticks n g) max_gap ≡ leb (former_ticks n g) max_gap
unfolding gap_ticks former_ticks max_gap
gap_limit n g = ⊎_elim (λ q. rw q (⊎_elim (λ z. rw z) (λ z. rw z) (decided (eqb g 0)))) (λ q. rw q) (decided (eqb n 2))

-- no sheet has another fault
pub fault_as_before : (b : List ℕ) → sheet_fault b ≡ fault_before b
unfolding
    sheet_fault fault_before facts_body_ok jobs_body_ok events_body_ok bounds_body_ok facts_ok jobs_ok events_ok bounds_ok event_ok bound_ok sheet_of
    sheet_before sheet_with
fault_as_before b = rw (gap_limit (edition b) (gap_byte b))

-- ---- the way back

is_1 : (g : ℕ) → g ≢ 0 → eqb g 1 ≡ leb g 1
is_1 g other = same_or_not g 1 (λ q. rw q) (λ q. rw (ne_eqb g 1 q, lt-leb g 1 (omega (arith, other, q))))

-- what goes back went back, and the other way round, but with gap byte 0
pub back_as_before : (b : List ℕ) → gap_byte b ≢ 0 → goes_back b ≡ went_back b
unfolding goes_back went_back sheet_of sheet_before sheet_with
back_as_before b other = rw (is_1 (gap_byte b) other)

-- with that it went back if revision and releases are 0, and does not
pub default_stays
    : (b : List ℕ)
    → gap_byte b ≡ 0
    → (went_back b ≡ (eqb (sheet_of b).revision 0 && every (λ j. eqb ((sheet_of b).release j) 0) (sheet_of b).jobs))
    × (goes_back b ≡ false)
unfolding goes_back went_back sheet_of sheet_before sheet_with
default_stays b z = (rw z, rw z)

-- ---- rewriting

-- an edition 1 sheet is rewritten to what it says and said, with its gap of one tick: it keeps its plans and answers
pub says_what_it_said
    : {b c : List ℕ}
    → AllBytes b
    → fault_in 1 b ≡ 0
    → Edition2Of b c
    → (sheet_of b ≡ sheet_before b) × SaidBy 2 plain_gap (sheet_of b) c × ((sheet_of c).gap ≡ 1) × SameSheet b c
says_what_it_said {b} {c} small fine e =
    let f = faultless 1 b fine in
    let p = plain_1 b f.contents.is_edition in
    let q = reads_back (well_formed_lem b f.fault) (plain_sayable 2 b (inr refl) small p) in
    let said : SaidBy 2 plain_gap (sheet_of b) c = subst (SaidBy 2 plain_gap (sheet_of b)) (edition2_unique (its_edition2 b small fine) e) q in
    (sheet_as_before b (inl (not_2 b f.contents.is_edition)), said, sym said.gap ∙ p.gap, same_there fine e)
