-- A sheet that was rewritten before the default became two ticks has gap byte 0. One byte mends it: then it is what rewriting writes now.
use Rattle.std.specs.Prelude.{ℕ, ◌+◌, ◌≡◌, refl, List, ◌∷◌, ◌++◌, take, drop}
use Rattle.std.proofs.Common.{arith, ap, ◌∙◌}
use Rattle.std.proofs.Math.Path.{sym, subst}
use Rattle.std.proofs.Math.Logic.{inr}
use Rattle.rules.specs.Sheet.{Sheet, sheet_of, edition, gap_ticks, max_gap, fault_in, well_formed}
use Rattle.rules.specs.Sheet.{facts_ok, jobs_ok, event_ok, events_ok, bound_ok, bounds_ok}
use Rattle.rules.specs.Rewrite.{SaysSame, Edition2Of}
use Rattle.laws.specs.Limits.{AllBytes}
use Rattle.laws.specs.Faults.{well_formed_lem}
use Rattle.sheet_bytes.specs.SheetBytes.{sheet_bytes}
use Rattle.sheet_bytes.specs.Faultless.{faultless}
use Rattle.sheet_bytes.specs.ReadsBack.{Sayable, reads_back}
use Rattle.sheet_bytes.specs.WrittenBack.{written_back}
use Rattle.sheet_bytes.specs.SameBytes.{same_sheet_bytes, gap_at, other_gap_byte}
use Rattle.sheet_bytes.specs.OtherEdition.{plain_gap, plain_1, plain_sayable}
use Rattle.editions.specs.FormerGap.{sheet_with, WrittenBefore}
use Rattle.editions.specs.Unique.{says_flip}
use Rattle.editions.specs.Answers.{its_edition2}

-- the sheet with gap byte 1 in the place of the one it has
unfoldable pub mended : List ℕ → List ℕ
mended c = take gap_at c ++ plain_gap ∷ drop (gap_at + 1) c

module _ {b : List ℕ} (small : AllBytes b) (fine : fault_in 1 b ≡ 0) where
  pub mends : {c : List ℕ} → WrittenBefore b c → Edition2Of b (mended c)
  unfolding mended
  mends {c} e =
      let p = plain_1 b (faultless 1 b fine).contents.is_edition in
      let same = says_flip e.rewritten.same in
      let wrote : c ≡ sheet_bytes 2 0 (sheet_of b) =
      written_back (inr refl) e.rewritten.bytes e.rewritten.formed
      ∙ rw e.gap
      (same_sheet_bytes 2 0 same (λ q. e.revision ∙ sym p.revision)
      (λ q j l. e.releases j l ∙ sym (p.releases j (omega (arith, same.jobs)))))
      in
      subst (Edition2Of b) (sym (ap mended wrote ∙ other_gap_byte 0 plain_gap (sheet_of b))) (its_edition2 b small fine)

-- ---- there is such a sheet for every edition 1 sheet

module _ (b : List ℕ) where
  -- the edition 2 sheet with gap byte 0 says what b says, but a gap of two ticks
  well_formed_2 : edition b ≡ 1 → well_formed (sheet_of b) ≡ well_formed (sheet_with b 2)
  unfolding well_formed facts_ok jobs_ok events_ok bounds_ok event_ok bound_ok sheet_of sheet_with max_gap gap_ticks
  well_formed_2 e = rw e

  sayable_2 : Sayable 2 plain_gap (sheet_of b) → Sayable 2 0 (sheet_with b 2)
  unfolding sheet_of sheet_with gap_ticks
  sayable_2 p =
      record {
        edition = inr refl;
        gap = refl;
        revision = p.revision;
        releases = p.releases;
        small_revision = p.small_revision;
        small_codes = p.small_codes;
        small_releases = p.small_releases;
      }

  says_2 : {t : Sheet} → SaysSame (sheet_with b 2) t → SaysSame (sheet_of b) t
  unfolding sheet_of sheet_with
  says_2 p =
      record {
        facts = p.facts;
        horizon = p.horizon;
        marks = p.marks;
        jobs = p.jobs;
        codes = p.codes;
        events = p.events;
        event_rows = p.event_rows;
        bounds = p.bounds;
        bound_rows = p.bound_rows;
      }

  pub wrote_before : AllBytes b → fault_in 1 b ≡ 0 → WrittenBefore b (sheet_bytes 2 0 (sheet_with b 2))
  unfolding sheet_of sheet_with
  wrote_before small fine =
      let f = faultless 1 b fine in
      let e = f.contents.is_edition in
      let p = plain_1 b e in
      let q = reads_back (sym (well_formed_2 e) ∙ well_formed_lem b f.fault) (sayable_2 (plain_sayable 2 b (inr refl) small p)) in
      record {
        rewritten = record { bytes = q.bytes; formed = q.formed; same = says_2 q.same };
        gap = q.gap_byte refl;
        revision = sym q.revision ∙ p.revision;
        releases = λ j l. sym (q.releases j (omega (arith, q.same.jobs))) ∙ p.releases j (omega (arith, q.same.jobs));
      }
