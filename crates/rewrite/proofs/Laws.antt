-- Why each answer of rewriting is the one of its relation.
use Prim.Native.Nat.{ℕ, ◌≤◌, ◌<◌}
use native.Mathlib.Omega.{arith}
use mathlib.Core.Path.{◌≡◌, refl, sym, subst, ◌∙◌}
use mathlib.Core.Bool.{Bool, true, false, ◌&&◌}
use mathlib.Core.List.{List}
use lib.ListN.{length}
use lib.Dec.{eqb}
use Rattle.rules.specs.Sheet as rules
use Rattle.rules.specs.Sheet.{gap_byte, sheet_of, well_formed, fault_in}
use Rattle.rules.specs.Rewrite.{goes_back, ToEdition2, ToEdition1}
use Rattle.laws.specs.Limits.{AllBytes}
use Rattle.sheet.specs.declared.formed.WellFormed.{WellFormed}
use Rattle.sheet.specs.WellFormed.{said_by}
use Rattle.reader.specs.Reads.{ReadAs, ReadIn, number_of, refused_in, read_in_fine, read_means}
use Rattle.reader.specs.declared.Fault.{Fault}
use Rattle.byte_writer.specs.Fill.{laid, laid_front}
use Rattle.sheet_bytes.specs.SheetBytes.{sheet_bytes, sheet_size}
use Rattle.sheet_bytes.specs.Sizes.{sheet_length}
use Rattle.sheet_bytes.specs.OtherEdition.{plain_gap, edition2_of, edition1_of}
use Rattle.rewrite.specs.View.{no_releases, Wrote}

-- ---- the rule of 50

module _ {b : List ℕ} {v : WellFormed} (r : ReadAs b v) where
  -- g is the gap byte, m the revision
  pub goes_back_is
      : {g m : ℕ} {t : Bool}
      → g ≡ gap_byte b
      → m ≡ (said_by v).revision
      → t ≡ no_releases (said_by v)
      → eqb g 1 && eqb m 0 && t ≡ goes_back b
  unfolding goes_back no_releases
  goes_back_is gap revision releases = rw (gap, revision, releases, read_means r) refl

-- ---- what is written

module _ (n : ℕ) (s : rules.Sheet) (w : List ℕ) {size : ℕ} (long : size ≡ sheet_size n s) where
  its_length : length (sheet_bytes n plain_gap s) ≡ size
  its_length = sheet_length n plain_gap s ∙ sym long

  pub wrote_short : length w < size → Wrote (sheet_bytes n plain_gap s) w 30 size w
  wrote_short l =
      subst (λ (k : ℕ). Wrote (sheet_bytes n plain_gap s) w 30 k w) its_length (Wrote.short (omega (arith, its_length)))

  pub wrote_sheet
      : {new : List ℕ}
      → size ≤ length w
      → new ≡ laid w 0 (sheet_bytes n plain_gap s)
      → Wrote (sheet_bytes n plain_gap s) w 0 size new
  wrote_sheet l h =
      let c = sheet_bytes n plain_gap s in
      let fits : length c ≤ length w = omega (arith, its_length) in
      rw (h ∙ laid_front w c fits, ← its_length) (Wrote.written fits)

-- ---- the answers

module _ {n : ℕ} {b : List ℕ} {v : WellFormed} (r : ReadIn n b v) where
  well : well_formed (sheet_of b) ≡ true
  well = subst (λ (s : rules.Sheet). well_formed s ≡ true) (read_means r.read) v.well

  of_bytes
      : (m : ℕ) {w w' : List ℕ} {k d : ℕ}
      → Wrote (sheet_bytes m plain_gap (said_by v)) w k d w'
      → Wrote (sheet_bytes m plain_gap (sheet_of b)) w k d w'
  of_bytes m {w} {w'} {k} {d} h =
      subst (λ (s : rules.Sheet). Wrote (sheet_bytes m plain_gap s) w k d w') (read_means r.read) h

module _ {b w : List ℕ} (x : Fault) where
  pub there_refused : fault_in 1 b ≡ number_of x → ToEdition2 b w (number_of x) 0 w
  there_refused f = subst (λ (m : ℕ). ToEdition2 b w m 0 w) f (ToEdition2.bad_sheet (refused_in 1 b x f))

  pub back_refused : fault_in 2 b ≡ number_of x → ToEdition1 b w (number_of x) 0 w
  back_refused f = subst (λ (m : ℕ). ToEdition1 b w m 0 w) f (ToEdition1.bad_sheet (refused_in 2 b x f))

module _ {b w : List ℕ} {v : WellFormed} (small : AllBytes b) {k d : ℕ} {w' : List ℕ} where
  pub there_written : ReadIn 1 b v → Wrote (sheet_bytes 2 plain_gap (said_by v)) w k d w' → ToEdition2 b w k d w'
  there_written r h = go (of_bytes r 2 h)
    where
      go : {k d : ℕ} {w' : List ℕ} → Wrote (sheet_bytes 2 plain_gap (sheet_of b)) w k d w' → ToEdition2 b w k d w'
      go (Wrote.short l) = ToEdition2.short _ (read_in_fine r) (edition2_of b small (well r) r.edition) l
      go (Wrote.written l) = ToEdition2.written _ (read_in_fine r) (edition2_of b small (well r) r.edition) l

  pub back_written
      : ReadIn 2 b v → goes_back b ≡ true → Wrote (sheet_bytes 1 plain_gap (said_by v)) w k d w' → ToEdition1 b w k d w'
  back_written r goes h = go (of_bytes r 1 h)
    where
      go : {k d : ℕ} {w' : List ℕ} → Wrote (sheet_bytes 1 plain_gap (sheet_of b)) w k d w' → ToEdition1 b w k d w'
      go (Wrote.short l) = ToEdition1.short _ (read_in_fine r) goes (edition1_of b small (well r) r.edition goes) l
      go (Wrote.written l) = ToEdition1.written _ (read_in_fine r) goes (edition1_of b small (well r) r.edition goes) l

pub no_way_back_lem : {b w : List ℕ} {v : WellFormed} → ReadIn 2 b v → goes_back b ≡ false → ToEdition1 b w 50 0 w
no_way_back_lem r h = ToEdition1.no_way_back (read_in_fine r) h
