-- For every sheet and buffer each way of rewriting has an answer, and only one; how long the sheet of the other edition is; and when 50 comes.
use Rattle.std.specs.Prelude.{ℕ, ◌+◌, ◌*◌, ◌<◌, ◌≡◌, refl, ◌↔◌, ◌≢◌, true, false, ◌&&◌, List, length}
use Rattle.std.proofs.Common.{arith}
use Rattle.std.proofs.Math.Decide.{dec_le}
use Rattle.std.proofs.Math.Logic.{⊎_elim, dite}
use Rattle.std.proofs.Math.Dec.{eqb}
use Rattle.std.proofs.lemmas.Bool.{eqb-false}
use Rattle.rules.specs.Sheet.{Sheet, sheet_of, facts_head, job_row, gap_byte, fault_in}
use Rattle.rules.specs.Rewrite.{SaysSame, Edition2Of, Edition1Of, goes_back, ToEdition2, ToEdition1}
use Rattle.laws.specs.Bools.{decided, and_not}
use Rattle.laws.specs.Places.{every_not}
use Rattle.laws.specs.Limits.{AllBytes}
use Rattle.laws.specs.Set.{same_or_not}
use Rattle.laws.specs.Faults.{fault_small, fault_numbers, well_formed_lem}
use Rattle.sheet_bytes.specs.SheetBytes.{facts_size, jobs_size, events_size, bounds_size, sheet_bytes, sheet_size}
use Rattle.sheet_bytes.specs.Faultless.{faultless}
use Rattle.sheet_bytes.specs.OtherEdition.{plain_gap, back, edition2_of, edition1_of}
use Rattle.editions.specs.Unique.{to_edition2_unique, to_edition1_unique}

-- ---- exactly one answer

-- R, of number, detail and buffer after, has one answer
pub record OneAnswer (R : (number detail : ℕ) → List ℕ → Type 0) : Type 0 where
  pub number : ℕ
  pub detail : ℕ
  pub buffer : List ℕ
  pub given : R number detail buffer
  pub only : (n d : ℕ) (w : List ℕ) → R n d w → (n ≡ number) × (d ≡ detail) × (w ≡ buffer)

-- the sheet of the other edition
pub its_edition2 : (b : List ℕ) → AllBytes b → fault_in 1 b ≡ 0 → Edition2Of b (sheet_bytes 2 plain_gap (sheet_of b))
its_edition2 b small fine = let f = faultless 1 b fine in edition2_of b small (well_formed_lem b f.fault) f.contents.is_edition

pub its_edition1
    : (b : List ℕ) → AllBytes b → fault_in 2 b ≡ 0 → goes_back b ≡ true → Edition1Of b (sheet_bytes 1 plain_gap (sheet_of b))
its_edition1 b small fine goes =
    let f = faultless 2 b fine in edition1_of b small (well_formed_lem b f.fault) f.contents.is_edition goes

module _ (b w : List ℕ) (small : AllBytes b) where
  to_edition2_exists : (n : ℕ) × (d : ℕ) × (w' : List ℕ) × ToEdition2 b w n d w'
  to_edition2_exists =
      same_or_not (fault_in 1 b) 0
      (λ fine.
      let c = sheet_bytes 2 plain_gap (sheet_of b) in
      let e = its_edition2 b small fine in
      dite (dec_le (length c) (length w)) (λ l. (_, _, _, ToEdition2.written c fine e l))
      (λ l. (_, _, _, ToEdition2.short c fine e (omega (arith, l)))))
      (λ bad. (_, _, _, ToEdition2.bad_sheet bad))

  to_edition1_exists : (n : ℕ) × (d : ℕ) × (w' : List ℕ) × ToEdition1 b w n d w'
  to_edition1_exists =
      same_or_not (fault_in 2 b) 0
      (λ fine.
      ⊎_elim
      (λ goes.
      let c = sheet_bytes 1 plain_gap (sheet_of b) in
      let e = its_edition1 b small fine goes in
      dite (dec_le (length c) (length w)) (λ l. (_, _, _, ToEdition1.written c fine goes e l))
      (λ l. (_, _, _, ToEdition1.short c fine goes e (omega (arith, l)))))
      (λ stays. (_, _, _, ToEdition1.no_way_back fine stays))
      (decided (goes_back b)))
      (λ bad. (_, _, _, ToEdition1.bad_sheet bad))

  pub to_edition2_one : OneAnswer (ToEdition2 b w)
  to_edition2_one =
      let (n, d, w', given) = to_edition2_exists in
      record { number = n; detail = d; buffer = w'; given = given; only = λ n d w' q. to_edition2_unique q given }

  pub to_edition1_one : OneAnswer (ToEdition1 b w)
  to_edition1_one =
      let (n, d, w', given) = to_edition1_exists in
      record { number = n; detail = d; buffer = w'; given = given; only = λ n d w' q. to_edition1_unique q given }

-- ---- lengths

-- what edition 2 has more: gap, revision, releases
extra : (s : Sheet) → sheet_size 2 s ≡ sheet_size 1 s + 3 + 2 * s.jobs
unfolding sheet_size facts_size jobs_size facts_head job_row
extra s = omega arith

same_size : (n : ℕ) {s t : Sheet} → SaysSame s t → sheet_size n s ≡ sheet_size n t
unfolding sheet_size facts_size jobs_size events_size bounds_size
same_size n same = rw (same.facts, same.jobs, same.events, same.bounds)

pub edition2_longer : {b c : List ℕ} → fault_in 1 b ≡ 0 → Edition2Of b c → length c ≡ length b + 3 + 2 * (sheet_of b).jobs
edition2_longer {b} {c} fine e =
    let r = e.rewritten in
    omega (arith, (faultless 1 b fine).size, (faultless 2 c r.formed).size, same_size 2 r.same, extra (sheet_of b))

pub edition1_shorter : {b c : List ℕ} → fault_in 2 b ≡ 0 → Edition1Of b c → length b ≡ length c + 3 + 2 * (sheet_of b).jobs
edition1_shorter {b} {c} fine r =
    omega (arith, (faultless 2 b fine).size, (faultless 1 c r.formed).size, same_size 1 r.same, extra (sheet_of b))

-- ---- 50

-- edition 1 cannot say what the edition 2 sheet b says: the gap byte is not 1, or the revision or a release is not 0
pub data BeyondEdition1 (b : List ℕ) : Type 0 where
  gap : gap_byte b ≢ 1 → BeyondEdition1 b
  revision : (sheet_of b).revision ≢ 0 → BeyondEdition1 b
  release : (j : ℕ) → j < (sheet_of b).jobs → (sheet_of b).release j ≢ 0 → BeyondEdition1 b

module _ {b : List ℕ} where
  beyond : goes_back b ≡ false → BeyondEdition1 b
  unfolding goes_back
  beyond stays =
      ⊎_elim
      (λ h.
      ⊎_elim (λ g. BeyondEdition1.gap (eqb-false _ _ g)) (λ r. BeyondEdition1.revision (eqb-false _ _ r))
      (and_not (eqb (gap_byte b) 1) _ h))
      (λ h. let (j, l, r) = every_not _ (sheet_of b).jobs h in BeyondEdition1.release j l (eqb-false _ _ r))
      (and_not (eqb (gap_byte b) 1 && eqb (sheet_of b).revision 0) _ stays)

  -- what goes back is not beyond it
  within : goes_back b ≡ true → BeyondEdition1 b → ⊥
  within goes (BeyondEdition1.gap h) = h (back b goes).gap
  within goes (BeyondEdition1.revision h) = h (back b goes).revision
  within goes (BeyondEdition1.release j l h) = h ((back b goes).releases j l)

  -- the test is the rule
  stays_beyond : goes_back b ≡ false ↔ BeyondEdition1 b
  stays_beyond = (beyond, λ x. ⊎_elim (λ goes. absurd (within goes x)) (λ stays. stays) (decided (goes_back b)))

refused
    : {b w w' : List ℕ} {n d : ℕ}
    → ToEdition1 b w n d w'
    → n ≡ 50
    → (fault_in 2 b ≡ 0) × BeyondEdition1 b × (d ≡ 0) × (w' ≡ w)
refused {b} (ToEdition1.bad_sheet bad) q = absurd (omega (arith, fault_small (fault_numbers 2 b)))
refused (ToEdition1.no_way_back fine stays) q = (fine, stays_beyond.0 stays, refl, refl)
refused (ToEdition1.short c fine goes e l) q = absurd (omega arith)
refused (ToEdition1.written c fine goes e l) q = absurd (omega arith)

pub exactly_50
    : (b w w' : List ℕ) (d : ℕ)
    → ToEdition1 b w 50 d w' ↔ ((fault_in 2 b ≡ 0) × BeyondEdition1 b × (d ≡ 0) × (w' ≡ w))
exactly_50 b w w' d = (λ r. refused r refl, λ (fine, x, p, q). rw (p, q) (ToEdition1.no_way_back fine (stays_beyond.1 x)))
