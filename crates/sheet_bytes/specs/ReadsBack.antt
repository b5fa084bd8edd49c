-- What a sheet's bytes say is the sheet: they are bytes, without a fault, and are read back as they were meant.
use Rattle.std.specs.Prelude.{ℕ, ◌+◌, ◌*◌, ◌≤◌, ◌<◌, ◌≡◌, ◌⊎◌, ◌&&◌, List, length, eqb}
use Rattle.std.proofs.Common.{arith, ◌∙◌}
use Rattle.std.proofs.Math.Path.{refl, sym}
use Rattle.std.proofs.Math.Logic.{⊎_elim}
use Rattle.std.proofs.Math.Bool.{true}
use borrow.Author.Tests.{eq-eqb, eqb-true, le-leb}
use Rattle.rules.specs.Count.{every}
use Rattle.rules.specs.Sheet.{Sheet, Bound, origin, max_horizon, facts_head, job_row, gap_ticks, added, edition, length_of, start_of}
use Rattle.rules.specs.Sheet.{gap_byte, sheet_of, edition_ok, entry_ok, contents_ok, facts_ok, jobs_ok, events_ok, bounds_ok}
use Rattle.rules.specs.Sheet.{facts_body_ok, jobs_body_ok, events_body_ok, bounds_body_ok, sheet_fault, fault_in, well_formed}
use Rattle.rules.specs.Rewrite.{SaysSame}
use Rattle.laws.specs.Bools.{decided, and_get, and_put, or_left, or_right}
use Rattle.laws.specs.Limits.{most_gap, AllBytes}
use Rattle.laws.specs.Formed.{Formed, FormedBound, formed, gap_within}
use Rattle.laws.specs.SameForm.{well_formed_same}
use Rattle.laws.specs.Events.{small}
use Rattle.byte_writer.specs.Bytes.{pair_limit}
use Rattle.sheet_bytes.specs.SheetBytes.{contents_size, event_size, bound_size, facts_size, jobs_size, events_size, bounds_size, sheet_bytes, sheet_size}
use Rattle.sheet_bytes.specs.Sizes.{sheet_length}
use Rattle.sheet_bytes.specs.Parts.{Parts, parts, Entry, Contents, contents, jobs_at_lem, events_at_lem, bounds_at_lem, ends_at}
use Rattle.sheet_bytes.specs.EachByte.{each_byte}
use Rattle.sheet_bytes.specs.Bodies.{Fits, facts_read, horizon_read, gap_byte_read, gap_read, revision_read, mark_read}
use Rattle.sheet_bytes.specs.Bodies.{jobs_read, code_read, release_read, events_read, event_read, bounds_read, bound_read}

-- edition n can say s, with gap byte g
pub record Sayable (n g : ℕ) (s : Sheet) : Type 0 where
  pub edition : (n ≡ 1) ⊎ (n ≡ 2)
  pub gap : s.gap ≡ gap_ticks n g
  pub revision : s.revision ≡ added n s.revision
  pub releases : (j : ℕ) → j < s.jobs → s.release j ≡ added n (s.release j)
  pub small_revision : s.revision < pair_limit
  pub small_codes : (j : ℕ) → j < s.jobs → s.code j < pair_limit
  pub small_releases : (j : ℕ) → j < s.jobs → s.release j < pair_limit

-- c is a well-formed sheet of edition n that says s, with gap byte g
pub record SaidBy (n g : ℕ) (s : Sheet) (c : List ℕ) : Type 0 where
  pub bytes : AllBytes c
  pub size : length c ≡ sheet_size n s
  pub formed : fault_in n c ≡ 0
  pub same : SaysSame s (sheet_of c)
  pub gap : s.gap ≡ (sheet_of c).gap
  pub revision : s.revision ≡ (sheet_of c).revision
  pub releases : (j : ℕ) → j < s.jobs → s.release j ≡ (sheet_of c).release j
  pub gap_byte : n ≡ 2 → gap_byte c ≡ g

-- ---- without a fault

-- the contents, whole rows, and a well-formed meaning: no rule is broken
no_fault_lem
    : (c : List ℕ)
    → contents_ok c ≡ true
    → length_of c 0 ≡ facts_head (edition c) + (sheet_of c).facts
    → length_of c 1 ≡ job_row (edition c) * (sheet_of c).jobs
    → length_of c 2 ≡ event_size * (sheet_of c).events
    → length_of c 3 ≡ bound_size * (sheet_of c).bounds
    → well_formed (sheet_of c) ≡ true
    → sheet_fault c ≡ 0
unfolding sheet_fault facts_body_ok jobs_body_ok events_body_ok bounds_body_ok well_formed
no_fault_lem c ok f j e b w =
    let t = sheet_of c in
    let w4 = and_get (facts_ok t && jobs_ok t && events_ok t) (bounds_ok t) w in
    let w3 = and_get (facts_ok t && jobs_ok t) (events_ok t) w4.0 in
    let w2 = and_get (facts_ok t) (jobs_ok t) w3.0 in
    rw (
      ok,
      and_put (eq-eqb _ _ f) w2.0,
      and_put (eq-eqb _ _ j) w2.1,
      and_put (eq-eqb _ _ e) w3.1,
      and_put (eq-eqb _ _ b) w4.1,
    )

entry_ok_lem : {c : List ℕ} {i kind offset size : ℕ} → Entry c i kind offset size → kind ≡ i + 1 → start_of c i ≡ offset → entry_ok c i ≡ true
unfolding entry_ok
entry_ok_lem e k o =
    and_put (and_put (eq-eqb _ _ (e.of_kind ∙ k)) (eq-eqb _ _ e.zero_byte)) (eq-eqb _ _ (e.offset_is ∙ sym o))

module _ {n : ℕ} {s : Sheet} {c : List ℕ} (t : Contents n s c) where
  contents_ok_lem : (n ≡ 1) ⊎ (n ≡ 2) → length c ≡ sheet_size n s → contents_ok c ≡ true
  unfolding contents_ok edition_ok every start_of sheet_size
  contents_ok_lem which size =
      and_put
      (and_put
      (and_put (and_put (le-leb contents_size (length c) (omega arith)) known) (eq-eqb _ _ t.part_count))
      (and_put (and_put (and_put (and_put refl (entry_ok_lem t.facts refl refl)) (entry_ok_lem t.jobs refl (jobs_at_lem t)))
      (entry_ok_lem t.events refl (events_at_lem t))) (entry_ok_lem t.bounds refl (bounds_at_lem t))))
      (eq-eqb _ _ (ends_at t ∙ sym size))
    where
      known : edition_ok c ≡ true
      known =
          ⊎_elim (λ q. or_left (eqb (edition c) 2) (eq-eqb _ _ (t.is_edition ∙ q)))
          (λ q. or_right (eqb (edition c) 1) (eq-eqb _ _ (t.is_edition ∙ q))) which

-- ---- read back

-- a gap byte is at most the gap that it says
gap_grows : (n g : ℕ) → eqb n 2 ≡ true → g ≤ gap_ticks n g
unfolding gap_ticks
gap_grows n g q =
    rw q (⊎_elim (λ h. rw h (omega (arith, eqb-true g 0 h))) (λ h. rw h (omega arith)) (decided (eqb g 0)))

-- a bound's low and high fit two bytes
fits : {s : Sheet} {b : Bound} → FormedBound s b → Fits b
unfolding origin max_horizon
fits w =
    record {
      low = ⊎_elim (λ q. omega arith) (λ q. omega arith) w.low;
      high = ⊎_elim (λ q. omega arith) (λ q. omega arith) w.high;
    }

module _ {n g : ℕ} {s : Sheet} (w : Formed s) (can : Sayable n g s) where
  bytes : s.gap ≤ most_gap → AllBytes (sheet_bytes n g s)
  bytes few =
      each_byte w n g (⊎_elim (λ q. omega arith) (λ q. omega arith) can.edition)
      (λ q. omega (arith, gap_grows n g q, can.gap, few))

  module _ {c : List ℕ} (t : Contents n s c) (p : Parts n g s c) where
    same : SaysSame s (sheet_of c)
    same =
        record {
          facts = facts_read t p;
          horizon = horizon_read t p (omega (arith, (small s w).horizon));
          marks = mark_read t p;
          jobs = jobs_read t p;
          codes = λ j l. code_read t p j l (can.small_codes j l);
          events = events_read t p;
          event_rows = event_read t p;
          bounds = bounds_read t p;
          bound_rows = λ i l. bound_read t p i l (fits (w.bound i l));
        }

    well : well_formed s ≡ true → well_formed (sheet_of c) ≡ true
    well ok = well_formed_same same (can.gap ∙ gap_read t p) ok

    no_fault_in : well_formed s ≡ true → length c ≡ sheet_size n s → fault_in n c ≡ 0
    unfolding fault_in facts_size jobs_size events_size bounds_size
    no_fault_in ok size =
        rw (
          eq-eqb _ _ t.is_edition,
          no_fault_lem c (contents_ok_lem t can.edition size)
              (rw (t.is_edition, ← facts_read t p) t.facts.length_is)
              (rw (t.is_edition, ← jobs_read t p) t.jobs.length_is)
              (rw (← events_read t p) t.events.length_is)
              (rw (← bounds_read t p) t.bounds.length_is)
              (well ok),
        )

pub reads_back : {n g : ℕ} {s : Sheet} → well_formed s ≡ true → Sayable n g s → SaidBy n g s (sheet_bytes n g s)
reads_back {n} {g} {s} ok can =
    let w = formed s ok in
    let p = parts n g s in
    let t = contents w p.contents in
    record {
      bytes = bytes w can (gap_within s ok);
      size = sheet_length n g s;
      formed = no_fault_in w can t p ok (sheet_length n g s);
      same = same w can t p;
      gap = can.gap ∙ gap_read t p;
      revision = can.revision ∙ revision_read t p can.small_revision;
      releases = λ j l. can.releases j l ∙ release_read t p j l (can.small_releases j l);
      gap_byte = gap_byte_read t p;
    }
