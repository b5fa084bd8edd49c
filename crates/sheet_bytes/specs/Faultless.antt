-- What bytes of edition n without a fault have: the contents of the sheet that they say, and its length.
use Rattle.std.specs.Prelude.{ℕ, ◌+◌, ◌<◌, ◌≡◌, refl, true, ◌&&◌, List, length, leb, eqb}
use Rattle.std.proofs.Common.{arith, sym, ◌∙◌, eqb-true}
use Rattle.rules.specs.Count.{every, byte}
use Rattle.rules.specs.Sheet.{
  sheet_of,
  length_of,
  start_of,
  edition_ok,
  entry_ok,
  contents_ok,
  facts_ok,
  jobs_ok,
  events_ok,
  bounds_ok,
  facts_body_ok,
  jobs_body_ok,
  events_body_ok,
  bounds_body_ok,
  sheet_fault,
  fault_in,
}
use Rattle.laws.specs.Bools.{and_get}
use Rattle.laws.specs.Faults.{all_passed, in_edition}
use Rattle.laws.specs.Places.{every_get}
use Rattle.sheet_bytes.specs.SheetBytes.{contents_size, facts_size, jobs_size, events_size, bounds_size, sheet_size}
use Rattle.sheet_bytes.specs.Parts.{Entry, Contents, ends_at}

pub record Faultless (n : ℕ) (c : List ℕ) : Type 0 where
  pub fault : sheet_fault c ≡ 0
  pub contents : Contents n (sheet_of c) c
  pub size : length c ≡ sheet_size n (sheet_of c)

-- what the tests of the contents say
entry_of
    : {c : List ℕ} (i : ℕ) {offset size : ℕ}
    → entry_ok c i ≡ true
    → start_of c i ≡ offset
    → length_of c i ≡ size
    → Entry c i (i + 1) offset size
unfolding entry_ok
entry_of i h o l =
    let p = and_get _ _ h in
    let q = and_get _ _ p.0 in
    record { of_kind = eqb-true _ _ q.0; zero_byte = eqb-true _ _ q.1; offset_is = eqb-true _ _ p.1 ∙ o; length_is = l }

contents_of
    : (c : List ℕ)
    → contents_ok c ≡ true
    → (byte c 1 ≡ 4) × ((i : ℕ) → i < 4 → entry_ok c i ≡ true) × (start_of c 4 ≡ length c)
unfolding contents_ok
contents_of c h =
    let p4 = and_get (leb contents_size (length c) && edition_ok c && eqb (byte c 1) 4 && every (entry_ok c) 4) _ h in
    let p3 = and_get (leb contents_size (length c) && edition_ok c && eqb (byte c 1) 4) _ p4.0 in
    let p2 = and_get (leb contents_size (length c) && edition_ok c) _ p3.0 in
    (eqb-true _ _ p2.1, every_get (entry_ok c) 4 p3.1, eqb-true _ _ p4.1)

pub faultless : (n : ℕ) (c : List ℕ) → fault_in n c ≡ 0 → Faultless n c
unfolding facts_body_ok jobs_body_ok events_body_ok bounds_body_ok facts_size jobs_size events_size bounds_size start_of
faultless n c h =
    let (ed, q) = in_edition n c h in
    let p = all_passed c q in
    let (parts, entry, end) = contents_of c p.contents in
    let f : length_of c 0 ≡ facts_size n (sheet_of c) = rw (← ed) (eqb-true _ _ (and_get _ (facts_ok (sheet_of c)) p.facts).0) in
    let j : length_of c 1 ≡ jobs_size n (sheet_of c) = rw (← ed) (eqb-true _ _ (and_get _ (jobs_ok (sheet_of c)) p.jobs).0) in
    let e : length_of c 2 ≡ events_size (sheet_of c) = eqb-true _ _ (and_get _ (events_ok (sheet_of c)) p.events).0 in
    let d : length_of c 3 ≡ bounds_size (sheet_of c) = eqb-true _ _ (and_get _ (bounds_ok (sheet_of c)) p.bounds).0 in
    let t : Contents n (sheet_of c) c = record {
      is_edition = ed;
      part_count = parts;
      facts = entry_of 0 (entry 0 (omega arith)) refl f;
      jobs = entry_of 1 (entry 1 (omega arith)) (omega arith) j;
      events = entry_of 2 (entry 2 (omega arith)) (omega arith) e;
      bounds = entry_of 3 (entry 3 (omega arith)) (omega arith) d;
    } in
    record { fault = q; contents = t; size = sym end ∙ ends_at t }
