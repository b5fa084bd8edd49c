-- Where the parts stand in a sheet's bytes, and what its contents say of them.
use Rattle.std.specs.Prelude.{ℕ, ◌+◌, ◌*◌, ◌<◌, ◌≡◌, refl, List, ◌∷◌, ◌++◌, eqb}
use Rattle.std.proofs.Common.{arith, ap, ◌∙◌, ⊎_elim, length-append}
use Rattle.rules.specs.Count.{byte}
use Rattle.rules.specs.Sheet.{Sheet, facts_head, job_row, edition, kind_of, zero_of, offset_of, length_of, start_of}
use Rattle.laws.specs.Bools.{decided}
use Rattle.laws.specs.Formed.{Formed}
use Rattle.laws.specs.Events.{small}
use Rattle.byte_writer.specs.Bytes.{pair_limit, pair}
use Rattle.byte_writer.specs.Joined.{pair_length}
use Rattle.byte_writer.specs.Stands.{Stands, stands_all, stands_left, stands_right, stands_next, stands_byte, stands_two}
use Rattle.sheet_bytes.specs.SheetBytes.{contents_size, facts_bytes, jobs_bytes, events_bytes, bounds_bytes, entry_bytes, contents_bytes, sheet_bytes}
use Rattle.sheet_bytes.specs.SheetBytes.{facts_size, jobs_size, events_size, bounds_size, sheet_size}
use Rattle.sheet_bytes.specs.Sizes.{contents_length, facts_length, jobs_length, events_length}

-- ---- the places

-- c has the parts of a sheet, one after the other
pub record Parts (n g : ℕ) (s : Sheet) (c : List ℕ) : Type 0 where
  pub contents : Stands c 0 (contents_bytes n s)
  pub facts : Stands c contents_size (facts_bytes n g s)
  pub jobs : Stands c (contents_size + facts_size n s) (jobs_bytes n s)
  pub events : Stands c (contents_size + facts_size n s + jobs_size n s) (events_bytes s)
  pub bounds : Stands c (contents_size + facts_size n s + jobs_size n s + events_size s) (bounds_bytes s)

pub parts : (n g : ℕ) (s : Sheet) → Parts n g s (sheet_bytes n g s)
unfolding sheet_bytes
parts n g s =
    let to1 = contents_bytes n s in
    let to2 = to1 ++ facts_bytes n g s in
    let to3 = to2 ++ jobs_bytes n s in
    let to4 = to3 ++ events_bytes s in
    let l2 = length-append to1 (facts_bytes n g s) in
    let l3 = length-append to2 (jobs_bytes n s) in
    let l4 = length-append to3 (events_bytes s) in
    let in5 = stands_all (to4 ++ bounds_bytes s) in
    let in4 = stands_left to4 (bounds_bytes s) in5 in
    let in3 = stands_left to3 (events_bytes s) in4 in
    let in2 = stands_left to2 (jobs_bytes n s) in3 in
    let e1 = contents_length n s in
    let e2 = facts_length n g s in
    let e3 = jobs_length n s in
    let e4 = events_length s in
    record {
      contents = stands_left to1 (facts_bytes n g s) in2;
      facts = stands_right to1 (facts_bytes n g s) (omega arith) in2;
      jobs = stands_right to2 (jobs_bytes n s) (omega arith) in3;
      events = stands_right to3 (events_bytes s) (omega arith) in4;
      bounds = stands_right to4 (bounds_bytes s) (omega arith) in5;
    }

-- ---- the contents

-- the sizes of a well-formed sheet fit their pairs
size_fits : (n : ℕ) (s : Sheet) → Formed s → sheet_size n s < pair_limit
unfolding sheet_size facts_size jobs_size events_size bounds_size facts_head job_row
size_fits n s w =
    let limits = small s w in
    ⊎_elim (λ q. rw q (omega arith)) (λ q. rw q (omega arith)) (decided (eqb n 2))

-- what the entry of part i says
pub record Entry (c : List ℕ) (i kind offset size : ℕ) : Type 0 where
  pub of_kind : kind_of c i ≡ kind
  pub zero_byte : zero_of c i ≡ 0
  pub offset_is : offset_of c i ≡ offset
  pub length_is : length_of c i ≡ size

entry
    : {c : List ℕ} {k : ℕ} (i kind offset size : ℕ)
    → k ≡ 2 + 6 * i
    → offset + size < pair_limit
    → Stands c k (entry_bytes kind offset size)
    → Entry c i kind offset size
unfolding entry_bytes kind_of zero_of offset_of length_of
entry {c} {k} i kind offset size q l h =
    let front = stands_left (kind ∷ 0 ∷ pair offset) (pair size) h in
    let second = stands_next {m = 3 + 6 * i} (omega arith) front in
    record {
      of_kind = ap (byte c) (omega arith) ∙ stands_byte front;
      zero_byte = stands_byte second;
      offset_is = stands_two offset (omega arith) (stands_next (omega arith) second);
      length_is = stands_two size (omega arith) (stands_right (kind ∷ 0 ∷ pair offset) (pair size) (omega (arith, pair_length offset)) h);
    }

-- what the contents say
pub record Contents (n : ℕ) (s : Sheet) (c : List ℕ) : Type 0 where
  pub is_edition : edition c ≡ n
  pub part_count : byte c 1 ≡ 4
  pub facts : Entry c 0 1 contents_size (facts_size n s)
  pub jobs : Entry c 1 2 (contents_size + facts_size n s) (jobs_size n s)
  pub events : Entry c 2 3 (contents_size + facts_size n s + jobs_size n s) (events_size s)
  pub bounds : Entry c 3 4 (contents_size + facts_size n s + jobs_size n s + events_size s) (bounds_size s)

pub contents : {n : ℕ} {s : Sheet} {c : List ℕ} → Formed s → Stands c 0 (contents_bytes n s) → Contents n s c
unfolding contents_bytes edition sheet_size entry_bytes pair
contents {n} {s} {c} w h =
    let o2 = contents_size + facts_size n s in
    let o3 = o2 + jobs_size n s in
    let o4 = o3 + events_size s in
    let e1 = entry_bytes 1 contents_size (facts_size n s) in
    let e2 = entry_bytes 2 o2 (jobs_size n s) in
    let e3 = entry_bytes 3 o3 (events_size s) in
    let e4 = entry_bytes 4 o4 (bounds_size s) in
    let fits = size_fits n s w in
    let in3 = stands_left (n ∷ 4 ∷ e1 ++ e2 ++ e3) e4 h in
    let in2 = stands_left (n ∷ 4 ∷ e1 ++ e2) e3 in3 in
    let in1 = stands_left (n ∷ 4 ∷ e1) e2 in2 in
    let second = stands_next {m = 1} refl in1 in
    record {
      is_edition = stands_byte in1;
      part_count = stands_byte second;
      facts = entry 0 1 contents_size (facts_size n s) refl (omega arith) (stands_next refl second);
      jobs = entry 1 2 o2 (jobs_size n s) refl (omega arith) (stands_right (n ∷ 4 ∷ e1) e2 refl in2);
      events = entry 2 3 o3 (events_size s) refl (omega arith) (stands_right (n ∷ 4 ∷ e1 ++ e2) e3 refl in3);
      bounds = entry 3 4 o4 (bounds_size s) refl (omega arith) (stands_right (n ∷ 4 ∷ e1 ++ e2 ++ e3) e4 refl h);
    }

-- the bodies start where their entries say
module _ {n : ℕ} {s : Sheet} {c : List ℕ} (t : Contents n s c) where
  pub jobs_at_lem : start_of c 1 ≡ contents_size + facts_size n s
  unfolding start_of
  jobs_at_lem = omega (arith, t.facts.length_is)

  pub events_at_lem : start_of c 2 ≡ contents_size + facts_size n s + jobs_size n s
  unfolding start_of
  events_at_lem = omega (arith, t.facts.length_is, t.jobs.length_is)

  pub bounds_at_lem : start_of c 3 ≡ contents_size + facts_size n s + jobs_size n s + events_size s
  unfolding start_of
  bounds_at_lem = omega (arith, t.facts.length_is, t.jobs.length_is, t.events.length_is)

  pub ends_at : start_of c 4 ≡ sheet_size n s
  unfolding start_of sheet_size
  ends_at = omega (arith, t.facts.length_is, t.jobs.length_is, t.events.length_is, t.bounds.length_is)
