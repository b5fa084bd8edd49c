-- The bytes of a well-formed sheet are the bytes of what they say.
use Rattle.std.specs.Prelude.{ℕ, suc, ◌+◌, ◌*◌, ◌≡◌, ◌⊎◌, List, [], ◌∷◌, ◌++◌, length}
use native.Mathlib.Omega.{arith}
use Rattle.std.proofs.Math.Nat.{add-zero}
use Rattle.std.proofs.Common.{zero-add, ◌∙◌, inl, inr}
use Rattle.std.proofs.Math.Path.{refl, sym}
use Rattle.rules.specs.Count.{byte}
use Rattle.rules.specs.Sheet.{
  sheet_of,
  edition,
  kind_of,
  zero_of,
  offset_of,
  facts_head,
  job_row,
  added,
  gap_byte,
  revision_at,
  job_at,
  length_of,
  start_of,
  fault_in,
}
use Rattle.laws.specs.Limits.{AllBytes}
use Rattle.byte_writer.specs.Bytes.{when, joined}
use Rattle.byte_writer.specs.Joined.{joined_same}
use Rattle.sheet_bytes.specs.SheetBytes.{
  contents_size,
  event_size,
  bound_size,
  in_edition2,
  head_bytes,
  facts_bytes,
  job_bytes,
  jobs_bytes,
  event_bytes,
  events_bytes,
  bound_bytes,
  bounds_bytes,
  facts_size,
  jobs_size,
  events_size,
  bounds_size,
  entry_bytes,
  contents_bytes,
  sheet_bytes,
  sheet_size,
}
use Rattle.sheet_bytes.specs.Parts.{Entry, Contents, ends_at}
use Rattle.sheet_bytes.specs.Faultless.{faultless}
use Rattle.sheet_bytes.specs.BytesAt.{bytes_at, bytes_all, bytes_split, bytes_rows, pair_here, pair_after, event_here, bound_here}

-- the parts whose form the edition decides: the head of the facts body, and a job's row
module _ (c : List ℕ) (small : AllBytes c) where
  head_1 : bytes_at c (start_of c 0) (facts_head 1) ≡ head_bytes 1 (gap_byte c) (sheet_of c)
  unfolding bytes_at joined head_bytes in_edition2 when facts_head sheet_of start_of
  head_1 = rw (← pair_here c small 27)

  head_2 : edition c ≡ 2 → bytes_at c (start_of c 0) (facts_head 2) ≡ head_bytes 2 (gap_byte c) (sheet_of c)
  unfolding bytes_at joined head_bytes in_edition2 when facts_head sheet_of start_of gap_byte revision_at added
  head_2 e = rw (e, ← pair_here c small 27, ← pair_here c small 30)

  job_1 : (j : ℕ) → bytes_at c (job_at c j) (job_row 1) ≡ job_bytes 1 (sheet_of c) j
  unfolding bytes_at joined job_bytes in_edition2 when job_row sheet_of
  job_1 j = rw (add-zero (job_at c j), ← pair_here c small (job_at c j))

  job_2 : edition c ≡ 2 → (j : ℕ) → bytes_at c (job_at c j) (job_row 2) ≡ job_bytes 2 (sheet_of c) j
  unfolding bytes_at joined job_bytes in_edition2 when job_row sheet_of added
  job_2 e j = rw (e, add-zero (job_at c j), ← pair_here c small (job_at c j), ← pair_after c small (job_at c j) 2)

  head_back : (n : ℕ) → (n ≡ 1) ⊎ (n ≡ 2) → edition c ≡ n → bytes_at c (start_of c 0) (facts_head n) ≡ head_bytes n (gap_byte c) (sheet_of c)
  head_back n (inl q) e = rw q head_1
  head_back n (inr q) e = rw q (head_2 (e ∙ q))

  job_back : (n : ℕ) → (n ≡ 1) ⊎ (n ≡ 2) → edition c ≡ n → (j : ℕ) → bytes_at c (job_at c j) (job_row n) ≡ job_bytes n (sheet_of c) j
  job_back n (inl q) e j = rw q (job_1 j)
  job_back n (inr q) e j = rw q (job_2 (e ∙ q) j)

-- the bodies
module _ {n : ℕ} {c : List ℕ} (known : (n ≡ 1) ⊎ (n ≡ 2)) (small : AllBytes c) (t : Contents n (sheet_of c) c) where
  marks_back : bytes_at c (start_of c 0 + facts_head n) (sheet_of c).facts ≡ joined (λ i. (sheet_of c).mark i ∷ []) (sheet_of c).facts
  unfolding bytes_at sheet_of
  marks_back = rw t.is_edition

  facts_back : bytes_at c (start_of c 0) (length_of c 0) ≡ facts_bytes n (gap_byte c) (sheet_of c)
  unfolding facts_bytes facts_size
  facts_back =
      rw (
        t.facts.length_is,
        bytes_split c (start_of c 0) (facts_head n) (sheet_of c).facts,
        head_back c small n known t.is_edition,
        marks_back,
      )

  job_row_lem : (j : ℕ) → bytes_at c (start_of c 1 + job_row n * j) (job_row n) ≡ job_bytes n (sheet_of c) j
  unfolding job_at
  job_row_lem j = rw (← t.is_edition) (rw (← t.is_edition) at (job_back c small n known t.is_edition j))

  jobs_back : bytes_at c (start_of c 1) (length_of c 1) ≡ jobs_bytes n (sheet_of c)
  unfolding jobs_bytes jobs_size
  jobs_back = rw t.jobs.length_is (bytes_rows c (start_of c 1) (job_row n) (sheet_of c).jobs ∙ joined_same _ _ _ (λ j l. job_row_lem j))

  event_row_lem : (e : ℕ) → bytes_at c (start_of c 2 + event_size * e) event_size ≡ event_bytes ((sheet_of c).event e)
  unfolding sheet_of
  event_row_lem e = event_here c small (start_of c 2 + event_size * e)

  events_back : bytes_at c (start_of c 2) (length_of c 2) ≡ events_bytes (sheet_of c)
  unfolding events_bytes events_size
  events_back = rw t.events.length_is (bytes_rows c (start_of c 2) event_size (sheet_of c).events ∙ joined_same _ _ _ (λ e l. event_row_lem e))

  bound_row : (i : ℕ) → bytes_at c (start_of c 3 + bound_size * i) bound_size ≡ bound_bytes ((sheet_of c).bound i)
  unfolding sheet_of
  bound_row i = bound_here c small (start_of c 3 + bound_size * i)

  bounds_back : bytes_at c (start_of c 3) (length_of c 3) ≡ bounds_bytes (sheet_of c)
  unfolding bounds_bytes bounds_size
  bounds_back = rw t.bounds.length_is (bytes_rows c (start_of c 3) bound_size (sheet_of c).bounds ∙ joined_same _ _ _ (λ i l. bound_row i))

  -- the contents
  entry_back : (i : ℕ) {kind offset size : ℕ} → Entry c i kind offset size → bytes_at c (2 + 6 * i) 6 ≡ entry_bytes kind offset size
  unfolding bytes_at joined entry_bytes kind_of zero_of offset_of length_of
  entry_back i e =
      let p1 : 2 + 6 * i + 1 ≡ 3 + 6 * i = omega arith in
      let p2 : 2 + 6 * i + 2 ≡ 4 + 6 * i = omega arith in
      let p3 : 2 + 6 * i + 3 ≡ 4 + 6 * i + 1 = omega arith in
      let p4 : 2 + 6 * i + 4 ≡ 6 + 6 * i = omega arith in
      let p5 : 2 + 6 * i + 5 ≡ 6 + 6 * i + 1 = omega arith in
      rw (
        ← e.offset_is,
        ← e.length_is,
        ← pair_here c small (4 + 6 * i),
        ← pair_here c small (6 + 6 * i),
        add-zero (2 + 6 * i),
        p1,
        p2,
        p3,
        p4,
        p5,
        e.of_kind,
        e.zero_byte,
      )

  contents_split
      : bytes_at c 0 contents_size
      ≡ edition c ∷ byte c 1 ∷ bytes_at c 2 6 ++ bytes_at c 8 6 ++ bytes_at c 14 6 ++ bytes_at c 20 6
  unfolding bytes_at joined edition
  contents_split = refl

  contents_back : bytes_at c 0 (start_of c 0) ≡ contents_bytes n (sheet_of c)
  unfolding contents_bytes start_of
  contents_back =
      contents_split
      ∙ rw (
        t.is_edition,
        t.part_count,
        entry_back 0 t.facts,
        entry_back 1 t.jobs,
        entry_back 2 t.events,
        entry_back 3 t.bounds,
      )

  -- one after the other
  body : (i : ℕ) → bytes_at c 0 (start_of c (suc i)) ≡ bytes_at c 0 (start_of c i) ++ bytes_at c (start_of c i) (length_of c i)
  unfolding start_of
  body i = bytes_split c 0 (start_of c i) (length_of c i) ∙ rw (zero-add (start_of c i))

  all_back : length c ≡ sheet_size n (sheet_of c) → c ≡ sheet_bytes n (gap_byte c) (sheet_of c)
  unfolding sheet_bytes
  all_back size =
      sym (bytes_all c)
      ∙ rw (size, ← ends_at t, body 3, body 2, body 1, body 0, contents_back, facts_back, jobs_back, events_back, bounds_back)

pub written_back : {n : ℕ} {c : List ℕ} → (n ≡ 1) ⊎ (n ≡ 2) → AllBytes c → fault_in n c ≡ 0 → c ≡ sheet_bytes n (gap_byte c) (sheet_of c)
written_back {n} {c} known small h = let f = faultless n c h in all_back known small f.contents f.size
