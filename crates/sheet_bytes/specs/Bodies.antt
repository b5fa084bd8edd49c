-- What is read back of each body.
use Rattle.std.specs.Prelude.{ℕ, ◌+◌, ◌%◌, ◌<◌, ◌≡◌, true, List, [], ◌∷◌, length, eqb}
use Rattle.std.proofs.Common.{arith, ap, eq-eqb}
use Rattle.std.proofs.Math.Path.{refl, sym}
use Rattle.std.proofs.Math.Logic.{⊎_elim}
use Rattle.rules.specs.Count.{byte, two}
use Rattle.rules.specs.Sheet.{Sheet, Event, Bound, origin, job_row, gap_ticks, added, start_of, event_at, signed, bound_at}
use Rattle.rules.specs.Sheet.{gap_byte, revision_at, job_at, sheet_of}
use Rattle.laws.specs.Bools.{decided}
use Rattle.byte_writer.specs.Bytes.{pair_limit, pair_size, pair, joined}
use Rattle.byte_writer.specs.Joined.{pair_length, when_yes, when_no}
use Rattle.byte_writer.specs.Stands.{Stands, stands_left, stands_right, stands_next, stands_row, stands_byte, stands_two}
use Rattle.sheet_bytes.specs.SheetBytes.{contents_size, event_size, bound_size, in_edition2}
use Rattle.sheet_bytes.specs.SheetBytes.{head_bytes, facts_bytes, job_bytes, jobs_bytes, event_bytes, events_bytes}
use Rattle.sheet_bytes.specs.SheetBytes.{signed_pair, bound_bytes, bounds_bytes, jobs_size, events_size, bounds_size}
use Rattle.sheet_bytes.specs.Sizes.{head_length, job_length, event_length, bound_length}
use Rattle.sheet_bytes.specs.Parts.{Parts, Contents, jobs_at_lem, events_at_lem, bounds_at_lem}

-- ---- what edition 2 alone has

module _ {c : List ℕ} {k : ℕ} (n : ℕ) where
  edition2 : (w : List ℕ) → eqb n 2 ≡ true → Stands c k (in_edition2 n w) → Stands c k w
  unfolding in_edition2
  edition2 w q h = rw (when_yes (eqb n 2) w q) at h

  -- the first byte, and those after it
  stands_gap : (g : ℕ) (w : List ℕ) → Stands c k (in_edition2 n (g ∷ w)) → gap_ticks n (byte c k) ≡ gap_ticks n g
  unfolding gap_ticks
  stands_gap g w h = ⊎_elim (λ q. rw (q, stands_byte (edition2 (g ∷ w) q h))) (λ q. rw q) (decided (eqb n 2))

  stands_after : {m : ℕ} (g : ℕ) (w : List ℕ) → k + 1 ≡ m → Stands c k (in_edition2 n (g ∷ w)) → Stands c m (in_edition2 n w)
  unfolding in_edition2
  stands_after g w r h =
      ⊎_elim (λ q. rw (when_yes (eqb n 2) w q) (stands_next r (edition2 (g ∷ w) q h)))
      (λ q. rw (when_no (eqb n 2) w q) (record { at = λ i l. absurd (omega arith) })) (decided (eqb n 2))

  -- a number
  stands_added : (x : ℕ) → x < pair_limit → Stands c k (in_edition2 n (pair x)) → added n (two c k) ≡ added n x
  unfolding added
  stands_added x l h = ⊎_elim (λ q. rw q (stands_two x l (edition2 (pair x) q h))) (λ q. rw q) (decided (eqb n 2))

-- ---- rows of events and bounds

stands_event : {c : List ℕ} {k : ℕ} (e : Event) → Stands c k (event_bytes e) → e ≡ event_at c k
unfolding event_bytes event_at
stands_event {c} {k} e h =
    let second = stands_next refl h in
    let third = stands_next {m = k + 2} (omega arith) second in
    rw (stands_byte h, stands_byte second, stands_byte third)

-- a signed number that is held plus 32,768
stands_signed : {c : List ℕ} {k : ℕ} (x : ℕ) → x < pair_limit → Stands c k (signed_pair x) → signed c k ≡ x
unfolding signed_pair signed origin
stands_signed x l h = rw (stands_two ((x + origin) % pair_limit) (omega arith) h) (omega arith)

signed_length : (x : ℕ) → length (signed_pair x) ≡ pair_size
unfolding signed_pair
signed_length x = pair_length ((x + origin) % pair_limit)

-- low and high fit their pairs
pub record Fits (b : Bound) : Type 0 where
  pub low : b.low < pair_limit
  pub high : b.high < pair_limit

stands_bound : {c : List ℕ} {k : ℕ} (b : Bound) → Fits b → Stands c k (bound_bytes b) → b ≡ bound_at c k
unfolding bound_bytes bound_at
stands_bound {c} {k} b f h =
    let front = b.later ∷ b.earlier ∷ signed_pair b.low in
    let first = stands_left front (signed_pair b.high) h in
    let second = stands_next refl first in
    let low = stands_next {m = k + 2} (omega arith) second in
    let high = stands_right {m = k + 4} front (signed_pair b.high) (omega (arith, signed_length b.low)) h in
    rw (stands_byte first, stands_byte second, stands_signed b.low f.low low, stands_signed b.high f.high high)

-- ---- the bodies

module _ {n g : ℕ} {s : Sheet} {c : List ℕ} (t : Contents n s c) (p : Parts n g s c) where
  -- facts: F and H, what edition 2 adds, the marks

  head : Stands c contents_size (head_bytes n g s)
  unfolding facts_bytes
  head = stands_left (head_bytes n g s) (joined (λ f. s.mark f ∷ []) s.facts) p.facts

  front : Stands c contents_size (s.facts ∷ pair s.horizon)
  unfolding head_bytes
  front = stands_left (s.facts ∷ pair s.horizon) (in_edition2 n (g ∷ pair s.revision)) head

  back : Stands c (contents_size + 3) (in_edition2 n (g ∷ pair s.revision))
  unfolding head_bytes
  back =
      stands_right (s.facts ∷ pair s.horizon) (in_edition2 n (g ∷ pair s.revision))
      (omega (arith, pair_length s.horizon)) head

  pub facts_read : s.facts ≡ (sheet_of c).facts
  unfolding sheet_of start_of
  facts_read = sym (stands_byte front)

  pub horizon_read : s.horizon < pair_limit → s.horizon ≡ (sheet_of c).horizon
  unfolding sheet_of start_of
  horizon_read l = sym (stands_two s.horizon l (stands_next refl front))

  pub gap_byte_read : n ≡ 2 → gap_byte c ≡ g
  unfolding gap_byte start_of
  gap_byte_read q = stands_byte (edition2 n (g ∷ pair s.revision) (eq-eqb n 2 q) back)

  pub gap_read : gap_ticks n g ≡ (sheet_of c).gap
  unfolding sheet_of gap_byte start_of
  gap_read = rw t.is_edition (sym (stands_gap n g (pair s.revision) back))

  pub revision_read : s.revision < pair_limit → added n s.revision ≡ (sheet_of c).revision
  unfolding sheet_of revision_at start_of
  revision_read l = rw t.is_edition (sym (stands_added n s.revision l (stands_after n g (pair s.revision) refl back)))

  pub mark_read : (f : ℕ) → f < s.facts → s.mark f ≡ (sheet_of c).mark f
  unfolding sheet_of start_of facts_bytes
  mark_read f l =
      let all = joined (λ f. s.mark f ∷ []) s.facts in
      let rows = stands_right (head_bytes n g s) all (ap (λ (k : ℕ). contents_size + k) (head_length n g s)) p.facts in
      rw t.is_edition (sym (stands_byte (stands_row (λ f. s.mark f ∷ []) 1 s.facts f (λ f. refl) l (omega arith) rows)))

  -- jobs: code and release

  pub jobs_read : s.jobs ≡ (sheet_of c).jobs
  unfolding sheet_of jobs_size job_row
  jobs_read =
      rw (t.jobs.length_is, t.is_edition) (⊎_elim (λ q. rw q (omega arith)) (λ q. rw q (omega arith)) (decided (eqb n 2)))

  job : (j : ℕ) → j < s.jobs → Stands c (job_at c j) (job_bytes n s j)
  unfolding jobs_bytes job_at
  job j l =
      rw t.is_edition
      (stands_row (job_bytes n s) (job_row n) s.jobs j (job_length n s) l (omega (arith, jobs_at_lem t)) p.jobs)

  pub code_read : (j : ℕ) → j < s.jobs → s.code j < pair_limit → s.code j ≡ (sheet_of c).code j
  unfolding sheet_of job_bytes
  code_read j l m =
      sym (stands_two (s.code j) m (stands_left (pair (s.code j)) (in_edition2 n (pair (s.release j))) (job j l)))

  pub release_read : (j : ℕ) → j < s.jobs → s.release j < pair_limit → added n (s.release j) ≡ (sheet_of c).release j
  unfolding sheet_of job_bytes
  release_read j l m =
      let second = stands_right {m = job_at c j + 2} (pair (s.code j)) (in_edition2 n (pair (s.release j)))
      (ap (λ (k : ℕ). job_at c j + k) (pair_length (s.code j))) (job j l) in
      rw t.is_edition (sym (stands_added n (s.release j) m second))

  -- events

  pub events_read : s.events ≡ (sheet_of c).events
  unfolding sheet_of events_size
  events_read = omega (arith, t.events.length_is)

  pub event_read : (e : ℕ) → e < s.events → s.event e ≡ (sheet_of c).event e
  unfolding sheet_of events_bytes
  event_read e l =
      stands_event (s.event e)
      (stands_row (λ i. event_bytes (s.event i)) event_size s.events e (λ i. event_length (s.event i)) l
      (omega (arith, events_at_lem t)) p.events)

  -- bounds

  pub bounds_read : s.bounds ≡ (sheet_of c).bounds
  unfolding sheet_of bounds_size
  bounds_read = omega (arith, t.bounds.length_is)

  pub bound_read : (i : ℕ) → i < s.bounds → Fits (s.bound i) → s.bound i ≡ (sheet_of c).bound i
  unfolding sheet_of bounds_bytes
  bound_read i l f =
      stands_bound (s.bound i) f
      (stands_row (λ k. bound_bytes (s.bound k)) bound_size s.bounds i (λ k. bound_length (s.bound k)) l
      (omega (arith, bounds_at_lem t)) p.bounds)
