-- The parts of a sheet, laid one after the other.
use Prim.Native.Nat.{ℕ, ◌+◌, ◌-◌, ◌*◌, ◌≤◌, ◌<◌}
use native.Mathlib.Omega.{arith}
use native.Mathlib.Nat.{zero-add, one-mul}
use mathlib.Core.Path.{◌≡◌, refl, sym, ap, ap₂, ◌∙◌}
use mathlib.Core.Logic.{◌≢◌, inl, inr, ⊎_elim}
use mathlib.Core.List.{List, [], ◌∷◌, ◌++◌, append-nil}
use lib.ListN.{length, length-append}
use lib.Dec.{eqb}
use borrow.Author.Tests.{eq-eqb, ne_eqb}
use Rattle.rules.specs.Sheet.{Sheet, Event, Bound, facts_head, job_row}
use Rattle.laws.specs.Bools.{decided}
use Rattle.laws.specs.Limits.{most_jobs, byte_values}
use Rattle.laws.specs.Events.{Small}
use Rattle.sheet.specs.declared.Places.{Places}
use Rattle.sheet.specs.declared.Row.{Row}
use Rattle.sheet.specs.declared.Bound as View
use Rattle.sheet.specs.View.{row2, TwoRows, RowIs, BoundIs}
use Rattle.byte_writer.specs.Bytes.{pair, joined}
use Rattle.byte_writer.specs.Fill.{laid, Laid-then, laid_long, Rows, rows_room, rows_step}
use Rattle.sheet_bytes.specs.SheetBytes.{contents_size, event_size, bound_size, facts_size, jobs_size, events_size, bounds_size, sheet_size}
use Rattle.byte_writer.specs.Joined.{pair_length, when_yes, when_no}
use Rattle.sheet_bytes.specs.SheetBytes.{in_edition2, entry_bytes, contents_bytes, head_bytes, facts_bytes, job_bytes, jobs_bytes}
use Rattle.sheet_bytes.specs.SheetBytes.{event_bytes, events_bytes, signed_pair, bound_bytes, bounds_bytes, sheet_bytes}
use Rattle.sheet_bytes.specs.Sizes.{head_length, job_length, contents_length, facts_length, jobs_length, events_length}
use Rattle.sheet_writer.specs.View.{IsEdition, PlacesFor, mark_byte}

-- ---- places

pub jobs_few : {row k : ℕ} → TwoRows row → k ≤ most_jobs → row * k ≤ row2 * most_jobs
jobs_few (inl q) l = rw q (omega arith)
jobs_few (inr q) l = rw q (omega arith)

-- h is the head of the facts body, row the row of a job
pub places_for
    : {n : ℕ} {s : Sheet} {h row : ℕ}
    → Small s
    → (h ≡ facts_head n) × (h < 7)
    → (row ≡ job_row n) × TwoRows row
    → PlacesFor n s
    (record {
      facts = contents_size;
      jobs = contents_size + h + s.facts;
      events = contents_size + h + s.facts + row * s.jobs;
      bounds = contents_size + h + s.facts + row * s.jobs + event_size * s.events;
    })
unfolding facts_size jobs_size events_size bounds_size sheet_size
places_for {n} {s} {h} {row} few head rows =
    let jobs : row * s.jobs ≡ job_row n * s.jobs = ap (λ (r : ℕ). r * s.jobs) rows.0 in
    let less = jobs_few rows.1 few.jobs in
    record {
      facts = refl;
      jobs = omega arith;
      events = omega arith;
      bounds = omega arith;
      short = omega (arith, few.facts, few.events, few.bounds);
    }

-- ---- rows; d is the buffer before, and each store has been made after the last

module _ (d : List ℕ) (at : ℕ) {a b c : List ℕ} where
  pub event_laid
      : {e : Event} {r : Row}
      → RowIs e r
      → a ≡ laid d at (r.job ∷ [])
      → b ≡ laid a (at + 1) (r.kind ∷ [])
      → c ≡ laid b (at + 2) (r.fact ∷ [])
      → c ≡ laid d at (event_bytes e)
  unfolding event_bytes
  event_laid {r = r} w h1 h2 h3 =
      let two = Laid-then d (r.job ∷ []) (r.kind ∷ []) at 1 refl h1 h2 in
      let three = Laid-then d (r.job ∷ r.kind ∷ []) (r.fact ∷ []) at 2 refl two h3 in
      rw (← w.job, ← w.kind, ← w.fact) three

  module _ {out : List ℕ} where
    pub entry_laid
        : (kind offset size : ℕ)
        → a ≡ laid d at (kind ∷ [])
        → b ≡ laid a (at + 1) (0 ∷ [])
        → c ≡ laid b (at + 2) (pair offset)
        → out ≡ laid c (at + 4) (pair size)
        → out ≡ laid d at (entry_bytes kind offset size)
    unfolding entry_bytes pair
    entry_laid kind offset size h1 h2 h3 h4 =
        let two = Laid-then d (kind ∷ []) (0 ∷ []) at 1 refl h1 h2 in
        let three = Laid-then d (kind ∷ 0 ∷ []) (pair offset) at 2 refl two h3 in
        Laid-then d (kind ∷ 0 ∷ pair offset) (pair size) at 4 refl three h4

    pub bound_laid
        : {e : Bound} {r : View.Bound}
        → BoundIs e r
        → a ≡ laid d at (r.later ∷ [])
        → b ≡ laid a (at + 1) (r.earlier ∷ [])
        → c ≡ laid b (at + 2) (signed_pair r.low)
        → out ≡ laid c (at + 4) (signed_pair r.high)
        → out ≡ laid d at (bound_bytes e)
    unfolding bound_bytes signed_pair pair
    bound_laid {r = r} w h1 h2 h3 h4 =
        let two = Laid-then d (r.later ∷ []) (r.earlier ∷ []) at 1 refl h1 h2 in
        let three = Laid-then d (r.later ∷ r.earlier ∷ []) (signed_pair r.low) at 2 refl two h3 in
        let four = Laid-then d (r.later ∷ r.earlier ∷ signed_pair r.low) (signed_pair r.high) at 4 refl three h4 in
        rw (← w.later, ← w.earlier, ← w.low, ← w.high) four

-- ---- the contents

pub edition_small : {n : ℕ} → IsEdition n → n < byte_values
edition_small h = ⊎_elim (λ q. omega arith) (λ q. omega arith) h

module _ (n : ℕ) (s : Sheet) (p : Places) (w : PlacesFor n s p) (d : List ℕ) {o1 o2 o3 o4 o5 out : List ℕ} where
  pub contents_laid
      : o1 ≡ laid d 0 (n ∷ [])
      → o2 ≡ laid o1 1 (4 ∷ [])
      → o3 ≡ laid o2 2 (entry_bytes 1 p.facts (p.jobs - p.facts))
      → o4 ≡ laid o3 8 (entry_bytes 2 p.jobs (p.events - p.jobs))
      → o5 ≡ laid o4 14 (entry_bytes 3 p.events (event_size * s.events))
      → out ≡ laid o5 20 (entry_bytes 4 p.bounds (bound_size * s.bounds))
      → out ≡ laid d 0 (contents_bytes n s)
  unfolding contents_bytes events_size bounds_size entry_bytes pair
  contents_laid h1 h2 h3 h4 h5 h6 =
      let e1 = entry_bytes 1 contents_size (facts_size n s) in
      let e2 = entry_bytes 2 (contents_size + facts_size n s) (jobs_size n s) in
      let e3 = entry_bytes 3 (contents_size + facts_size n s + jobs_size n s) (events_size s) in
      let e4 = entry_bytes 4 (contents_size + facts_size n s + jobs_size n s + events_size s) (bounds_size s) in
      let s1 : p.jobs - p.facts ≡ facts_size n s = omega (arith, w.facts, w.jobs) in
      let s2 : p.events - p.jobs ≡ jobs_size n s = omega (arith, w.jobs, w.events) in
      let q1 : entry_bytes 1 p.facts (p.jobs - p.facts) ≡ e1 = ap₂ (entry_bytes 1) w.facts s1 in
      let q2 : entry_bytes 2 p.jobs (p.events - p.jobs) ≡ e2 = ap₂ (entry_bytes 2) w.jobs s2 in
      let q3 = ap (λ (x : ℕ). entry_bytes 3 x (events_size s)) w.events in
      let q4 = ap (λ (x : ℕ). entry_bytes 4 x (bounds_size s)) w.bounds in
      let two = Laid-then d (n ∷ []) (4 ∷ []) 0 1 refl h1 h2 in
      let three = Laid-then d (n ∷ 4 ∷ []) e1 0 2 refl two (h3 ∙ ap (laid o2 2) q1) in
      let four = Laid-then d (n ∷ 4 ∷ e1) e2 0 8 refl three (h4 ∙ ap (laid o3 8) q2) in
      let five = Laid-then d (n ∷ 4 ∷ e1 ++ e2) e3 0 14 refl four (h5 ∙ ap (laid o4 14) q3) in
      Laid-then d (n ∷ 4 ∷ e1 ++ e2 ++ e3) e4 0 20 refl five (h6 ∙ ap (laid o5 20) q4)

-- ---- what edition 2 alone has

in_edition2_lem : (n : ℕ) (w : List ℕ) → n ≡ 2 → in_edition2 n w ≡ w
unfolding in_edition2
in_edition2_lem n w q = when_yes (eqb n 2) w (eq-eqb n 2 q)

not_in_edition1 : (n : ℕ) (w : List ℕ) → n ≢ 2 → in_edition2 n w ≡ []
unfolding in_edition2
not_in_edition1 n w q = when_no (eqb n 2) w (ne_eqb n 2 q)

module _ (n : ℕ) where
  pub head_least : 3 ≤ facts_head n
  unfolding facts_head
  head_least = ⊎_elim (λ h. rw h (omega arith)) (λ h. rw h (omega arith)) (decided (eqb n 2))

  pub head_whole : n ≡ 2 → 6 ≤ facts_head n
  unfolding facts_head
  head_whole q = rw (eq-eqb n 2 q) (omega arith)

  pub row_least : 2 ≤ job_row n
  unfolding job_row
  row_least = ⊎_elim (λ h. rw h (omega arith)) (λ h. rw h (omega arith)) (decided (eqb n 2))

  pub row_whole : n ≡ 2 → 4 ≤ job_row n
  unfolding job_row
  row_whole q = rw (eq-eqb n 2 q) (omega arith)

module _ (n : ℕ) (s : Sheet) (j : ℕ) (d : List ℕ) (at : ℕ) {code : ℕ} {a : List ℕ}
    (same : code ≡ s.code j) (h1 : a ≡ laid d at (pair code)) where
  pub job_laid_1 : n ≢ 2 → a ≡ laid d at (job_bytes n s j)
  unfolding job_bytes
  job_laid_1 q = rw (not_in_edition1 n (pair (s.release j)) q, append-nil (pair (s.code j)), ← same) h1

  pub job_laid_2
      : {release : ℕ} {c : List ℕ}
      → n ≡ 2
      → release ≡ s.release j
      → c ≡ laid a (at + 2) (pair release)
      → c ≡ laid d at (job_bytes n s j)
  unfolding job_bytes
  job_laid_2 {release} q too h2 =
      rw (in_edition2_lem n (pair (s.release j)) q, ← same, ← too) (Laid-then d (pair code) (pair release) at 2 (pair_length code) h1 h2)

module _ (n g : ℕ) (s : Sheet) (d : List ℕ) {a b : List ℕ}
    (h1 : a ≡ laid d contents_size (s.facts ∷ [])) (h2 : b ≡ laid a (contents_size + 1) (pair s.horizon)) where
  head_front : b ≡ laid d contents_size (s.facts ∷ pair s.horizon)
  head_front = Laid-then d (s.facts ∷ []) (pair s.horizon) contents_size 1 refl h1 h2

  pub head_laid_1 : n ≢ 2 → b ≡ laid d contents_size (head_bytes n g s)
  unfolding head_bytes
  head_laid_1 q =
      rw (not_in_edition1 n (g ∷ pair s.revision) q, append-nil (s.facts ∷ pair s.horizon)) head_front

  pub head_laid_2
      : {revision : ℕ} {c out : List ℕ}
      → n ≡ 2
      → revision ≡ s.revision
      → c ≡ laid b (contents_size + 3) (g ∷ [])
      → out ≡ laid c (contents_size + 4) (pair revision)
      → out ≡ laid d contents_size (head_bytes n g s)
  unfolding head_bytes pair
  head_laid_2 {revision} q same h3 h4 =
      let three = Laid-then d (s.facts ∷ pair s.horizon) (g ∷ []) contents_size 3 refl head_front h3 in
      let four = Laid-then d (s.facts ∷ pair s.horizon ++ g ∷ []) (pair revision) contents_size 4 refl three h4 in
      rw (in_edition2_lem n (g ∷ pair s.revision) q, ← same) four

-- ---- loops over rows

module _ {d : List ℕ} {at k : ℕ} {out : List ℕ} where
  -- rows of one byte
  pub byte_step
      : (f : ℕ → ℕ) (n : ℕ) {r : ℕ} {new : List ℕ}
      → Rows d at (λ i. f i ∷ []) n k out
      → k < n
      → r ≡ f k
      → new ≡ laid out (at + k) (r ∷ [])
      → Rows d at (λ i. f i ∷ []) n (k + 1) new
  byte_step f n {r} h l q next =
      rows_step d at (λ i. f i ∷ []) n h 1 (λ i. refl) l (ap (λ (x : ℕ). x ∷ []) (sym q))
      (next ∙ ap (λ (i : ℕ). laid out (at + i) (r ∷ [])) (sym (one-mul k)))

  module _ (n : ℕ) (s : Sheet) {row : ℕ} (h : Rows d at (job_bytes n s) s.jobs k out) (l : k < s.jobs) (q : row ≡ job_row n) where
    pub job_room_lem : at + jobs_size n s ≤ length d → at + row * k + job_row n ≤ length out
    unfolding jobs_size
    job_room_lem room = rw q (rows_room d at (job_bytes n s) s.jobs h (job_row n) room l)

    pub job_step : {new : List ℕ} → new ≡ laid out (at + row * k) (job_bytes n s k) → Rows d at (job_bytes n s) s.jobs (k + 1) new
    job_step next =
        rows_step d at (job_bytes n s) s.jobs h (job_row n) (job_length n s) l refl
        (next ∙ ap (λ (r : ℕ). laid out (at + r * k) (job_bytes n s k)) q)

-- ---- the whole sheet

-- room for each part in a buffer of k bytes
pub record Fits (n : ℕ) (s : Sheet) (p : Places) (k : ℕ) : Type 0 where
  pub contents : contents_size ≤ k
  pub head : contents_size + facts_head n ≤ k
  pub marks : contents_size + facts_head n + s.facts ≤ k
  pub jobs : p.jobs + jobs_size n s ≤ k
  pub events : p.events + events_size s ≤ k
  pub bounds : p.bounds + bounds_size s ≤ k

pub fits : {n : ℕ} {s : Sheet} {p : Places} {k : ℕ} → PlacesFor n s p → sheet_size n s ≤ k → Fits n s p k
unfolding sheet_size facts_size
fits w room =
    record {
      contents = omega arith;
      head = omega arith;
      marks = omega arith;
      jobs = omega (arith, w.jobs);
      events = omega (arith, w.events);
      bounds = omega (arith, w.bounds);
    }

-- a buffer into which something was laid has as much room
pub fits_after
    : {n : ℕ} {s : Sheet} {p : Places} (d : List ℕ) (i : ℕ) (w : List ℕ) {new : List ℕ}
    → Fits n s p (length d)
    → new ≡ laid d i w
    → Fits n s p (length new)
fits_after d i w h e = rw (laid_long d i w e) h

-- h is the head of the facts body
pub marks_room : {n : ℕ} {s : Sheet} {p : Places} {h k : ℕ} → Fits n s p k → h ≡ facts_head n → contents_size + h + s.facts ≤ k
marks_room f q = omega (arith, f.marks)

-- the front u has been laid, and w behind it
front_laid
    : (d u w : List ℕ) {a c : List ℕ} {i n : ℕ} → length u ≡ n → i ≡ n → a ≡ laid d 0 u → c ≡ laid a i w → c ≡ laid d 0 (u ++ w)
front_laid d u w {a} {n = n} long q h1 h2 =
    Laid-then d u w 0 n long h1 (h2 ∙ ap (λ (k : ℕ). laid a k w) (q ∙ sym (zero-add n)))

module _ (n g : ℕ) (s : Sheet) {p : Places} (w : PlacesFor n s p) (d : List ℕ) {o1 o2 o3 o4 o5 out : List ℕ} {h : ℕ} where
  pub sheet_laid
      : h ≡ facts_head n
      → o1 ≡ laid d 0 (contents_bytes n s)
      → o2 ≡ laid o1 contents_size (head_bytes n g s)
      → o3 ≡ laid o2 (contents_size + h) (joined (mark_byte s) s.facts)
      → o4 ≡ laid o3 p.jobs (jobs_bytes n s)
      → o5 ≡ laid o4 p.events (events_bytes s)
      → out ≡ laid o5 p.bounds (bounds_bytes s)
      → out ≡ laid d 0 (sheet_bytes n g s)
  unfolding sheet_bytes facts_bytes
  sheet_laid q h1 h2 h3 h4 h5 h6 =
      let contents = contents_bytes n s in
      let head = head_bytes n g s in
      let marks = joined (mark_byte s) s.facts in
      let jobs = jobs_bytes n s in
      let events = events_bytes s in
      let long0 : length (head ++ marks) ≡ facts_size n s = facts_length n g s in
      let long1 = contents_length n s in
      let long2 : length (contents ++ (head ++ marks)) ≡ contents_size + facts_size n s =
      omega (arith, length-append contents (head ++ marks)) in
      let long3 : length (contents ++ (head ++ marks) ++ jobs) ≡ contents_size + facts_size n s + jobs_size n s =
      omega (arith, length-append (contents ++ (head ++ marks)) jobs, jobs_length n s) in
      let long4 : length (contents ++ (head ++ marks) ++ jobs ++ events) ≡ contents_size + facts_size n s + jobs_size n s + events_size s =
      omega (arith, length-append (contents ++ (head ++ marks) ++ jobs) events, events_length s) in
      let two = Laid-then o1 head marks contents_size h (head_length n g s ∙ sym q) h2 h3 in
      let three = front_laid d contents (head ++ marks) long1 refl h1 two in
      let four = front_laid d (contents ++ (head ++ marks)) jobs long2 w.jobs three h4 in
      let five = front_laid d (contents ++ (head ++ marks) ++ jobs) events long3 w.events four h5 in
      front_laid d (contents ++ (head ++ marks) ++ jobs ++ events) (bounds_bytes s) long4 w.bounds five h6
