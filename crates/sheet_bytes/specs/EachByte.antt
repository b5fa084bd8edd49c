-- Each of a well-formed sheet's bytes is one: below 256.
use Rattle.std.specs.Prelude.{ℕ, ◌+◌, ◌%◌, ◌<◌, ◌≡◌, true, eqb}
use Rattle.std.proofs.Common.{arith, ⊎_elim}
use mathlib.Core.List.{[], ◌∷◌, ◌++◌}
use Rattle.rules.specs.Sheet.{Sheet, Event, Bound, origin}
use Rattle.laws.specs.Bools.{decided}
use Rattle.laws.specs.Limits.{byte_values, AllBytes}
use Rattle.laws.specs.Formed.{Formed}
use Rattle.laws.specs.Events.{Small, small}
use Rattle.byte_writer.specs.Bytes.{pair_limit, pair, joined}
use Rattle.byte_writer.specs.Joined.{bytes_none, bytes_cons, bytes_pair, bytes_append, bytes_when, bytes_below, when_yes, when_no}
use Rattle.sheet_bytes.specs.SheetBytes.{contents_size, in_edition2, head_bytes, facts_bytes, job_bytes, jobs_bytes, event_bytes, events_bytes}
use Rattle.sheet_bytes.specs.SheetBytes.{signed_pair, bound_bytes, bounds_bytes, facts_size, jobs_size, events_size, bounds_size}
use Rattle.sheet_bytes.specs.SheetBytes.{entry_bytes, contents_bytes, sheet_bytes}

entry_bytes_lem : (kind offset size : ℕ) → kind < byte_values → AllBytes (entry_bytes kind offset size)
unfolding entry_bytes
entry_bytes_lem kind offset size l =
    bytes_append (kind ∷ 0 ∷ pair offset) (pair size)
    (bytes_cons (0 ∷ pair offset) l (bytes_cons (pair offset) (omega arith) (bytes_pair offset))) (bytes_pair size)

contents_bytes_lem : (n : ℕ) (s : Sheet) → n < byte_values → AllBytes (contents_bytes n s)
unfolding contents_bytes
contents_bytes_lem n s l =
    let o2 = contents_size + facts_size n s in
    let o3 = o2 + jobs_size n s in
    let o4 = o3 + events_size s in
    let e1 = entry_bytes 1 contents_size (facts_size n s) in
    let e2 = entry_bytes 2 o2 (jobs_size n s) in
    let e3 = entry_bytes 3 o3 (events_size s) in
    bytes_append (n ∷ 4 ∷ e1 ++ e2 ++ e3) (entry_bytes 4 o4 (bounds_size s))
    (bytes_append (n ∷ 4 ∷ e1 ++ e2) e3
    (bytes_append (n ∷ 4 ∷ e1) e2
    (bytes_cons (4 ∷ e1) l (bytes_cons e1 (omega arith) (entry_bytes_lem 1 contents_size (facts_size n s) (omega arith))))
    (entry_bytes_lem 2 o2 (jobs_size n s) (omega arith)))
    (entry_bytes_lem 3 o3 (events_size s) (omega arith)))
    (entry_bytes_lem 4 o4 (bounds_size s) (omega arith))

event_bytes_lem : (e : Event) → e.job < byte_values → e.kind < byte_values → e.fact < byte_values → AllBytes (event_bytes e)
unfolding event_bytes
event_bytes_lem e p q r = bytes_cons (e.kind ∷ e.fact ∷ []) p (bytes_cons (e.fact ∷ []) q (bytes_cons [] r bytes_none))

bound_bytes_lem : (b : Bound) → b.later < byte_values → b.earlier < byte_values → AllBytes (bound_bytes b)
unfolding bound_bytes signed_pair
bound_bytes_lem b p q =
    let low = pair ((b.low + origin) % pair_limit) in
    let high = pair ((b.high + origin) % pair_limit) in
    bytes_append (b.later ∷ b.earlier ∷ low) high (bytes_cons (b.earlier ∷ low) p (bytes_cons low q (bytes_pair _))) (bytes_pair _)

module _ {s : Sheet} (w : Formed s) where
  limits : Small s
  limits = small s w

  -- the gap byte stands in edition 2 alone
  facts_bytes_lem : (n g : ℕ) → (eqb n 2 ≡ true → g < byte_values) → AllBytes (facts_bytes n g s)
  unfolding facts_bytes head_bytes in_edition2
  facts_bytes_lem n g l =
      let front = s.facts ∷ pair s.horizon in
      let back = g ∷ pair s.revision in
      bytes_append (head_bytes n g s) (joined (λ f. s.mark f ∷ []) s.facts)
      (bytes_append front (in_edition2 n back) (bytes_cons (pair s.horizon) (omega (arith, limits.facts)) (bytes_pair s.horizon))
      (⊎_elim (λ q. rw (when_yes (eqb n 2) back q) (bytes_cons (pair s.revision) (l q) (bytes_pair s.revision)))
      (λ q. rw (when_no (eqb n 2) back q) bytes_none) (decided (eqb n 2))))
      (bytes_below (λ f. s.mark f ∷ []) s.facts (λ f h. bytes_cons [] (omega (arith, w.marks f h)) bytes_none))

  jobs_bytes_lem : (n : ℕ) → AllBytes (jobs_bytes n s)
  unfolding jobs_bytes job_bytes in_edition2
  jobs_bytes_lem n =
      bytes_below (job_bytes n s) s.jobs
      (λ j h.
      bytes_append (pair (s.code j)) (in_edition2 n (pair (s.release j))) (bytes_pair (s.code j))
      (bytes_when (eqb n 2) (pair (s.release j)) (bytes_pair (s.release j))))

  events_bytes_lem : AllBytes (events_bytes s)
  unfolding events_bytes
  events_bytes_lem =
      bytes_below (λ e. event_bytes (s.event e)) s.events
      (λ e h.
      event_bytes_lem (s.event e) (omega (arith, w.job e h, limits.jobs)) (omega (arith, w.kind e h))
      (omega (arith, w.fact e h, limits.facts)))

  bounds_bytes_lem : AllBytes (bounds_bytes s)
  unfolding bounds_bytes
  bounds_bytes_lem =
      bytes_below (λ i. bound_bytes (s.bound i)) s.bounds
      (λ i h.
      bound_bytes_lem (s.bound i) (omega (arith, (w.bound i h).later, limits.events))
      (omega (arith, (w.bound i h).earlier, limits.events)))

  pub each_byte : (n g : ℕ) → n < byte_values → (eqb n 2 ≡ true → g < byte_values) → AllBytes (sheet_bytes n g s)
  unfolding sheet_bytes
  each_byte n g l m =
      let to1 = contents_bytes n s in
      let to2 = to1 ++ facts_bytes n g s in
      let to3 = to2 ++ jobs_bytes n s in
      bytes_append (to3 ++ events_bytes s) (bounds_bytes s)
      (bytes_append to3 (events_bytes s)
      (bytes_append to2 (jobs_bytes n s) (bytes_append to1 (facts_bytes n g s) (contents_bytes_lem n s l) (facts_bytes_lem n g m)) (jobs_bytes_lem n))
      events_bytes_lem)
      bounds_bytes_lem
