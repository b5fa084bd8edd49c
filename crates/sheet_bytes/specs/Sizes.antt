-- How many bytes the parts of a sheet have, and the sheet.
use Rattle.std.specs.Prelude.{ℕ, ◌≡◌, refl, Bool, true, false, cond, [], ◌∷◌, ◌++◌, length, eqb}
use Rattle.std.proofs.Common.{arith, length-append}
use Rattle.rules.specs.Sheet.{Sheet, Event, Bound, facts_head, job_row}
use Rattle.byte_writer.specs.Bytes.{pair, when, joined}
use Rattle.byte_writer.specs.Joined.{rows_length}
use Rattle.sheet_bytes.specs.SheetBytes.{contents_size, event_size, bound_size, in_edition2}
use Rattle.sheet_bytes.specs.SheetBytes.{head_bytes, facts_bytes, job_bytes, jobs_bytes, event_bytes, events_bytes}
use Rattle.sheet_bytes.specs.SheetBytes.{signed_pair, bound_bytes, bounds_bytes, entry_bytes, contents_bytes, sheet_bytes}
use Rattle.sheet_bytes.specs.SheetBytes.{facts_size, jobs_size, events_size, bounds_size, sheet_size}

-- ---- heads and rows

pub head_length : (n g : ℕ) (s : Sheet) → length (head_bytes n g s) ≡ facts_head n
unfolding head_bytes in_edition2 facts_head pair when
head_length n g s = go (eqb n 2)
  where
    go : (t : Bool) → length (s.facts ∷ pair s.horizon ++ when t (g ∷ pair s.revision)) ≡ cond t 6 3
    go true = refl
    go false = refl

pub job_length : (n : ℕ) (s : Sheet) (j : ℕ) → length (job_bytes n s j) ≡ job_row n
unfolding job_bytes in_edition2 job_row pair when
job_length n s j = go (eqb n 2)
  where
    go : (t : Bool) → length (pair (s.code j) ++ when t (pair (s.release j))) ≡ cond t 4 2
    go true = refl
    go false = refl

pub event_length : (e : Event) → length (event_bytes e) ≡ event_size
unfolding event_bytes
event_length e = refl

pub bound_length : (c : Bound) → length (bound_bytes c) ≡ bound_size
unfolding bound_bytes signed_pair pair
bound_length c = refl

-- ---- the parts

pub contents_length : (n : ℕ) (s : Sheet) → length (contents_bytes n s) ≡ contents_size
unfolding contents_bytes entry_bytes pair
contents_length n s = refl

pub facts_length : (n g : ℕ) (s : Sheet) → length (facts_bytes n g s) ≡ facts_size n s
unfolding facts_bytes facts_size
facts_length n g s =
    let marks = joined (λ f. s.mark f ∷ []) s.facts in
    omega (arith, length-append (head_bytes n g s) marks, head_length n g s, rows_length (λ f. s.mark f ∷ []) 1 s.facts (λ f. refl))

pub jobs_length : (n : ℕ) (s : Sheet) → length (jobs_bytes n s) ≡ jobs_size n s
unfolding jobs_bytes jobs_size
jobs_length n s = rows_length (job_bytes n s) (job_row n) s.jobs (job_length n s)

pub events_length : (s : Sheet) → length (events_bytes s) ≡ events_size s
unfolding events_bytes events_size
events_length s = rows_length (λ e. event_bytes (s.event e)) event_size s.events (λ e. event_length (s.event e))

bounds_length : (s : Sheet) → length (bounds_bytes s) ≡ bounds_size s
unfolding bounds_bytes bounds_size
bounds_length s = rows_length (λ i. bound_bytes (s.bound i)) bound_size s.bounds (λ i. bound_length (s.bound i))

-- ---- the sheet

pub sheet_length : (n g : ℕ) (s : Sheet) → length (sheet_bytes n g s) ≡ sheet_size n s
unfolding sheet_bytes sheet_size
sheet_length n g s =
    omega (
      arith,
      length-append (contents_bytes n s ++ facts_bytes n g s ++ jobs_bytes n s ++ events_bytes s) (bounds_bytes s),
      length-append (contents_bytes n s ++ facts_bytes n g s ++ jobs_bytes n s) (events_bytes s),
      length-append (contents_bytes n s ++ facts_bytes n g s) (jobs_bytes n s),
      length-append (contents_bytes n s) (facts_bytes n g s),
      contents_length n s,
      facts_length n g s,
      jobs_length n s,
      events_length s,
      bounds_length s,
    )
