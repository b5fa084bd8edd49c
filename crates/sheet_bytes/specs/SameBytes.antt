-- Sheets that say the same have the same bytes; in edition 2, with the same gap byte, revision and releases.
use Rattle.std.specs.Prelude.{ℕ, ◌+◌, ◌<◌, ◌≡◌, refl, Bool, true, false, List, [], ◌∷◌, ◌++◌, take, drop, eqb}
use Rattle.std.proofs.Math.Path.{ap}
use Rattle.std.proofs.Common.{◌∙◌, eqb-true}
use Rattle.rules.specs.Sheet.{Sheet}
use Rattle.rules.specs.Rewrite.{SaysSame}
use Rattle.byte_writer.specs.Bytes.{pair, when, joined}
use Rattle.byte_writer.specs.Joined.{joined_same}
use Rattle.sheet_bytes.specs.SheetBytes.{
  in_edition2,
  head_bytes,
  facts_bytes,
  job_bytes,
  jobs_bytes,
  event_bytes,
  events_bytes,
  bound_bytes,
  bounds_bytes,
  facts_size,
  jobs_size,
  events_size,
  bounds_size,
  entry_bytes,
  contents_bytes,
  sheet_bytes,
}

-- what edition 2 alone has counts in edition 2 alone
edition2_same : (n : ℕ) (v w : List ℕ) → (n ≡ 2 → v ≡ w) → in_edition2 n v ≡ in_edition2 n w
unfolding in_edition2 when
edition2_same n v w h = go (eqb n 2) refl
  where
    go : (test : Bool) → eqb n 2 ≡ test → when test v ≡ when test w
    go true q = h (eqb-true n 2 q)
    go false q = refl

module _ {s t : Sheet} (same : SaysSame s t) where
  contents_same : (n : ℕ) → contents_bytes n s ≡ contents_bytes n t
  unfolding contents_bytes facts_size jobs_size events_size bounds_size
  contents_same n = rw (same.facts, same.jobs, same.events, same.bounds)

  facts_same : (n g : ℕ) → (n ≡ 2 → s.revision ≡ t.revision) → facts_bytes n g s ≡ facts_bytes n g t
  unfolding facts_bytes head_bytes
  facts_same n g revision =
      rw (
        edition2_same n (g ∷ pair s.revision) (g ∷ pair t.revision) (λ q. rw (revision q)),
        joined_same (λ f. s.mark f ∷ []) (λ f. t.mark f ∷ []) s.facts (λ f l. rw (same.marks f l)),
        same.facts,
        same.horizon,
      )

  jobs_same : (n : ℕ) → (n ≡ 2 → (j : ℕ) → j < s.jobs → s.release j ≡ t.release j) → jobs_bytes n s ≡ jobs_bytes n t
  unfolding jobs_bytes job_bytes
  jobs_same n release =
      joined_same (job_bytes n s) (job_bytes n t) s.jobs
      (λ j l. rw (same.codes j l, edition2_same n (pair (s.release j)) (pair (t.release j)) (λ q. rw (release q j l))))
      ∙ ap (joined (job_bytes n t)) same.jobs

  events_same : events_bytes s ≡ events_bytes t
  unfolding events_bytes
  events_same =
      joined_same (λ e. event_bytes (s.event e)) (λ e. event_bytes (t.event e)) s.events (λ e l. ap event_bytes (same.event_rows e l))
      ∙ ap (joined (λ e. event_bytes (t.event e))) same.events

  bounds_same : bounds_bytes s ≡ bounds_bytes t
  unfolding bounds_bytes
  bounds_same =
      joined_same (λ i. bound_bytes (s.bound i)) (λ i. bound_bytes (t.bound i)) s.bounds (λ i l. ap bound_bytes (same.bound_rows i l))
      ∙ ap (joined (λ i. bound_bytes (t.bound i))) same.bounds

pub same_sheet_bytes
    : (n g : ℕ) {s t : Sheet}
    → SaysSame s t
    → (n ≡ 2 → s.revision ≡ t.revision)
    → (n ≡ 2 → (j : ℕ) → j < s.jobs → s.release j ≡ t.release j)
    → sheet_bytes n g s ≡ sheet_bytes n g t
unfolding sheet_bytes
same_sheet_bytes n g same revision release =
    rw (contents_same same n, facts_same same n g revision, jobs_same same n release, events_same same, bounds_same same)

-- edition 1 has no gap byte
pub no_gap_byte : (g h : ℕ) (s : Sheet) → sheet_bytes 1 g s ≡ sheet_bytes 1 h s
unfolding sheet_bytes facts_bytes head_bytes in_edition2 when
no_gap_byte g h s = refl

-- the place of edition 2's gap byte
abbrev pub gap_at : ℕ
gap_at = 29

-- edition 2 has it there, and nowhere else
pub other_gap_byte : (g h : ℕ) (s : Sheet) → take gap_at (sheet_bytes 2 g s) ++ h ∷ drop (gap_at + 1) (sheet_bytes 2 g s) ≡ sheet_bytes 2 h s
unfolding sheet_bytes contents_bytes entry_bytes facts_bytes head_bytes in_edition2 when pair
other_gap_byte g h s = refl
