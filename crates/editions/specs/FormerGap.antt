-- The gap byte before the default became two ticks: what a sheet said, its faults, and rewriting, as they were written down. All but the gap is
-- today's text.
use Rattle.std.specs.Prelude.{ℕ, ◌+◌, ◌*◌, ◌/◌, ◌<◌, ◌≡◌, Bool, cond, not, ◌&&◌, List, leb, eqb}
use Rattle.rules.specs.Count.{every, byte, two}
use Rattle.rules.specs.Sheet.{
  Sheet,
  sheet_of,
  edition,
  facts_head,
  job_row,
  added,
  gap_byte,
  revision_at,
  job_at,
  length_of,
  facts_at,
  events_at,
  bounds_at,
  event_at,
  bound_at,
  contents_ok,
  facts_ok,
  jobs_ok,
  events_ok,
  bounds_ok,
}
use Rattle.rules.specs.Rewrite.{Rewritten}

-- the settling gap in ticks
unfoldable pub former_ticks : (edition byte : ℕ) → ℕ
former_ticks n g = cond (eqb n 2) (cond (eqb g 0) 1 g) 1

-- what the bytes say, but for the gap
unfoldable pub sheet_with : List ℕ → (gap : ℕ) → Sheet
sheet_with b g =
    record {
      facts = byte b (facts_at b);
      horizon = two b (facts_at b + 1);
      gap = g;
      revision = added (edition b) (two b (revision_at b));
      mark = λ f. byte b (facts_at b + facts_head (edition b) + f);
      jobs = length_of b 1 / job_row (edition b);
      code = λ j. two b (job_at b j);
      release = λ j. added (edition b) (two b (job_at b j + 2));
      events = length_of b 2 / 3;
      event = λ e. event_at b (events_at b + 3 * e);
      bounds = length_of b 3 / 6;
      bound = λ i. bound_at b (bounds_at b + 6 * i);
    }

-- what they said
unfoldable pub sheet_before : List ℕ → Sheet
sheet_before b = sheet_with b (former_ticks (edition b) (gap_byte b))

-- the number of the first broken rule
unfoldable pub fault_before : List ℕ → ℕ
fault_before b =
    let s = sheet_before b in
    cond (not (contents_ok b)) 10
    (cond (not (eqb (length_of b 0) (facts_head (edition b) + s.facts) && facts_ok s)) 11
    (cond (not (eqb (length_of b 1) (job_row (edition b) * s.jobs) && jobs_ok s)) 12
    (cond (not (eqb (length_of b 2) (3 * s.events) && events_ok s)) 13
    (cond (not (eqb (length_of b 3) (6 * s.bounds) && bounds_ok s)) 14 0))))

-- the edition 2 sheet of b, as rewriting wrote it
pub record WrittenBefore (b c : List ℕ) : Type 0 where
  pub rewritten : Rewritten 2 b c
  pub gap : gap_byte c ≡ 0
  pub revision : (sheet_of c).revision ≡ 0
  pub releases : (j : ℕ) → j < (sheet_of c).jobs → (sheet_of c).release j ≡ 0

-- edition 1 could say what the edition 2 sheet b said
unfoldable pub went_back : List ℕ → Bool
went_back b = leb (gap_byte b) 1 && eqb (sheet_before b).revision 0 && every (λ j. eqb ((sheet_before b).release j) 0) (sheet_before b).jobs
