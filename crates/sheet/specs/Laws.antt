-- The reader's sheet means what the bytes say; and what follows for a sheet that is formed.
use Rattle.std.specs.Prelude.{ℕ, ◌+◌, ◌*◌, ◌≤◌, ◌<◌, ◌≡◌, refl, Bool, true, false, cond, List, eqb}
use Rattle.std.proofs.Common.{arith, sym, subst, inl, inr}
use Rattle.rules.specs.Count.{byte, two}
use Rattle.rules.specs.Sheet as rules
use Rattle.rules.specs.Sheet.{sheet_of, start_of, edition, job_row, job_at, jobs_at, revision_at, added, event_at, bound_at, well_formed}
use Rattle.laws.specs.Formed.{formed, gap_within}
use Rattle.laws.specs.Events as events
use Rattle.sheet.specs.declared.Sheet.{Sheet}
use Rattle.sheet.specs.View.{meaning, revision_place, row2, TwoRows, in_row2, Near, RowsInside, Counted, RowOf, IsFormed, SheetIs}

-- a job's row tells the edition
pub row_of : (n : ℕ) → TwoRows (job_row n)
unfolding job_row
row_of n = go (eqb n 2)
  where
    go : (t : Bool) → TwoRows (cond t 4 2)
    go true = inr refl
    go false = inl refl

pub row_times : {row : ℕ} → TwoRows row → (n : ℕ) → row * n ≤ row2 * n
row_times (inl q) n = rw q (omega arith)
row_times (inr q) n = rw q (omega arith)

in_row : (n x : ℕ) → in_row2 (job_row n) x ≡ added n x
unfolding in_row2 job_row added
in_row n x = go (eqb n 2)
  where
    go : (t : Bool) → cond (eqb (cond t 4 2) row2) x 0 ≡ cond t x 0
    go true = refl
    go false = refl

revision_place_lem : (b : List ℕ) → revision_at b ≡ revision_place
unfolding revision_at start_of
revision_place_lem b = refl

pub sheet_means : {b : List ℕ} {v : Sheet} → SheetIs b v → meaning v b ≡ sheet_of b
unfolding meaning sheet_of job_at
sheet_means {b} {v} p =
    λ i.
    record {
      facts = p.facts i;
      horizon = p.horizon i;
      gap = p.gap i;
      revision = revision i;
      mark = λ f. byte b (p.marks_at i + f);
      jobs = p.jobs i;
      code = λ j. two b (p.jobs_at i + p.job_row i * j);
      release = λ j. release j i;
      events = p.events i;
      event = λ e. event_at b (p.events_at i + 3 * e);
      bounds = p.bounds i;
      bound = λ k. bound_at b (p.bounds_at i + 6 * k);
    }
  where
    revision : in_row2 v.job_row (two b revision_place) ≡ added (edition b) (two b (revision_at b))
    revision = rw (p.job_row, revision_place_lem b) (in_row (edition b) (two b revision_place))

    release
        : (j : ℕ)
        → in_row2 v.job_row (two b (v.jobs_at + v.job_row * j + 2)) ≡ added (edition b) (two b (jobs_at b + job_row (edition b) * j + 2))
    release j = rw (p.job_row, p.jobs_at) (in_row (edition b) _)

pub counted : {v : Sheet} {b : List ℕ} → Near v → RowsInside v b → Counted v b
unfolding meaning
counted near inside =
    record { facts = refl; horizon = refl; gap = refl; jobs = refl; events = refl; bounds = refl; near = near; inside = inside }

pub is_formed : {b : List ℕ} {v : Sheet} → SheetIs b v → RowsInside v b → well_formed (sheet_of b) ≡ true → IsFormed v b
is_formed {b} {v} p inside f =
    let s = meaning v b in
    let well = subst (λ (x : rules.Sheet). well_formed x ≡ true) (sym (sheet_means p)) f in
    let g = formed s well in
    record { sheet = counted p.near inside; well = well; few = events.small s g; gap = gap_within s well; formed = g }

module _ {v : Sheet} {b : List ℕ} (w : IsFormed v b) where
  -- the number of a fact, a job, an event, a bound
  pub of_facts : {f : ℕ} → f < (meaning v b).facts → RowOf v b v.facts f
  of_facts l = record { sheet = w.sheet; below = omega (arith, w.sheet.facts) }

  pub of_jobs : {j : ℕ} → j < (meaning v b).jobs → RowOf v b v.jobs j
  of_jobs l = record { sheet = w.sheet; below = omega (arith, w.sheet.jobs) }

  pub of_events : {e : ℕ} → e < (meaning v b).events → RowOf v b v.events e
  of_events l = record { sheet = w.sheet; below = omega (arith, w.sheet.events) }

  pub of_bounds : {i : ℕ} → i < (meaning v b).bounds → RowOf v b v.bounds i
  of_bounds l = record { sheet = w.sheet; below = omega (arith, w.sheet.bounds) }

  -- events stand in order of jobs
  pub sorted : (e d : ℕ) → e ≤ d → d < (meaning v b).events → ((meaning v b).event e).job ≤ ((meaning v b).event d).job
  sorted = events.by_job_lem (meaning v b) w.formed
