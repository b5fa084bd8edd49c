-- That a sheet's places are right is a fact with one proof at most: a ghost field may hold it.
use Rattle.std.specs.Prelude.{ℕ, ◌+◌, ◌*◌, ◌≤◌, ◌<◌, ◌≡◌, List, length}
use Rattle.std.proofs.Common.{arith, ap}
use Rattle.std.proofs.Math.Logic.{inl, inr}
use Rattle.std.proofs.Math.Nat.{ℕ_set}
use denote.Struct.Props.{props}
use Rattle.rules.specs.Sheet as rules
use Rattle.laws.specs.Events.{Small}
use Rattle.laws.specs.Limits.{most_facts, most_horizon, most_jobs, most_events, most_bounds}
use Rattle.sheet.specs.View.{meaning, near_end, Near, RowsInside, Counted, TwoRows}
use Rattle.sheet.specs.declared.Sheet.{Sheet}

pub two_rows_prop : (row : ℕ) → IsProp (TwoRows row)
two_rows_prop row (inl p) (inl q) = ap inl (ℕ_set _ _ p q)
two_rows_prop row (inl p) (inr q) = absurd (omega arith)
two_rows_prop row (inr p) (inl q) = absurd (omega arith)
two_rows_prop row (inr p) (inr q) = ap inr (ℕ_set _ _ p q)

pub near_prop : (v : Sheet) → IsProp (Near v)
near_prop v x y =
    let marks_prop : IsProp (v.marks_at < near_end) = hlevel props in
    let jobs_prop : IsProp (v.jobs_at < near_end) = hlevel props in
    let events_prop : IsProp (v.events_at < near_end) = hlevel props in
    let bounds_prop : IsProp (v.bounds_at < near_end) = hlevel props in
    λ i. record {
      marks = marks_prop x.marks y.marks i;
      jobs = jobs_prop x.jobs y.jobs i;
      row = two_rows_prop v.job_row x.row y.row i;
      events = events_prop x.events y.events i;
      bounds = bounds_prop x.bounds y.bounds i;
    }

pub inside_prop : (v : Sheet) (b : List ℕ) → IsProp (RowsInside v b)
inside_prop v b x y =
    let marks_prop : IsProp (v.marks_at + v.facts ≤ length b) = hlevel props in
    let jobs_prop : IsProp (v.jobs_at + v.job_row * v.jobs ≤ length b) = hlevel props in
    let events_prop : IsProp (v.events_at + 3 * v.events ≤ length b) = hlevel props in
    let bounds_prop : IsProp (v.bounds_at + 6 * v.bounds ≤ length b) = hlevel props in
    λ i. record {
      marks = marks_prop x.marks y.marks i;
      jobs = jobs_prop x.jobs y.jobs i;
      events = events_prop x.events y.events i;
      bounds = bounds_prop x.bounds y.bounds i;
    }

pub counted_prop : (v : Sheet) (b : List ℕ) → IsProp (Counted v b)
counted_prop v b x y =
    let facts_prop : IsProp (v.facts ≡ (meaning v b).facts) = hlevel props in
    let horizon_prop : IsProp (v.horizon ≡ (meaning v b).horizon) = hlevel props in
    let gap_prop : IsProp (v.gap ≡ (meaning v b).gap) = hlevel props in
    let jobs_prop : IsProp (v.jobs ≡ (meaning v b).jobs) = hlevel props in
    let events_prop : IsProp (v.events ≡ (meaning v b).events) = hlevel props in
    let bounds_prop : IsProp (v.bounds ≡ (meaning v b).bounds) = hlevel props in
    λ i. record {
      facts = facts_prop x.facts y.facts i;
      horizon = horizon_prop x.horizon y.horizon i;
      gap = gap_prop x.gap y.gap i;
      jobs = jobs_prop x.jobs y.jobs i;
      events = events_prop x.events y.events i;
      bounds = bounds_prop x.bounds y.bounds i;
      near = near_prop v x.near y.near i;
      inside = inside_prop v b x.inside y.inside i;
    }

pub small_prop : (s : rules.Sheet) → IsProp (Small s)
small_prop s x y =
    let facts_prop : IsProp (s.facts ≤ most_facts) = hlevel props in
    let horizon_prop : IsProp (s.horizon ≤ most_horizon) = hlevel props in
    let jobs_prop : IsProp (s.jobs ≤ most_jobs) = hlevel props in
    let events_prop : IsProp (s.events ≤ most_events) = hlevel props in
    let bounds_prop : IsProp (s.bounds ≤ most_bounds) = hlevel props in
    λ i. record {
      facts = facts_prop x.facts y.facts i;
      horizon = horizon_prop x.horizon y.horizon i;
      jobs = jobs_prop x.jobs y.jobs i;
      events = events_prop x.events y.events i;
      bounds = bounds_prop x.bounds y.bounds i;
    }
