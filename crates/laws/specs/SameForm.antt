-- Well-formedness goes over between sheets that say the same with the same gap: its tests read nothing past the counts.
use Rattle.std.specs.Prelude.{ℕ, ◌<◌, ◌≡◌, Bool, true, ◌&&◌}
use Rattle.std.proofs.Math.Path.{ap}
use Rattle.std.proofs.Common.{◌∙◌}
use Rattle.std.proofs.Math.Dec.{leb}
use Rattle.rules.specs.Count.{every, rises, never_falls}
use Rattle.rules.specs.Sheet.{
  Sheet,
  Event,
  Bound,
  max_events,
  max_bounds,
  facts_ok,
  jobs_ok,
  event_key,
  two_ends,
  event_ok,
  events_ok,
  bound_key,
  bound_ok,
  bounds_ok,
  well_formed,
}
use Rattle.rules.specs.Rewrite.{SaysSame}
use Rattle.laws.specs.Limits.{most_mark}
use Rattle.laws.specs.Below.{every_below, any_below, rises_below, never_falls_below}
use Rattle.laws.specs.Formed.{Formed, formed}

all₃ : {a b c a' b' c' : Bool} → a ≡ a' → b ≡ b' → c ≡ c' → (a && b && c) ≡ (a' && b' && c')
all₃ p q r = cc

module _ {s t : Sheet} (a : SaysSame s t) (gap : s.gap ≡ t.gap) where
  facts_ok_lem : facts_ok s ≡ facts_ok t
  unfolding facts_ok
  facts_ok_lem =
      rw (
        ← a.facts,
        ← a.horizon,
        ← gap,
        every_below (λ f. leb (s.mark f) most_mark) (λ f. leb (t.mark f) most_mark) s.facts (λ f l. rw (a.marks f l)),
      )

  jobs_ok_lem : jobs_ok s ≡ jobs_ok t
  unfolding jobs_ok
  jobs_ok_lem = rw (← a.jobs, rises_below s.code t.code s.jobs a.codes)

  event_ok_lem : (e : ℕ) → e < s.events → event_ok s e ≡ event_ok t e
  unfolding event_ok
  event_ok_lem e l =
      rw (
        any_below (λ d. two_ends (s.event e) (s.event d)) (λ d. two_ends (s.event e) (t.event d)) s.events (λ d m. rw (a.event_rows d m)),
        a.event_rows e l,
        a.jobs,
        a.facts,
        a.events,
      )

  events_ok_lem : events_ok s ≡ events_ok t
  unfolding events_ok
  events_ok_lem =
      all₃ (ap (λ (n : ℕ). leb n max_events) a.events)
      (every_below (event_ok s) (event_ok t) s.events event_ok_lem ∙ ap (every (event_ok t)) a.events)
      (rises_below (λ e. event_key (s.event e)) (λ e. event_key (t.event e)) s.events (λ e l. rw (a.event_rows e l))
      ∙ ap (rises (λ e. event_key (t.event e))) a.events)

  job_of_lem : (e : ℕ) → e < s.events → (s.event e).job ≡ (t.event e).job
  job_of_lem e l = ap (λ (v : Event). v.job) (a.event_rows e l)

  bound_ok_lem : (c : Bound) → c.later < s.events → c.earlier < s.events → bound_ok s c ≡ bound_ok t c
  unfolding bound_ok
  bound_ok_lem c l m = rw (job_of_lem c.later l, job_of_lem c.earlier m, a.events)

  bounds_ok_lem : Formed s → bounds_ok s ≡ bounds_ok t
  unfolding bounds_ok
  bounds_ok_lem w =
      all₃ (ap (λ (n : ℕ). leb n max_bounds) a.bounds)
      (every_below (λ i. bound_ok s (s.bound i)) (λ i. bound_ok t (t.bound i)) s.bounds
      (λ i l. bound_ok_lem (s.bound i) (w.bound i l).later (w.bound i l).earlier ∙ ap (bound_ok t) (a.bound_rows i l))
      ∙ ap (every (λ i. bound_ok t (t.bound i))) a.bounds)
      (never_falls_below (λ i. bound_key (s.bound i)) (λ i. bound_key (t.bound i)) s.bounds (λ i l. rw (a.bound_rows i l))
      ∙ ap (never_falls (λ i. bound_key (t.bound i))) a.bounds)

  pub well_formed_same : well_formed s ≡ true → well_formed t ≡ true
  unfolding well_formed
  well_formed_same w = rw (← facts_ok_lem, ← jobs_ok_lem, ← events_ok_lem, ← bounds_ok_lem (formed s w)) w
