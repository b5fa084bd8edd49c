-- A well formed sheet's events: one event has a job, fact and type, events go by job, and a need's end is the event after its begin.
use Rattle.std.specs.Prelude.{ℕ, suc, ◌+◌, ◌≤◌, ◌<◌, ◌≡◌, ◌⊎◌}
use Rattle.std.proofs.Common.{arith, eq-or-lt_of_le, sym, ◌∙◌, ⊎_elim}
use Rattle.rules.specs.Sheet.{Sheet, Event, begins, ends, clears, event_key, max_facts, max_horizon, max_jobs, max_events, max_bounds}
use Rattle.rules.specs.Plan.{Is}
use Rattle.rules.specs.Wanted.{WantedFact, is_goal, is_need, WantedJob, is_setter}
use Rattle.laws.specs.Limits.{most_facts, most_horizon, most_jobs, most_events, most_bounds}
use Rattle.laws.specs.Rise.{up_same, up_after}
use Rattle.laws.specs.Formed.{Formed}

-- the limits in figures
pub record Small (s : Sheet) : Type 0 where
  pub facts : s.facts ≤ most_facts
  pub horizon : s.horizon ≤ most_horizon
  pub jobs : s.jobs ≤ most_jobs
  pub events : s.events ≤ most_events
  pub bounds : s.bounds ≤ most_bounds

-- a row's fact and type are digits of its key
pub record Digits (e : Event) : Type 0 where
  pub fact : e.fact < most_facts
  pub kind : e.kind ≤ clears

key_job : (e d : Event) → Digits e → Digits d → event_key e ≤ event_key d → e.job ≤ d.job
unfolding event_key
key_job e d p q l = omega arith

pub key_next
    : (e d : Event) → Digits e → Digits d → event_key d ≡ suc (event_key e) → (e.kind ≡ begins) ⊎ (d.kind ≡ ends)
    → (e.job ≡ d.job) × (e.fact ≡ d.fact) × (e.kind + d.kind ≡ 1)
unfolding event_key
key_next e d p q l w = ⊎_elim (λ h. (omega arith, omega arith, omega arith)) (λ h. (omega arith, omega arith, omega arith)) w

key_same : (e d : Event) → e.job ≡ d.job → e.fact ≡ d.fact → e.kind ≡ d.kind → event_key e ≡ event_key d
unfolding event_key
key_same e d p q r = omega arith

pub key_ends : (e d : Event) → e.job ≡ d.job → e.fact ≡ d.fact → e.kind ≡ begins → d.kind ≡ ends → event_key d ≡ suc (event_key e)
unfolding event_key
key_ends e d p q r t = omega arith

module _ (s : Sheet) (w : Formed s) where
  pub small : Small s
  unfolding max_facts max_horizon max_jobs max_events max_bounds
  small = record { facts = w.facts; horizon = w.horizon; jobs = w.jobs; events = w.events; bounds = w.bounds }

  digits : (e : ℕ) → e < s.events → Digits (s.event e)
  digits e l = record { fact = omega (arith, w.fact e l, small.facts); kind = w.kind e l }

  -- events go by job
  pub by_job_lem : (e d : ℕ) → e ≤ d → d < s.events → (s.event e).job ≤ (s.event d).job
  by_job_lem e d l m =
      ⊎_elim
      (λ h. rw h (omega arith))
      (λ h. key_job (s.event e) (s.event d) (digits e (omega arith)) (digits d m) (omega (arith, w.keys e d h m)))
      (eq-or-lt_of_le l)

  -- an event is determined by job, type and fact
  pub one_event : (e d j k f : ℕ) → Is s e j k f → Is s d j k f → e ≡ d
  one_event e d j k f p q =
      up_same
      (λ i. event_key (s.event i))
      s.events
      w.keys
      e
      d
      p.in_sheet
      q.in_sheet
      (key_same (s.event e) (s.event d) (p.of_job ∙ sym q.of_job) (p.of_fact ∙ sym q.of_fact) (p.of_kind ∙ sym q.of_kind))

  -- the end of a need is the event after its begin
  pub end_after : (b e j f : ℕ) → Is s b j begins f → Is s e j ends f → e ≡ suc b
  end_after b e j f p q =
      up_after
      (λ i. event_key (s.event i))
      s.events
      w.keys
      b
      e
      p.in_sheet
      q.in_sheet
      (key_ends (s.event b) (s.event e) (p.of_job ∙ sym q.of_job) (p.of_fact ∙ sym q.of_fact) p.of_kind q.of_kind)

  pub end_of : (b j f : ℕ) → Is s b j begins f → Is s (suc b) j ends f
  end_of b j f p =
      let o = w.other b p.in_sheet (omega (arith, p.of_kind)) in
      let d = o.0 in
      let q : Is s d j ends f = record {
        in_sheet = o.1.in_sheet;
        of_job = sym o.1.same_job ∙ p.of_job;
        of_kind = omega (arith, p.of_kind, o.1.kinds);
        of_fact = sym o.1.same_fact ∙ p.of_fact;
      } in
      rw (end_after b d j f p q) at q

  pub begin_of : (e j f : ℕ) → Is s e j ends f → (b : ℕ) × (e ≡ suc b) × Is s b j begins f
  begin_of e j f p =
      let o = w.other e p.in_sheet (omega (arith, p.of_kind)) in
      let d = o.0 in
      let q : Is s d j begins f = record {
        in_sheet = o.1.in_sheet;
        of_job = sym o.1.same_job ∙ p.of_job;
        of_kind = omega (arith, p.of_kind, o.1.kinds);
        of_fact = sym o.1.same_fact ∙ p.of_fact;
      } in
      (d, end_after d e j f q p, q)

-- an event's job and fact, and what is wanted, are in the sheet
module _ {s : Sheet} (w : Formed s) where
  pub job_in_sheet : {e j k f : ℕ} → Is s e j k f → j < s.jobs
  job_in_sheet {e} p = omega (arith, w.job e p.in_sheet)

  pub fact_in_sheet : {e j k f : ℕ} → Is s e j k f → f < s.facts
  fact_in_sheet {e} p = omega (arith, w.fact e p.in_sheet)

  pub wanted_job_in : {j : ℕ} → WantedJob s j → j < s.jobs
  wanted_job_in (is_setter e a n p) = job_in_sheet p.is

  pub wanted_fact_in : {f : ℕ} → WantedFact s f → f < s.facts
  wanted_fact_in (is_goal l g) = l
  wanted_fact_in (is_need e a p) = fact_in_sheet p
