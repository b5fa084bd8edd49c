-- Two sheets agree: the same counts, horizon and gap, and below the counts the same marks, codes, releases, events and bounds.
-- What stands past the counts may differ: bytes that no rule reads. So may the revision: no plan depends on it.
use Rattle.std.specs.Prelude.{ℕ, ◌<◌, ◌≡◌}
use Rattle.std.proofs.Common.{arith, sym, ap}
use Rattle.rules.specs.Sheet.{Sheet, Event, initial, goal}
use Rattle.rules.specs.Rewrite.{SaysSame}
use Rattle.rules.specs.Plan.{Is, earliest, latest, gap, distance}
use Rattle.laws.specs.Distance.{distance_by_lem}

pub record Agree (s t : Sheet) : Type 0 where
  pub facts : s.facts ≡ t.facts
  pub horizon : s.horizon ≡ t.horizon
  pub gap : s.gap ≡ t.gap
  pub jobs : s.jobs ≡ t.jobs
  pub events : s.events ≡ t.events
  pub bounds : s.bounds ≡ t.bounds
  pub mark : (f : ℕ) → f < s.facts → s.mark f ≡ t.mark f
  pub code : (j : ℕ) → j < s.jobs → s.code j ≡ t.code j
  pub release : (j : ℕ) → j < s.jobs → s.release j ≡ t.release j
  pub event : (e : ℕ) → e < s.events → s.event e ≡ t.event e
  pub bound : (i : ℕ) → i < s.bounds → s.bound i ≡ t.bound i

-- either way round
pub agree_sym : {s t : Sheet} → Agree s t → Agree t s
agree_sym a =
    record {
      facts = sym a.facts;
      horizon = sym a.horizon;
      gap = sym a.gap;
      jobs = sym a.jobs;
      events = sym a.events;
      bounds = sym a.bounds;
      mark = λ f l. sym (a.mark f (omega arith));
      code = λ j l. sym (a.code j (omega arith));
      release = λ j l. sym (a.release j (omega arith));
      event = λ e l. sym (a.event e (omega arith));
      bound = λ i l. sym (a.bound i (omega arith));
    }

-- sheets that say the same, with the same gap and releases, agree; and sheets that agree say the same
pub agree_of : {s t : Sheet} → SaysSame s t → s.gap ≡ t.gap → ((j : ℕ) → j < s.jobs → s.release j ≡ t.release j) → Agree s t
agree_of a gap release =
    record {
      facts = a.facts;
      horizon = a.horizon;
      gap = gap;
      jobs = a.jobs;
      events = a.events;
      bounds = a.bounds;
      mark = a.marks;
      code = a.codes;
      release = release;
      event = a.event_rows;
      bound = a.bound_rows;
    }

pub says_same : {s t : Sheet} → Agree s t → SaysSame s t
says_same a =
    record {
      facts = a.facts;
      horizon = a.horizon;
      marks = a.mark;
      jobs = a.jobs;
      codes = a.code;
      events = a.events;
      event_rows = a.event;
      bounds = a.bounds;
      bound_rows = a.bound;
    }

module _ {s t : Sheet} (a : Agree s t) where
  -- ---- what later requests vary: the only laws that open these definitions

  pub earliest_agree : (j : ℕ) → j < s.jobs → earliest s j ≡ earliest t j
  unfolding earliest
  earliest_agree j l = a.release j l

  pub latest_agree : (j : ℕ) → j < s.jobs → latest s j ≡ latest t j
  unfolding latest
  latest_agree j l = a.horizon

  gap_agree : gap s ≡ gap t
  unfolding gap
  gap_agree = a.gap

  pub distance_agree : (i k : ℕ) → distance s i k ≡ distance t i k
  distance_agree i k = rw (distance_by_lem s i k, distance_by_lem t i k, gap_agree)

  -- ---- marks and events

  pub initial_agree : (f : ℕ) → f < s.facts → initial s f ≡ initial t f
  unfolding initial
  initial_agree f l = rw (a.mark f l)

  pub goal_agree : (f : ℕ) → f < s.facts → goal s f ≡ goal t f
  unfolding goal
  goal_agree f l = rw (a.mark f l)

  pub job_agree : (e : ℕ) → e < s.events → (s.event e).job ≡ (t.event e).job
  job_agree e l = ap (λ (v : Event). v.job) (a.event e l)

  pub is_agree : {e j k f : ℕ} → Is s e j k f → Is t e j k f
  is_agree {e} p =
      let q = a.event e p.in_sheet in
      record {
        in_sheet = omega arith;
        of_job = cc;
        of_kind = cc;
        of_fact = cc;
      }
