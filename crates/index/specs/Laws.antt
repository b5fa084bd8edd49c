-- The events of a job in its span.
use Rattle.std.specs.Prelude.{ℕ, ◌+◌, ◌-◌, ◌/◌, ◌%◌, ◌≤◌, ◌<◌, min, ◌≡◌, Bool, List, eqb, get_or}
use Rattle.std.proofs.Common.{arith, ap₂, eq-eqb, ne_eqb}
use Rattle.rules.specs.Count.{count}
use Rattle.rules.specs.Sheet.{Sheet}
use Rattle.rules.specs.RunList.{events_of, rank}
use Rattle.laws.specs.Counts.{count_range}
use Rattle.laws.specs.Limits.{most_facts}
use Rattle.sheet.specs.View.{meaning, IsFormed, event_from}
use Rattle.sheet.specs.declared.Sheet as code
use Rattle.rules.specs.Wanted.{OfPresent}
use Rattle.laws.specs.Formed.{Formed}
use Rattle.laws.specs.Events.{job_in_sheet}
use Rattle.index.specs.View.{Grouped, OfMarked, ByFactOf, PresentEvent, PresentMarked, ByJobOf, key_of, key_count, KeysOf}

module _ {s : Sheet} {first : List ℕ} (p : ByJobOf s first) (j : ℕ) (l : j < s.jobs) where
  span_count : (n : ℕ) → n ≤ s.events → count (λ e. eqb (s.event e).job j) n + min (get_or first j 0) n ≡ min (get_or first (j + 1) 0) n
  span_count n h =
      count_range (λ e. eqb (s.event e).job j) (get_or first j 0) (get_or first (j + 1) 0) (p.rises j l) n
      (λ e i from to. eq-eqb _ _ (p.of_job e j l from to))
      (λ e i to. ne_eqb (s.event e).job j (λ q. omega (arith, p.from e j (omega arith) l q)))
      (λ e i from. ne_eqb (s.event e).job j (λ q. omega (arith, p.to e j (omega arith) l q)))

  pub span_events : events_of s j ≡ get_or first (j + 1) 0 - get_or first j 0
  unfolding events_of
  span_events = omega (arith, span_count s.events (omega arith), p.within (j + 1) (omega arith), p.rises j l)

  pub span_rank : (e : ℕ) → e < s.events → (s.event e).job ≡ j → rank s e ≡ e - get_or first j 0
  unfolding rank
  span_rank e h q = rw q (omega (arith, span_count e (omega arith), p.from e j h l q, p.to e j h l q))

-- the key of an event in its column
module _ {v : code.Sheet} {b keys : List ℕ} (w : IsFormed v b) (k : KeysOf (meaning v b) keys) where
  key_at : (e : ℕ) → e < (meaning v b).events → (get_or keys e 0 ≡ key_of (meaning v b) e) × (get_or keys e 0 < key_count)
  key_at e l =
      (k.keys e l, omega (arith, k.keys e l, w.formed.kind e l, w.formed.fact e l, w.few.facts))

  -- and the event that it is the key of
  pub event_of_lem
      : (e : ℕ) → e < (meaning v b).events
      → {key : ℕ} → key ≡ get_or keys e 0
      → event_from (key / most_facts) (key % most_facts) ≡ event_from ((meaning v b).event e).kind ((meaning v b).event e).fact
  event_of_lem e l q =
      let k = key_at e l in
      let f = w.formed.fact e l in
      ap₂ event_from (omega (arith, q, k, f, w.few.facts)) (omega (arith, q, k, f, w.few.facts))

-- ---- the jobs that count are the present ones

pub by_present
    : {s : Sheet} {marks : List Bool}
    → Formed s
    → PresentMarked s marks
    → {kind : ℕ} {first event : List ℕ}
    → Grouped s (λ e j f. OfMarked s marks e j kind f) first event
    → ByFactOf s kind first event
by_present ok p g =
    record {
      long = g.long;
      rises = g.rises;
      within = g.within;
      sound =
          λ f r l from to.
          let o = g.sound f r l from to in
          record { is = o.is; alone = p.means _ (job_in_sheet ok o.is) o.counts };
      whole = λ e j f l o. g.whole e j f l (record { is = o.is; counts = p.marked j (job_in_sheet ok o.is) o.alone });
      ascending = g.ascending;
    }

-- the event of a place is of a present job
pub present_event : {s : Sheet} {e j kind f : ℕ} → OfPresent s e j kind f → PresentEvent s e
present_event {s} o = record { in_sheet = o.is.in_sheet; alone = rw o.is.of_job o.alone }
