-- What makes a job absent, one law for each kind of cause: a release after the horizon, a bound that reaches past it, a need that would end
-- before it begins; bounds of one pair that cross are in repeated_bounds. And what does not: a job without events is never absent.
use Rattle.std.specs.Prelude.{ℕ, ◌+◌, ◌<◌, ◌≡◌, ◌≢◌}
use native.Mathlib.Omega.{arith}
use Rattle.std.proofs.Common.{sym, ◌∙◌}
use Rattle.std.proofs.Math.Path.{ap}
use Rattle.rules.specs.Sheet.{Sheet, origin, begins, ends}
use Rattle.rules.specs.Plan.{Is, earliest, latest}
use Rattle.rules.specs.Wanted.{RunsAlone, Absent, WantedJob}
use Rattle.laws.specs.Formed.{Formed}
use Rattle.laws.specs.Present.{wanted_present}

module _ (s : Sheet) (j : ℕ) where
  pub absent_unwanted : Absent s j → WantedJob s j → ⊥
  unfolding Absent
  absent_unwanted gone w = gone (wanted_present w)

  -- a release too late
  pub late_release : (e : ℕ) → e < s.events → (s.event e).job ≡ j → latest s j < earliest s j → Absent s j
  unfolding Absent RunsAlone
  late_release e l q late (t, own) = omega (arith, own.early e l q, own.late e l q)

  -- a bound that reaches from the release past the horizon: an H too short
  pub too_long
      : (i : ℕ)
      → i < s.bounds
      → (s.event (s.bound i).later).job ≡ j
      → Formed s
      → latest s j + origin < earliest s j + (s.bound i).low
      → Absent s j
  unfolding Absent RunsAlone
  too_long i l q ok far (t, own) =
      let b = ok.bound i l in
      omega (
        arith,
        own.late (s.bound i).later b.later q,
        own.early (s.bound i).earlier b.earlier (sym b.same_job ∙ q),
        (own.bounds i l q).low,
      )

  -- a need that would end before it begins
  pub ends_first
      : (b e f i : ℕ)
      → Is s b j begins f
      → Is s e j ends f
      → i < s.bounds
      → (s.bound i).later ≡ e
      → (s.bound i).earlier ≡ b
      → (s.bound i).high < origin
      → Absent s j
  unfolding Absent RunsAlone
  ends_first b e f i begin end l p q low (t, own) =
      omega (
        arith,
        own.needs b e f begin end,
        (own.bounds i l (ap (λ x. (s.event x).job) p ∙ end.of_job)).high,
        ap t p,
        ap t q,
      )

  -- no events, no bounds to break
  pub no_events : Formed s → ((e : ℕ) → e < s.events → (s.event e).job ≢ j) → RunsAlone s j
  unfolding RunsAlone
  no_events ok none = (
    λ e. 0,
    record {
      early = λ e l q. absurd (none e l q);
      late = λ e l q. absurd (none e l q);
      bounds = λ i l q. absurd (none (s.bound i).later (ok.bound i l).later q);
      needs = λ b e f p q. absurd (none b p.in_sheet p.of_job);
    },
  )
