-- What "well formed" says of a sheet, as statements on all its facts, jobs, events and bounds, and what follows for its events.
use Rattle.std.specs.Prelude.{ℕ, ◌+◌, ◌≤◌, ◌<◌, ◌≡◌, ◌≢◌, ◌⊎◌, Bool, true, ◌&&◌, ◌||◌, ltb, eqb}
use Rattle.std.proofs.Common.{arith}
use Rattle.std.proofs.Math.Logic.{inl, inr, ⊎_elim}
use Rattle.std.proofs.Math.Dec.{leb}
use borrow.Author.Tests.{ltb-true, leb-true, eqb-true, eqb-false, not-true}
use Rattle.rules.specs.Count.{any}
use Rattle.rules.specs.Sheet.{
  Sheet,
  Bound,
  ends,
  sets,
  clears,
  origin,
  max_facts,
  max_horizon,
  max_gap,
  max_jobs,
  max_events,
  max_bounds,
  facts_ok,
  jobs_ok,
  event_key,
  two_ends,
  event_ok,
  events_ok,
  bound_key,
  within_horizon,
  bound_ok,
  bounds_ok,
  well_formed,
}
use Rattle.laws.specs.Bools.{and_get, or_get}
use Rattle.laws.specs.Places.{every_get, any_get}
use Rattle.laws.specs.Limits.{most_gap, most_mark, no_low, no_high}
use Rattle.laws.specs.Rise.{rises_get, Up, never_falls_get, UpOrLevel}

-- the other end of the need that event e begins or ends
pub record OtherEnd (s : Sheet) (e d : ℕ) : Type 0 where
  pub in_sheet : d < s.events
  pub same_job : (s.event e).job ≡ (s.event d).job
  pub same_fact : (s.event e).fact ≡ (s.event d).fact
  pub kinds : (s.event e).kind + (s.event d).kind ≡ 1

-- a bound c of the sheet; a low or a high that is not none lies in -10,080 to 10,080
pub record FormedBound (s : Sheet) (c : Bound) : Type 0 where
  pub later : c.later < s.events
  pub earlier : c.earlier < s.events
  pub differ : c.later ≢ c.earlier
  pub same_job : (s.event c.later).job ≡ (s.event c.earlier).job
  pub ordered : c.low ≤ c.high
  pub low : (c.low ≡ no_low) ⊎ ((origin ≤ c.low + max_horizon) × (c.low ≤ origin + max_horizon))
  pub high : (c.high ≡ no_high) ⊎ ((origin ≤ c.high + max_horizon) × (c.high ≤ origin + max_horizon))

pub record Formed (s : Sheet) : Type 0 where
  pub facts : s.facts ≤ max_facts
  pub horizon : s.horizon ≤ max_horizon
  pub jobs : s.jobs ≤ max_jobs
  pub events : s.events ≤ max_events
  pub bounds : s.bounds ≤ max_bounds
  pub marks : (f : ℕ) → f < s.facts → s.mark f ≤ most_mark
  pub codes : Up s.code s.jobs
  pub kind : (e : ℕ) → e < s.events → (s.event e).kind ≤ clears
  pub job : (e : ℕ) → e < s.events → (s.event e).job < s.jobs
  pub fact : (e : ℕ) → e < s.events → (s.event e).fact < s.facts
  pub other : (e : ℕ) → e < s.events → (s.event e).kind ≤ ends → (d : ℕ) × OtherEnd s e d
  pub keys : Up (λ e. event_key (s.event e)) s.events
  pub bound : (i : ℕ) → i < s.bounds → FormedBound s (s.bound i)
  pub pairs : UpOrLevel (λ i. bound_key (s.bound i)) s.bounds

-- the two halves of event_ok: type, job and fact exist; a need has both its ends
abbrev pub row_ok : Sheet → ℕ → Bool
row_ok s e = leb (s.event e).kind clears && ltb (s.event e).job s.jobs && ltb (s.event e).fact s.facts

abbrev pub ends_ok : Sheet → ℕ → Bool
ends_ok s e = leb sets (s.event e).kind || any (λ d. two_ends (s.event e) (s.event d)) s.events

module _ (s : Sheet) where
  pub other_end : (e d : ℕ) → d < s.events → two_ends (s.event e) (s.event d) ≡ true → OtherEnd s e d
  unfolding two_ends
  other_end e d l h =
      let p = and_get _ _ h in
      let q = and_get _ _ p.0 in
      record {
        in_sheet = l;
        same_job = eqb-true _ _ q.0;
        same_fact = eqb-true _ _ q.1;
        kinds = eqb-true _ _ p.1;
      }

  event_other : (e : ℕ) → event_ok s e ≡ true → (s.event e).kind ≤ ends → (d : ℕ) × OtherEnd s e d
  unfolding event_ok
  event_other e h l =
      ⊎_elim
      (λ p. absurd (omega (arith, leb-true sets (s.event e).kind p)))
      (λ p. let w = any_get (λ d. two_ends (s.event e) (s.event d)) s.events p in (w.0, other_end e w.0 w.1 w.2))
      (or_get (leb sets (s.event e).kind) _ (and_get (row_ok s e) (ends_ok s e) h).1)

  event_base
      : (e : ℕ)
      → event_ok s e ≡ true
      → ((s.event e).kind ≤ clears) × ((s.event e).job < s.jobs) × ((s.event e).fact < s.facts)
  unfolding event_ok
  event_base e h =
      let p = and_get _ _ (and_get _ _ h).0 in
      let q = and_get _ _ p.0 in
      (leb-true _ _ q.0, ltb-true _ _ q.1, ltb-true _ _ p.1)

  within : (v n : ℕ) → eqb v n || within_horizon v ≡ true → (v ≡ n) ⊎ ((origin ≤ v + max_horizon) × (v ≤ origin + max_horizon))
  unfolding within_horizon
  within v n h =
      ⊎_elim
      (λ p. inl (eqb-true _ _ p))
      (λ p. let q = and_get _ _ p in inr (leb-true _ _ q.0, leb-true _ _ q.1))
      (or_get _ _ h)

  bound_formed : (c : Bound) → bound_ok s c ≡ true → FormedBound s c
  unfolding bound_ok
  bound_formed c h =
      let g7 = and_get _ _ h in
      let g6 = and_get _ _ g7.0 in
      let g5 = and_get _ _ g6.0 in
      let g4 = and_get _ _ g5.0 in
      let g3 = and_get _ _ g4.0 in
      let g2 = and_get _ _ g3.0 in
      record {
        later = ltb-true _ _ g2.0;
        earlier = ltb-true _ _ g2.1;
        differ = eqb-false _ _ (not-true _ g3.1);
        same_job = eqb-true _ _ g4.1;
        ordered = leb-true _ _ g5.1;
        low = within c.low no_low g6.1;
        high = within c.high no_high g7.1;
      }

  -- the gap's limit is no part of `Formed`: no law asks for it but where a number has to have room
  pub gap_within : well_formed s ≡ true → s.gap ≤ most_gap
  unfolding well_formed facts_ok max_gap
  gap_within h =
      let w4 = and_get (facts_ok s && jobs_ok s && events_ok s) (bounds_ok s) h in
      let w3 = and_get (facts_ok s && jobs_ok s) (events_ok s) w4.0 in
      let w2 = and_get (facts_ok s) (jobs_ok s) w3.0 in
      let counts = leb s.facts max_facts && leb s.horizon max_horizon in
      let f4 = and_get (counts && leb s.gap max_gap) _ w2.0 in
      leb-true _ _ (and_get counts _ f4.0).1

  pub formed : well_formed s ≡ true → Formed s
  unfolding well_formed facts_ok jobs_ok events_ok bounds_ok
  formed h =
      let w4 = and_get (facts_ok s && jobs_ok s && events_ok s) (bounds_ok s) h in
      let w3 = and_get (facts_ok s && jobs_ok s) (events_ok s) w4.0 in
      let w2 = and_get (facts_ok s) (jobs_ok s) w3.0 in
      let f4 = and_get _ _ w2.0 in
      let f3 = and_get _ _ f4.0 in
      let f2 = and_get _ _ f3.0 in
      let j2 = and_get _ _ w2.1 in
      let e3 = and_get _ _ w3.1 in
      let e2 = and_get _ _ e3.0 in
      let b3 = and_get _ _ w4.1 in
      let b2 = and_get _ _ b3.0 in
      record {
        facts = leb-true _ _ f2.0;
        horizon = leb-true _ _ f2.1;
        jobs = leb-true _ _ j2.0;
        events = leb-true _ _ e2.0;
        bounds = leb-true _ _ b2.0;
        marks = λ f l. leb-true _ _ (every_get _ _ f4.1 f l);
        codes = rises_get _ _ j2.1;
        kind = λ e l. (event_base e (every_get _ _ e2.1 e l)).0;
        job = λ e l. (event_base e (every_get _ _ e2.1 e l)).1;
        fact = λ e l. (event_base e (every_get _ _ e2.1 e l)).2;
        other = λ e l. event_other e (every_get _ _ e2.1 e l);
        keys = rises_get _ _ e3.1;
        bound = λ i l. bound_formed (s.bound i) (every_get _ _ b2.1 i l);
        pairs = never_falls_get _ _ b3.1;
      }
