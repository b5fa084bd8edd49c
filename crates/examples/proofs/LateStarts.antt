-- That the late starts of P1's list hold, computed from its bytes. The answers leave no choice (the crate late_starts, late_unique), so each of
-- these is the one answer.
use Rattle.std.specs.Prelude.{ℕ, ◌+◌, ◌≤◌, ◌<◌, ◌≡◌, refl, true, false, List, [], ◌∷◌}
use Rattle.std.proofs.Common.{arith, subst, ◌∙◌, ⊎_elim}
use Rattle.rules.specs.Count.{
  every,
  any,
  count,
  or_here,
  first,
  None,
  byte,
  two,
}
use Rattle.rules.specs.Sheet.{
  sheet_of,
  initial,
  goal,
  begins,
  sets,
  clears,
  facts_head,
  job_row,
  gap_ticks,
  added,
  edition,
  length_of,
  start_of,
  event_at,
  gap_byte,
  job_at,
}
use Rattle.rules.specs.RunList.{Plan, events_of, rank, instances, code_of, job_of, body_of, plan_of}
use Rattle.rules.specs.Plan.{Occurs, Held, latest, gap, apart, distance_by, distance}
use Rattle.rules.specs.Late.{max_delay, delays_ok, delayed, delayed_of, Uncleared, Fault, meets, unserved, breaks, Tried, Late}
use Rattle.laws.specs.Bools.{clash}
use Rattle.late_starts.specs.Delays.{delayed_but_late}
use Rattle.late_starts.specs.Faults.{fault_no_plan, plan_iff}
use Rattle.late_starts.specs.Answers.{tried_formed}
use Rattle.theory.specs.Why.Answers.{accepted}
use Rattle.examples.specs.Sheets.{line, p1_sheet, p1_list}
use Rattle.examples.specs.Test.{Test, eq, le, lt, on, off, ◌&◌, or, when, each, some, Passes, passes, exact}
use Rattle.examples.specs.LateStarts.{LateExamples}
use Rattle.examples.proofs.Holds.{examples}

-- P1's list with these delays
abbrev late : List ℕ → Plan
late d = delayed_of p1_sheet p1_list d

-- ---- the tests

abbrev kind : ℕ → ℕ
kind e = ((sheet_of p1_sheet).event e).kind

abbrev fact : ℕ → ℕ
fact e = ((sheet_of p1_sheet).event e).fact

-- event e is of instance i's job
abbrev has : List ℕ → (i e : ℕ) → Test
has d i e = eq ((sheet_of p1_sheet).event e).job ((late d).job i)

-- H is 100, there are two instances and six events, none of them a clear
abbrev counted : List ℕ → Test
counted d =
    eq (sheet_of p1_sheet).horizon 100 & eq (late d).count 2 & eq (sheet_of p1_sheet).events 6 & each 6 (λ e. lt (kind e) clears)

-- event e of instance i sets fact f
abbrev set_by : List ℕ → (f i e : ℕ) → Test
set_by d f i e = eq (kind e) sets & eq (fact e) f & has d i e

-- each need that begins before tick t is of an initial fact, or has a set early enough
abbrev served : List ℕ → ℕ → Test
served d t =
    each 2
    (λ i.
    each 6
    (λ b.
    when (eq (kind b) begins & has d i b & lt ((late d).time i b) t)
    (or (on (initial (sheet_of p1_sheet) (fact b)))
    (some 2 (λ k. some 6 (λ e. set_by d (fact b) k e & le ((late d).time k e + distance (sheet_of p1_sheet) k i) ((late d).time i b)))))))

-- the need of fact 1 that event 3 of instance 1 begins at tick 6 has no set early enough
abbrev unset : List ℕ → Test
unset d =
    has d 1 3 & eq (kind 3) begins & eq (fact 3) 1 & eq ((late d).time 1 3) 6 & off (initial (sheet_of p1_sheet) 1)
    & each 2 (λ k. each 6 (λ e. when (set_by d 1 k e) (lt 6 ((late d).time k e + distance (sheet_of p1_sheet) k 1))))

-- no time above H, and a set of each goal
abbrev finished : List ℕ → Test
finished d =
    each 2 (λ i. each 6 (λ e. when (has d i e) (le ((late d).time i e) 100)))
    & eq (sheet_of p1_sheet).facts 3 & each 3 (λ f. when (on (goal (sheet_of p1_sheet) f)) (some 2 (λ k. some 6 (λ e. set_by d f k e))))

abbrev all : Test
all =
    (counted (1 ∷ 0 ∷ []) & served (1 ∷ 0 ∷ []) 6 & unset (1 ∷ 0 ∷ []))
    & (counted (0 ∷ 1 ∷ []) & served (0 ∷ 1 ∷ []) 101 & finished (0 ∷ 1 ∷ []))
    & (counted (0 ∷ 92 ∷ []) & served (0 ∷ 92 ∷ []) 101 & has (0 ∷ 92 ∷ []) 1 5 & lt 100 ((late (0 ∷ 92 ∷ [])).time 1 5))

tested : passes all ≡ true
unfolding
    line p1_sheet p1_list every any count or_here first byte two initial goal facts_head job_row gap_ticks added edition length_of start_of event_at
    gap_byte job_at sheet_of events_of rank instances code_of job_of body_of plan_of gap apart distance_by distance delayed delayed_of passes
tested = refl

-- ---- what the tests say

module _ (d : List ℕ) (known : Passes (counted d)) where
  few : (late d).count ≡ 2
  few = known.1.0

  six : (sheet_of p1_sheet).events ≡ 6
  six = known.1.1.0

  no_clear : {k e f : ℕ} → Occurs (sheet_of p1_sheet) (late d) k e clears f → ⊥
  no_clear {k} {e} o = omega (arith, known.1.1.1 e (omega (arith, o.is.in_sheet, six)), o.is.of_kind)

  occurs : (k e f : ℕ) → k < 2 → e < 6 → Passes (set_by d f k e) → Occurs (sheet_of p1_sheet) (late d) k e sets f
  occurs k e f kIn eIn (is_set, (of_fact, of_job)) =
      record {
        in_plan = omega (arith, few);
        is = record { in_sheet = omega (arith, six); of_job = of_job; of_kind = is_set; of_fact = of_fact };
      }

  -- no fault before tick t
  none : {t u : ℕ} → Passes (served d t) → u < t → Fault (sheet_of p1_sheet) (late d) u → ⊥
  none test l (meets i e k c f x y q) = no_clear y
  none test l (breaks i b e f k c x y z m n) = no_clear z
  none {t} test l (unserved i b f x g) =
      ⊎_elim
      (λ q.
      g
      (Uncleared.by_initial (subst (λ (h : ℕ). initial (sheet_of p1_sheet) h ≡ true) x.is.of_fact q) (λ k c o. absurd (no_clear o))))
      (λ (k, kIn, (e, eIn, (is_set, near))).
      g
      (Uncleared.by_set k e (occurs k e f kIn eIn (is_set.0, (is_set.1.0 ∙ x.is.of_fact, is_set.1.1))) near
      (λ m c o z. absurd (no_clear o))))
      (test i (omega (arith, x.in_plan, few)) b (omega (arith, x.is.in_sheet, six)) (x.is.of_kind, (x.is.of_job, l)))

abbrev horizon : (sheet_of p1_sheet).horizon ≡ 100
horizon = ((exact all).0 tested).0.0.0

-- no time above 100
abbrev Soon : List ℕ → Type 0
Soon d =
    (i e : ℕ)
    → i < (late d).count
    → e < (sheet_of p1_sheet).events
    → ((sheet_of p1_sheet).event e).job ≡ (late d).job i
    → (late d).time i e ≤ 100

tried : (d : List ℕ) → delays_ok d (instances p1_list) ≡ true → Tried p1_sheet p1_list d
tried d ok = record { accepted = examples.p1_judged; delays = ok }

-- ---- the answers

one_late_lem : Late p1_sheet p1_list (1 ∷ 0 ∷ []) 41 6
unfolding delays_ok instances p1_list every two byte max_delay None
one_late_lem =
    let d : List ℕ = 1 ∷ 0 ∷ [] in
    let (known, (before, (of_job, (isBegin, (of_fact, (at, (not_initial, late6))))))) = ((exact all).0 tested).0 in
    let ok = tried d refl in
    let need : Occurs (sheet_of p1_sheet) (late d) 1 3 begins 1 = record {
      in_plan = omega (arith, few d known);
      is = record { in_sheet = omega (arith, six d known); of_job = of_job; of_kind = isBegin; of_fact = of_fact };
    } in
    let fault : Fault (sheet_of p1_sheet) (late d) 6 =
    subst (Fault (sheet_of p1_sheet) (late d)) at (unserved 1 3 1 need (λ u. no_source d known at not_initial late6 u)) in
    Late.fault 6 ok (fault_no_plan (tried_formed ok) fault)
    (record { below = omega (arith, horizon); has = fault; lower = λ u l x. none d known before l x })
  where
    no_source
        : (d : List ℕ)
        → Passes (counted d)
        → (late d).time 1 3 ≡ 6
        → initial (sheet_of p1_sheet) 1 ≡ false
        → Passes (each 2 (λ k. each 6 (λ e. when (set_by d 1 k e) (lt 6 ((late d).time k e + distance (sheet_of p1_sheet) k 1)))))
        → Uncleared (sheet_of p1_sheet) (late d) 1 1 ((late d).time 1 3)
        → ⊥
    no_source d known at unmarked after (Uncleared.by_initial q h) = clash q unmarked
    no_source d known at unmarked after (Uncleared.by_set k e o l h) =
        omega (
          arith,
          at,
          l,
          after k (omega (arith, o.in_plan, few d known)) e (omega (arith, o.is.in_sheet, six d known))
              (o.is.of_kind, (o.is.of_fact, o.is.of_job)),
        )

in_time_lem : Late p1_sheet p1_list (0 ∷ 1 ∷ []) 0 0
unfolding delays_ok instances p1_list every two byte max_delay delayed_of latest
in_time_lem =
    let d : List ℕ = 0 ∷ 1 ∷ [] in
    let (known, (before, (ends, (three, goals)))) = ((exact all).0 tested).1.0 in
    let ok = tried d refl in
    let soon : Soon d =
    λ i e l m q. ends i (omega (arith, few d known)) e (omega (arith, six d known)) q in
    Late.holds ok
    ((plan_iff (tried_formed ok) (delayed_but_late (accepted examples.p1_judged).2 d)).1
    (record {
      none = λ t x. never d known before soon x;
      in_time = record { in_time = λ i e l m q. omega (arith, soon i e l m q, horizon) };
      held = λ f l g.
          let (k, kIn, (e, eIn, is)) = goals f (omega (arith, three)) g in
          Held.by_set k e (occurs d known k e f kIn eIn is) (λ m c o. absurd (no_clear d known o));
    }))
  where
    never
        : (d : List ℕ)
        → Passes (counted d)
        → Passes (served d 101)
        → Soon d
        → {u : ℕ}
        → Fault (sheet_of p1_sheet) (late d) u
        → ⊥
    never d known before soon (meets i e k c f x y q) = no_clear d known y
    never d known before soon (breaks i b e f k c x y z m n) = no_clear d known z
    never d known before soon (unserved i b f x g) =
        none d known before (omega (arith, soon i b x.in_plan x.is.in_sheet x.is.of_job)) (unserved i b f x g)

past_horizon_lem : Late p1_sheet p1_list (0 ∷ 92 ∷ []) 41 100
unfolding delays_ok instances p1_list every two byte max_delay None latest
past_horizon_lem =
    let d : List ℕ = 0 ∷ 92 ∷ [] in
    let (known, (before, (of_job, past))) = ((exact all).0 tested).1.1 in
    let ok = tried d refl in
    subst (Late p1_sheet p1_list d 41) horizon
    (Late.no_fault ok
    (λ plan. omega (arith, past, horizon, (plan.own 1 (omega (arith, few d known))).late 5 (omega (arith, six d known)) of_job))
    (λ u l x. none d known before (omega (arith, horizon)) x))

pub late_examples : LateExamples
unfolding delays_ok instances p1_list every two byte max_delay
late_examples =
    record {
      one_late = one_late_lem;
      in_time = in_time_lem;
      past_horizon = past_horizon_lem;
      too_long = Late.bad_delays examples.p1_judged refl;
    }
