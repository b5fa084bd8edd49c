-- Which facts and jobs are wanted, and which facts are shown cleared last, as tests of marks.
-- A mark is the turn in which a marking reaches a job or a fact, 0 for never: each mark rests on earlier ones.
use Prim.Native.Nat.{ℕ, zero, suc, ◌+◌, ◌<◌}
use Rattle.std.proofs.Math.Path.{refl, ap, subst₂}
use Rattle.std.proofs.Common.{◌∙◌}
use Rattle.std.specs.Prelude.{◌↔◌, List}
use Rattle.std.proofs.Math.Logic.{inl, inr, ⊎_elim}
use native.Mathlib.Omega.{arith}
use Rattle.rules.specs.Sheet.{Sheet, initial, goal, begins, ends, sets, clears}
use Rattle.rules.specs.Wanted.{RunsAlone, WantedFact, is_goal, is_need, WantedJob, is_setter}
use Rattle.rules.specs.Order.{AtMost, ClearedLast, shown, Guard, guard}
use Rattle.laws.specs.Formed.{Formed}
use Rattle.laws.specs.Events.{job_in_sheet, fact_in_sheet}
use Rattle.theory.specs.Computed.Mark.{WantedSound, WantedClosed, marked_facts, marked_jobs}
use Rattle.examples.specs.Test.{Test, eq, le, lt, on, off, ◌&◌, or, when, each, some, Passes}
use Rattle.examples.specs.Own.{is, is_get, is_own_lem, Step, along, chain, chain_keeps, of_job, own_step}

-- ---- wanted

-- job j is marked
unfoldable pub wanted_job : Sheet → (ℕ → ℕ) → ℕ → Test
wanted_job s turn j = lt j s.jobs & lt 0 (turn j)

-- and before job i
unfoldable pub wanted_before : Sheet → (ℕ → ℕ) → ℕ → ℕ → Test
wanted_before s turn i j = wanted_job s turn j & lt (turn j) (turn i)

-- fact f is a goal, or needed by a job that has m
unfoldable pub asked : Sheet → (ℕ → Test) → ℕ → Test
asked s m f =
    or (lt f s.facts & on (goal s f)) (some s.events (λ e. is s e (s.event e).job begins f & m (s.event e).job))

unfoldable pub wanted_fact : Sheet → (ℕ → ℕ) → ℕ → Test
wanted_fact s turn = asked s (wanted_job s turn)

-- every marked job sets a fact, not initial, that is asked for before; and no mark is missing
unfoldable pub wanted_marks : Sheet → (ℕ → ℕ) → Test
wanted_marks s turn =
    each s.jobs (λ j.
    when (lt 0 (turn j))
    (some s.events (λ e.
    is s e j sets (s.event e).fact & off (initial s (s.event e).fact) & asked s (wanted_before s turn j) (s.event e).fact)))
    & each s.events (λ e.
    when (eq (s.event e).kind sets & off (initial s (s.event e).fact) & wanted_fact s turn (s.event e).fact)
    (lt 0 (turn (s.event e).job)))

module _
    (s : Sheet) (turn : ℕ → ℕ) (ok : Formed s) (present : (j : ℕ) → j < s.jobs → RunsAlone s j)
    (h : Passes (wanted_marks s turn))
  where
    asked_wanted
        : (m : ℕ → Test) (f : ℕ) → ((j : ℕ) → Passes (m j) → WantedJob s j) → Passes (asked s m f) → WantedFact s f
    unfolding asked
    asked_wanted m f jobs =
        ⊎_elim (λ g. is_goal g.0 g.1) (λ r. is_need r.0 (jobs _ r.2.1) (is_get r.1 r.2.0))

    marked_wanted : (n j : ℕ) → turn j < n → Passes (wanted_job s turn j) → WantedJob s j
    unfolding wanted_marks wanted_job wanted_before
    marked_wanted zero j l w = absurd (omega arith)
    marked_wanted (suc n) j l w =
        let (e, eIn, (set, (q, a))) = h.0 j w.0 w.1 in
        is_setter e (asked_wanted (wanted_before s turn j) _ (λ i r. marked_wanted n i (omega (arith, r.1)) r.0) a) q
        (record { is = is_get eIn set; alone = present j w.0 })

    wanted_sound : WantedSound s (λ f. Passes (wanted_fact s turn f)) (λ j. Passes (wanted_job s turn j))
    unfolding wanted_fact
    wanted_sound =
        let jobs : (j : ℕ) → Passes (wanted_job s turn j) → WantedJob s j = λ j w. marked_wanted (suc (turn j)) j (omega arith) w in
        record { facts = λ f a. asked_wanted (wanted_job s turn) f jobs a; jobs = jobs }

    wanted_closed : WantedClosed s (λ f. Passes (wanted_fact s turn f)) (λ j. Passes (wanted_job s turn j))
    unfolding wanted_marks wanted_fact asked wanted_job
    wanted_closed =
        record {
          goals = λ f l q. inl (l, q);
          needs = λ j f e w i.
              inr (e, i.in_sheet, (is_own_lem i refl, rw i.of_job w));
          setters = λ j f e w q i. (
            job_in_sheet ok i.is,
            rw i.is.of_job at
                (h.1 e i.is.in_sheet (i.is.of_kind, (ap (initial s) i.is.of_fact ∙ q, rw i.is.of_fact w))),
          );
        }

    pub fact_wanted_lem : (f : ℕ) → Passes (wanted_fact s turn f) ↔ WantedFact s f
    fact_wanted_lem = marked_facts wanted_sound wanted_closed

    pub job_wanted_lem : (j : ℕ) → Passes (wanted_job s turn j) ↔ WantedJob s j
    job_wanted_lem = marked_jobs wanted_sound wanted_closed

-- ---- cleared last

-- a guard of a set v before a clear y: chains of rules of one job's own times, from the clear x of a fact to y,
-- and from v to the end of a need of that fact
pub record Reason : Type 0 where
  pub from : ℕ
  pub to_clear : List Step
  pub to_end : List Step

-- the fact is marked before turn n, and the two chains tell greatest x − y ≤ least u − v
unfoldable pub guarded : Sheet → (ℕ → ℕ) → (n v y : ℕ) → Reason → Test
guarded s turn n v y r =
    let p = (s.event r.from).fact in
    let up = along s r.from r.to_clear in
    let down = along s v r.to_end in
    lt r.from s.events
    & is s r.from (s.event y).job clears p
    & lt down.to s.events
    & is s down.to (s.event v).job ends p
    & lt 0 (turn p)
    & lt (turn p) n
    & chain s (of_job s (s.event y).job) r.from r.to_clear
    & eq up.to y
    & chain s (of_job s (s.event v).job) v r.to_end
    & le (up.minus + down.minus) (up.plus + down.plus)

-- every marked fact has a guard for each set of it and each clear of it by a job that has m
unfoldable pub last_marks : Sheet → (ℕ → Test) → (ℕ → ℕ) → (ℕ → ℕ → Reason) → Test
last_marks s m turn why =
    each s.facts (λ f.
    when (lt 0 (turn f))
    (each s.events (λ v. each s.events (λ y.
    when (is s v (s.event v).job sets f & is s y (s.event y).job clears f & m (s.event y).job) (guarded s turn (turn f) v y (why v y))))))

module _
    (s : Sheet) (m : ℕ → Test) (turn : ℕ → ℕ) (why : ℕ → ℕ → Reason)
    (ok : Formed s) (wanted : (j : ℕ) → WantedJob s j → Passes (m j)) (h : Passes (last_marks s m turn why))
  where
    guard_of
        : (n v y : ℕ) (r : Reason)
        → ((p : ℕ) → p < s.facts → 0 < turn p → turn p < n → ClearedLast s p)
        → Passes (guarded s turn n v y r)
        → Guard s (s.event v).job v (s.event y).job y
    unfolding guarded AtMost
    guard_of n v y r before (x_in, (x, (u_in, (u, (marked, (earlier, (up, (toY, (down, most))))))))) =
        let clear = is_get x_in x in
        let apart : AtMost s (s.event y).job r.from y (s.event v).job (along s v r.to_end).to v =
        λ τ σ ownA ownI.
        let above = chain_keeps s (of_job s (s.event y).job) τ (own_step ownA) r.from r.to_clear up in
        let below = chain_keeps s (of_job s (s.event v).job) σ (own_step ownI) v r.to_end down in
        omega (arith, ap τ toY)
        in
        guard _ _ r.from (before _ (fact_in_sheet ok clear) marked earlier) (is_get u_in u) clear apart

    last_within : (n f : ℕ) → f < s.facts → 0 < turn f → turn f < n → ClearedLast s f
    unfolding last_marks
    last_within zero f fIn marked l = absurd (omega arith)
    last_within (suc n) f fIn marked l =
        shown
        (λ i v a y set clear w.
        let g =
        guard_of (turn f) v y (why v y) (λ p pIn q b. last_within n p pIn q (earlier (turn p) b))
        (h f fIn marked v set.is.in_sheet y clear.in_sheet (is_own_lem set.is refl, (is_own_lem clear refl, rw clear.of_job (wanted a w))))
        in
        subst₂ (λ (i a : ℕ). Guard s i v a y) set.is.of_job clear.of_job g)
      where
        earlier : (k : ℕ) → k < turn f → k < n
        earlier k b = omega arith

    pub last_shown : (f : ℕ) → f < s.facts → 0 < turn f → ClearedLast s f
    last_shown f fIn marked = last_within (suc (turn f)) f fIn marked (omega arith)
