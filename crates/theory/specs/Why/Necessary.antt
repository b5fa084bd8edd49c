-- From a plan to a solution: the least ticks over the instances of any plan meet the list rules,
-- and a plan excludes both other reasons for "no plan".
use Rattle.std.specs.Prelude.{ℕ, suc, ◌+◌, ◌≤◌, ◌<◌, ◌≡◌, ◌⊎◌, false}
use Rattle.std.proofs.Math.Path.{sym, ap}
use Rattle.std.proofs.Common.{◌∙◌, inl, inr, ⊎_elim, arith}
use Rattle.std.proofs.Math.Decide.{ℕ_discrete}
use Rattle.rules.specs.Count.{None}
use Rattle.rules.specs.Sheet.{Sheet, initial, begins, sets, clears}
use Rattle.rules.specs.RunList.{Plan}
use Rattle.rules.specs.Plan.{Is, OwnTimes, Occurs, Served, Held, IsPlan, distance}
use Rattle.rules.specs.Wanted.{WantedFact, WantedJob}
use Rattle.rules.specs.Class.{TwoSetters, ListRules, NoSource, ByWanted, ClearedGoal}
use Rattle.laws.specs.Bools.{clash}
use Rattle.laws.specs.Formed.{Formed}
use Rattle.laws.specs.Events.{fact_in_sheet, end_of, one_event}
use Rattle.laws.specs.Present.{of_wanted, of_instance}
use Rattle.theory.specs.Statements.{Present, LeastOf, LeastTicks}
use Rattle.theory.specs.Why.Places.{least_of}
use Rattle.theory.specs.Why.Distance.{distance_le, occurs}
use Rattle.theory.specs.Why.Own.{own_least}
use Rattle.theory.specs.Why.Sound.{SetsFirst, NeedsFirst, ClearsFirst, needs_first, cleared_last, cleared_first}
use Rattle.theory.specs.Why.Present.{IsSet, one_setter_lem, fact_set, job_present}

-- ---- the least ticks of a plan

-- v is event e's least tick over the instances of its job
abbrev Ticks : Sheet → Plan → (e v : ℕ) → Type 0
Ticks s p e v = LeastOf (λ i. p.job i ≡ (s.event e).job) (λ i. p.time i e) p.count v

looked : (s : Sheet) (p : Plan) (e : ℕ) → ((v : ℕ) × Ticks s p e v) ⊎ None (λ i. p.job i ≡ (s.event e).job) p.count
looked s p e = least_of (λ i. p.time i e) (λ i. ℕ_discrete (p.job i) (s.event e).job) p.count

pub least_in : Sheet → Plan → ℕ → ℕ
least_in s p e = ⊎_elim (λ r. r.0) (λ q. 0) (looked s p e)

module _ {s : Sheet} (ok : Formed s) (one : None (TwoSetters s) s.facts) {p : Plan} (plan : IsPlan s p) where
  pub least_ticks_lem : LeastTicks s p (least_in s p)
  unfolding least_in Present None
  least_ticks_lem = record { each = λ e eIn w. go e w (looked s p e) }
    where
      go
          : (e : ℕ)
          → WantedJob s (s.event e).job
          → (r : ((v : ℕ) × Ticks s p e v) ⊎ None (λ i. p.job i ≡ (s.event e).job) p.count)
          → Ticks s p e (⊎_elim (λ r. r.0) (λ q. 0) r)
      go e w (inl r) = r.1
      go e w (inr q) = let (i, l, h) = job_present ok one plan w in absurd (q i l h)

  -- an instance that has the least tick of event e of a wanted job j, and no instance of j has an earlier one
  module _ {t : ℕ → ℕ} (least : LeastTicks s p t) where
    reach
        : {e j : ℕ}
        → e < s.events
        → (s.event e).job ≡ j
        → WantedJob s j
        → (i : ℕ) × (i < p.count) × (p.job i ≡ j) × (p.time i e ≡ t e)
    reach {e} eIn q w = let l = least.each e eIn (rw q w) in (l.at, l.inside, l.has ∙ q, l.value)

    lower
        : {e j : ℕ}
        → e < s.events
        → (s.event e).job ≡ j
        → WantedJob s j
        → (i : ℕ)
        → i < p.count
        → p.job i ≡ j
        → t e ≤ p.time i e
    lower {e} eIn q w i l h = (least.each e eIn (rw q w)).least i l (h ∙ sym q)

    -- a rule that holds between all instances of two jobs holds between the least ticks
    between
        : {e i d j k m f g : ℕ} (c : ℕ)
        → Is s e i k f
        → WantedJob s i
        → Is s d j m g
        → WantedJob s j
        → ((m k : ℕ) → m < p.count → p.job m ≡ i → k < p.count → p.job k ≡ j → p.time m e + c ≤ p.time k d)
        → t e + c ≤ t d
    unfolding Present
    between c is wi is' wj all =
        let (k, kIn, k_of, kAt) = reach is'.in_sheet is'.of_job wj in
        let (m, mIn, mOf) = job_present ok one plan wi in
        omega (arith, all m k mIn mOf kIn k_of, lower is.in_sheet is.of_job wi m mIn mOf)

    least_own : (j : ℕ) → WantedJob s j → OwnTimes s j t
    least_own j w =
        own_least ok
        (λ e l q.
        let (i, iIn, iOf, iAt) = reach l q w in
        record {
          ticks = p.time i;
          own = rw iOf at (plan.own i iIn);
          here = omega arith;
          above = λ d m h. lower m h w i iIn iOf;
        })

    least_set_need
        : (f i e j b : ℕ)
        → WantedFact s f
        → initial s f ≡ false
        → WantedJob s i
        → Is s e i sets f
        → WantedJob s j
        → Is s b j begins f
        → t e + distance s i j ≤ t b
    least_set_need f i e j b wf init wi set wj need =
        let (k, kIn, k_of, kAt) = reach need.in_sheet need.of_job wj in
        let end = end_of s ok b j f need in
        go k kIn k_of kAt (plan.served k b (suc b) f (occurs kIn k_of need) (occurs kIn k_of end))
      where
        go
            : {u : ℕ} (k : ℕ)
            → k < p.count
            → p.job k ≡ j
            → p.time k b ≡ t b
            → Served s p k f (p.time k b) u
            → t e + distance s i j ≤ t b
        go k kIn k_of kAt (Served.by_initial q safe) = absurd (clash q init)
        go k kIn k_of kAt (Served.by_set m d there first safe) =
            let mOf = one_setter_lem ok one wf init (of_instance plan there) (of_wanted wi set) in
            let same : d ≡ e = one_event s ok _ _ _ _ _ (rw mOf at there.is) set in
            let first' = rw same at first in
            let near = distance_le s i j m k (λ q. sym mOf ∙ ap p.job q ∙ k_of) in
            omega (arith, lower set.in_sheet set.of_job wi m there.in_plan mOf)

    pub least_meets : ListRules s t
    unfolding SetsFirst NeedsFirst ClearsFirst
    least_meets =
        record {
          own = least_own;
          set_need = λ f i e j b wf init wi set wj need.
              let h = least_set_need f i e j b wf init wi set wj need in
              omega arith;
          set_clear = λ f i e j d last wi set wj clear.
              let first = cleared_last ok plan last in
              let h =
              between 1 set wi clear wj
              (λ m k mIn mOf kIn k_of. omega (arith, first m e k d (occurs mIn mOf set) (occurs kIn k_of clear) (rw k_of wj)))
              in
              omega arith;
          need_clear = λ f i e j d last wi need wj clear.
              let first = needs_first ok plan f (cleared_last ok plan last) in
              let h =
              between (distance s i j) need wi clear wj
              (λ m k mIn mOf kIn k_of.
              let near = distance_le s i j m k (λ q. sym mOf ∙ ap p.job q ∙ k_of) in
              omega (arith, first m e k d (occurs mIn mOf need) (occurs kIn k_of clear) (rw k_of wj)))
              in
              omega arith;
          clear_set = λ f i e j d c wi set wj clear.
              let first = cleared_first ok plan f c in
              let h =
              between 1 clear wj set wi
              (λ m k mIn mOf kIn k_of.
              omega (arith, first k e m d (occurs kIn k_of set) (rw k_of wi) (occurs mIn mOf clear) (rw mOf wj)))
              in
              omega arith;
        }

  -- ---- the two other reasons

  pub source : (f : ℕ) → NoSource s f → ⊥
  unfolding IsSet
  source f r = let (k, d, set) = fact_set ok one plan r.is_wanted r.not_initial in r.not_set d (p.job k) (of_instance plan set)

  pub goal_kept : (f : ℕ) → ClearedGoal s f → ⊥
  unfolding ByWanted Present SetsFirst
  goal_kept f r =
      let (y, j, clear, w) = r.is_cleared in
      let (k, kIn, k_of) = job_present ok one plan w in
      go k y (occurs kIn k_of clear) (rw k_of w) (plan.held f (fact_in_sheet ok clear) r.is_goal)
    where
      go : (k y : ℕ) → Occurs s p k y clears f → WantedJob s (p.job k) → Held s p f → ⊥
      go k y clear w (Held.by_initial q safe) = safe k y clear
      go k y clear w (Held.by_set m d set safe) =
          omega (arith, safe k y clear, cleared_last ok plan r.is_last m d k y set clear w)
