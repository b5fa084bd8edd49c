-- Absent jobs count nowhere: of which type and fact their events are is of no consequence. Of two sheets with the same own times that
-- differ in nothing else but that, the same facts and jobs are wanted, the same orders are shown, and the same rules are broken; and they
-- have the same plans.
use Rattle.std.specs.Prelude.{ℕ, ◌<◌, ◌≡◌, ◌↔◌, true, false}
use Rattle.std.proofs.Common.{arith, sym, ap, ◌∙◌, inl, inr, ⊎_elim}
use Rattle.rules.specs.Sheet.{Sheet, initial, goal, begins, ends, sets, clears}
use Rattle.rules.specs.RunList.{Plan}
use Rattle.rules.specs.Plan.{Is, OwnTimes, Occurs, Served, Held, IsPlan, gap, distance_by, distance}
use Rattle.rules.specs.Wanted.{RunsAlone, OfPresent, WantedFact, is_goal, is_need, WantedJob, is_setter}
use Rattle.rules.specs.Order.{AtMost, ClearedLast, shown, Guard, guard, ClearedFirst}
use Rattle.rules.specs.Class.{ByWanted, Unordered, TwoSetters, WantedUnordered, UnwantedUnordered, Inside, ListRules, NoSource, ClearedGoal}
use Rattle.laws.specs.Below.{none_below}
use Rattle.laws.specs.Distance.{distance_by_lem}
use Rattle.laws.specs.Present.{wanted_present, of_instance}
use Rattle.theory.specs.Why.Sound.{last_ind, guard_ind}
use Rattle.theory.specs.Why.Present.{fact_ind, job_ind}

-- the events of present jobs are the same, and so is all else that the definitions look at
pub record SamePresent (s t : Sheet) : Type 0 where
  pub facts : s.facts ≡ t.facts
  pub marks : (f : ℕ) → s.mark f ≡ t.mark f
  pub gaps : gap s ≡ gap t
  pub jobs : s.jobs ≡ t.jobs
  pub events : s.events ≡ t.events
  pub of_job : (e : ℕ) → (s.event e).job ≡ (t.event e).job
  pub present
      : (e : ℕ)
      → RunsAlone s (s.event e).job
      → ((s.event e).kind ≡ (t.event e).kind) × ((s.event e).fact ≡ (t.event e).fact)
  pub own : (j : ℕ) (τ : ℕ → ℕ) → OwnTimes s j τ ↔ OwnTimes t j τ

alone_to : {s t : Sheet} → SamePresent s t → (j : ℕ) → RunsAlone s j → RunsAlone t j
unfolding RunsAlone
alone_to h j r = (r.0, (h.own j r.0).0 r.1)

alone_from : {s t : Sheet} → SamePresent s t → (j : ℕ) → RunsAlone t j → RunsAlone s j
unfolding RunsAlone
alone_from h j r = (r.0, (h.own j r.0).1 r.1)

pub flip : {s t : Sheet} → SamePresent s t → SamePresent t s
flip {s} {t} h =
    record {
      facts = sym h.facts;
      marks = λ f. sym (h.marks f);
      gaps = sym h.gaps;
      jobs = sym h.jobs;
      events = sym h.events;
      of_job = λ e. sym (h.of_job e);
      present =
          λ e r.
          let p = h.present e (alone_from h _ (rw (h.of_job e) r)) in
          (sym p.0, sym p.1);
      own = λ j τ. ((h.own j τ).1, (h.own j τ).0);
    }

module _ {s t : Sheet} (h : SamePresent s t) where
  is_to : {e j k f : ℕ} → RunsAlone s j → Is s e j k f → Is t e j k f
  is_to {e} r is =
      let p = h.present e (rw is.of_job r) in
      record {
        in_sheet = omega (arith, is.in_sheet, h.events);
        of_job = sym (h.of_job e) ∙ is.of_job;
        of_kind = sym p.0 ∙ is.of_kind;
        of_fact = sym p.1 ∙ is.of_fact;
      }

  present_to : {e j k f : ℕ} → OfPresent s e j k f → OfPresent t e j k f
  present_to {j = j} p = record { is = is_to p.alone p.is; alone = alone_to h j p.alone }

  initial_to : (f : ℕ) → initial s f ≡ initial t f
  unfolding initial
  initial_to f = rw (h.marks f)

  goal_to : (f : ℕ) → goal s f ≡ goal t f
  unfolding goal
  goal_to f = rw (h.marks f)

  apart_to : (i k : ℕ) → distance s i k ≡ distance t i k
  apart_to i k = distance_by_lem s i k ∙ ap (λ g. distance_by g i k) h.gaps ∙ sym (distance_by_lem t i k)

  -- ---- wanted

  goals : (f : ℕ) → f < s.facts → goal s f ≡ true → WantedFact t f
  goals f l g = is_goal {f = f} (omega (arith, h.facts)) (sym (goal_to f) ∙ g)

  needs : (j f e : ℕ) → WantedJob s j → WantedJob t j → Is s e j begins f → WantedFact t f
  needs j f e w v is = is_need e v (is_to (wanted_present w) is)

  setters : (j f e : ℕ) → WantedFact s f → WantedFact t f → initial s f ≡ false → OfPresent s e j sets f → WantedJob t j
  setters j f e w v q is = is_setter e v (sym (initial_to f) ∙ q) (present_to is)

  pub wanted_fact_lem : {f : ℕ} → WantedFact s f → WantedFact t f
  wanted_fact_lem w = fact_ind (WantedFact t) (WantedJob t) goals needs setters w

  pub wanted_job_lem : {j : ℕ} → WantedJob s j → WantedJob t j
  wanted_job_lem w = job_ind (WantedFact t) (WantedJob t) goals needs setters w

-- ---- the orders

module _ {s t : Sheet} (h : SamePresent s t) where
  at_most_lem : (a x y i u v : ℕ) → AtMost s a x y i u v → AtMost t a x y i u v
  unfolding AtMost
  at_most_lem a x y i u v m τ σ p q = m τ σ ((h.own a τ).1 p) ((h.own i σ).1 q)

  -- a guard between events of present jobs
  abbrev GuardTo : (i v a y : ℕ) → Type 0
  GuardTo i v a y = RunsAlone s i → RunsAlone s a → Guard t i v a y

  shows : (f : ℕ) → ((i v a y : ℕ) → OfPresent s v i sets f → Is s y a clears f → WantedJob s a → GuardTo i v a y) → ClearedLast t f
  shows f all =
      shown
      (λ i v a y set clear w.
      let set' = present_to (flip h) set in
      let w' = wanted_job_lem (flip h) w in
      all i v a y set' (is_to (flip h) (wanted_present w) clear) w' set'.alone (wanted_present w'))

  guards : (i v a y p u x : ℕ) → ClearedLast t p → Is s u i ends p → Is s x a clears p → AtMost s a x y i u v → GuardTo i v a y
  guards i v a y p u x last e c m = λ r q. guard p u x last (is_to h r e) (is_to h q c) (at_most_lem a x y i u v m)

  pub cleared_last : {f : ℕ} → ClearedLast s f → ClearedLast t f
  cleared_last c = last_ind (ClearedLast t) GuardTo shows guards c

  pub cleared_first : (f : ℕ) → ClearedFirst s f → ClearedFirst t f
  unfolding ClearedFirst
  cleared_first f c i v a y set w clear w' =
      let x = wanted_job_lem (flip h) w in
      let z = wanted_job_lem (flip h) w' in
      guard_ind (ClearedLast t) GuardTo shows guards
      (c i v a y (is_to (flip h) (wanted_present w) set) x (is_to (flip h) (wanted_present w') clear) z)
      (wanted_present z) (wanted_present x)

-- ---- the class, and the reasons for no plan

module _ {s t : Sheet} (h : SamePresent s t) where
  by_wanted : (k f : ℕ) → ByWanted s k f → ByWanted t k f
  unfolding ByWanted
  by_wanted k f (e, j, is, w) = (e, j, is_to h (wanted_present w) is, wanted_job_lem h w)

  unordered : (f : ℕ) → Unordered s f → Unordered t f
  unfolding Unordered
  unordered f u = (λ c. u.0 (cleared_last (flip h) c), λ c. u.1 (cleared_first (flip h) f c))

  pub two_setters : {f : ℕ} → TwoSetters s f → TwoSetters t f
  two_setters {f} r =
      let (e, i, d, j, p, q, differ) = r.setters in
      record {
        is_wanted = wanted_fact_lem h r.is_wanted;
        not_initial = sym (initial_to h f) ∙ r.not_initial;
        setters = (e, i, d, j, present_to h p, present_to h q, differ);
      }

  pub wanted_unordered : {f : ℕ} → WantedUnordered s f → WantedUnordered t f
  wanted_unordered {f} r =
      record {
        is_wanted = wanted_fact_lem h r.is_wanted;
        unshown =
            ⊎_elim (λ u. inl (unordered f u))
            (λ u. inr (sym (initial_to h f) ∙ u.0, λ c. u.1 (cleared_last (flip h) c))) r.unshown;
      }

  pub unwanted_unordered : {f : ℕ} → UnwantedUnordered s f → UnwantedUnordered t f
  unwanted_unordered {f} r =
      record {
        not_wanted = λ w. r.not_wanted (wanted_fact_lem (flip h) w);
        is_set = by_wanted sets f r.is_set;
        is_cleared = by_wanted clears f r.is_cleared;
        unshown = unordered f r.unshown;
      }

  pub no_source : {f : ℕ} → NoSource s f → NoSource t f
  no_source {f} r =
      record {
        is_wanted = wanted_fact_lem h r.is_wanted;
        not_initial = sym (initial_to h f) ∙ r.not_initial;
        not_set = λ e j p. r.not_set e j (present_to (flip h) p);
      }

  pub cleared_goal : {f : ℕ} → ClearedGoal s f → ClearedGoal t f
  cleared_goal {f} r =
      record {
        is_goal = sym (goal_to h f) ∙ r.is_goal;
        is_last = cleared_last h r.is_last;
        is_cleared = by_wanted clears f r.is_cleared;
      }

-- ticks that meet the list rules of s meet those of t
module _ {s t : Sheet} (h : SamePresent s t) where
  -- a wanted job of t, and an event of it
  job_from : {j : ℕ} → WantedJob t j → WantedJob s j
  job_from = wanted_job_lem (flip h)

  is_from : {e j k f : ℕ} → WantedJob t j → Is t e j k f → Is s e j k f
  is_from w = is_to (flip h) (wanted_present w)

  pub list_rules : {τ : ℕ → ℕ} → ListRules s τ → ListRules t τ
  list_rules {τ} r =
      record {
        own = λ j w. (h.own j τ).0 (r.own j (job_from w));
        set_need = λ f i e j b wf q w is v at.
            let z = r.set_need f i e j b (wanted_fact_lem (flip h) wf) (initial_to h f ∙ q) (job_from w) (is_from w is) (job_from v) (is_from v at) in
            omega (arith, z, apart_to h i j);
        set_clear = λ f i e j d c w is v at.
            r.set_clear f i e j d (cleared_last (flip h) c) (job_from w) (is_from w is) (job_from v) (is_from v at);
        need_clear = λ f i e j d c w is v at.
            let z = r.need_clear f i e j d (cleared_last (flip h) c) (job_from w) (is_from w is) (job_from v) (is_from v at) in
            omega (arith, z, apart_to h i j);
        clear_set = λ f i e j d c w is v at.
            r.clear_set f i e j d (cleared_first (flip h) f c) (job_from w) (is_from w is) (job_from v) (is_from v at);
      }

pub inside : {s t : Sheet} → SamePresent s t → Inside s → Inside t
inside h r =
    record {
      one_setter = none_below h.facts (λ f l. two_setters (flip h)) r.one_setter;
      ordered = none_below h.facts (λ f l. wanted_unordered (flip h)) r.ordered;
      unwanted_ordered = none_below h.facts (λ f l. unwanted_unordered (flip h)) r.unwanted_ordered;
    }

-- ---- the plans

module _ {s t : Sheet} (h : SamePresent s t) {p : Plan} (plan : IsPlan s p) where
  occurs : {i e k f : ℕ} → Occurs s p i e k f → Occurs t p i e k f
  occurs o = record { in_plan = o.in_plan; is = (present_to h (of_instance plan o)).is }

  back : {i e k f : ℕ} → Occurs t p i e k f → Occurs s p i e k f
  unfolding RunsAlone
  back {i} o = record { in_plan = o.in_plan; is = is_to (flip h) (alone_to h _ (p.time i, plan.own i o.in_plan)) o.is }

  served : {i f b e : ℕ} → Served s p i f b e → Served t p i f b e
  served {i} {f} (Served.by_initial g safe) =
      Served.by_initial (sym (initial_to h f) ∙ g) (λ k d o. omega (arith, safe k d (back o), apart_to h i k))
  served {i} {f} (Served.by_set k d set first safe) =
      Served.by_set k d (occurs set) (omega (arith, first, apart_to h k i))
      (λ l c o after. omega (arith, safe l c (back o) after, apart_to h i l))

  held : {f : ℕ} → Held s p f → Held t p f
  held {f} (Held.by_initial g safe) = Held.by_initial (sym (initial_to h f) ∙ g) (λ k d o. safe k d (back o))
  held {f} (Held.by_set k d set safe) = Held.by_set k d (occurs set) (λ l c o. safe l c (back o))

  pub same_plans : IsPlan t p
  same_plans =
      record {
        jobs = λ i l. omega (arith, plan.jobs i l, h.jobs);
        own = λ i l. (h.own (p.job i) (p.time i)).0 (plan.own i l);
        apart = λ i e k d f set clear. plan.apart i e k d f (back set) (back clear);
        served = λ i b e f begin end. served (plan.served i b e f (back begin) (back end));
        held = λ f l g. held (plan.held f (omega (arith, h.facts)) (goal_to h f ∙ g));
      }
