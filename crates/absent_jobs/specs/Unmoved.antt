-- What did not move: of a sheet each of whose jobs could run alone, wanted facts and jobs, both orders, the class rules, the list rules and
-- the reasons for no plan are the former ones; so every sheet that did not get 15 gets the answer it got.
use Rattle.std.specs.Prelude.{ℕ, ◌<◌, ◌≡◌, refl, ◌≢◌, ◌⊎◌, ◌↔◌, List}
use Rattle.std.proofs.Common.{arith, inl, inr, ⊎_elim}
use Rattle.std.proofs.Math.Logic.{dite}
use Rattle.rules.specs.Count.{None, Lowest}
use Rattle.rules.specs.Sheet.{Sheet, sheet_of, sheet_fault, ends, sets, clears}
use Rattle.rules.specs.Plan.{Is}
use Rattle.rules.specs.Wanted.{RunsAlone, OfPresent, WantedFact, is_goal, is_need, WantedJob, is_setter, LeastList}
use Rattle.rules.specs.Order.{AtMost, ClearedLast, shown, Guard, guard, ClearedFirst}
use Rattle.rules.specs.Class.{ByWanted, Unordered, TwoSetters, WantedUnordered, UnwantedUnordered, Inside, ListRules, NoSource, ClearedGoal}
use Rattle.rules.specs.Answer.{Plannable, Planned}
use Rattle.laws.specs.Below.{none_below, lowest_below}
use Rattle.laws.specs.Formed.{Formed, formed}
use Rattle.laws.specs.Events.{job_in_sheet}
use Rattle.theory.specs.Why.Places.{least_of}
use Rattle.theory.specs.Why.Alone.{alone_decided}
use Rattle.theory.specs.Why.Sound.{last_ind, guard_ind}
use Rattle.theory.specs.Why.Present.{fact_ind, job_ind}
use Rattle.laws.specs.Faults.{well_formed_lem}
use Rattle.absent_jobs.specs.Former as former

-- ---- the same facts have P and Q: none has, or the lowest that has

module _ {P Q : ℕ → Type 0} (same : (f : ℕ) → P f ↔ Q f) where
  none_to : (n : ℕ) → None P n → None Q n
  none_to n = none_below refl (λ f l. (same f).1)

  none_from : (n : ℕ) → None Q n → None P n
  none_from n = none_below refl (λ f l. (same f).0)

  lowest_to : {n i : ℕ} → Lowest P n i → Lowest Q n i
  lowest_to = lowest_below refl (λ f l. (same f).0) (λ f l. (same f).1)

  lowest_from : {n i : ℕ} → Lowest Q n i → Lowest P n i
  lowest_from = lowest_below refl (λ f l. (same f).1) (λ f l. (same f).0)

-- ---- whatever jobs could run alone, none is wanted that was not

module _ {s : Sheet} where
  pub fact_was : {f : ℕ} → WantedFact s f → former.WantedFact s f
  fact_was =
      fact_ind (former.WantedFact s) (former.WantedJob s) (λ f. former.is_goal) (λ j f e w h is. former.is_need e h is)
      (λ j f e w h q is. former.is_setter e h q is.is)

  pub job_was : {j : ℕ} → WantedJob s j → former.WantedJob s j
  job_was =
      job_ind (former.WantedFact s) (former.WantedJob s) (λ f. former.is_goal) (λ j f e w h is. former.is_need e h is)
      (λ j f e w h q is. former.is_setter e h q is.is)

-- every job could run alone
abbrev pub AllRun : Sheet → Type 0
AllRun s = (j : ℕ) → j < s.jobs → RunsAlone s j

module _ {s : Sheet} (ok : Formed s) (runs : AllRun s) where
  present : {e j k f : ℕ} → Is s e j k f → OfPresent s e j k f
  present {j = j} is = record { is = is; alone = runs j (job_in_sheet ok is) }

  -- ---- wanted

  fact_now : {f : ℕ} → former.WantedFact s f → WantedFact s f
  fact_now {f} w =
      elim w as (λ g d. WantedFact s g) (λ j d. WantedJob s j) [
        | former.is_goal {f = g} l e ↦ is_goal l e
        | former.is_need {j = j} {f = g} e (w → ih) is ↦ is_need e ih is
        | former.is_setter {j = j} {f = g} e (w → ih) q is ↦ is_setter e ih q (present is)
      ]

  job_now : {j : ℕ} → former.WantedJob s j → WantedJob s j
  job_now (former.is_setter e w q is) = is_setter e (fact_now w) q (present is)

  pub wanted_fact_lem : (f : ℕ) → WantedFact s f ↔ former.WantedFact s f
  wanted_fact_lem f = (fact_was, fact_now)

  pub wanted_job_lem : (j : ℕ) → WantedJob s j ↔ former.WantedJob s j
  wanted_job_lem j = (job_was, job_now)

  -- ---- the orders

  shows_was
      : (f : ℕ)
      → ((i v a y : ℕ) → OfPresent s v i sets f → Is s y a clears f → WantedJob s a → former.Guard s i v a y)
      → former.ClearedLast s f
  shows_was f all = former.shown (λ i v a y set clear w. all i v a y (present set) clear (job_now w))

  guards_was
      : (i v a y p u x : ℕ) → former.ClearedLast s p → Is s u i ends p → Is s x a clears p → AtMost s a x y i u v → former.Guard s i v a y
  guards_was i v a y p u x last e c m = former.guard p u x last e c m

  last_was : {f : ℕ} → ClearedLast s f → former.ClearedLast s f
  last_was = last_ind (former.ClearedLast s) (former.Guard s) shows_was guards_was

  guard_was : {i v a y : ℕ} → Guard s i v a y → former.Guard s i v a y
  guard_was = guard_ind (former.ClearedLast s) (former.Guard s) shows_was guards_was

  last_now : {f : ℕ} → former.ClearedLast s f → ClearedLast s f
  last_now {f} c =
      elim c as (λ g d. ClearedLast s g) (λ i v a y d. Guard s i v a y) [
        | former.shown {f = g} (all → ih) ↦ shown (λ i v a y set clear w. ih i v a y set.is clear (job_was w))
        | former.guard {i = i} {v = v} {a = a} {y = y} p u x (l → ih) e c m ↦ guard p u x ih e c m
      ]

  guard_now : {i v a y : ℕ} → former.Guard s i v a y → Guard s i v a y
  guard_now (former.guard p u x l e c m) = guard p u x (last_now l) e c m

  pub cleared_last : (f : ℕ) → ClearedLast s f ↔ former.ClearedLast s f
  cleared_last f = (last_was, last_now)

  pub cleared_first : (f : ℕ) → ClearedFirst s f ↔ former.ClearedFirst s f
  unfolding ClearedFirst former.ClearedFirst
  cleared_first f = (
    λ all i v a y set w clear w'. guard_was (all i v a y set (job_now w) clear (job_now w')),
    λ all i v a y set w clear w'. guard_now (all i v a y set (job_was w) clear (job_was w')),
  )

  -- ---- the class

  pub by_wanted : (k f : ℕ) → ByWanted s k f ↔ former.ByWanted s k f
  unfolding ByWanted former.ByWanted
  by_wanted k f = (λ r. (r.0, r.1, r.2, job_was r.3), λ r. (r.0, r.1, r.2, job_now r.3))

  pub unordered : (f : ℕ) → Unordered s f ↔ former.Unordered s f
  unfolding Unordered former.Unordered
  unordered f = (
    λ u. (λ c. u.0 (last_now c), λ c. u.1 ((cleared_first f).1 c)),
    λ u. (λ c. u.0 (last_was c), λ c. u.1 ((cleared_first f).0 c)),
  )

  pub two_setters : (f : ℕ) → TwoSetters s f ↔ former.TwoSetters s f
  two_setters f = (
    λ r.
        let (e, i, d, j, a, b, g) = r.setters in
        record { is_wanted = fact_was r.is_wanted; not_initial = r.not_initial; setters = (e, i, d, j, a.is, b.is, g) },
    λ r.
        let (e, i, d, j, a, b, g) = r.setters in
        record { is_wanted = fact_now r.is_wanted; not_initial = r.not_initial; setters = (e, i, d, j, present a, present b, g) },
  )

  pub wanted_unordered : (f : ℕ) → WantedUnordered s f ↔ former.WantedUnordered s f
  wanted_unordered f = (
    λ r.
        record {
          is_wanted = fact_was r.is_wanted;
          unshown = ⊎_elim (λ u. inl ((unordered f).0 u)) (λ u. inr (u.0, λ c. u.1 (last_now c))) r.unshown;
        },
    λ r.
        record {
          is_wanted = fact_now r.is_wanted;
          unshown = ⊎_elim (λ u. inl ((unordered f).1 u)) (λ u. inr (u.0, λ c. u.1 (last_was c))) r.unshown;
        },
  )

  pub unwanted_unordered : (f : ℕ) → UnwantedUnordered s f ↔ former.UnwantedUnordered s f
  unwanted_unordered f = (
    λ r.
        record {
          not_wanted = λ w. r.not_wanted (fact_now w);
          is_set = (by_wanted sets f).0 r.is_set;
          is_cleared = (by_wanted clears f).0 r.is_cleared;
          unshown = (unordered f).0 r.unshown;
        },
    λ r.
        record {
          not_wanted = λ w. r.not_wanted (fact_was w);
          is_set = (by_wanted sets f).1 r.is_set;
          is_cleared = (by_wanted clears f).1 r.is_cleared;
          unshown = (unordered f).1 r.unshown;
        },
  )

  pub inside : Inside s ↔ former.Inside s
  inside = (
    λ r.
        record {
          one_setter = none_to two_setters s.facts r.one_setter;
          ordered = none_to wanted_unordered s.facts r.ordered;
          unwanted_ordered = none_to unwanted_unordered s.facts r.unwanted_ordered;
        },
    λ r.
        record {
          one_setter = none_from two_setters s.facts r.one_setter;
          ordered = none_from wanted_unordered s.facts r.ordered;
          unwanted_ordered = none_from unwanted_unordered s.facts r.unwanted_ordered;
        },
  )

  -- ---- the list rules and the other reasons for no plan

  pub list_rules : (t : ℕ → ℕ) → ListRules s t ↔ former.ListRules s t
  list_rules t = (
    λ r.
        record {
          own = λ j w. r.own j (job_now w);
          set_need = λ f i e j b wf q w is w' is'. r.set_need f i e j b (fact_now wf) q (job_now w) is (job_now w') is';
          set_clear = λ f i e j d c w is w' is'. r.set_clear f i e j d (last_now c) (job_now w) is (job_now w') is';
          need_clear = λ f i e j d c w is w' is'. r.need_clear f i e j d (last_now c) (job_now w) is (job_now w') is';
          clear_set = λ f i e j d c w is w' is'. r.clear_set f i e j d ((cleared_first f).1 c) (job_now w) is (job_now w') is';
        },
    λ r.
        record {
          own = λ j w. r.own j (job_was w);
          set_need = λ f i e j b wf q w is w' is'. r.set_need f i e j b (fact_was wf) q (job_was w) is (job_was w') is';
          set_clear = λ f i e j d c w is w' is'. r.set_clear f i e j d (last_was c) (job_was w) is (job_was w') is';
          need_clear = λ f i e j d c w is w' is'. r.need_clear f i e j d (last_was c) (job_was w) is (job_was w') is';
          clear_set = λ f i e j d c w is w' is'. r.clear_set f i e j d ((cleared_first f).0 c) (job_was w) is (job_was w') is';
        },
  )

  pub no_source : (f : ℕ) → NoSource s f ↔ former.NoSource s f
  no_source f = (
    λ r. record { is_wanted = fact_was r.is_wanted; not_initial = r.not_initial; not_set = λ e j is. r.not_set e j (present is) },
    λ r. record { is_wanted = fact_now r.is_wanted; not_initial = r.not_initial; not_set = λ e j is. r.not_set e j is.is },
  )

  pub cleared_goal : (f : ℕ) → ClearedGoal s f ↔ former.ClearedGoal s f
  cleared_goal f = (
    λ r. record { is_goal = r.is_goal; is_last = last_was r.is_last; is_cleared = (by_wanted clears f).0 r.is_cleared },
    λ r. record { is_goal = r.is_goal; is_last = last_now r.is_last; is_cleared = (by_wanted clears f).1 r.is_cleared },
  )

  -- ---- the least list

  pub least_list : (l : List ℕ) → LeastList s l ↔ former.LeastList s l
  least_list l = (
    λ r.
        record {
          exists = r.exists;
          bytes = r.bytes;
          formed = r.formed;
          rising = r.rising;
          wanted = λ i k. job_was (r.wanted i k);
          whole = λ j w. r.whole j (job_now w);
          ticks = r.ticks;
        },
    λ r.
        record {
          exists = r.exists;
          bytes = r.bytes;
          formed = r.formed;
          rising = r.rising;
          wanted = λ i k. job_now (r.wanted i k);
          whole = λ j w. r.whole j (job_was w);
          ticks = r.ticks;
        },
  )

-- ---- the planner's answers

-- none was stuck: each could run alone
all_run : {s : Sheet} → Formed s → None (former.Stuck s) s.jobs → AllRun s
unfolding None former.Stuck
all_run ok none j l = dite (alone_decided ok j) (λ r. r) (λ g. absurd (none j l g))

none_stuck : (s : Sheet) → AllRun s → None (former.Stuck s) s.jobs
unfolding None former.Stuck
none_stuck s runs j l g = g (runs j l)

-- every job could run alone, or the lowest that could not
first_stuck : {s : Sheet} → Formed s → AllRun s ⊎ ((j : ℕ) × Lowest (former.Stuck s) s.jobs j)
unfolding None former.Stuck
first_stuck {s} ok =
    ⊎_elim
    (λ r.
    inr (
      r.1.at,
      record {
        below = r.1.inside;
        has = r.1.has;
        lower = λ i l g. omega (arith, r.1.value, r.1.least i (omega (arith, r.1.inside)) g);
      },
    ))
    (λ none. inl (all_run ok none))
    (least_of (λ i. i) (λ j. dite (alone_decided ok j) (λ r. no (λ g. g r)) (λ g. yes g)) s.jobs)

form : (b : List ℕ) → sheet_fault b ≡ 0 → Formed (sheet_of b)
form b fine = formed (sheet_of b) (well_formed_lem b fine)

able_now : {b : List ℕ} → former.Plannable b → Plannable b
able_now p =
    let ok = form _ p.formed in
    record { formed = p.formed; inside = (inside ok (all_run ok p.alone)).1 p.inside }

able_was : {b : List ℕ} → AllRun (sheet_of b) → Plannable b → former.Plannable b
able_was {b} runs p =
    record { formed = p.formed; alone = none_stuck (sheet_of b) runs; inside = (inside (form _ p.formed) runs).0 p.inside }

-- what did not get 15 gets the answer it got
pub answer_stays : {b w o : List ℕ} {n d : ℕ} → former.Planned b w n d o → n ≢ 15 → Planned b w n d o
answer_stays (former.bad_sheet h) g = Planned.bad_sheet h
answer_stays (former.stuck j h r) g = absurd (g refl)
answer_stays (former.rule1 f h a r) g =
    let ok = form _ h in
    Planned.rule1 f h (lowest_from (two_setters ok (all_run ok a)) r)
answer_stays (former.rule2 f h a p r) g =
    let ok = form _ h in
    let runs = all_run ok a in
    Planned.rule2 f h (none_from (two_setters ok runs) _ p) (lowest_from (wanted_unordered ok runs) r)
answer_stays (former.rule3 f h a p q r) g =
    let ok = form _ h in
    let runs = all_run ok a in
    Planned.rule3 f h (none_from (two_setters ok runs) _ p) (none_from (wanted_unordered ok runs) _ q)
    (lowest_from (unwanted_unordered ok runs) r)
answer_stays (former.no_plan p r) g = Planned.no_plan (able_now p) r
answer_stays (former.short l p r m) g =
    let ok = form _ p.formed in
    Planned.short l (able_now p) ((least_list ok (all_run ok p.alone) l).1 r) m
answer_stays (former.plan l p r m) g =
    let ok = form _ p.formed in
    Planned.plan l (able_now p) ((least_list ok (all_run ok p.alone) l).1 r) m

-- where every job could run alone, the answer was the same
pub answer_was : {b w o : List ℕ} {n d : ℕ} → AllRun (sheet_of b) → Planned b w n d o → former.Planned b w n d o
answer_was runs (Planned.bad_sheet g) = former.bad_sheet g
answer_was runs (Planned.rule1 f h r) = former.rule1 f h (none_stuck _ runs) (lowest_to (two_setters (form _ h) runs) r)
answer_was runs (Planned.rule2 f h p r) =
    former.rule2 f h (none_stuck _ runs) (none_to (two_setters (form _ h) runs) _ p) (lowest_to (wanted_unordered (form _ h) runs) r)
answer_was runs (Planned.rule3 f h p q r) =
    former.rule3 f h (none_stuck _ runs) (none_to (two_setters (form _ h) runs) _ p) (none_to (wanted_unordered (form _ h) runs) _ q)
    (lowest_to (unwanted_unordered (form _ h) runs) r)
answer_was runs (Planned.no_plan p r) = former.no_plan (able_was runs p) r
answer_was runs (Planned.short l p r m) = former.short l (able_was runs p) ((least_list (form _ p.formed) runs l).0 r) m
answer_was runs (Planned.plan l p r m) = former.plan l (able_was runs p) ((least_list (form _ p.formed) runs l).0 r) m

-- the former answer, or 15 for the lowest job that could not run alone
abbrev pub Was15 : (b w : List ℕ) (n d : ℕ) (o : List ℕ) → Type 0
Was15 b w n d o = former.Planned b w n d o ⊎ ((j : ℕ) × former.Planned b w 15 j w)

split : {b w o : List ℕ} {n d : ℕ} → sheet_fault b ≡ 0 → Planned b w n d o → Was15 b w n d o
split h r = ⊎_elim (λ runs. inl (answer_was runs r)) (λ low. inr (low.0, former.stuck low.0 h low.1)) (first_stuck (form _ h))

-- so only a sheet that got 15 gets another answer
pub only_15 : {b w o : List ℕ} {n d : ℕ} → Planned b w n d o → Was15 b w n d o
only_15 (Planned.bad_sheet g) = inl (former.bad_sheet g)
only_15 (Planned.rule1 f h r) = split h (Planned.rule1 f h r)
only_15 (Planned.rule2 f h p r) = split h (Planned.rule2 f h p r)
only_15 (Planned.rule3 f h p q r) = split h (Planned.rule3 f h p q r)
only_15 (Planned.no_plan p r) = split p.formed (Planned.no_plan p r)
only_15 (Planned.short l p r m) = split p.formed (Planned.short l p r m)
only_15 (Planned.plan l p r m) = split p.formed (Planned.plan l p r m)
