-- From a solution to a plan: one instance of each wanted job, at ticks that meet the list rules, is a plan
-- of a sheet inside the class where neither other reason for "no plan" holds.
use Rattle.std.specs.Prelude.{ℕ, ◌+◌, ◌≤◌, ◌<◌, ◌≡◌, refl, ◌≢◌, ◌⊎◌, true, false}
use Rattle.std.proofs.Math.Logic.{inl, inr, ⊎_elim, dite}
use Rattle.std.proofs.Common.{arith}
use Rattle.std.proofs.Math.Decide.{dec_le}
use Rattle.rules.specs.Count.{None}
use Rattle.rules.specs.Sheet.{Sheet, initial, goal, begins, ends, sets, clears}
use Rattle.rules.specs.RunList.{Plan}
use Rattle.rules.specs.Plan.{Occurs, Served, Held, IsPlan, distance}
use Rattle.rules.specs.Wanted.{OfPresent, WantedFact, is_goal, is_need, WantedJob, is_setter}
use Rattle.rules.specs.Order.{ClearedLast, ClearedFirst}
use Rattle.rules.specs.Class.{Inside, Unordered, ByWanted}
use Rattle.laws.specs.Bools.{decided}
use Rattle.laws.specs.Rise.{up_same}
use Rattle.laws.specs.Formed.{Formed}
use Rattle.laws.specs.Events.{fact_in_sheet, wanted_job_in}
use Rattle.theory.specs.Statements.{Present, Solution, OneEach}
use Rattle.theory.specs.Why.Places.{PlacesOf, find}
use Rattle.theory.specs.Why.Distance.{distance_le, occurs}
use Rattle.theory.specs.Why.Own.{own_same}
use Rattle.theory.specs.Why.Alone.{present_own, present_dec}

le_stable : (a b : ℕ) → ((a ≤ b → ⊥) → ⊥) → a ≤ b
le_stable a b h = dite (dec_le a b) (λ l. l) (λ g. absurd (h g))

-- a fact is set by some present job, or by none
setter : {s : Sheet} (ok : Formed s) (f : ℕ) → ((e : ℕ) × (j : ℕ) × OfPresent s e j sets f) ⊎ ((e j : ℕ) → OfPresent s e j sets f → ⊥)
unfolding None
setter {s} ok f =
    ⊎_elim (λ r. inl (r.0, (s.event r.0).job, r.2))
    (λ g. inr (λ e j p. g e p.is.in_sheet (present_own p)))
    (find (λ e. present_dec ok e (s.event e).job sets f) s.events)

module _ {s : Sheet} (ok : Formed s) (inside : Inside s) {t : ℕ → ℕ} (solved : Solution s t) {p : Plan} (each : OneEach s t p) where
  tick : {i e k f : ℕ} → Occurs s p i e k f → p.time i e ≡ t e
  tick {i} {e} o = each.ticks i e o.in_plan o.is.in_sheet o.is.of_job

  wants : {i e k f : ℕ} → Occurs s p i e k f → WantedJob s (p.job i)
  wants {i} o = each.wanted i o.in_plan

  apart_jobs : {i e k f l d m g : ℕ} → Occurs s p i e k f → Occurs s p l d m g → distance s i l ≤ distance s (p.job i) (p.job l)
  apart_jobs {i} {e} {k} {f} {l} o q = distance_le s i l (p.job i) (p.job l) (each.once i l o.in_plan q.in_plan)

  set_clear_lem
      : {i e k d f : ℕ} → ClearedLast s f → Occurs s p i e sets f → Occurs s p k d clears f → p.time i e < p.time k d
  set_clear_lem {i} {e} {k} {d} {f} last set clear =
      let r = solved.rules.set_clear f (p.job i) e (p.job k) d last (wants set) set.is (wants clear) clear.is in
      omega (arith, tick set, tick clear)

  clear_set_lem
      : {i e k d f : ℕ} → ClearedFirst s f → Occurs s p i e sets f → Occurs s p k d clears f → p.time k d < p.time i e
  clear_set_lem {i} {e} {k} {d} {f} first set clear =
      let r = solved.rules.clear_set f (p.job i) e (p.job k) d first (wants set) set.is (wants clear) clear.is in
      omega (arith, tick set, tick clear)

  need_clear_lem
      : {i e k d f : ℕ}
      → ClearedLast s f
      → Occurs s p i e ends f
      → Occurs s p k d clears f
      → p.time i e + distance s i k ≤ p.time k d
  need_clear_lem {i} {e} {k} {d} {f} last need clear =
      let r = solved.rules.need_clear f (p.job i) e (p.job k) d last (wants need) need.is (wants clear) clear.is in
      omega (arith, tick need, tick clear, apart_jobs need clear)

  -- a wanted fact is shown in an order, an initial one cleared last: enough for what a number can refute
  ordered : (f : ℕ) → f < s.facts → WantedFact s f → (ClearedLast s f → ⊥) → (ClearedFirst s f → ⊥) → ⊥
  unfolding None Unordered
  ordered f l w g h = inside.ordered f l (record { is_wanted = w; unshown = inl (g, h) })

  initial_last : (f : ℕ) → f < s.facts → WantedFact s f → initial s f ≡ true → (ClearedLast s f → ⊥) → ⊥
  unfolding None
  initial_last f l w q g = inside.ordered f l (record { is_wanted = w; unshown = inr (q, g) })

  two : (i e k d f : ℕ) → Occurs s p i e sets f → Occurs s p k d clears f → p.time i e ≢ p.time k d
  unfolding None Unordered ByWanted
  two i e k d f set clear same =
      let l = fact_in_sheet ok set.is in
      let not_last : ClearedLast s f → ⊥ = λ c. omega (arith, set_clear_lem c set clear) in
      let not_first : ClearedFirst s f → ⊥ = λ c. omega (arith, clear_set_lem c set clear) in
      inside.unwanted_ordered f l
      (record {
        not_wanted = λ w. ordered f l w not_last not_first;
        is_set = (e, p.job i, set.is, wants set);
        is_cleared = (d, p.job k, clear.is, wants clear);
        unshown = (not_last, not_first);
      })

  -- the source of a wanted fact that is not initial: its setter is wanted, so it stands in the plan
  source : (f : ℕ) → WantedFact s f → initial s f ≡ false → (k : ℕ) × (d : ℕ) × Occurs s p k d sets f
  unfolding Present
  source f w q =
      ⊎_elim
      (λ h. let (d, j, is) = h in
      let (k, kIn, k_of) = each.whole j (is_setter d w q is) in
      (k, d, occurs kIn k_of is.is))
      (λ h. absurd (solved.sources f (record { is_wanted = w; not_initial = q; not_set = h })))
      (setter ok f)

  three : (i b e f : ℕ) → Occurs s p i b begins f → Occurs s p i e ends f → Served s p i f (p.time i b) (p.time i e)
  three i b e f begin end =
      ⊎_elim (λ q. Served.by_initial q (λ k d clear. le_stable _ _ (λ g. initial_last f l w q (λ c. g (need_clear_lem c end clear)))))
      by_setter (decided (initial s f))
    where
      l : f < s.facts
      l = fact_in_sheet ok begin.is

      w : WantedFact s f
      w = is_need b (wants begin) begin.is

      by_setter : initial s f ≡ false → Served s p i f (p.time i b) (p.time i e)
      by_setter q =
          let (k, d, set) = source f w q in
          let r = solved.rules.set_need f (p.job k) d (p.job i) b w q (wants set) set.is (wants begin) begin.is in
          Served.by_set k d set (omega (arith, tick set, tick begin, apart_jobs set begin))
          (λ m c clear after.
          le_stable _ _
          (λ g. ordered f l w (λ h. g (need_clear_lem h end clear)) (λ h. omega (arith, clear_set_lem h set clear))))

  four : (f : ℕ) → f < s.facts → goal s f ≡ true → Held s p f
  unfolding ByWanted
  four f l g =
      ⊎_elim (λ q. Held.by_initial q (λ k d clear. initial_last f l w q (not_last clear)))
      (λ q. let (k, d, set) = source f w q in
      Held.by_set k d set
      (λ m c clear. le_stable _ _ (λ h. ordered f l w (not_last clear) (λ a. omega (arith, clear_set_lem a set clear)))))
      (decided (initial s f))
    where
      w : WantedFact s f
      w = is_goal l g

      not_last : {k d : ℕ} → Occurs s p k d clears f → ClearedLast s f → ⊥
      not_last {k} {d} clear c = solved.goals f (record { is_goal = g; is_last = c; is_cleared = (d, p.job k, clear.is, wants clear) })

  pub sufficient : IsPlan s p
  sufficient =
      record {
        jobs = λ i l. wanted_job_in ok (each.wanted i l);
        own = λ i l. own_same ok (λ e b q. each.ticks i e l b q) (solved.rules.own (p.job i) (each.wanted i l));
        apart = two;
        served = three;
        held = four;
      }

-- such a plan, from ticks and a decision which jobs are wanted
unfoldable pub plan_at : {s : Sheet} → PlacesOf (WantedJob s) s.jobs → (ℕ → ℕ) → Plan
plan_at l t = record { count = l.count; job = l.at; time = λ i. t }

pub one_each : {s : Sheet} (ok : Formed s) (l : PlacesOf (WantedJob s) s.jobs) (t : ℕ → ℕ) → OneEach s t (plan_at l t)
unfolding plan_at Present
one_each ok l t =
    record {
      wanted = l.has;
      once = up_same l.at l.count l.rising;
      whole = λ j w. l.whole j (wanted_job_in ok w) w;
      ticks = λ i e iIn eIn q. refl;
    }
