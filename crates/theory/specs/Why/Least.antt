-- The least solution is the least list: its ticks are the least that any plan has, and every least list is a plan.
use Rattle.std.specs.Prelude.{ℕ, ◌≤◌, ◌<◌, ◌≡◌, refl}
use Rattle.std.proofs.Common.{sym, arith}
use Rattle.rules.specs.Sheet.{Sheet}
use Rattle.rules.specs.RunList.{Plan}
use Rattle.rules.specs.Plan.{OwnTimes, IsPlan}
use Rattle.rules.specs.Wanted.{WantedJob, LeastTick}
use Rattle.rules.specs.Class.{Inside, ListRules}
use Rattle.laws.specs.Formed.{Formed}
use Rattle.theory.specs.Statements.{Solution, LeastSolution, OneEach}
use Rattle.theory.specs.Why.Own.{own_least}
use Rattle.theory.specs.Why.Necessary.{least_in, least_ticks_lem, least_meets, source, goal_kept}
use Rattle.theory.specs.Why.Sufficient.{sufficient}

-- a tick that is the least is the only one
pub least_tick_unique : {s : Sheet} {e t u : ℕ} → LeastTick s e t → LeastTick s e u → t ≡ u
least_tick_unique a b =
    let (p, plan, (i, iIn, iOf, iAt)) = a.reached in
    let (q, other, (k, kIn, k_of, kAt)) = b.reached in
    omega (arith, a.least q other k kIn k_of, b.least p plan i iIn iOf)

module _ {s : Sheet} (ok : Formed s) (inside : Inside s) where
  -- a plan gives a solution below it
  pub solution_of : {p : Plan} → IsPlan s p → Solution s (least_in s p)
  solution_of plan =
      record {
        rules = least_meets ok inside.one_setter plan (least_ticks_lem ok inside.one_setter plan);
        sources = source ok inside.one_setter plan;
        goals = goal_kept ok inside.one_setter plan;
      }

  below_plan
      : {t : ℕ → ℕ}
      → LeastSolution s t
      → (p : Plan)
      → IsPlan s p
      → (e i : ℕ)
      → e < s.events
      → WantedJob s (s.event e).job
      → i < p.count
      → (s.event e).job ≡ p.job i
      → t e ≤ p.time i e
  below_plan best p plan e i eIn w l q =
      let at = (least_ticks_lem ok inside.one_setter plan).each e eIn w in
      omega (arith, best.least (least_in s p) (solution_of plan).rules e eIn w, at.least i l (sym q))

  pub least_tick_lem
      : {t : ℕ → ℕ} {p : Plan}
      → LeastSolution s t
      → OneEach s t p
      → (i e : ℕ)
      → i < p.count
      → e < s.events
      → (s.event e).job ≡ p.job i
      → LeastTick s e (p.time i e)
  least_tick_lem {t} {p} best each i e iIn eIn q =
      record {
        reached = (p, sufficient ok inside best.solution each, (i, iIn, q, refl));
        least = λ o plan k kIn k_of. rw (each.ticks i e iIn eIn q) (below_plan best o plan e k eIn (rw q (each.wanted i iIn)) kIn k_of);
      }

  -- ---- the least ticks of all plans are a solution

  module _ (t : ℕ → ℕ) (ticks : (e : ℕ) → e < s.events → WantedJob s (s.event e).job → LeastTick s e (t e)) where
    -- a solution that t is nowhere after, and not before at event d
    near
        : {d j : ℕ}
        → d < s.events
        → (s.event d).job ≡ j
        → WantedJob s j
        → (u : ℕ → ℕ) × ListRules s u × (u d ≤ t d)
        × ((e i : ℕ) → e < s.events → (s.event e).job ≡ i → WantedJob s i → t e ≤ u e)
    near {d} {j} l q w =
        let (p, plan, (i, iIn, iOf, iAt)) = (ticks d l (rw q w)).reached in
        let least = least_ticks_lem ok inside.one_setter plan in (
          least_in s p,
          (solution_of plan).rules,
          omega (arith, (least.each d l (rw q w)).least i iIn (sym iOf)),
          λ e k eIn r v.
              let at = least.each e eIn (rw r v) in
              omega (arith, (ticks e eIn (rw r v)).least p plan at.at at.inside (sym at.has)),
        )

    least_ticks_own : (j : ℕ) → WantedJob s j → OwnTimes s j t
    least_ticks_own j w =
        own_least ok
        (λ e l q.
        let (u, r, at, before) = near l q w in
        record { ticks = u; own = r.own j w; here = at; above = λ d m h. before d j m h w })

    pub least_ticks_solve : ListRules s t
    least_ticks_solve =
        record {
          own = least_ticks_own;
          set_need = λ f i e j b w q wi set wj need.
              let (u, r, at, before) = near need.in_sheet need.of_job wj in
              omega (arith, r.set_need f i e j b w q wi set wj need, before e i set.in_sheet set.of_job wi);
          set_clear = λ f i e j d c wi set wj clear.
              let (u, r, at, before) = near clear.in_sheet clear.of_job wj in
              omega (arith, r.set_clear f i e j d c wi set wj clear, before e i set.in_sheet set.of_job wi);
          need_clear = λ f i e j d c wi need wj clear.
              let (u, r, at, before) = near clear.in_sheet clear.of_job wj in
              omega (arith, r.need_clear f i e j d c wi need wj clear, before e i need.in_sheet need.of_job wi);
          clear_set = λ f i e j d c wi set wj clear.
              let (u, r, at, before) = near set.in_sheet set.of_job wi in
              omega (arith, r.clear_set f i e j d c wi set wj clear, before d j clear.in_sheet clear.of_job wj);
        }
