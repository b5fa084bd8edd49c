-- Whether a list is a plan depends on its instances, their jobs and the times of their own events alone.
use Rattle.std.specs.Prelude.{ℕ, ◌<◌, ◌≡◌, ◌↔◌}
use Rattle.std.proofs.Common.{arith, sym, ◌∙◌, subst}
use Rattle.rules.specs.Sheet.{Sheet}
use Rattle.rules.specs.RunList.{Plan}
use Rattle.rules.specs.Plan.{Is, OwnTimes, Occurs, Served, Held, IsPlan}
use Rattle.laws.specs.Formed.{Formed}
use Rattle.theory.specs.Why.Own.{own_same}
use Rattle.theory.specs.Why.Same.{SameRun, run_sym}

module _ {s : Sheet} {p q : Plan} (same : SameRun s p q) where
  occurs : {i e k f : ℕ} → Occurs s p i e k f → Occurs s q i e k f
  occurs {i} {e} {k} {f} o =
      record { in_plan = omega (arith, o.in_plan, same.count); is = subst (λ (j : ℕ). Is s e j k f) (same.job i o.in_plan) o.is }

  time : {i e k f : ℕ} → Occurs s p i e k f → p.time i e ≡ q.time i e
  time {i} {e} o = same.time i e o.in_plan o.is.in_sheet o.is.of_job

module _ {s : Sheet} (ok : Formed s) {p q : Plan} (same : SameRun s p q) where
  back : {i e k f : ℕ} → Occurs s q i e k f → Occurs s p i e k f
  back o = occurs (run_sym same) o

  served : {i f b e : ℕ} → Served s p i f b e → Served s q i f b e
  served (Served.by_initial g clear) = Served.by_initial g (λ k d o. let r = back o in omega (arith, clear k d r, time same r))
  served (Served.by_set k d set before clear) =
      let x = time same set in
      Served.by_set k d (occurs same set) (omega (arith, x, before))
      (λ m c o after. let r = back o in let y = time same r in omega (arith, clear m c r (omega (arith, x, y, after)), y))

  held : {f : ℕ} → Held s p f → Held s q f
  held (Held.by_initial g clear) = Held.by_initial g (λ k d o. clear k d (back o))
  held (Held.by_set k d set clear) =
      Held.by_set k d (occurs same set) (λ m c o. let r = back o in omega (arith, clear m c r, time same r, time same set))

  pub plan_same : IsPlan s p → IsPlan s q
  plan_same plan =
      record {
        jobs = λ i l. let m = inside i l in omega (arith, plan.jobs i m, same.job i m);
        own = λ i l.
            let m = inside i l in
            subst (λ (j : ℕ). OwnTimes s j (q.time i)) (same.job i m)
            (own_same ok (λ e n x. sym (same.time i e m n x)) (plan.own i m));
        apart = λ i e k d f set clear r.
            let x = back set in
            let y = back clear in
            plan.apart i e k d f x y (time same x ∙ (r ∙ sym (time same y)));
        served = λ i b e f begin end.
            let x = back begin in
            let y = back end in
            subst (λ (z : ℕ). Served s q i f (q.time i b) z) (time same y)
            (subst (λ (z : ℕ). Served s q i f z (p.time i e)) (time same x) (served (plan.served i b e f x y)));
        held = λ f l g. held (plan.held f l g);
      }
    where
      inside : (i : ℕ) → i < q.count → i < p.count
      inside i l = omega (arith, same.count)

pub plan_same_iff : {s : Sheet} → Formed s → {p q : Plan} → SameRun s p q → IsPlan s p ↔ IsPlan s q
plan_same_iff ok same = (plan_same ok same, plan_same ok (run_sym same))
