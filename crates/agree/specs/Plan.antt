-- Alike sheets have the same own times and the same plans; plans that agree below the counts count as one.
use Rattle.std.specs.Prelude.{ℕ, ◌<◌, ◌≡◌, refl}
use Rattle.std.proofs.Common.{arith, sym, ap, ◌∙◌, subst}
use Rattle.rules.specs.Sheet.{Sheet, Bound}
use Rattle.rules.specs.RunList.{Plan}
use Rattle.rules.specs.Plan.{Is, Meets, OwnTimes, Occurs, Served, Held, IsPlan}
use Rattle.laws.specs.Events.{fact_in_sheet}
use Rattle.agree.specs.Agree.{Agree, agree_sym, job_agree, earliest_agree, latest_agree, distance_agree, initial_agree, goal_agree, is_agree}
use Rattle.agree.specs.Formed.{Alike, flip}

-- ticks that agree at the events below n
abbrev pub SameTicks : (n : ℕ) (τ σ : ℕ → ℕ) → Type 0
SameTicks n τ σ = (e : ℕ) → e < n → τ e ≡ σ e

-- plans that agree: the same count, and below it the same jobs and the same ticks at the events below n
pub record SamePlan (n : ℕ) (p q : Plan) : Type 0 where
  pub count : p.count ≡ q.count
  pub job : (i : ℕ) → i < p.count → p.job i ≡ q.job i
  pub time : (i : ℕ) → i < p.count → SameTicks n (p.time i) (q.time i)

plan_refl : (n : ℕ) (p : Plan) → SamePlan n p p
plan_refl n p = record { count = refl; job = λ i l. refl; time = λ i l e m. refl }

plan_sym : {n m : ℕ} {p q : Plan} → n ≡ m → SamePlan n p q → SamePlan m q p
plan_sym x same =
    record {
      count = sym same.count;
      job = λ i l. sym (same.job i (omega (arith, same.count)));
      time = λ i l e m. sym (same.time i (omega (arith, same.count)) e (omega arith));
    }

-- ---- own times

meets : (c : Bound) (τ σ : ℕ → ℕ) → τ c.later ≡ σ c.later → τ c.earlier ≡ σ c.earlier → Meets c τ → Meets c σ
meets c τ σ p q m = record { low = omega arith; high = omega arith }

module _ {s t : Sheet} (h : Alike s t) where
  own_ticks : {j : ℕ} {τ σ : ℕ → ℕ} → SameTicks s.events τ σ → OwnTimes s j τ → OwnTimes t j σ
  own_ticks {j} {τ} {σ} same own =
      record {
        early = λ e l q.
            let m = in_sheet e l in
            omega (arith, same e m, own.early e m (of_job e m q), earliest_agree a j (job_in e m q));
        late = λ e l q.
            let m = in_sheet e l in
            omega (arith, same e m, own.late e m (of_job e m q), latest_agree a j (job_in e m q));
        bounds = λ i l q.
            let m : i < s.bounds = omega arith in
            let b = h.one.bound i m in
            let c = s.bound i in
            subst (λ (x : Bound). Meets x σ) (a.bound i m)
            (meets c τ σ (same c.later b.later) (same c.earlier b.earlier) (own.bounds i m (of_bound i m q)));
        needs = λ b e f begin end.
            let p = is_agree (agree_sym a) begin in
            let q = is_agree (agree_sym a) end in
            omega (arith, same b p.in_sheet, same e q.in_sheet, own.needs b e f p q);
      }
    where
      a : Agree s t
      a = h.agree

      in_sheet : (e : ℕ) → e < t.events → e < s.events
      in_sheet e l = omega (arith, a.events)

      of_job : (e : ℕ) → e < s.events → (t.event e).job ≡ j → (s.event e).job ≡ j
      of_job e m q = job_agree a e m ∙ q

      job_in : (e : ℕ) → e < s.events → (t.event e).job ≡ j → j < s.jobs
      job_in e m q = omega (arith, h.one.job e m, of_job e m q)

      of_bound : (i : ℕ) → i < s.bounds → (t.event (t.bound i).later).job ≡ j → (s.event (s.bound i).later).job ≡ j
      of_bound i m q =
          job_agree a (s.bound i).later (h.one.bound i m).later
          ∙ (ap (λ (c : Bound). (t.event c.later).job) (a.bound i m) ∙ q)

  pub own_agree : {j : ℕ} {τ : ℕ → ℕ} → OwnTimes s j τ → OwnTimes t j τ
  own_agree own = own_ticks (λ e l. refl) own

-- ---- plans

module _ {s t : Sheet} (h : Alike s t) {p q : Plan} (same : SamePlan s.events p q) where
  occurs : {i e k f : ℕ} → Occurs s p i e k f → Occurs t q i e k f
  occurs {i} {e} {k} {f} o =
      record {
        in_plan = omega (arith, o.in_plan, same.count);
        is = subst (λ (j : ℕ). Is t e j k f) (same.job i o.in_plan) (is_agree h.agree o.is);
      }

  time : {i e k f : ℕ} → Occurs s p i e k f → p.time i e ≡ q.time i e
  time {i} {e} o = same.time i o.in_plan e o.is.in_sheet

module _ {s t : Sheet} (h : Alike s t) {p q : Plan} (same : SamePlan s.events p q) where
  back : {i e k f : ℕ} → Occurs t q i e k f → Occurs s p i e k f
  back o = occurs (flip h) (plan_sym h.agree.events same) o

  served : {i f b e : ℕ} → f < s.facts → Served s p i f b e → Served t q i f b e
  served {i} {f} {b} {e} l (Served.by_initial g clear) =
      Served.by_initial (sym (initial_agree h.agree f l) ∙ g)
      (λ k d o. let r = back o in omega (arith, clear k d r, time h same r, distance_agree h.agree i k))
  served {i} {f} {b} {e} l (Served.by_set k d set before clear) =
      let x = time h same set in
      Served.by_set k d (occurs h same set) (omega (arith, x, before, distance_agree h.agree k i))
      (λ m c o after.
      let r = back o in
      let y = time h same r in
      omega (arith, clear m c r (omega (arith, x, y, after)), y, distance_agree h.agree i m))

  held : {f : ℕ} → f < s.facts → Held s p f → Held t q f
  held {f} l (Held.by_initial g clear) =
      Held.by_initial (sym (initial_agree h.agree f l) ∙ g) (λ k d o. clear k d (back o))
  held {f} l (Held.by_set k d set clear) =
      Held.by_set k d (occurs h same set)
      (λ m c o. let r = back o in omega (arith, clear m c r, time h same r, time h same set))

  -- of alike sheets and plans that agree, one is a plan of the one where the other is a plan of the other
  pub same_plan : IsPlan s p → IsPlan t q
  same_plan plan =
      record {
        jobs = λ i l. let m : i < p.count = omega (arith, same.count) in
            omega (arith, plan.jobs i m, same.job i m, h.agree.jobs);
        own = λ i l. let m : i < p.count = omega (arith, same.count) in
            subst (λ (j : ℕ). OwnTimes t j (q.time i)) (same.job i m) (own_ticks h (same.time i m) (plan.own i m));
        apart = λ i e k d f set clear r.
            let x = back set in
            let y = back clear in
            plan.apart i e k d f x y (time h same x ∙ (r ∙ sym (time h same y)));
        served = λ i b e f begin end.
            let x = back begin in
            let y = back end in
            subst (λ (z : ℕ). Served t q i f (q.time i b) z) (time h same y)
            (subst (λ (z : ℕ). Served t q i f z (p.time i e)) (time h same x)
            (served (fact_in_sheet h.one x.is) (plan.served i b e f x y)));
        held = λ f l g.
            let m : f < s.facts = omega (arith, h.agree.facts) in
            held m (plan.held f m (goal_agree h.agree f m ∙ g));
      }

pub plan_agree : {s t : Sheet} {p : Plan} → Alike s t → IsPlan s p → IsPlan t p
plan_agree {s} {p = p} h plan = same_plan h (plan_refl s.events p) plan
