-- Own times are the solutions of a job's rules. Here, and nowhere else, the window of own times is opened.
use Rattle.std.specs.Prelude.{ℕ, suc, ◌+◌, ◌-◌, ◌*◌, ◌≤◌, ◌<◌, ◌≡◌}
use Rattle.std.proofs.Common.{arith, add-one, ◌∙◌, ⊎_elim}
use Rattle.std.proofs.Math.Path.{refl, sym, ap}
use Rattle.rules.specs.Sheet.{Sheet, origin, begins, tightest}
use Rattle.rules.specs.Plan.{Is, Meets, OwnTimes, earliest, latest}
use Rattle.laws.specs.Formed.{Formed}
use Rattle.laws.specs.Tightest.{tightest_meets, meets_row, high_most, high_found, high_of_row}
use Rattle.laws.specs.Pairs.{tightest_at, row_itself}
use Rattle.laws.specs.Events.{end_after, end_of}
use Rattle.kernel_least.specs.System as kernel
use Rattle.kernel_least.specs.System.{System, Between, Solves, Closed}
use Rattle.own_times.specs.Rules.{Rules, low, high, need, OwnRule, KeepsRules}
use Rattle.numbers.specs.Size.{word}

-- the tightest high of a row's pair: no row is tighter, and none has 0
pub tightest_high_there : (s : Sheet) → Formed s → (i : ℕ) → i < s.bounds → (0 < (tightest_at s i).high) × ((tightest_at s i).high < word)
tightest_high_there s f i l =
    let r = row_itself s i l in
    let q = high_most (f.bound i l) in (
      ⊎_elim
          (λ z. omega arith)
          (λ (k, p, z). omega (arith, high_most (f.bound k p.in_sheet)))
          (high_found s (s.bound i).later (s.bound i).earlier),
      omega (arith, high_of_row s (s.bound i).later (s.bound i).earlier i r, q.1),
    )

-- both events of a rule are of one job
pub same_job_lem
    : (s : Sheet)
    → Formed s
    → (a b w : ℕ)
    → OwnRule s a b w
    → (a < s.events) × (b < s.events) × ((s.event a).job ≡ (s.event b).job)
same_job_lem s f a b w (low i l p q r) = (
  omega (arith, (f.bound i l).earlier),
  omega (arith, (f.bound i l).later),
  ap (λ e. (s.event e).job) p ∙ sym (f.bound i l).same_job ∙ sym (ap (λ e. (s.event e).job) q),
)
same_job_lem s f a b w (high i l p q r) = (
  omega (arith, (f.bound i l).later),
  omega (arith, (f.bound i l).earlier),
  ap (λ e. (s.event e).job) p ∙ (f.bound i l).same_job ∙ sym (ap (λ e. (s.event e).job) q),
)
same_job_lem s f a b w (need l k p r) =
    let is
    : Is s a (s.event a).job begins (s.event a).fact
    = record { in_sheet = l; of_job = refl; of_kind = k; of_fact = refl }
    in
    let end = end_of s f a _ _ is in
    (l, omega (arith, rw add-one at p, end.in_sheet), sym end.of_job ∙ sym (ap (λ e. (s.event e).job) (p ∙ add-one a)))

-- those of the rules P whose first event is of job j
pub record JobPart (s : Sheet) (P : Rules) (j a b w : ℕ) : Type 0 where
  pub of_job : (s.event a).job ≡ j
  pub rule : P a b w

-- the rules of job j's own times
abbrev pub JobRule : Sheet → ℕ → Rules
JobRule s = JobPart s (OwnRule s)

abbrev pub Window : (s : Sheet) (j : ℕ) (t : ℕ → ℕ) → Type 0
Window s j t = (e : ℕ) → e < s.events → (s.event e).job ≡ j → t e ≤ s.horizon

-- no event of job j is before its first tick
abbrev pub Released : (s : Sheet) (j : ℕ) (t : ℕ → ℕ) → Type 0
Released s j t = (e : ℕ) → e < s.events → (s.event e).job ≡ j → earliest s j ≤ t e

-- own times: within the window, and every rule is kept
module _ (s : Sheet) (f : Formed s) (j : ℕ) (t : ℕ → ℕ) where
  pub own_window : OwnTimes s j t → Window s j t
  unfolding latest
  own_window p = p.late

  -- the tightest of a pair of the job, at its two events
  pair_met
      : OwnTimes s j t
      → (i : ℕ)
      → i < s.bounds
      → (s.event (s.bound i).later).job ≡ j
      → (t (s.bound i).earlier + (tightest_at s i).low ≤ t (s.bound i).later + origin)
      × (t (s.bound i).later + origin ≤ t (s.bound i).earlier + (tightest_at s i).high)
  unfolding tightest
  pair_met p i l q =
      let m = (tightest_meets s (s.bound i).later (s.bound i).earlier t f i (row_itself s i l)).1
      (λ k r. p.bounds k r.in_sheet (ap (λ e. (s.event e).job) r.later ∙ q)) in
      (m.low, m.high)

  pub own_keeps : OwnTimes s j t → KeepsRules (JobRule s j) t
  unfolding origin
  own_keeps p a b w r = go r.rule r.of_job
    where
      go : OwnRule s a b w → (s.event a).job ≡ j → t a + w ≤ t b + kernel.origin
      go (low i l x y z) o = rw (x, y, z) (pair_met p i l ((f.bound i l).same_job ∙ ap (λ e. (s.event e).job) (sym x) ∙ o)).0
      go (high i l x y z) o = rw (x, y) (omega (arith, (pair_met p i l (ap (λ e. (s.event e).job) (sym x) ∙ o)).1))
      go (need l k x z) o =
          let is : Is s a j begins (s.event a).fact = record { in_sheet = l; of_job = o; of_kind = k; of_fact = refl } in
          let m = p.needs a (suc a) _ is (end_of s f a _ _ is) in
          rw (x, add-one) (omega arith)

  pub own_early : OwnTimes s j t → Released s j t
  own_early p = p.early

  -- and from the rules of a pair to its tightest
  pair_kept : KeepsRules (JobRule s j) t → (i : ℕ) → i < s.bounds → (s.event (s.bound i).later).job ≡ j → Meets (tightest_at s i) t
  unfolding tightest origin
  pair_kept keeps i l q =
      let d = f.bound i l in
      let u = tightest_high_there s f i l in
      let g = keeps _ _ (2 * kernel.origin - (tightest_at s i).high) (record { of_job = q; rule = high i l refl refl (omega arith) }) in
      record {
        low = keeps _ _ _ (record { of_job = sym d.same_job ∙ q; rule = low i l refl refl refl });
        high = omega arith;
      }

  pub released_own : Released s j t → Window s j t → KeepsRules (JobRule s j) t → OwnTimes s j t
  unfolding latest origin
  released_own early within keeps =
      record {
        early = early;
        late = within;
        bounds = λ i l q. meets_row s (s.bound i).later (s.bound i).earlier t i (row_itself s i l) (pair_kept keeps i l q);
        needs =
            λ b e g q r.
            let n = end_after s f b e j g q r in
            let k = keeps b (b + 1) kernel.origin (record { of_job = q.of_job; rule = need q.in_sheet q.of_kind refl refl }) in
            rw (n, sym (add-one b)) (omega arith);
      }

-- own times are a matter of the job's events only
pub own_same
    : (s : Sheet) (f : Formed s) (j : ℕ) (t u : ℕ → ℕ)
    → ((e : ℕ) → e < s.events → (s.event e).job ≡ j → u e ≡ t e)
    → OwnTimes s j t
    → OwnTimes s j u
own_same s f j t u same p =
    released_own s f j u
    (λ e l q. omega (arith, same e l q, own_early s f j t p e l q))
    (λ e l q. omega (arith, same e l q, own_window s f j t p e l q))
    (λ a b w r.
    let (la, lb, q) = same_job_lem s f a b w r.rule in
    omega (arith, same a la r.of_job, same b lb (sym q ∙ r.of_job), own_keeps s f j t p a b w r))

-- the first tick that event e may have: that of its job
abbrev pub floor_of : Sheet → ℕ → ℕ
floor_of s e = earliest s (s.event e).job

-- the events of job j are those from lo up to hi
pub record JobSpan (s : Sheet) (j lo hi : ℕ) : Type 0 where
  pub holds : (e : ℕ) → e < s.events → (s.event e).job ≡ j → Between lo hi e
  pub of_job : (e : ℕ) → Between lo hi e → (s.event e).job ≡ j
  pub in_sheet : (e : ℕ) → Between lo hi e → e < s.events

-- a job's rules as a system of difference rules
abbrev pub job_system : Sheet → (j lo hi : ℕ) → System
job_system s j lo hi = record { lo = lo; hi = hi; ceiling = s.horizon; rule = JobRule s j }

module _ (s : Sheet) (f : Formed s) (j lo hi : ℕ) (span : JobSpan s j lo hi) where
  pub closed : Closed (job_system s j lo hi)
  closed a b w r =
      let (la, lb, q) = same_job_lem s f a b w r.rule in
      (span.holds a la r.of_job, span.holds b lb (sym q ∙ r.of_job))

  pub own_solves : {t : ℕ → ℕ} → OwnTimes s j t → Solves (job_system s j lo hi) (λ v. earliest s j) t
  own_solves {t} p =
      record {
        above = λ v o. own_early s f j t p v (span.in_sheet v o) (span.of_job v o);
        below = λ v o. own_window s f j t p v (span.in_sheet v o) (span.of_job v o);
        kept = own_keeps s f j t p;
      }

  pub solves_own : {t : ℕ → ℕ} → Solves (job_system s j lo hi) (λ v. earliest s j) t → OwnTimes s j t
  solves_own {t} p =
      released_own s f j t (λ e l q. p.above e (span.holds e l q)) (λ e l q. p.below e (span.holds e l q)) p.kept
