-- Presence: every plan of a sheet in which one job sets each wanted fact has an instance of every wanted job.
use Rattle.std.specs.Prelude.{ℕ, suc, ◌<◌, ◌≡◌, true, false}
use Rattle.std.proofs.Math.Logic.{dite}
use Rattle.std.proofs.Math.Decide.{ℕ_discrete}
use Rattle.rules.specs.Count.{None}
use Rattle.rules.specs.Sheet.{Sheet, initial, goal, begins, sets}
use Rattle.rules.specs.RunList.{Plan}
use Rattle.rules.specs.Plan.{Is, Occurs, Served, Held, IsPlan}
use Rattle.rules.specs.Wanted.{OfPresent, WantedFact, is_goal, is_need, WantedJob, is_setter}
use Rattle.rules.specs.Class.{TwoSetters}
use Rattle.laws.specs.Bools.{clash}
use Rattle.laws.specs.Formed.{Formed}
use Rattle.laws.specs.Events.{fact_in_sheet, end_of}
use Rattle.laws.specs.Present.{of_instance}
use Rattle.theory.specs.Statements.{Present}
use Rattle.theory.specs.Why.Distance.{occurs}

-- ---- induction on how a fact or a job became wanted

module _
    {s : Sheet} (P Q : ℕ → Type 0)
    (goals : (f : ℕ) → f < s.facts → goal s f ≡ true → P f)
    (needs : (j f e : ℕ) → WantedJob s j → Q j → Is s e j begins f → P f)
    (setters : (j f e : ℕ) → WantedFact s f → P f → initial s f ≡ false → OfPresent s e j sets f → Q j)
  where
    pub fact_ind : {f : ℕ} → WantedFact s f → P f
    fact_ind {f} w =
        elim w as (λ g d. P g) (λ j d. Q j) [
          | is_goal {f = g} l e ↦ goals g l e
          | is_need {j = j} {f = g} e (w → ih) is ↦ needs j g e w ih is
          | is_setter {j = j} {f = g} e (w → ih) q is ↦ setters j g e w ih q is
        ]

    pub job_ind : {j : ℕ} → WantedJob s j → Q j
    job_ind (is_setter {j = j} {f = f} e w q is) = setters j f e w (fact_ind w) q is

-- ---- in a plan

-- f, if not initial, is set in the plan
unfoldable pub IsSet : Sheet → Plan → ℕ → Type 0
IsSet s p f = initial s f ≡ false → (k : ℕ) × (d : ℕ) × Occurs s p k d sets f

-- a wanted fact, not initial, has one present setter
pub one_setter_lem
    : {s : Sheet} {f i j e d : ℕ}
    → Formed s
    → None (TwoSetters s) s.facts
    → WantedFact s f
    → initial s f ≡ false
    → OfPresent s e i sets f
    → OfPresent s d j sets f
    → i ≡ j
unfolding None
one_setter_lem {s} {f} {i} {j} {e} {d} ok one wanted q a b =
    dite (ℕ_discrete i j) (λ h. h)
    (λ h. absurd (one f (fact_in_sheet ok a.is) (record { is_wanted = wanted; not_initial = q; setters = (e, i, d, j, a, b, h) })))

module _ {s : Sheet} (ok : Formed s) (one : None (TwoSetters s) s.facts) {p : Plan} (plan : IsPlan s p) where
  goal_set : (f : ℕ) → f < s.facts → goal s f ≡ true → IsSet s p f
  unfolding IsSet
  goal_set f l g q = go (plan.held f l g)
    where
      go : Held s p f → (k : ℕ) × (d : ℕ) × Occurs s p k d sets f
      go (Held.by_initial e safe) = absurd (clash e q)
      go (Held.by_set k d set safe) = (k, d, set)

  need_set : (j f e : ℕ) → WantedJob s j → Present p j → Is s e j begins f → IsSet s p f
  unfolding IsSet Present
  need_set j f b w there need q =
      let i = there.0 in
      let end = end_of s ok b j f need in
      go (plan.served i b (suc b) f (occurs there.1 there.2 need) (occurs there.1 there.2 end))
    where
      go : {i b e : ℕ} → Served s p i f b e → (k : ℕ) × (d : ℕ) × Occurs s p k d sets f
      go (Served.by_initial e safe) = absurd (clash e q)
      go (Served.by_set k d set first safe) = (k, d, set)

  setter_present
      : (j f e : ℕ) → WantedFact s f → IsSet s p f → initial s f ≡ false → OfPresent s e j sets f → Present p j
  unfolding IsSet Present
  setter_present j f e w set q is =
      let (k, d, there) = set q in
      (k, there.in_plan, one_setter_lem ok one w q (of_instance plan there) is)

  pub fact_set : {f : ℕ} → WantedFact s f → IsSet s p f
  fact_set = fact_ind (IsSet s p) (Present p) goal_set need_set setter_present

  pub job_present : {j : ℕ} → WantedJob s j → Present p j
  job_present = job_ind (IsSet s p) (Present p) goal_set need_set setter_present
