-- Alike sheets have the same present jobs, and want the same facts and jobs.
use Rattle.std.specs.Prelude.{ℕ, ◌<◌, ◌≡◌, true, false}
use Rattle.std.proofs.Common.{arith, sym, ◌∙◌}
use Rattle.rules.specs.Sheet.{Sheet, initial, goal, begins, sets}
use Rattle.rules.specs.Plan.{Is}
use Rattle.rules.specs.Wanted.{RunsAlone, OfPresent, WantedFact, is_goal, is_need, WantedJob, is_setter}
use Rattle.laws.specs.Events.{fact_in_sheet}
use Rattle.theory.specs.Why.Present.{fact_ind, job_ind}
use Rattle.agree.specs.Agree.{initial_agree, goal_agree, is_agree}
use Rattle.agree.specs.Formed.{Alike}
use Rattle.agree.specs.Plan.{own_agree}

module _ {s t : Sheet} (h : Alike s t) where
  runs_alone : (j : ℕ) → RunsAlone s j → RunsAlone t j
  unfolding RunsAlone
  runs_alone j r = (r.0, own_agree h r.1)

  pub present_agree : {e j k f : ℕ} → OfPresent s e j k f → OfPresent t e j k f
  present_agree {j = j} p = record { is = is_agree h.agree p.is; alone = runs_alone j p.alone }

  goals : (f : ℕ) → f < s.facts → goal s f ≡ true → WantedFact t f
  goals f l g = is_goal {f = f} (omega (arith, h.agree.facts)) (sym (goal_agree h.agree f l) ∙ g)

  needs : (j f e : ℕ) → WantedJob s j → WantedJob t j → Is s e j begins f → WantedFact t f
  needs j f e w v is = is_need e v (is_agree h.agree is)

  setters : (j f e : ℕ) → WantedFact s f → WantedFact t f → initial s f ≡ false → OfPresent s e j sets f → WantedJob t j
  setters j f e w v q is =
      is_setter e v (sym (initial_agree h.agree f (fact_in_sheet h.one is.is)) ∙ q) (present_agree is)

  pub wanted_fact_lem : {f : ℕ} → WantedFact s f → WantedFact t f
  wanted_fact_lem w = fact_ind (WantedFact t) (WantedJob t) goals needs setters w

  pub wanted_job_lem : {j : ℕ} → WantedJob s j → WantedJob t j
  wanted_job_lem w = job_ind (WantedFact t) (WantedJob t) goals needs setters w
