-- Present and absent jobs: every wanted job is present, and no plan has an instance of an absent one.
use Rattle.std.specs.Prelude.{ℕ, ◌<◌}
use Rattle.rules.specs.Sheet.{Sheet}
use Rattle.rules.specs.RunList.{Plan}
use Rattle.rules.specs.Plan.{Is, Occurs, IsPlan}
use Rattle.rules.specs.Wanted.{RunsAlone, Absent, OfPresent, WantedJob, is_setter}

pub wanted_present : {s : Sheet} {j : ℕ} → WantedJob s j → RunsAlone s j
wanted_present (is_setter e a n p) = p.alone

-- an event of a wanted job is of a present one
pub of_wanted : {s : Sheet} {e j kind f : ℕ} → WantedJob s j → Is s e j kind f → OfPresent s e j kind f
of_wanted w is = record { is = is; alone = wanted_present w }

module _ {s : Sheet} {p : Plan} (plan : IsPlan s p) where
  -- the instances of a plan are of present jobs
  instance_present : (i : ℕ) → i < p.count → RunsAlone s (p.job i)
  unfolding RunsAlone
  instance_present i l = (p.time i, plan.own i l)

  pub of_instance : {i e kind f : ℕ} → Occurs s p i e kind f → OfPresent s e (p.job i) kind f
  of_instance {i} o = record { is = o.is; alone = instance_present i o.in_plan }

  pub absent_nowhere : (i : ℕ) → i < p.count → Absent s (p.job i) → ⊥
  unfolding Absent
  absent_nowhere i l gone = gone (instance_present i l)
