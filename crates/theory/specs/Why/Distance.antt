-- Two distances compared; and where an event occurs.
use Rattle.std.specs.Prelude.{ℕ, ◌≤◌, ◌<◌, ◌≡◌}
use Rattle.std.proofs.Math.Logic.{dite}
use Rattle.std.proofs.Common.{arith}
use Rattle.std.proofs.Math.Decide.{ℕ_discrete}
use Rattle.rules.specs.Sheet.{Sheet}
use Rattle.rules.specs.RunList.{Plan}
use Rattle.rules.specs.Plan.{Is, Occurs, distance}
use Rattle.laws.specs.Distance.{distance_same, distance_other}

-- i and k lie no further apart than a and b, if they are one place wherever a and b are
pub distance_le : (s : Sheet) (i k a b : ℕ) → (a ≡ b → i ≡ k) → distance s i k ≤ distance s a b
distance_le s i k a b h =
    dite (ℕ_discrete i k) (λ q. omega (arith, distance_same s i k q))
    (λ q. omega (arith, distance_other s i k q, distance_other s a b (λ e. q (h e))))

-- an event of job j occurs in every instance of j
pub occurs : {s : Sheet} {p : Plan} {i e j k f : ℕ} → i < p.count → p.job i ≡ j → Is s e j k f → Occurs s p i e k f
occurs iIn iOf is = record { in_plan = iIn; is = rw iOf is }
