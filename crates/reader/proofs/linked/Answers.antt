use native.Mathlib.Omega.{arith}
use Rattle.reader.proofs.Laws.{linked_by}
use Rattle.reader.proofs.linked.Goals as goal

pub returns : goal.returns
returns c =
    linked_by _ _ _ c.slack.result _ c.requires.1 c.slack.ensures.0
    (λ z. omega (arith, z))
    (λ z. omega (arith, z, c.requires.2))
