use native.Mathlib.Omega.{arith}
use native.Mathlib.Nat.{one-mul}
use mathlib.Core.Path.{◌∙◌}
use lib.Pow.{shl_exact}
use Rattle.rules.specs.Sheet.{max_facts}
use Rattle.run_state.proofs.bit.Goals as goal

pub overflow_shl-result : goal.overflow_shl-result
unfolding max_facts
overflow_shl-result c =
    c.requires

pub returns : goal.returns
unfolding max_facts
returns c =
    shl_exact 1 c.args.f 64 (omega arith) (omega arith) ∙ one-mul _
