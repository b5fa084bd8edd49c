use native.Mathlib.Omega.{arith}
use Rattle.rules.specs.Sheet.{max_horizon}
use Rattle.rules.specs.Plan.{latest}
use Rattle.sheet.specs.View.{meaning}
use Rattle.run_state.specs.State.{Steps}
use Rattle.run_state.proofs.Laws.{held_rows, horizon_near}
use Rattle.std.proofs.Common.{rules}
use Rattle.run_state.proofs.step.Goals as goal

pub returns-then-latest-next : goal.returns-then-latest-next
unfolding latest meaning
returns-then-latest-next c =
    Steps.stays (omega (arith, c.latest.ensures 0))

pub overflow_add-after : goal.overflow_add-after
unfolding latest meaning max_horizon
overflow_add-after c =
    omega (arith, c.latest.ensures 0, horizon_near c.args.sheet.now)

pub returns : goal.returns
unfolding latest meaning max_horizon
returns c =
    Steps.moves _ (omega (arith, c.latest.ensures 0))
    (held_rows (search rules) c.change_at-change.ensures)
