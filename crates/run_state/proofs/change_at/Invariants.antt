use Rattle.run_state.specs.State.{Changes}
use Rattle.run_state.proofs.change_at.Given as goal

abbrev pub invariant-loop-k : goal.invariant-loop-k
invariant-loop-k l =
    Changes l.rows l.k l.tick l.change
