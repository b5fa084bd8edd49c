use Rattle.rules.specs.Late.{Bits}
use Rattle.sheet.specs.WellFormed.{said_by}
use Rattle.run_state.specs.Bits.{Among}
use Rattle.run_state.specs.State.{Marked}
use Rattle.run_state.proofs.initial_facts.Given as goal

abbrev pub invariant-loop-f : goal.invariant-loop-f
invariant-loop-f l =
    Bits l.held (Among (Marked (said_by l.sheet)) l.f)
