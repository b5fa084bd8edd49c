use mathlib.Core.Path.{sym, ◌∙◌}
use Rattle.plan_points.specs.Flat.{cell}
use Rattle.run_state.specs.Bits.{among_none}
use Rattle.run_state.proofs.Laws.{event_small, row_off, row_on}
use Rattle.run_state.proofs.change_at.Goals as goal
use Rattle.run_state.proofs.change_at.Goals.{then-tick, else-tick}

pub loop-k-init : goal.loop-k-init
loop-k-init c = record { sets = among_none; clears = among_none }

pub with_event-change-requires : goal.with_event-change-requires
with_event-change-requires c =
    event_small _ c.event.ensures

pub loop-k-preserved : goal.loop-k-preserved
unfolding cell
loop-k-preserved c =
    let inv = c.loop-k.invariant in
    let at = c.tick.ensures.0 in
    elim c.if-tick.branch [
      | then-tick w ↦
          rw w.change-is
          (row_on inv _ _ (sym at ∙ w.if-tick.true) w.event.ensures w.with_event-change.ensures.0 w.with_event-change.ensures.1)
      | else-tick w ↦ rw w.change-is (row_off inv (λ z. w.if-tick.false (at ∙ z)))
    ]
