use mathlib.Core.Path.{sym, ◌∙◌}
use Rattle.run_state.specs.Bits.{among_none}
use Rattle.run_state.proofs.Laws.{fact_small, mark_on, mark_off}
use Rattle.std.proofs.Common.{rules}
use Rattle.run_state.proofs.initial_facts.Goals as goal
use Rattle.run_state.proofs.initial_facts.Goals.{then-initial, else-initial}

pub loop-f-init : goal.loop-f-init
loop-f-init c = among_none

pub bit-held-requires : goal.bit-held-requires
bit-held-requires c = fact_small c.args.sheet.now c.loop-f-test.true

pub loop-f-preserved : goal.loop-f-preserved
loop-f-preserved c =
    let i = c.initial.ensures in
    let inv = c.loop-f.invariant in
    elim c.if-initial.branch [
      | then-initial w ↦ rw (w.held-is, w.bit-held.ensures) (mark_on _ inv (sym i ∙ w.if-initial.true) (fact_small c.args.sheet.now (search rules)))
      | else-initial w ↦ rw w.held-is (mark_off _ inv (sym i ∙ w.if-initial.false))
    ]
