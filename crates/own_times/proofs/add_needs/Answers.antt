use Rattle.sheet.specs.WellFormed.{formed_by}
use Rattle.own_times.proofs.Laws.{needing_skip, needing_turn, needing_end}
use mathlib.Core.Path.{◌∙◌}
use Rattle.laws.specs.Test.{said, denied}
use Rattle.laws.specs.Events.{small}
use native.Mathlib.Omega.{arith}
use Rattle.own_times.proofs.add_needs.Goals as goal
use Rattle.own_times.proofs.add_needs.Goals.{then-begins, else-begins}

pub loop-e-preserved : goal.loop-e-preserved
loop-e-preserved c =
    let p = formed_by c.args.sheet.now in
    let few = (small _ p.formed).events in
    elim c.if-begins.branch [
      | then-begins w ↦ rw (w.from-is, w.to-is, w.weight-is, w.n-is, w.e-is) (
        needing_turn _ p.formed _
            (omega (arith, few, p.sheet.events, c.loop-e-test.true))
            (said _ c.begins.ensures w.if-begins.true) _ p.sheet.horizon c.loop-e.invariant.0 w.add-n.ensures,
        record {
          sources = w.add-n.auto.from ∙ c.loop-e.invariant.1.sources;
          targets = w.add-n.auto.to ∙ c.loop-e.invariant.1.targets;
          weights = w.add-n.auto.weight ∙ c.loop-e.invariant.1.weights;
        },
      )
      | else-begins w ↦ rw (w.from-is, w.to-is, w.weight-is, w.n-is, w.e-is) (
        needing_skip c.loop-e.invariant.0 (omega (arith, few, p.sheet.events, c.loop-e-test.true))
            (denied _ c.begins.ensures w.if-begins.false),
        c.loop-e.invariant.1,
      )
    ]

pub returns : goal.returns
returns c =
    needing_end _ (formed_by c.args.sheet.now).formed c.loop-e.invariant.0 (omega (arith, c.args.sheet.now.counted.events, c.loop-e-test.false))
