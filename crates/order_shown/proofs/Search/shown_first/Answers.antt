use native.Mathlib.Omega.{arith}
use mathlib.Core.Path.{◌∙◌}
use Rattle.sheet.specs.WellFormed.{formed_by}
use Rattle.order_shown.proofs.GridLaws.{first_step}
use Rattle.order_shown.proofs.Search.shown_first.Goals as goal

pub loop-f-preserved : goal.loop-f-preserved
loop-f-preserved c =
    let facts = c.facts-f-end.ensures in (
      first_step c.is_first.result c.loop-f.invariant.0
          (omega (arith, c.loop-f-test.true, facts.facts, (formed_by c.args.self.now.basis.sheet).few.facts)) c.is_first.ensures.says,
      c.is_first.ensures.filled_2,
      c.is_first.auto.table ∙ c.loop-f.invariant.2,
    )
