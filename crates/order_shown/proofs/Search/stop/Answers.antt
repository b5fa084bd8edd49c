use mathlib.Core.Path.{subst, ◌∙◌}
use Rattle.laws.specs.Test.{untold}
use Rattle.laws.specs.Throughout.{throughout_more}
use Rattle.order_guard.specs.Basis.{sheet_of}
use Rattle.order_shown.specs.Grid.{Fine, both_of}
use Rattle.order_shown.proofs.Search.stop.Goals as goal

pub loop-k-preserved : goal.loop-k-preserved
loop-k-preserved c =
    let a = c.args in (
      throughout_more c.loop-k.invariant.0
          (subst (λ e. Fine (sheet_of a.self.now.basis) a.last.now a.self.now.jobs.now (both_of a.order) a.row e) c.event_at.ensures.event
          (untold _ c.is_open.result c.is_open.ensures.tells c.if-is_open.false)),
      c.is_open.ensures.filled_2,
      c.is_open.auto.table ∙ c.loop-k.invariant.2,
    )
