use Rattle.index.specs.View.{set_starts, clear_starts}
use Rattle.order_shown.specs.Grid.{Plain}
use Rattle.order_shown.proofs.Search.unpaired.Given as goal

abbrev pub invariant-loop-f : goal.invariant-loop-f
invariant-loop-f l = Plain (set_starts l.self.basis.columns) (clear_starts l.self.basis.columns) l.f l.plain
