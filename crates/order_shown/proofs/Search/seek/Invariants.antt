use mathlib.Core.Path.{◌≡◌}
use lib.ListN.{length}
use Rattle.order_guard.specs.Basis.{sheet_of, HasRows}
use Rattle.order_shown.specs.Grid.{sides_of, both_of}
use Rattle.order_shown.proofs.GridLaws.{Seeking}
use Rattle.order_shown.proofs.Search.seek.Given as goal

abbrev pub invariant-loop-r : goal.invariant-loop-r
invariant-loop-r l =
    Seeking (sheet_of l.self.basis) (sides_of l.order l.self.jobs.now l.self.basis.columns) l.last (both_of l.order) l.f l.fn.start.row l.r l.q
    × HasRows l.self.basis l.table
    × (length l.table ≡ length l.initial.table)
