use mathlib.Core.Path.{◌≡◌}
use lib.ListN.{length}
use Rattle.index.specs.View.{events_in}
use Rattle.order_guard.specs.Basis.{sheet_of, HasRows}
use Rattle.order_shown.specs.Grid.{RowFine, both_of}
use Rattle.order_shown.proofs.Search.stop.Given as goal

abbrev pub invariant-loop-k : goal.invariant-loop-k
invariant-loop-k l =
    RowFine (sheet_of l.self.basis) l.last l.self.jobs.now (both_of l.order) (events_in l.self.basis.columns) l.from l.k l.row
    × HasRows l.self.basis l.table
    × (length l.table ≡ length l.initial.table)
