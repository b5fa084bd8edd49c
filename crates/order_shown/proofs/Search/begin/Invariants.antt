use mathlib.Core.Path.{◌≡◌}
use mathlib.Core.List.{[]}
use lib.ListN.{length}
use Rattle.order_guard.specs.Basis.{sheet_of, HasRows}
use Rattle.order_shown.specs.Grid.{StateTo, last_sides}
use Rattle.order_shown.proofs.Search.begin.Given as goal

abbrev pub invariant-loop-f : goal.invariant-loop-f
invariant-loop-f l =
    StateTo (sheet_of l.self.basis) (last_sides l.self.jobs.now l.self.basis.columns) l.f [] l.marking.last l.marking.watched
    × HasRows l.self.basis l.table
    × (length l.table ≡ length l.initial.table)
