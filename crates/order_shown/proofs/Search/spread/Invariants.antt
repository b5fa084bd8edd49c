use mathlib.Core.Path.{◌≡◌}
use mathlib.Core.Bool.{Bool}
use mathlib.Core.List.{List}
use lib.ListN.{length}
use Rattle.order_guard.specs.Basis.{sheet_of, HasRows}
use Rattle.order_shown.specs.Grid.{State, last_sides}
use Rattle.order_shown.proofs.GridLaws.{Spreading}
use Rattle.order_shown.proofs.Search.spread.Given as goal

abbrev pub invariant-loop-f : goal.invariant-loop-f
invariant-loop-f l =
    ((d : List Bool)
    → State (sheet_of l.self.basis) (last_sides l.self.jobs.now l.self.basis.columns) d l.initial.marking.last l.initial.marking.watched
    → Spreading (sheet_of l.self.basis) (last_sides l.self.jobs.now l.self.basis.columns) l.p l.f-index l.rest d
    l.initial.marking.last l.marking.last l.marking.watched)
    × HasRows l.self.basis l.table
    × (length l.table ≡ length l.initial.table)
