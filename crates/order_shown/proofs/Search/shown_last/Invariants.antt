use mathlib.Core.Path.{◌≡◌}
use lib.ListN.{length}
use Rattle.laws.specs.Limits.{most_facts}
use Rattle.order_guard.specs.Basis.{sheet_of, HasRows}
use Rattle.order_shown.specs.Grid.{State, Next, RestLists, last_sides}
use Rattle.order_shown.proofs.GridLaws.{left}
use Rattle.order_shown.proofs.Search.shown_last.Given as goal

abbrev pub invariant-loop-tried : goal.invariant-loop-tried
invariant-loop-tried l =
    State (sheet_of l.self.basis) (last_sides l.self.jobs.now l.self.basis.columns) l.done l.marking.last l.marking.watched
    × (length l.done ≡ most_facts)
    × Next l.marking.last l.done (sheet_of l.self.basis).facts l.tried
    × RestLists l.marking.last (sheet_of l.self.basis).facts l.rest
    × HasRows l.self.basis l.table
    × (length l.table ≡ length l.initial.table)

abbrev pub decreases-loop-tried : goal.decreases-loop-tried
decreases-loop-tried l = left l.done
