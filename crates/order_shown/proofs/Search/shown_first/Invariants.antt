use mathlib.Core.Path.{◌≡◌}
use lib.ListN.{length}
use Rattle.order_guard.specs.Basis.{sheet_of, HasRows}
use Rattle.order_shown.specs.Grid.{FirstOf}
use Rattle.order_shown.proofs.Search.shown_first.Given as goal

abbrev pub invariant-loop-f : goal.invariant-loop-f
invariant-loop-f l =
    FirstOf (sheet_of l.self.basis) l.last l.f l.first
    × HasRows l.self.basis l.table
    × (length l.table ≡ length l.initial.table)
