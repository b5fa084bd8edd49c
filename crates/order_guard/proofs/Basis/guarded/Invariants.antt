use mathlib.Core.Path.{◌≡◌}
use lib.ListN.{length}
use Rattle.laws.specs.Throughout.{Throughout}
use Rattle.order_guard.specs.Pair.{Hit}
use Rattle.order_guard.specs.Basis.{sheet_of, HasRows}
use Rattle.order_guard.proofs.Basis.guarded.Given as goal

abbrev pub invariant-loop-x : goal.invariant-loop-x
invariant-loop-x l =
    Throughout (λ k. Hit (sheet_of l.self) l.last l.pair.row l.pair.col k → ⊥) l.from l.x
    × HasRows l.self l.table
    × (length l.table ≡ length l.initial.table)
