use mathlib.Core.List.{map}
use mathlib.Core.Path.{◌≡◌}
use lib.ListN.{length}
use Rattle.kernel_least.proofs.Laws.{RowInv}
use Rattle.kernel_least.proofs.Laws.{NoteInv}
use Rattle.kernel_least.specs.Rows.{col}
use Rattle.kernel_least.proofs.lift_row.Given as goal

abbrev pub invariant-loop-r : goal.invariant-loop-r
invariant-loop-r l =
    RowInv (col (map (λ x. x.now) l.rules) 0) (col (map (λ x. x.now) l.rules) 1) (col (map (λ x. x.now) l.rules) 2) l.range.lo l.range.hi l.range.ceiling l.v l.base l.initial.x l.initial.marks
    l.initial.r l.x l.marks l.r
    × NoteInv l.watch.edge l.watch.noted l.initial.marks l.marks l.noted
    × (length l.parents ≡ length l.initial.parents)
