use mathlib.Core.List.{map}
use Rattle.kernel_least.proofs.Laws.{RowInv}
use Rattle.kernel_least.specs.Rows.{col}
use Rattle.kernel_widest.proofs.serve.Given as goal

abbrev pub invariant-loop-place : goal.invariant-loop-place
invariant-loop-place l =
    RowInv (col (map (λ x. x.now) l.rules) 0) (col (map (λ x. x.now) l.rules) 1) (col (map (λ x. x.now) l.rules) 2) l.range.lo l.range.hi l.range.ceiling l.v l.from l.initial.x l.initial.marks
    l.initial.place l.x l.marks l.place
