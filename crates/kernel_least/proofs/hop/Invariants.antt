use mathlib.Core.List.{map}
use Rattle.kernel_least.proofs.Laws.{Best}
use Rattle.kernel_least.specs.Rows.{col}
use Rattle.kernel_least.proofs.hop.Given as goal

abbrev pub invariant-loop-k : goal.invariant-loop-k
invariant-loop-k l =
    Best (col (map (λ x. x.now) l.rules) 0) (col (map (λ x. x.now) l.rules) 1) (col (map (λ x. x.now) l.rules) 2) l.fn.range.lo l.fn.range.hi l.p l.v l.best
