use mathlib.Core.List.{map}
use Prim.Native.Nat.{◌-◌}
use Rattle.kernel_least.specs.Rows.{col}
use Rattle.kernel_least.proofs.Laws.{WalkInv}
use Rattle.kernel_least.proofs.gain.Given as goal

abbrev pub invariant-loop-i : goal.invariant-loop-i
invariant-loop-i l =
    WalkInv (col (map (λ x. x.now) l.rules) 0) (col (map (λ x. x.now) l.rules) 1) (col (map (λ x. x.now) l.rules) 2) l.range.lo l.range.hi l.s l.v l.sum l.base (l.range.hi - l._i)
