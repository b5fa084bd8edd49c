use native.Mathlib.Omega.{arith}
use borrow.Author.Tests.{ltb-true}
use Rattle.kernel_least.proofs.Laws.{walk_step, walk_gains}
use Rattle.kernel_least.proofs.gain.Goals as goal

pub returns-then-p-s : goal.returns-then-p-s
returns-then-p-s c f e =
    walk_gains _ _ _ _ _ _ c.loop-i.invariant c.in-Some.ensures.stands c.if-p-s.true (ltb-true _ _ e) _ f

pub loop-i-preserved : goal.loop-i-preserved
loop-i-preserved c =
    walk_step _ _ _ _ _ _ c.loop-i.invariant c.in-Some.ensures.stands (omega arith) c.in-Some.ensures.small
