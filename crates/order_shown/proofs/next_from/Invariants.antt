use Rattle.order_guard.specs.Pair.{In}
use Rattle.laws.specs.Throughout.{Throughout}
use Rattle.order_shown.proofs.next_from.Given as goal

abbrev pub invariant-loop-p : goal.invariant-loop-p
invariant-loop-p l = Throughout (λ q. In l.last q → In l.done q) l.from l.p
