use lib.ListN.{length}
use Rattle.std.specs.Prelude.{map}
use Rattle.instances.specs.Chain.{before}
use Rattle.instances.proofs.Links.{Chaining}
use Rattle.instances.proofs.chain.Given as goal

abbrev pub invariant-loop-k : goal.invariant-loop-k
invariant-loop-k l =
    Chaining l.group l.count (length l.initial.link) (length l.initial.last) l.k l.link (map before l.last)
