use Rattle.order_shown.specs.Grid.{listed_in}
use Rattle.order_shown.proofs.GridLaws.{Listing}
use Rattle.order_shown.proofs.unmarked.Given as goal

abbrev pub invariant-loop-f : goal.invariant-loop-f
invariant-loop-f l = Listing l.last l.f (listed_in l.rest)
