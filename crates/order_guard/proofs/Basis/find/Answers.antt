use Rattle.order_guard.proofs.Laws.{find_none}
use Rattle.order_guard.proofs.Basis.find.Goals as goal

pub returns : goal.returns
returns c = find_none c.places-from.ensures.ground.index c.requires c.places-from.ensures.from c.places-from.ensures.end c.loop-i.invariant c.loop-i-test.false
