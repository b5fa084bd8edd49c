use Rattle.std.proofs.Common.{arith}
use Rattle.order_table.specs.Laws.{empty_table}
use Rattle.order_table.proofs.in_table.Goals as goal

pub whole_as_slice-new : goal.whole_as_slice-new
whole_as_slice-new g c = omega (arith, c.requires.room)

pub new-requires-clause-filled : goal.new-requires-clause-filled
new-requires-clause-filled g c = empty_table c.requires.orders_ask _ c.requires.strided
