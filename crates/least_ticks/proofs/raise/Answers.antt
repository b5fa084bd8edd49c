use Rattle.std.proofs.Common.{arith}
use Rattle.least_ticks.proofs.Raised.{under}
use Rattle.least_ticks.proofs.raise.Goals as goal

pub raise_along-requires-clause-lent : goal.raise_along-requires-clause-lent
raise_along-requires-clause-lent c =
    let p = c.requires in
    let few = c.args.marked.now.sheet.few in
    let counts = c.args.marked.now.sheet.counted in
    (record { low = omega (arith, few.horizon, counts.horizon); ticks = omega (arith, few.events, counts.events, p.long) }, under p)
