use Prim.Native.Nat.{◌≤◌, ◌<◌}
use borrow.Author.Tests.{tests}
use Rattle.std.proofs.Common.{rules}
use Rattle.std.proofs.lemmas.Iterator.{cases_from_all, YieldsList-from_slice}
use Rattle.delays.specs.Delays.{delays_get, delays_not, delays_all}
use Rattle.delays.proofs.in_order.Goals as goal

pub returns-then-delays-n : goal.returns-then-delays-n
returns-then-delays-n c =
    delays_not _ _ (λ h. c.if-delays-n.true (delays_get _ _ h).0)

pub returns : goal.returns
returns c =
    delays_all _ _ c.if-delays-n.false c.all.result
    (cases_from_all _ _ _ (λ x. x ≤ 600) (λ x. 600 < x) c.all.ensures.ran (YieldsList-from_slice c.args.delays.now cc)
    (λ x q k. search (rules, tests))
    (λ x q k. search (rules, tests)))
