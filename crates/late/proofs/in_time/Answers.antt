use Prim.Native.Nat.{◌≤◌, ◌<◌}
use borrow.Author.Tests.{tests}
use Rattle.std.proofs.Common.{rules, arith, take}
use Rattle.std.proofs.lemmas.Grind.{common_steps}
use Rattle.std.proofs.lemmas.Iterator.{cases_from_all, YieldsList-from_slice}
use Rattle.plan_points.specs.Flat.{tick_in}
use Rattle.late.proofs.Laws.{in_time_says}
use Rattle.late.proofs.in_time.Goals as goal

pub returns : goal.returns
returns c =
    let n = c.args.count in
    let l = c.args.latest in
    in_time_says c.args.rows.now n l c.requires c.all.result
    (cases_from_all _ _ _ (λ x. tick_in x ≤ l) (λ x. l < tick_in x) c.all.ensures.ran
    (YieldsList-from_slice (take n c.args.rows.now) (grind (arith, common_steps)))
    (λ x q k. search (rules, tests))
    (λ x q k. search (rules, tests)))
