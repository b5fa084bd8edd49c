use Rattle.std.proofs.Common.{arith, refl}
use Rattle.list_rules.proofs.Laws.{Copy-Stored}
use Rattle.list_rules.proofs.copy.Goals as goal

pub loop-r-preserved : goal.loop-r-preserved
loop-r-preserved c =
    let inv = c.loop-r.invariant in (
      Copy-Stored _ _ _ _ _ _ _ _ _ _ _ inv.0 _ _ _ _ c.requires.room_for (omega (arith, c.loop-r-test.true, inv.1)) c.at.ensures.0
          c.at-in-loop-r.ensures.0 refl refl,
      inv.1,
    )
