use Rattle.plan_points.proofs.Laws.{differ, differ_back, distance_product}
use Rattle.plan_points.proofs.distance.Goals as goal

pub returns : goal.returns
returns c =
    distance_product _ _ _ _ _ c.from.ensures (search (differ, differ_back))
