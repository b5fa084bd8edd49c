use Rattle.sheet.proofs.Laws.{bound_at_lem}
use Rattle.sheet.proofs.Sheet.bound.Goals as goal

pub returns : goal.returns
returns c =
    rw (bound_at_lem c.args.self _ _) at c.bound_in.ensures
