use Rattle.rules.specs.Plan.{earliest}
use Rattle.sheet.proofs.Sheet.earliest.Goals as goal

pub returns : goal.returns
unfolding earliest
returns c =
    c.release.ensures
