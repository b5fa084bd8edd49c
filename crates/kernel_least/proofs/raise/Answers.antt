use Rattle.kernel_least.proofs.Turns.{raised_all}
use Rattle.kernel_least.proofs.raise.Goals as goal

pub returns : goal.returns
returns c =
    raised_all _ _ _ _ _ _ c.args.x.now c.requires.lent.1 c.requires.rows_formed.small c.finish.ensures
