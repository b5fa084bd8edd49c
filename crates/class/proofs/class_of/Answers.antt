use Rattle.class.proofs.Laws.{third_decides}
use Rattle.class.proofs.class_of.Goals as goal

pub returns : goal.returns
returns c = third_decides _ _ c.requires.kept c.in_ok-kept.ensures c.kept-2.ensures
