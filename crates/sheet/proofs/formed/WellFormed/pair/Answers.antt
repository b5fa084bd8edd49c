use Rattle.sheet.specs.WellFormed.{formed_by}
use Rattle.sheet.proofs.formed.WellFormed.pair.Goals as goal

pub pair-requires : goal.pair-requires
pair-requires c = (formed_by c.args.self.now, c.requires)
