use Rattle.sheet.proofs.Laws.{event_at_lem}
use Rattle.sheet.proofs.Sheet.row.Goals as goal

pub returns : goal.returns
returns c =
    rw (event_at_lem c.args.self _ _) at c.row_in.ensures
