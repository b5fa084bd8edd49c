use Rattle.lent.proofs.Laws.{row_of_lem}
use Rattle.lent.proofs.event_at.Goals as goal

pub returns : goal.returns
returns c =
    row_of_lem c.of-v.ensures
    c.args.e
    c.if-v-e.false c.row_at-row.ensures
    c.two_at-code.ensures.0 c.decode.ensures
