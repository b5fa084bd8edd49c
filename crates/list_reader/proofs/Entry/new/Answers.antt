use Rattle.list_reader.proofs.Laws.{entry_unknown, entry_elsewhere, entry_known}
use Rattle.list_reader.proofs.Entry.new.Goals as goal

pub returns-in_err-job : goal.returns-in_err-job
returns-in_err-job c =
    rw c.from_residual.ensures (entry_unknown c.requires _ c.two_at.ensures.0 c.in_err-job.ensures)

pub returns-then-two_at-at : goal.returns-then-two_at-at
returns-then-two_at-at c =
    entry_elsewhere c.requires _ c.two_at-2.ensures.0 c.if-two_at-at.true

pub returns : goal.returns
returns c =
    entry_known c.requires _ _ _ _ c.two_at.ensures.0 c.in_ok-job.ensures c.two_at-2.ensures.0 c.if-two_at-at.false
    c.from-size.ensures
