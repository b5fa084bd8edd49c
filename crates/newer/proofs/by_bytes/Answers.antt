use Rattle.newer.proofs.Laws.{first_counts, none_counts}
use Rattle.newer.proofs.by_bytes.Goals as goal

pub returns-then-eq : goal.returns-then-eq
returns-then-eq c =
    let pre = c.requires in first_counts pre.0 pre.1 c.eq.ensures c.if-eq.true

pub returns : goal.returns
returns c =
    let pre = c.requires in none_counts pre.0 pre.1 c.eq.ensures c.if-eq.false
