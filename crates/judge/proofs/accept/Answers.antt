use Rattle.judge.proofs.Laws.{zeros_columns, verdict_form, verdict_formed}
use Rattle.judge.proofs.accept.Goals as goal

pub read-requires : goal.read-requires
read-requires c =
    (record { spans = c.spans-spans.ensures }, zeros_columns)

pub returns-in_default : goal.returns-in_default
returns-in_default c =
    verdict_form c.requires.0 _ _
    (rw c.in_default.is at c.read.ensures).values

pub accept_formed-requires : goal.accept_formed-requires
accept_formed-requires c =
    let p = c.requires in (
      record {
        spans = c.spans-spans.ensures;
        list = c.in-Some.ensures.values;
      },
      p.1,
    )

pub returns : goal.returns
returns c =
    verdict_formed c.requires.0 _ _ c.in-Some.ensures.values.ok c.accept_formed.result
    c.accept_formed.ensures
