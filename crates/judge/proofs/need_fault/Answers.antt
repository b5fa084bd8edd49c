use native.Mathlib.Omega.{arith}
use mathlib.Core.Path.{sym, ◌∙◌}
use Rattle.rules.specs.Sheet.{max_facts}
use Rattle.sheet.specs.WellFormed.{said_by}
use Rattle.plan_points.specs.Flat.{cell}
use Rattle.instances.specs.Own.{next_is}
use Rattle.judge.proofs.Laws.{need_is, own_set}
use Rattle.judge.proofs.need_fault.Goals as goal

pub fault-requires : goal.fault-requires
unfolding max_facts cell
fault-requires c =
    let p = c.requires in (
      p.0,
      omega (arith, p.3, p.1.facts _ p.2, c.args.sheet.now.few.facts),
      own_set p.1 p.5 p.2 p.4 _ c.entry.ensures.0 p.3 c.after_next.ensures,
    )

pub returns : goal.returns
unfolding cell
returns c =
    let p = c.requires in
    need_is (said_by c.args.sheet.now) _ _ _ _ c.entry.ensures.0 p.3
    c.tick.ensures.0
    (c.tick-2.ensures.0 ∙ sym (next_is c.args.rows.now _ _ (p.1.ended _ p.2 p.4)))
    c.gap.ensures c.initial.ensures c.fault.ensures
