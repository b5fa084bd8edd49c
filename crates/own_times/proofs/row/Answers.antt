use mathlib.Core.Path.{refl}
use Rattle.sheet.specs.WellFormed.{formed_by}
use Rattle.own_times.proofs.TableRows.{filled_row}
use Rattle.own_times.proofs.row.Goals as goal

pub returns-clause-filled_2 : goal.returns-clause-filled_2
returns-clause-filled_2 c =
    let p = c.requires in
    let t = p.table_asks.0 in
    let a = t.rules in
    filled_row _ (formed_by c.args.sheet.now).formed a.by_job _ _ _ t.times.spans p.table_asks.1.in_sheet p.filled c.table_row.auto.table
    c.table_row.ensures
    refl
