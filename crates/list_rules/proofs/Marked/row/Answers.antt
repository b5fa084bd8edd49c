use Rattle.std.proofs.Common.{arith, refl, map, sym, ◌∙◌}
use Rattle.laws.specs.Bools.{clash}
use Rattle.sheet.specs.WellFormed.{formed_by}
use Rattle.list_rules.specs.View.{sheet_of}
use Rattle.list_rules.proofs.Fill.{row_both, row_none}
use Rattle.list_rules.proofs.Links.{on_job, job_on}
use Rattle.list_rules.proofs.Marked.row.Goals as goal

pub on-requires : goal.on-requires
on-requires c =
    let p = c.requires in
    let j = (formed_by c.args.self.now.sheet).formed.job _ p.asks_row.exists in
    (omega arith, omega (arith, j, c.job-j.ensures.0, p.marked_sheet.marks.jobs.long))

pub returns-then-not-on : goal.returns-then-not-on
returns-then-not-on c =
    let p = c.requires in
    row_none (sheet_of c.args.self.now) (map (λ x. x.now) c.args.own) c.args.place.event _ c.args.to.now c.args.weight.now c.args.place.start
    (λ want.
    clash (job_on p.marked_sheet p.asks_row.exists refl c.job-j.ensures.0 want) (sym c.on.ensures ∙ c.if-not-on.true))

pub pairs-requires-clause-wanted_job : goal.pairs-requires-clause-wanted_job
pairs-requires-clause-wanted_job c =
    let p = c.requires in
    on_job p.marked_sheet p.asks_row.exists refl c.job-j.ensures.0 (sym c.on.ensures ∙ c.if-not-on.false)

pub returns : goal.returns
returns c =
    let a = c.args in
    let p = c.requires in
    row_both (sheet_of a.self.now) (map (λ x. x.now) a.own) a.place.event _
    (on_job p.marked_sheet p.asks_row.exists refl c.job-j.ensures.0 (sym c.on.ensures ∙ c.if-not-on.false)) c.copy-n.ensures
    c.pairs.ensures
