use Rattle.std.proofs.Common.{◌≡◌, ◌∙◌, ap, arith, rules, take}
use Rattle.std.specs.List.{count_by}
use Rattle.rules.specs.Count.{count}
use Rattle.laws.specs.Counts.{count_le}
use Rattle.sheet.specs.WellFormed.{formed_by}
use Rattle.list_writer.specs.ListBytes.{marked}
use Rattle.list_writer.proofs.Laws.{counted_to}
use Rattle.list_writer.proofs.count.Goals as goal

pub returns : goal.returns
returns c =
    let n = c.args.sheet.now.view.jobs in
    let jobs = c.args.jobs.now in
    let few = (formed_by c.args.sheet.now).formed.jobs in
    let rows = c.args.sheet.now.counted.jobs in
    let counted : c.count.result ≡ count_by (λ x. x) (take n jobs) = search rules in
    let is = counted ∙ counted_to jobs n (omega (arith, rows, few)) in
    record { number = is ∙ ap (count (marked jobs)) rows; few = omega (arith, is, few, rows, count_le (marked jobs) n) }
