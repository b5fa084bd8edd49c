use native.Mathlib.Omega.{arith}
use Rattle.own_times.specs.Lists.{own_given, own_rows, rows_few}
use Rattle.sheet.specs.WellFormed.{formed_by}
use Rattle.own_times.proofs.rows.Goals as goal

pub rows-requires-clause-given_in : goal.rows-requires-clause-given_in
rows-requires-clause-given_in c =
    let p = c.requires in
    let l = c.collect-n.ensures in
    let k = c.collect-n.auto in
    own_given (formed_by c.args.sheet.now) l (record { sources = omega (arith, k.from); targets = omega (arith, k.to); weights = omega (arith, k.weight) })

pub returns : goal.returns
returns c =
    let p = c.requires in
    let l = c.collect-n.ensures in
    let b = c.rows.ensures.built_from in
    let k = c.rows.auto in
    let n = c.args.sheet.now.counted.events in
    record {
      rows =
          own_rows (formed_by c.args.sheet.now) l b
          (omega (arith, c.args.sheet.now.few.events, n, p.0.rows, k.first))
          (omega (arith, p.0.targets, k.targets))
          (omega (arith, p.0.weights, k.weights));
      rises = λ a h. b.rises a (omega (arith, h, n));
      few = rows_few b n l.count;
    }
