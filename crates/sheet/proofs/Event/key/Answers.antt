use native.Mathlib.Omega.{arith}
use mathlib.Core.Path.{ap}
use Rattle.sheet.specs.View.{type_of, fact_of}
use Rattle.rules.specs.Sheet.{max_facts}
use Rattle.sheet.proofs.Event.key.Goals as goal

pub overflow_add-result : goal.overflow_add-result
unfolding max_facts
overflow_add-result c =
    omega (arith, ap fact_of c.in-Ends.is, c.requires)

pub overflow_add-result-in-Sets : goal.overflow_add-result-in-Sets
unfolding max_facts
overflow_add-result-in-Sets c =
    omega (arith, ap fact_of c.in-Sets.is, c.requires)

pub overflow_add-result-in-Clears : goal.overflow_add-result-in-Clears
unfolding max_facts
overflow_add-result-in-Clears c =
    omega (arith, ap fact_of c.in-Clears.is, c.requires)

pub returns-in-Ends : goal.returns-in-Ends
unfolding max_facts
returns-in-Ends c =
    let kind = ap type_of c.in-Ends.is in
    let fact = ap fact_of c.in-Ends.is in
    (omega (arith, kind, fact), omega (arith, fact, c.requires))

pub returns-in-Sets : goal.returns-in-Sets
unfolding max_facts
returns-in-Sets c =
    let kind = ap type_of c.in-Sets.is in
    let fact = ap fact_of c.in-Sets.is in
    (omega (arith, kind, fact), omega (arith, fact, c.requires))

pub returns-in-Clears : goal.returns-in-Clears
unfolding max_facts
returns-in-Clears c =
    let kind = ap type_of c.in-Clears.is in
    let fact = ap fact_of c.in-Clears.is in
    (omega (arith, kind, fact), omega (arith, fact, c.requires))
