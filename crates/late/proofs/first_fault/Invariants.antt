use Rattle.sheet.specs.WellFormed.{said_by}
use Rattle.late.specs.Rows.{FirstFault}
use Rattle.late.proofs.first_fault.Given as goal

abbrev pub invariant-loop-k : goal.invariant-loop-k
invariant-loop-k l =
    FirstFault (said_by l.sheet) l.first l.sorted l.rows l.count l.k l.least
