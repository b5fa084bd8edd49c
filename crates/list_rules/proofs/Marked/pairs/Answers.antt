use native.Mathlib.Omega.{arith}
use Prim.Native.Nat.{ℕ, ◌+◌, ◌<◌}
use mathlib.Core.Path.{◌≡◌, refl, ap}
use lib.ListN.{get_or}
use mathlib.Core.Bool.{true, false}
use Rattle.sheet.specs.View.{type_of, fact_of}
use Rattle.marks.specs.View.{job_marks}
use Rattle.kernel_least.specs.System.{origin}
use Rattle.numbers.specs.Size.{word}
use Rattle.sheet.specs.WellFormed.{formed_by}
use Rattle.list_rules.specs.View.{sheet_of, marks_of}
use Rattle.list_rules.proofs.Links.{asks_link, fact_exists, job_on, begin_row, End-row, clear_row, set_row}
use Rattle.list_rules.proofs.Links.{gap_fits}
use Rattle.list_rules.proofs.Marked.pairs.Goals as goal
use Rattle.list_rules.proofs.Marked.pairs.Goals.{After-event-x}

-- the fact of the event exists
exists
    : (c : After-event-x) {f : ℕ}
    → fact_of c.event-x.result ≡ f
    → f < (sheet_of c.args.self.now).facts
exists c q = fact_exists c.requires.marked_sheet c.requires.e_bound.0 c.event-x.ensures c.job-i.ensures.0 q

-- its job is marked
here
    : (c : After-event-x)
    → get_or (job_marks (marks_of c.args.self.now)) c.job-i.result false ≡ true
here c = job_on c.requires.marked_sheet c.requires.e_bound.0 refl c.job-i.ensures.0 c.requires.wanted_job

-- a weight with the gap fits
far
    : (c : After-event-x)
    → origin + c.gap-gap.result < word
far c = gap_fits (sheet_of c.args.self.now) _ (formed_by c.args.self.now.sheet).gap c.gap-gap.ensures

pub group-requires-clause-asks_link : goal.group-requires-clause-asks_link
group-requires-clause-asks_link c =
    let p = c.requires in
    rw c.apart-clears.ensures
    (asks_link p.marked_sheet p.e_bound.0 c.event-x.ensures c.job-i.ensures.0 (omega arith) (ap fact_of c.in-Ends.is)
    (omega (arith, far (goal.at.group-requires-clause-asks_link c).After-event-x)))

pub is_source-requires : goal.is_source-requires
is_source-requires c = (c.requires.marked_sheet, exists (goal.at.is_source-requires c).After-event-x (ap fact_of c.in-Sets.is))

pub group-n-requires-clause-asks_link : goal.group-n-requires-clause-asks_link
group-n-requires-clause-asks_link c =
    let p = c.requires in
    rw c.apart-needs.ensures
    (asks_link p.marked_sheet p.e_bound.0 c.event-x.ensures c.job-i.ensures.0 (omega arith) (ap fact_of c.in-Sets.is)
    (omega (arith, far (goal.at.group-n-requires-clause-asks_link c).After-event-x)))

pub group-requires-in-Sets-clause-asks_link : goal.group-requires-in-Sets-clause-asks_link
group-requires-in-Sets-clause-asks_link c =
    let p = c.requires in
    rw c.strict-clears.ensures
    (asks_link p.marked_sheet p.e_bound.0 c.event-x.ensures c.job-i.ensures.0 (omega arith) (ap fact_of c.in-Sets.is) (omega arith))

pub group-requires-in-Clears-clause-asks_link : goal.group-requires-in-Clears-clause-asks_link
group-requires-in-Clears-clause-asks_link c =
    let p = c.requires in
    rw c.strict-sets.ensures
    (asks_link p.marked_sheet p.e_bound.0 c.event-x.ensures c.job-i.ensures.0 (omega arith) (ap fact_of c.in-Clears.is) (omega arith))

pub on-last-requires : goal.on-last-requires
on-last-requires c =
    let l = exists (goal.at.on-last-requires c).After-event-x (ap fact_of c.in-Ends.is) in
    (omega arith, omega (arith, l, c.requires.marked_sheet.marks.last.long))

pub on-last-requires-in-Sets : goal.on-last-requires-in-Sets
on-last-requires-in-Sets c =
    let l = exists (goal.at.on-last-requires-in-Sets c).After-event-x (ap fact_of c.in-Sets.is) in
    (omega arith, omega (arith, l, c.requires.marked_sheet.marks.last.long))

pub on-first-requires : goal.on-first-requires
on-first-requires c =
    let l = exists (goal.at.on-first-requires c).After-event-x (ap fact_of c.in-Clears.is) in
    (omega arith, omega (arith, l, c.requires.marked_sheet.marks.first.long))

pub returns-in-Begins : goal.returns-in-Begins
returns-in-Begins c =
    let p = c.requires in
    begin_row p.marked_sheet p.e_bound.0 c.event-x.ensures c.job-i.ensures.0 _ _ _ (ap type_of c.in-Begins.is)

pub returns-in-Ends : goal.returns-in-Ends
returns-in-Ends c =
    let p = c.requires in
    End-row p.marked_sheet p.e_bound.0 c.event-x.ensures c.job-i.ensures.0 (ap fact_of c.in-Ends.is)
    (here (goal.at.returns-in-Ends c).After-event-x)
    c.gap-gap.ensures (ap type_of c.in-Ends.is) c.on-last.ensures
    (rw c.apart-clears.ensures at c.group.ensures)

pub returns-in-Sets : goal.returns-in-Sets
returns-in-Sets c =
    let p = c.requires in
    set_row p.marked_sheet p.e_bound.0 c.event-x.ensures c.job-i.ensures.0 (ap fact_of c.in-Sets.is)
    (here (goal.at.returns-in-Sets c).After-event-x)
    c.gap-gap.ensures (ap type_of c.in-Sets.is) c.is_source.ensures c.on-last-in-Sets.ensures
    (rw c.apart-needs.ensures at c.group-n.ensures)
    (rw c.strict-clears.ensures at c.group-in-Sets.ensures)

pub returns-in-Clears : goal.returns-in-Clears
returns-in-Clears c =
    let p = c.requires in
    clear_row p.marked_sheet p.e_bound.0 c.event-x.ensures c.job-i.ensures.0 (ap fact_of c.in-Clears.is)
    (here (goal.at.returns-in-Clears c).After-event-x)
    (ap type_of c.in-Clears.is) c.on-first.ensures
    (rw c.strict-sets.ensures at c.group-in-Clears.ensures)
