use Rattle.std.proofs.Common.{sym, ◌∙◌}
use mathlib.Core.Path.{◌≡◌, refl}
use mathlib.Core.Bool.{true}
use Rattle.rules.specs.Sheet.{contents_ok, facts_body_ok, jobs_body_ok, events_body_ok, sheet_fault}
use Rattle.laws.specs.Faults.{well_formed_lem}
use Rattle.sheet.specs.View.{RowsInside, IsFormed}
use Rattle.sheet.specs.Laws.{is_formed}
use Rattle.reader.specs.Reads.{inside}
use Rattle.reader.proofs.Laws.{fault_contents, fault_facts, fault_jobs, fault_events, fault_bounds, fault_none}
use Rattle.reader.proofs.read.Goals as goal
use Rattle.reader.proofs.read.Goals.{Else-not-bounds_ok, Else-not-contents_ok, Else-not-events_ok, Else-not-facts_ok, Else-not-jobs_ok}

contents : (c : Else-not-contents_ok) → contents_ok c.args.b.now ≡ true
contents c = sym c.contents_ok.ensures ∙ c.if-not-contents_ok.false

facts : (c : Else-not-facts_ok) → facts_body_ok c.args.b.now ≡ true
facts c = sym c.facts_ok.ensures ∙ c.if-not-facts_ok.false

jobs : (c : Else-not-jobs_ok) → jobs_body_ok c.args.b.now ≡ true
jobs c = sym c.jobs_ok.ensures ∙ c.if-not-jobs_ok.false

events
    : (c : Else-not-events_ok)
    → events_body_ok c.args.b.now ≡ true
events c = sym c.events_ok.ensures ∙ c.if-not-events_ok.false

rows : (c : Else-not-facts_ok) → RowsInside c.sheet-v.result c.args.b.now
rows c = inside (sym c.contents_ok.ensures ∙ c.if-not-contents_ok.false) c.sheet-v.ensures (facts c)

pub returns-then-not-contents_ok : goal.returns-then-not-contents_ok
returns-then-not-contents_ok c =
    (fault_contents _ (sym c.contents_ok.ensures ∙ c.if-not-contents_ok.true), tt)

pub returns-then-not-facts_ok : goal.returns-then-not-facts_ok
returns-then-not-facts_ok c =
    (fault_facts _ (contents (goal.at.returns-then-not-facts_ok c).Else-not-contents_ok) (sym c.facts_ok.ensures ∙ c.if-not-facts_ok.true), tt)

pub jobs_ok-requires : goal.jobs_ok-requires
jobs_ok-requires c =
    (c.sheet-v.ensures, rows (goal.at.jobs_ok-requires c).Else-not-facts_ok)

pub returns-then-not-jobs_ok : goal.returns-then-not-jobs_ok
returns-then-not-jobs_ok c = (
  fault_jobs _ (contents (goal.at.returns-then-not-jobs_ok c).Else-not-contents_ok) (facts (goal.at.returns-then-not-jobs_ok c).Else-not-facts_ok)
      (sym c.jobs_ok.ensures ∙ c.if-not-jobs_ok.true),
  tt,
)

pub events_ok-requires : goal.events_ok-requires
events_ok-requires c =
    (c.sheet-v.ensures, rows (goal.at.events_ok-requires c).Else-not-facts_ok, facts (goal.at.events_ok-requires c).Else-not-facts_ok)

pub returns-then-not-events_ok : goal.returns-then-not-events_ok
returns-then-not-events_ok c = (
  fault_events _ (contents (goal.at.returns-then-not-events_ok c).Else-not-contents_ok) (facts (goal.at.returns-then-not-events_ok c).Else-not-facts_ok)
      (jobs (goal.at.returns-then-not-events_ok c).Else-not-jobs_ok) (sym c.events_ok.ensures ∙ c.if-not-events_ok.true),
  tt,
)

pub bounds_ok-requires : goal.bounds_ok-requires
bounds_ok-requires c =
    (c.sheet-v.ensures, rows (goal.at.bounds_ok-requires c).Else-not-facts_ok)

pub returns-then-not-bounds_ok : goal.returns-then-not-bounds_ok
returns-then-not-bounds_ok c = (
  fault_bounds _ (contents (goal.at.returns-then-not-bounds_ok c).Else-not-contents_ok)
      (facts (goal.at.returns-then-not-bounds_ok c).Else-not-facts_ok) (jobs (goal.at.returns-then-not-bounds_ok c).Else-not-jobs_ok) (events (goal.at.returns-then-not-bounds_ok c).Else-not-events_ok)
      (sym c.bounds_ok.ensures ∙ c.if-not-bounds_ok.true),
  tt,
)

fine : (c : Else-not-bounds_ok) → sheet_fault c.args.b.now ≡ 0
fine c =
    fault_none _ (contents (goal.at.Else-not-bounds_ok c).Else-not-contents_ok)
    (facts (goal.at.Else-not-bounds_ok c).Else-not-facts_ok) (jobs (goal.at.Else-not-bounds_ok c).Else-not-jobs_ok)
    (events (goal.at.Else-not-bounds_ok c).Else-not-events_ok) (sym c.bounds_ok.ensures ∙ c.if-not-bounds_ok.false)

-- what was tested is what the value keeps
kept : (c : Else-not-bounds_ok) → IsFormed c.sheet-v.result c.args.b.now
kept c =
    is_formed c.sheet-v.ensures (rows (goal.at.Else-not-bounds_ok c).Else-not-facts_ok) (well_formed_lem _ (fine c))

pub invariant_of-result-clause-counted : goal.invariant_of-result-clause-counted
invariant_of-result-clause-counted c = (kept (goal.at.invariant_of-result-clause-counted c).Else-not-bounds_ok).sheet

pub invariant_of-result-clause-few : goal.invariant_of-result-clause-few
invariant_of-result-clause-few c = (kept (goal.at.invariant_of-result-clause-few c).Else-not-bounds_ok).few

pub invariant_of-result-clause-well : goal.invariant_of-result-clause-well
invariant_of-result-clause-well c = (kept (goal.at.invariant_of-result-clause-well c).Else-not-bounds_ok).well

pub returns : goal.returns
returns c =
    (record { formed = fine (goal.at.returns c).Else-not-bounds_ok; sheet = c.sheet-v.ensures; bytes = refl }, refl)
