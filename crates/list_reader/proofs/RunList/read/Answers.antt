use native.Mathlib.Omega.{arith}
use mathlib.Core.Path.{◌≡◌, sym, ◌∙◌}
use mathlib.Core.Bool.{true}
use Rattle.rules.specs.RunList.{max_times}
use Rattle.list_reader.specs.View.{head_ok}
use Rattle.list_reader.proofs.Laws.{head_few, head_broken, entries_broken, list_good, list_bad, form_broken, form_formed}
use Rattle.list_reader.proofs.RunList.read.Goals as goal
use Rattle.list_reader.proofs.RunList.read.Goals.{
  Else-not-head,
  else-entries-most-via-then-entries-most+else-entries-l,
  else-entries-most-via-else-entries-most,
}

head_ok_lem : (c : Else-not-head) → head_ok c.args.l.now ≡ true
head_ok_lem c = sym c.head.ensures ∙ c.if-not-head.false

pub returns-then-not-head : goal.returns-then-not-head
returns-then-not-head c =
    form_broken (head_broken _ _ (sym c.head.ensures ∙ c.if-not-head.true))

pub read-requires : goal.read-requires
read-requires c = (
  record {
    spanned = c.requires.0;
    few =
        head_few _ (head_ok_lem (goal.at.read-requires c).Else-not-head);
  },
  c.requires.1,
)

pub returns-in_err-entries : goal.returns-in_err-entries
returns-in_err-entries c =
    rw c.from_residual.ensures (form_broken (entries_broken _ _ c.in_err-entries.ensures))

pub returns-then-entries-l : goal.returns-then-entries-l
unfolding max_times
returns-then-entries-l c =
    form_formed
    (list_good (head_ok_lem (goal.at.returns-then-entries-l c).Else-not-head) c.in_ok-entries.ensures c.if-entries-most.true
    c.if-entries-l.true)
    c.in_ok-entries.ensures

pub returns-else-entries-most : goal.returns-else-entries-most
unfolding max_times
returns-else-entries-most c =
    let bad = list_bad (head_ok_lem (goal.at.returns-else-entries-most c).Else-not-head) c.in_ok-entries.ensures in
    form_broken
    (elim c.else-entries-most.branch [
      | else-entries-most-via-then-entries-most+else-entries-l w ↦ bad (λ few end. w.if-entries-l.false end)
      | else-entries-most-via-else-entries-most w ↦ bad (λ few end. omega (arith, w.if-entries-most.false))
    ])
