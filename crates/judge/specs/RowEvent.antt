-- The event that a row's group says, once decoded: its type and its fact are the row's.
use Rattle.std.specs.Prelude.{ℕ, ◌<◌, ◌≡◌}
use Rattle.std.proofs.Common.{arith, sym, ap, ◌∙◌}
use Rattle.rules.specs.Sheet.{max_facts}
use Rattle.sheet.specs.View.{type_of, fact_of, event_from}
use Rattle.sheet.specs.declared.Event.{Event}
use Rattle.sorting.specs.Counting.{group_in}
use Rattle.plan_points.specs.Flat.{groups, type_in, fact_in}
use Rattle.instances.specs.Decode.{type_from, fact_from}

-- row x, whose event is e
module _ (x : ℕ) {e : Event} (few : group_in x < groups) (q : e ≡ event_from (type_in x) (fact_in x)) where
  pub row_fact : {g : ℕ} → fact_of e ≡ g → g ≡ fact_in x
  row_fact p = sym p ∙ ap fact_of q ∙ fact_from (type_in x) (fact_in x)

  pub row_small : {g : ℕ} → fact_of e ≡ g → g < max_facts
  unfolding max_facts
  row_small p = omega (arith, row_fact p)

  pub row_kind : {k : ℕ} → type_of e ≡ k → type_in x ≡ k
  row_kind p = sym (type_from (type_in x) (fact_in x) (omega arith)) ∙ sym (ap type_of q) ∙ p
