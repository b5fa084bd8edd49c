-- What raising the rows of the list rules asks, with the view's counts for those of its meaning.
use Prim.Native.Nat.{ℕ, ◌<◌}
use native.Mathlib.Omega.{arith}
use mathlib.Core.List.{List}
use Rattle.sheet.specs.WellFormed.{said_by, formed_by}
use Rattle.sheet.specs.declared.formed.WellFormed.{WellFormed}
use Rattle.kernel_least.specs.Rows.{Under}
use Rattle.list_rules.specs.Laws.{floor_of_lem}
use Rattle.least_ticks.specs.View.{AsksRaise}

module _ {sheet : WellFormed} {first to weight x : List ℕ} (a : AsksRaise sheet first to weight x) where
  pub under : Under 0 sheet.view.events sheet.view.horizon x
  under e o =
      let l : e < (said_by sheet).events = omega (arith, o.below, sheet.counted.events) in
      omega (arith, (floor_of_lem x (formed_by sheet).formed a.least).within e l, sheet.counted.horizon)
