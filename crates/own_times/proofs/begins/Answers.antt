use native.Mathlib.Omega.{arith}
use Rattle.own_times.specs.Laws.{type_at}
use Prim.Native.Nat.{ℕ}
use mathlib.Core.Path.{◌≡◌, refl, sym, ap, ◌∙◌}
use Rattle.rules.specs.Sheet.{begins}
use Rattle.sheet.specs.declared.Event.{Event}
use Rattle.sheet.specs.declared.Event.TheVariants.{Begins, Ends, Sets, Clears}
use Rattle.sheet.specs.View.{type_of}
use Rattle.sheet.specs.WellFormed.{said_by, formed_by}
use Rattle.own_times.proofs.begins.Goals as goal
use Rattle.own_times.proofs.begins.Goals.{After-of_key}

is-type : (c : After-of_key) → type_of c.of_key.result ≡ ((said_by c.args.sheet.now).event c.args.e).kind
is-type c =
    let p = c.requires in
    type_at (formed_by c.args.sheet.now) p.0 _ p.1 c.from.ensures c.of_key.ensures

begins_only : (x : Event) → ((f : ℕ) → x ≡ Begins f → ⊥) → type_of x ≡ begins → ⊥
begins_only (Begins f) not_begins q = not_begins f refl
begins_only (Ends f) not_begins q = omega (arith, q)
begins_only (Sets f) not_begins q = omega (arith, q)
begins_only (Clears f) not_begins q = omega (arith, q)

pub returns-in-Begins : goal.returns-in-Begins
returns-in-Begins c =
    sym (is-type (goal.at.returns-in-Begins c).After-of_key) ∙ ap type_of c.in-Begins.is

pub returns-in_default : goal.returns-in_default
returns-in_default c = λ q. begins_only _ c.in_default.not-Begins (is-type (goal.at.returns-in_default c).After-of_key ∙ q)
