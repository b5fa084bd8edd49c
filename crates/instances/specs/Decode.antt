-- An event's type and fact, once decoded, are those that it was decoded from.
use Rattle.std.specs.Prelude.{ℕ, zero, suc, ◌≤◌, ◌≡◌, refl}
use Rattle.std.proofs.Common.{arith}
use Rattle.rules.specs.Sheet.{clears}
use Rattle.sheet.specs.View.{type_of, fact_of, event_from}

pub type_from : (k f : ℕ) → k ≤ clears → type_of (event_from k f) ≡ k
unfolding event_from
type_from zero f h = refl
type_from (suc zero) f h = refl
type_from (suc (suc zero)) f h = refl
type_from (suc (suc (suc k))) f h = omega arith

pub fact_from : (k f : ℕ) → fact_of (event_from k f) ≡ f
unfolding event_from
fact_from zero f = refl
fact_from (suc zero) f = refl
fact_from (suc (suc zero)) f = refl
fact_from (suc (suc (suc k))) f = refl
