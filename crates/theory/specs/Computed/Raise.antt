-- How it is computed: where broken difference rules can be found, and something solves them, raising ends at their least ticks.
-- Start: the floor. Step: a broken rule's target is raised to what the rule asks. End: nothing is broken; no solution is ever passed.
use Prim.Native.Nat.{ℕ, zero, suc, ◌+◌, ◌-◌, ◌≤◌, ◌<◌}
use Rattle.std.specs.Prelude.{◌≡◌, ◌⊎◌}
use Rattle.std.proofs.Math.Path.{refl, ap}
use Rattle.std.proofs.Math.Logic.{⊎_elim, dite, if_pos, if_neg}
use native.Mathlib.Omega.{arith}
use Rattle.std.proofs.Math.Decide.{ℕ_discrete}
use Rattle.laws.specs.Places.{below}

-- x from + plus ≤ x to + minus
pub record Rule : Type 0 where
  pub from : ℕ
  pub plus : ℕ
  pub to : ℕ
  pub minus : ℕ

abbrev pub rule_of : (from plus to minus : ℕ) → Rule
rule_of from plus to minus = record { from = from; plus = plus; to = to; minus = minus }

unfoldable pub Keeps : Rule → (ℕ → ℕ) → Type 0
Keeps r x = x r.from + r.plus ≤ x r.to + r.minus

unfoldable pub Broken : Rule → (ℕ → ℕ) → Type 0
Broken r x = x r.to + r.minus < x r.from + r.plus

-- x keeps the rules, is nowhere below the floor, and nowhere above anything that solves them
pub record LeastKept (variable : ℕ → Type 0) (rule : Rule → Type 0) (floor : ℕ → ℕ) (Solves : (ℕ → ℕ) → Type 0) (x : ℕ → ℕ) : Type 0 where
  pub above : (v : ℕ) → variable v → floor v ≤ x v
  pub keeps : (r : Rule) → rule r → Keeps r x
  pub least : (u : ℕ → ℕ) → Solves u → (v : ℕ) → variable v → x v ≤ u v

-- ---- a step

-- x with the target of rule r raised to what the rule asks
lift : Rule → (ℕ → ℕ) → ℕ → ℕ
lift r x v = dite (ℕ_discrete v r.to) (λ q. x r.from + r.plus - r.minus) (λ g. x v)

module _ (r : Rule) (x : ℕ → ℕ) (broken : Broken r x) where
  at_target : lift r x r.to + r.minus ≡ x r.from + r.plus
  unfolding lift Broken
  at_target = let h = if_pos (ℕ_discrete r.to r.to) refl (x r.from + r.plus - r.minus) (x r.to) in omega arith

  at_other : (v : ℕ) → (v ≡ r.to → ⊥) → lift r x v ≡ x v
  unfolding lift
  at_other v g = if_neg (ℕ_discrete v r.to) g (x r.from + r.plus - r.minus) (x v)

  lift_more : x r.to < lift r x r.to
  unfolding Broken
  lift_more = omega (arith, at_target)

  lift_up : (v : ℕ) → x v ≤ lift r x v
  lift_up v = dite (ℕ_discrete v r.to) (λ q. omega (arith, lift_more, ap x q, ap (lift r x) q)) (λ g. omega (arith, at_other v g))

  -- what keeps the rule is not passed
  lift_below : (u : ℕ → ℕ) → Keeps r u → x r.from ≤ u r.from → (v : ℕ) → x v ≤ u v → lift r x v ≤ u v
  unfolding Keeps
  lift_below u keeps low v here =
      dite (ℕ_discrete v r.to) (λ q. rw q (omega (arith, at_target))) (λ g. omega (arith, at_other v g))

-- ---- the steps end

-- how far x lies below u
room : (u x : ℕ → ℕ) → ℕ → ℕ
room u x zero = 0
room u x (suc n) = room u x n + (u n - x n)

module _ (u x x' : ℕ → ℕ) (up : (v : ℕ) → x v ≤ x' v) where
  room_le : (n : ℕ) → room u x' n ≤ room u x n
  unfolding room
  room_le zero = omega arith
  room_le (suc n) = omega (arith, room_le n, up n)

  room_less : (n i : ℕ) → i < n → x i < x' i → x i < u i → room u x' n < room u x n
  unfolding room
  room_less zero i h l m = absurd (omega arith)
  room_less (suc n) i h l m =
      ⊎_elim (λ b. omega (arith, room_less n i b l m, up n)) (λ q. omega (arith, room_le n, ap x q, ap x' q, ap u q)) (below i n h)

-- rules between the variables below n, of which a broken one can be found, and what is known of anything that solves them
module _
    (variable : ℕ → Type 0) (n : ℕ) (inside : (v : ℕ) → variable v → v < n)
    (rule : Rule → Type 0) (ends : (r : Rule) → rule r → variable r.from × variable r.to)
    (test : (x : ℕ → ℕ) → ((r : Rule) → rule r → Keeps r x) ⊎ ((r : Rule) × rule r × Broken r x))
    (floor : ℕ → ℕ) (Solves : (ℕ → ℕ) → Type 0)
    (above : (u : ℕ → ℕ) → Solves u → (v : ℕ) → variable v → floor v ≤ u v)
    (keeps : (u : ℕ → ℕ) → Solves u → (r : Rule) → rule r → Keeps r u)
  where
    climb
        : (u : ℕ → ℕ)
        → Solves u
        → (fuel : ℕ) (x : ℕ → ℕ)
        → room u x n < fuel
        → ((v : ℕ) → variable v → floor v ≤ x v)
        → ((w : ℕ → ℕ) → Solves w → (v : ℕ) → variable v → x v ≤ w v)
        → (z : ℕ → ℕ) × LeastKept variable rule floor Solves z
    climb u sol zero x h up low = absurd (omega arith)
    climb u sol (suc fuel) x h up low =
        ⊎_elim (λ kept. (x, record { above = up; keeps = kept; least = low }))
        (λ b.
        let (r, inForce, broken) = b in
        let (from, to) = ends r inForce in
        let low' : (w : ℕ → ℕ) → Solves w → (v : ℕ) → variable v → lift r x v ≤ w v =
        λ w s v i. lift_below r x broken w (keeps w s r inForce) (low w s r.from from) v (low w s v i)
        in
        let more = lift_more r x broken in
        let fits = low' u sol r.to to in
        climb u sol fuel (lift r x)
        (omega (arith, room_less u x (lift r x) (lift_up r x broken) n r.to (inside r.to to) more (omega arith)))
        (λ v i. omega (arith, up v i, lift_up r x broken v)) low')
        (test x)

    pub raise_ends : (u : ℕ → ℕ) → Solves u → (z : ℕ → ℕ) × LeastKept variable rule floor Solves z
    raise_ends u sol = climb u sol (suc (room u floor n)) floor (omega arith) (λ v i. omega arith) above
