-- What the test of the delays says: one for each instance, none above 600.
use Rattle.std.specs.Prelude.{ℕ, ◌≤◌, ◌<◌, ◌≡◌, Bool, true, false, List, length}
use Rattle.std.specs.Bool.{MatchBool}
use Rattle.std.specs.List.{AllWithin, HoldsAt}
use Rattle.std.proofs.Common.{arith}
use Rattle.rules.specs.Late.{max_delay, delays_ok}
use Rattle.laws.specs.OneEach.{FirstFit, one_each_get, one_each_put, one_each_not}

module _ (d : List ℕ) (n : ℕ) where
  pub delays_get : delays_ok d n ≡ true → (length d ≡ n) × FirstFit 600 d n
  unfolding delays_ok max_delay
  delays_get = one_each_get 600 d n

  pub delays_put : length d ≡ n → FirstFit 600 d n → true ≡ delays_ok d n
  unfolding delays_ok max_delay
  delays_put = one_each_put 600 d n

  pub delays_not : (delays_ok d n ≡ true → ⊥) → false ≡ delays_ok d n
  unfolding delays_ok max_delay
  delays_not = one_each_not 600 d n

  -- what a test of all of them says
  pub delays_all
      : length d ≡ n
      → (r : Bool)
      → MatchBool r (AllWithin (λ x. x ≤ 600) d 0 (length d)) ((k : ℕ) × (k < length d) × HoldsAt (λ x. 600 < x) d k)
      → r ≡ delays_ok d n
  delays_all e true w = delays_put e (λ j l. w j 0 (omega arith) (omega arith))
  delays_all e false w = delays_not (λ z. omega (arith, w.2 0, (delays_get z).1 w.0 (omega (arith, w.1))))
