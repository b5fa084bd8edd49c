-- "Which order is shown": cleared last and cleared first.
use Rattle.std.specs.Prelude.{ℕ, ◌+◌, ◌≤◌}
use Rattle.rules.specs.Sheet.{Sheet, ends, sets, clears}
use Rattle.rules.specs.Plan.{Is, OwnTimes}
use Rattle.rules.specs.Wanted.{OfPresent, WantedJob}

-- greatest time(x) − time(y) over job a's own times ≤ least time(u) − time(v) over job s's own times
unfoldable pub AtMost : Sheet → (a x y s u v : ℕ) → Type 0
AtMost sheet a x y s u v = (τ σ : ℕ → ℕ) → OwnTimes sheet a τ → OwnTimes sheet s σ → τ x + σ v ≤ σ u + τ y

-- "cleared last" is shown of f: every set v of f, by any present job i, and every clear y of f, by a wanted job a, has a guard.
-- A guard of v before y: a fact p shown cleared last, which i needs (until u) and a clears (at x),
-- with greatest x − y over a's own times ≤ least u − v over i's.
mutual
  pub data ClearedLast (s : Sheet) : ℕ → Type 0 where
    shown
        : {f : ℕ}
        → ((i v a y : ℕ) → OfPresent s v i sets f → Is s y a clears f → WantedJob s a → Guard s i v a y)
        → ClearedLast s f

  pub data Guard (s : Sheet) : (i v a y : ℕ) → Type 0 where
    guard
        : {i v a y : ℕ} (p u x : ℕ)
        → ClearedLast s p
        → Is s u i ends p
        → Is s x a clears p
        → AtMost s a x y i u v
        → Guard s i v a y

-- "cleared first" is shown of f: every clear y of f has a guard before every set v of f, both by wanted jobs
unfoldable pub ClearedFirst : Sheet → ℕ → Type 0
ClearedFirst s f =
    (i v a y : ℕ) → Is s v i sets f → WantedJob s i → Is s y a clears f → WantedJob s a → Guard s a y i v
