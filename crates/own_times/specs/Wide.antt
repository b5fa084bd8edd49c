-- The table of widest own times: for some events x, own times of its job in which x lies as far after each other event as it can.
use Rattle.std.specs.Prelude.{ℕ, ◌+◌, ◌*◌, ◌≤◌, ◌<◌, ◌≡◌, List, length, get_or}
use Rattle.rules.specs.Sheet.{Sheet}
use Rattle.rules.specs.Plan.{OwnTimes}

-- w are own times of x's job with the greatest time(x) − time(y), for every event y of the job at once
pub record WideRow (s : Sheet) (x : ℕ) (w : ℕ → ℕ) : Type 0 where
  pub own : OwnTimes s (s.event x).job w
  pub widest
      : (t : ℕ → ℕ)
      → OwnTimes s (s.event x).job t
      → (y : ℕ)
      → y < s.events
      → (s.event y).job ≡ (s.event x).job
      → t x + w y ≤ w x + t y

-- the table has n marks, one for each event, and then rows, each m ticks after the one before it; those of marked events hold
pub record Filled (s : Sheet) (n m : ℕ) (table : List ℕ) : Type 0 where
  pub marks : s.events ≤ n
  pub room : n + m * s.events + s.events ≤ length table
  pub rows : (x : ℕ) → x < s.events → 0 < get_or table x 0 → WideRow s x (λ y. get_or table (n + m * x + y) 0)
