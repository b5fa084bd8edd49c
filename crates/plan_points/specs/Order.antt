-- Rows in order of their ticks, by groups, and where a span splits.
use Rattle.std.specs.Prelude.{ℕ, ◌+◌, ◌≤◌, ◌<◌, List, length}
use Rattle.rules.specs.Sheet.{sets}
use Rattle.plan_points.specs.Flat.{cell, groups, group_of, tick_at}
use Rattle.numbers.specs.Size.{word}

-- the rows from lo up to hi stand in order of their ticks
pub record InOrder (rows : List ℕ) (lo hi : ℕ) : Type 0 where
  pub rises : lo ≤ hi
  pub within : hi ≤ length rows
  pub up : (q r : ℕ) → lo ≤ q → q ≤ r → r < hi → tick_at rows q ≤ tick_at rows r
  pub near : hi < word

-- and so do those of each group of sets and clears
pub record Ordered (first rows : List ℕ) : Type 0 where
  pub long : groups < length first
  pub spans : (g : ℕ) → group_of sets 0 ≤ g → g < groups → InOrder rows (cell first g) (cell first (g + 1))

-- the ticks of the rows from lo up to r lie at least d ticks before u, those from r up to hi do not
pub record SplitAt (rows : List ℕ) (lo hi d u r : ℕ) : Type 0 where
  pub low : lo ≤ r
  pub high : r ≤ hi
  pub below : (q : ℕ) → lo ≤ q → q < r → tick_at rows q + d ≤ u
  pub above : (q : ℕ) → r ≤ q → q < hi → u < tick_at rows q + d
