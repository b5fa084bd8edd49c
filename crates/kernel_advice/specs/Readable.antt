-- The rows that an order is made from, and the sizes that advice is made for.
use Rattle.std.specs.Prelude.{ℕ, ◌+◌, ◌≤◌, ◌<◌, List, length, get_or}

-- how many variables there can be
abbrev pub variables : ℕ
variables = 256

-- how many places a tournament has
abbrev pub places : ℕ
places = 344

-- where its leaves start at the latest
abbrev pub leaves_last : ℕ
leaves_last = 88

-- the rows of the variables from lo up to hi are there
pub record Readable (first to : List ℕ) (lo hi : ℕ) : Type 0 where
  pub small : hi ≤ variables
  pub rows : hi < length first
  pub targets : (a : ℕ) → lo ≤ a → a < hi → get_or first (a + 1) 0 ≤ length to
