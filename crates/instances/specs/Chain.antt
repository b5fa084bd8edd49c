-- The rows of a group as a chain: each row is linked to the one before it in its group, if there is one.
use Rattle.std.specs.Prelude.{ℕ, ◌+◌, ◌-◌, ◌≤◌, ◌<◌, ◌≡◌, cond, eqb, List, Option, Some, None, length, get_or}
use Rattle.rules.specs.Sheet.{max_jobs}
use Rattle.plan_points.specs.Flat.{cell}
use Rattle.numbers.specs.Size.{byte_values}

abbrev pub link_at : List (Option ℕ) → ℕ → Option ℕ
link_at l i = get_or l i None

-- the place behind the row, 0 where there is none
abbrev pub behind : Option ℕ → ℕ
behind None = 0
behind (Some r) = r + 1

-- the row before a place, none before 0
abbrev pub before : ℕ → Option ℕ
before n = cond (eqb n 0) None (Some (n - 1))

-- c is the place of the last row of group g below n, if there is one
pub record Previous (group : List ℕ) (g n : ℕ) (c : Option ℕ) : Type 0 where
  pub within : behind c ≤ n
  pub is : (r : ℕ) → c ≡ Some r → cell group r ≡ g
  pub none : (r : ℕ) → behind c ≤ r → r < n → cell group r ≡ g → ⊥

-- every row below n is linked to the one before it in its group
pub record EntryLinked (group : List ℕ) (n : ℕ) (link : List (Option ℕ)) : Type 0 where
  pub before : (r : ℕ) → r < n → Previous group (cell group r) r (link_at link r)

-- and the last row of each group is known
pub record Chained (group : List ℕ) (n : ℕ) (link lasts : List (Option ℕ)) : Type 0 where
  pub links : EntryLinked group n link
  pub last : (g : ℕ) → Previous group g n (link_at lasts g)
  pub room : n ≤ length link
  pub ends : max_jobs ≤ length lasts

-- what making the chains asks: room, and that no group has a row yet
pub record Unchained (group : List ℕ) (n : ℕ) (link tails : List (Option ℕ)) : Type 0 where
  pub few : n < byte_values
  pub groups : n ≤ length group
  pub links : n ≤ length link
  pub known : (k : ℕ) → k < n → cell group k < max_jobs
  pub lasts : max_jobs ≤ length tails
  pub none : (g : ℕ) → link_at tails g ≡ None
