-- What it is to lie as far after each other variable as can be; and what the steps to it promise one another.
use Rattle.std.specs.Prelude.{ℕ, ◌+◌, ◌≤◌, ◌<◌, ◌≡◌, ◌⊎◌, List, length, get_or}
use Rattle.numbers.specs.Size.{word}
use Rattle.kernel_least.specs.System.{System, Between, Of, Solves, Least}
use Rattle.kernel_least.specs.Rows.{Under, Same, at}

-- w attains the greatest difference of u and v above a floor, for every v at once
pub record Widened (s : System) (floor : ℕ → ℕ) (u : ℕ) (w : ℕ → ℕ) : Type 0 where
  pub solves : Solves s floor w
  pub widest : (y : ℕ → ℕ) → Solves s floor y → (v : ℕ) → Of s v → y u + w v ≤ w u + y v

-- row holds x from lo up to hi, and elsewhere what it held
pub record Copied (lo hi : ℕ) (x row₀ row : List ℕ) : Type 0 where
  pub inside : (v : ℕ) → Between lo hi v → get_or row v 0 ≡ get_or x v 0
  pub outside : Same lo hi row₀ row

-- r is the greatest tick from lo up to hi, 0 if there is none
pub record MostIs (lo hi : ℕ) (row : List ℕ) (r : ℕ) : Type 0 where
  pub upper : Under lo hi r row
  pub least : (k : ℕ) → Under lo hi k row → r ≤ k

-- r is t less s, but not below x
pub record AboveIs (t s x r : ℕ) : Type 0 where
  pub high : x ≤ r
  pub near : t ≤ r + s
  pub is : (r ≡ x) ⊎ (r + s ≡ t)
  pub small : r < word

-- row is row₀ with s taken from each tick from lo up to hi, but none below x
pub record Lowered (lo hi s : ℕ) (x row₀ row : List ℕ) : Type 0 where
  pub inside : (v : ℕ) → Between lo hi v → AboveIs (get_or row₀ v 0) s (get_or x v 0) (get_or row v 0)
  pub outside : Same lo hi row₀ row

-- what is asked: ticks x that solve the system
pub record WideAsks (s : System) (u : ℕ) (x : List ℕ) : Type 0 where
  pub of : Of s u
  pub long : s.hi ≤ length x
  pub solves : Solves s (λ v. 0) (at x)

-- what is promised: whatever floor x is the least solution above, row is widest above it
pub record WideDone (s : System) (u : ℕ) (x row₀ row : List ℕ) : Type 0 where
  pub widened : (floor : ℕ → ℕ) → Least s floor (at x) → Widened s floor u (at row)
  pub outside : Same s.lo s.hi row₀ row
