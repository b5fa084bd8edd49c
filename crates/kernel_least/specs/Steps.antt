-- What the steps of raising promise one another: no caller of the crate needs this.
use Rattle.std.specs.Prelude.{ℕ, zero, suc, ◌+◌, ◌-◌, ◌*◌, ◌≤◌, ◌<◌, ◌≡◌, ◌⊎◌, Bool, true, false, List, length, get_or, set, Option, MatchOption, IfSome, Result, Ok, Err, IsOk, IsErr}
use Rattle.kernel_advice.specs.Readable.{variables}
use Rattle.numbers.specs.Size.{word}
use Rattle.kernel_advice.specs.declared.Span.{Span}
use Rattle.kernel_least.specs.System.{System, Between, Of, Solves, Unsolvable, origin}
use Rattle.kernel_least.specs.Rows.{at, Lent, Same, Outcome, OutcomeIs}
use Rattle.kernel_least.specs.declared.Range.{Range}
use Rattle.kernel_least.specs.declared.Demand.{Demand}
use Rattle.kernel_least.specs.declared.Watch.{Watch}
use Rattle.kernel_least.specs.declared.Impossible.{Impossible}

-- ticks x above the floor f and below every solution; where nothing is marked, the rules are kept
pub record Going (s : System) (f x m : ℕ → ℕ) : Type 0 where
  pub above : (v : ℕ) → Of s v → f v ≤ x v
  pub under : (v : ℕ) → Of s v → x v ≤ s.ceiling
  pub least : (y : ℕ → ℕ) → Solves s f y → (v : ℕ) → Of s v → x v ≤ y v
  pub settled : (a b w : ℕ) → s.rule a b w → m a ≡ 0 → x a + w ≤ x b + origin

-- the sum of f over the places below n
unfoldable pub sum : (ℕ → ℕ) → ℕ → ℕ
sum f zero = 0
sum f (suc n) = sum f n + f n

-- what is left to do: room below the ceiling, and marks
unfoldable pub work : ℕ → ℕ → List ℕ → List ℕ → ℕ
work hi ceiling x m = sum (λ v. 2 * (ceiling - get_or x v 0) + get_or m v 0) hi

-- ticks and marks for the variables of a range
pub record TicksHeld (range : Range) (x m : List ℕ) : Type 0 where
  pub lent : Lent range.hi range.ceiling x
  pub marked : range.hi ≤ length m

-- the variables of a span are some of the range
pub record Part (range : Range) (span : Span) : Type 0 where
  pub from : range.lo ≤ span.lo
  pub to : span.hi ≤ range.hi

-- one rule, which asks for `need` less the origin at its target
pub record LiftAsks (ceiling : ℕ) (d : Demand) (x m : List ℕ) : Type 0 where
  pub ceiling_low : ceiling < origin
  pub source : d.source < variables
  pub target : d.target < variables
  pub needed : d.need < 4 * origin
  pub ticks : d.target < length x
  pub marked : d.target < length m

-- it is noted where t is not below the edge
pub record Note (edge t : ℕ) (noted r : Bool) : Type 0 where
  pub was : r ≡ false → noted ≡ false
  pub below : r ≡ false → t < edge

-- what a step answers: whether something was noted, or that nothing solves the rules
abbrev pub Answer : Type 0
Answer = Result Bool Impossible

pub data Lift (ceiling t need edge : ℕ) (noted : Bool) (x₀ m₀ x m : List ℕ) (r : Answer) : Type 0 where
  kept : need ≤ get_or x₀ t 0 + origin → x ≡ x₀ → m ≡ m₀ → r ≡ Ok noted → Lift ceiling t need edge noted x₀ m₀ x m r
  raised
      : get_or x₀ t 0 + origin < need
      → need ≤ ceiling + origin
      → x ≡ set x₀ t (need - origin)
      → m ≡ set m₀ t 1
      → (n : Bool)
      → r ≡ Ok n
      → Note edge t noted n
      → Lift ceiling t need edge noted x₀ m₀ x m r
  passed : ceiling + origin < need → x ≡ x₀ → m ≡ m₀ → (e : Impossible) → r ≡ Err e → Lift ceiling t need edge noted x₀ m₀ x m r

abbrev pub LiftBy : ℕ → Demand → Watch → (x₀ m₀ x m : List ℕ) → Answer → Type 0
LiftBy ceiling d w x₀ m₀ x m r = Lift ceiling d.target d.need w.edge w.noted x₀ m₀ x m r

-- the row of v was looked at; where nothing was noted, no variable from the edge on was marked by it
pub record Noted (edge v : ℕ) (noted : Bool) (m₀ m : List ℕ) (r : Answer) : Type 0 where
  pub was : r ≡ Ok false → noted ≡ false
  pub clear : r ≡ Ok false → (u : ℕ) → edge ≤ u → (u ≡ v) ⊎ (get_or m₀ u 0 ≡ 0) → get_or m u 0 ≡ 0

-- nothing is marked from lo up to hi
abbrev pub Clear : ℕ → ℕ → List ℕ → Type 0
Clear lo hi m = (u : ℕ) → Between lo hi u → get_or m u 0 ≡ 0

-- some rows were looked at: r is Ok, or no solution exists
pub record Swept {T : Type 0} (s : System) (x₀ m₀ x m : List ℕ) (r : Result T Impossible) : Type 0 where
  pub ticks : Same s.lo s.hi x₀ x
  pub less : work s.hi s.ceiling x m ≤ work s.hi s.ceiling x₀ m₀
  pub going : IsOk r → (f : ℕ → ℕ) → Going s f (at x₀) (at m₀) → Going s f (at x) (at m)
  pub none : IsErr r → (f : ℕ → ℕ) → Going s f (at x₀) (at m₀) → Unsolvable s f

-- the row of v was among them
pub record Lifted {T : Type 0} (s : System) (v : ℕ) (x₀ m₀ x m : List ℕ) (r : Result T Impossible) : Type 0 where
  pub swept : Swept s x₀ m₀ x m r
  pub less : 0 < get_or m₀ v 0 → work s.hi s.ceiling x m < work s.hi s.ceiling x₀ m₀

-- the first marked variable, or None where none is
abbrev pub Picked : ℕ → ℕ → List ℕ → Option ℕ → Type 0
Picked lo hi m r = MatchOption r (Clear lo hi m) (λ v. Between lo hi v × (0 < get_or m v 0))

-- r says whether a variable is marked from lo up to hi
pub record AnyIs (lo hi : ℕ) (m : List ℕ) (r : Bool) : Type 0 where
  pub clear : r ≡ false → Clear lo hi m
  pub some : r ≡ true → Clear lo hi m → ⊥

-- w is the weight of a rule from p to v, if there is one
pub record Hop (rule : ℕ → ℕ → ℕ → Type 0) (p v : ℕ) (o : Option ℕ) : Type 0 where
  pub small : IfSome o (λ w. w < word)
  pub stands : IfSome o (λ w. rule p v w)

-- nothing is marked any more, or no solution exists
pub record Settled (s : System) (x₀ m₀ x : List ℕ) (o : Outcome) : Type 0 where
  pub ticks : Same s.lo s.hi x₀ x
  pub answer : (f : ℕ → ℕ) → Going s f (at x₀) (at m₀) → OutcomeIs s f (at x) o
