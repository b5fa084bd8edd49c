-- The rules of own times, as difference rules over event numbers: tick a + w ≤ tick b + 32,768. A list of them holds each
-- rule that can be broken within 0 to H.
use Rattle.std.specs.Prelude.{ℕ, ◌+◌, ◌*◌, ◌≤◌, ◌<◌, ◌≡◌, ◌⊎◌, List, length, get_or}
use Rattle.rules.specs.Sheet.{Sheet, begins}
use Rattle.laws.specs.Pairs.{tightest_at}
use Rattle.kernel_least.specs.System.{origin}
use Rattle.numbers.specs.Size.{word}

-- the most rules: two for a pair, of which there are no more than bounds, and one for a need, which has two events
abbrev pub bound_rules : ℕ
bound_rules = 512

abbrev pub most_rules : ℕ
most_rules = 640

abbrev pub Rules : Type 1
Rules = (a b w : ℕ) → Type 0

-- the rules of the pairs of the first k bounds, two for a pair, and of the needs that begin below event m
pub data RuleOf (s : Sheet) (k m a b w : ℕ) : Type 0 where
  low : (i : ℕ) → i < k → a ≡ (s.bound i).earlier → b ≡ (s.bound i).later → w ≡ (tightest_at s i).low → RuleOf s k m a b w
  high : (i : ℕ) → i < k → a ≡ (s.bound i).later → b ≡ (s.bound i).earlier → w + (tightest_at s i).high ≡ 2 * origin → RuleOf s k m a b w
  need : a < m → (s.event a).kind ≡ begins → b ≡ a + 1 → w ≡ origin → RuleOf s k m a b w

-- event e begins a need
abbrev pub BeginsNeed : Sheet → ℕ → Type 0
BeginsNeed s e = (s.event e).kind ≡ begins

-- the rules of all jobs
abbrev pub OwnRule : Sheet → Rules
OwnRule s = RuleOf s s.bounds s.events

-- a rule of this weight holds of all ticks within 0 to h
abbrev pub Idle : (h w : ℕ) → Type 0
Idle h w = w + h ≤ origin

-- R has exactly the rules P, but may lack those that always hold
pub record Has (h : ℕ) (P R : Rules) : Type 0 where
  pub sound : (a b w : ℕ) → R a b w → P a b w
  pub whole : (a b w : ℕ) → P a b w → Idle h w ⊎ R a b w

-- the ticks t keep the rules R
abbrev pub KeepsRules : Rules → (ℕ → ℕ) → Type 0
KeepsRules R t = (a b w : ℕ) → R a b w → t a + w ≤ t b + origin

-- the first n rules of a list
pub record RuleInList (from to weight : List ℕ) (n a b w : ℕ) : Type 0 where
  pub place : ℕ
  pub below : place < n
  pub source : get_or from place 0 ≡ a
  pub target : get_or to place 0 ≡ b
  pub weighs : get_or weight place 0 ≡ w

-- ---- a list that is made rule by rule

-- what is lent for a list: room for n rules
pub record ListRoom (from to weight : List ℕ) (n : ℕ) : Type 0 where
  pub sources : n ≤ length from
  pub targets : n ≤ length to
  pub weights : n ≤ length weight

-- the room stays
pub record SameRoom (from to weight from' to' weight' : List ℕ) : Type 0 where
  pub sources : length from' ≡ length from
  pub targets : length to' ≡ length to
  pub weights : length weight' ≡ length weight

-- a rule that can be held: event numbers and weight are small
pub record SmallRule (h a b w : ℕ) : Type 0 where
  pub horizon : h < word
  pub source : a < word
  pub target : b < word
  pub weighs : w < word

-- R' is R and the rule a b w, unless that always holds
pub record RuleAdded (h a b w : ℕ) (R R' : Rules) : Type 0 where
  pub old : (x y z : ℕ) → R x y z → R' x y z
  pub sound : (x y z : ℕ) → R' x y z → R x y z ⊎ ((x ≡ a) × (y ≡ b) × (z ≡ w))
  pub new : Idle h w ⊎ R' a b w

-- the same of a list of n rules, which has r now
pub record Longer (h a b w : ℕ) (from to weight : List ℕ) (n : ℕ) (from' to' weight' : List ℕ) (r : ℕ) : Type 0 where
  pub added : RuleAdded h a b w (RuleInList from to weight n) (RuleInList from' to' weight' r)
  pub count : r ≤ n + 1

-- a list of at most `most` rules that has the rules of the pairs of the first k bounds and of the needs below m
pub record Collected (s : Sheet) (k m most : ℕ) (from to weight : List ℕ) (n : ℕ) : Type 0 where
  pub has : Has s.horizon (RuleOf s k m) (RuleInList from to weight n)
  pub count : n ≤ most
