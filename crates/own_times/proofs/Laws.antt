-- Collecting the rules: one rule more, one pair more, one event more.
use Prim.Native.Nat.{ℕ, ◌+◌, ◌-◌, ◌*◌, ◌≤◌, ◌<◌}
use native.Mathlib.Omega.{arith}
use native.Mathlib.Nat.{eq-or-lt_of_le}
use native.Mathlib.Numerals.{add-one}
use native.Mathlib.Decide.{dec_lt}
use mathlib.Core.Path.{◌≡◌, refl, sym, ap, ◌∙◌, subst}
use mathlib.Core.Logic.{◌⊎◌, inl, inr, ⊎_elim, dite}
use mathlib.Core.List.{List}
use lib.ListN.{length}
use Rattle.rules.specs.Sheet as rules
use Rattle.rules.specs.Sheet.{Sheet, begins, ends}
use Rattle.sheet.specs.View.{PairIs}
use Rattle.sheet.specs.declared.Pair.{Pair}
use Rattle.laws.specs.Pairs.{tightest_at, PairEnds, ends_tightest}
use Rattle.laws.specs.Formed.{Formed}
use Rattle.laws.specs.Events.{small, end_of}
use Rattle.rules.specs.Plan.{Is}
use Rattle.kernel_least.specs.System as kernel
use Rattle.own_times.specs.Times.{tightest_high_there}
use Rattle.own_times.specs.Rules.{bound_rules, most_rules, Rules, RuleOf, low, high, need, Idle, Has}
use Rattle.own_times.specs.Rules.{RuleInList, ListRoom, SameRoom, SmallRule, RuleAdded, Longer, Collected}
use Rattle.numbers.specs.Size.{word}

-- ---- the rules so far

more : (s : Sheet) (k m k' m' : ℕ) → k ≤ k' → m ≤ m' → (a b w : ℕ) → RuleOf s k m a b w → RuleOf s k' m' a b w
more s k m k' m' hk hm a b w (low i l x y z) = low i (omega arith) x y z
more s k m k' m' hk hm a b w (high i l x y z) = high i (omega arith) x y z
more s k m k' m' hk hm a b w (need l x y z) = need (omega arith) x y z

-- a rule is there, or always holds, once it was added
there
    : (h a b w x y z : ℕ) (R R' : Rules) → RuleAdded h a b w R R' → x ≡ a → y ≡ b → z ≡ w → Idle h z ⊎ R' x y z
there h a b w x y z R R' p q r t = rw (q, r, t) p.new

-- what was there is still there
still : (h a b w x y z : ℕ) (R R' : Rules) → RuleAdded h a b w R R' → Idle h z ⊎ R x y z → Idle h z ⊎ R' x y z
still h a b w x y z R R' p (inl i) = inl i
still h a b w x y z R R' p (inr r) = inr (p.old x y z r)

-- the two rules of the pair of row i, whose rows stand from i up to n
pair_more
    : (s : Sheet) (h i n m e d l w : ℕ) (P Q R : Rules)
    → PairEnds s i n
    → Has h (RuleOf s i m) P
    → RuleAdded h d e l P Q
    → RuleAdded h e d w Q R
    → e ≡ (s.bound i).later
    → d ≡ (s.bound i).earlier
    → l ≡ (tightest_at s i).low
    → w + (tightest_at s i).high ≡ 2 * kernel.origin
    → Has h (RuleOf s n m) R
pair_more s h i n m e d l w P Q R ends has p q later earlier is_low is_high = record { sound = back; whole = forth }
  where
    back : (a b z : ℕ) → R a b z → RuleOf s n m a b z
    back a b z r =
        ⊎_elim
        (λ r'.
        ⊎_elim
        (λ r''. more s i m n m (omega (arith, ends.above)) (omega arith) a b z (has.sound a b z r''))
        (λ t. low i ends.above (t.0 ∙ earlier) (t.1 ∙ later) (t.2 ∙ is_low))
        (p.sound a b z r'))
        (λ t. high i ends.above (t.0 ∙ later) (t.1 ∙ earlier) (ap (λ v. v + (tightest_at s i).high) t.2 ∙ is_high))
        (q.sound a b z r)

    old : (a b z : ℕ) → RuleOf s i m a b z → Idle h z ⊎ R a b z
    old a b z r = still _ _ _ _ _ _ _ _ _ q (still _ _ _ _ _ _ _ _ _ p (has.whole a b z r))

    forth : (a b z : ℕ) → RuleOf s n m a b z → Idle h z ⊎ R a b z
    forth a b z (low k g x y v) =
        dite (dec_lt k i)
        (λ before. old a b z (low k before x y v))
        (λ here.
        let r = ends.rows k (omega arith) g in
        still _ _ _ _ _ _ _ _ _ q
        (there _ _ _ _ _ _ _ _ _ p
        (x ∙ r.earlier ∙ sym earlier)
        (y ∙ r.later ∙ sym later)
        (v ∙ ap (λ (c : rules.Bound). c.low) (ends_tightest s ends k (omega arith) g) ∙ sym is_low)))
    forth a b z (high k g x y v) =
        dite (dec_lt k i)
        (λ before. old a b z (high k before x y v))
        (λ here.
        let r = ends.rows k (omega arith) g in
        there _ _ _ _ _ _ _ _ _ q
        (x ∙ r.later ∙ sym later)
        (y ∙ r.earlier ∙ sym earlier)
        (omega (arith, ap (λ (c : rules.Bound). c.high) (ends_tightest s ends k (omega arith) g))))
    forth a b z (need g x y v) = old a b z (need g x y v)

-- ---- a turn through the pairs

module _ (s : Sheet) (f : Formed s) (i : ℕ) (in_sheet : i < s.bounds) {c : Pair} (is : PairIs s i c) (h : ℕ) (horizon : h ≡ s.horizon) where
  high_there : (0 < c.high) × (c.high < word)
  high_there = let q = tightest_high_there s f i in_sheet in (omega (arith, q.0, is.high), is.small_high)

  pub small_low : SmallRule h c.earlier c.later c.low
  small_low = record { horizon = omega (arith, (small s f).horizon); source = omega arith; target = omega arith; weighs = omega arith }

  pub small_high_lem : SmallRule h c.later c.earlier (2 * kernel.origin - c.high)
  small_high_lem =
      record {
        horizon = omega (arith, (small s f).horizon);
        source = omega arith;
        target = omega arith;
        weighs = omega (arith, high_there);
      }

  pub Pair-turn
      : {from to weight from1 to1 weight1 from2 to2 weight2 : List ℕ} {n n1 n2 : ℕ}
      → Collected s i 0 (2 * i) from to weight n
      → Longer h c.earlier c.later c.low from to weight n from1 to1 weight1 n1
      → Longer h c.later c.earlier (2 * kernel.origin - c.high) from1 to1 weight1 n1 from2 to2 weight2 n2
      → Collected s c.next 0 (2 * c.next) from2 to2 weight2 n2
  Pair-turn {from} {to} {weight} {from1} {to1} {weight1} {from2} {to2} {weight2} {n} {n1} {n2} p q r =
      record {
        has =
            subst (λ x. Has x (RuleOf s c.next 0) (RuleInList from2 to2 weight2 n2)) horizon
            (pair_more s h i c.next 0 _ _ _ _ _ (RuleInList from1 to1 weight1 n1) _
            is.next
            (subst (λ x. Has x (RuleOf s i 0) (RuleInList from to weight n)) (sym horizon) p.has)
            q.added
            r.added
            is.later
            is.earlier
            is.low
            (omega (arith, high_there, is.high)));
        count = omega (arith, p.count, q.count, r.count, is.next.above);
      }

-- ---- a turn through the events

-- the needs below m, and that the list has room for one more
pub record Needing (s : Sheet) (m : ℕ) (from to weight : List ℕ) (n : ℕ) : Type 0 where
  pub has : Has s.horizon (RuleOf s s.bounds m) (RuleInList from to weight n)
  pub count : 2 * n ≤ 2 * bound_rules + m
  pub inside : m ≤ s.events

pub needing_end
    : {s : Sheet} {from to weight : List ℕ} (m : ℕ) {n : ℕ}
    → Formed s
    → Needing s m from to weight n
    → s.events ≤ m
    → Collected s s.bounds s.events most_rules from to weight n
needing_end {s} {from} {to} {weight} m {n} f p l =
    record {
      has =
          subst (λ k. Has s.horizon (RuleOf s s.bounds k) (RuleInList from to weight n)) (omega (arith, p.inside)) p.has;
      count = omega (arith, p.count, p.inside, (small s f).events);
    }

-- an event that begins no need
no_need
    : (s : Sheet) (h k m : ℕ) (R : Rules)
    → Has h (RuleOf s k m) R
    → ((s.event m).kind ≡ begins → ⊥)
    → Has h (RuleOf s k (m + 1)) R
no_need s h k m R has d = record { sound = λ a b w r. more s k m k (m + 1) (omega arith) (omega arith) a b w (has.sound a b w r); whole = forth }
  where
    forth : (a b w : ℕ) → RuleOf s k (m + 1) a b w → Idle h w ⊎ R a b w
    forth a b w (low i g x y z) = has.whole a b w (low i g x y z)
    forth a b w (high i g x y z) = has.whole a b w (high i g x y z)
    forth a b w (need g x y z) =
        ⊎_elim
        (λ (here : a ≡ m). absurd (d (ap (λ e. (s.event e).kind) (sym here) ∙ x)))
        (λ before. has.whole a b w (need before x y z))
        (eq-or-lt_of_le (omega arith))

-- one that does
one_need
    : (s : Sheet) (h k m : ℕ) (P Q : Rules)
    → Has h (RuleOf s k m) P
    → RuleAdded h m (m + 1) kernel.origin P Q
    → (s.event m).kind ≡ begins
    → Has h (RuleOf s k (m + 1)) Q
one_need s h k m P Q has p is = record { sound = back; whole = forth }
  where
    back : (a b w : ℕ) → Q a b w → RuleOf s k (m + 1) a b w
    back a b w r =
        ⊎_elim
        (λ r'. more s k m k (m + 1) (omega arith) (omega arith) a b w (has.sound a b w r'))
        (λ t. need (omega (arith, t.0)) (ap (λ e. (s.event e).kind) t.0 ∙ is) (omega (arith, t.0, t.1)) t.2)
        (p.sound a b w r)

    forth : (a b w : ℕ) → RuleOf s k (m + 1) a b w → Idle h w ⊎ Q a b w
    forth a b w (low i g x y z) = still _ _ _ _ _ _ _ _ _ p (has.whole a b w (low i g x y z))
    forth a b w (high i g x y z) = still _ _ _ _ _ _ _ _ _ p (has.whole a b w (high i g x y z))
    forth a b w (need g x y z) =
        ⊎_elim
        (λ (here : a ≡ m). there _ _ _ _ _ _ _ _ _ p here (omega arith) z)
        (λ before. still _ _ _ _ _ _ _ _ _ p (has.whole a b w (need before x y z)))
        (eq-or-lt_of_le (omega arith))

pub needing_skip
    : {s : Sheet} {from to weight : List ℕ} {m n : ℕ}
    → Needing s m from to weight n
    → m < s.events
    → ((s.event m).kind ≡ begins → ⊥)
    → Needing s (m + 1) from to weight n
needing_skip {s} p l d =
    record { has = no_need s _ _ _ _ p.has d; count = omega (arith, p.count); inside = omega arith }

module _ (s : Sheet) (f : Formed s) (m : ℕ) (in_sheet : m < s.events) (is : (s.event m).kind ≡ begins) (h : ℕ) (horizon : h ≡ s.horizon) where
  begin : Is s m (s.event m).job begins (s.event m).fact
  begin = record { in_sheet = in_sheet; of_job = refl; of_kind = is; of_fact = refl }

  end : Is s (m + 1) (s.event m).job ends (s.event m).fact
  end = rw add-one (end_of s f m _ _ begin)

  pub needing_turn
      : {from to weight from' to' weight' : List ℕ} {n n' : ℕ}
      → Needing s m from to weight n
      → Longer h m (m + 1) kernel.origin from to weight n from' to' weight' n'
      → Needing s (m + 1 + 1) from' to' weight' n'
  needing_turn {from} {to} {weight} {from'} {to'} {weight'} {n} {n'} p q =
      record {
        has =
            no_need s _ _ _ _
            (one_need s _ _ _ (RuleInList from to weight n) (RuleInList from' to' weight' n') p.has (rw horizon at q.added) is)
            (λ e. omega (arith, end.of_kind));
        count = omega (arith, p.count, q.count);
        inside = omega (arith, end.in_sheet);
      }

pub room_for
    : {from to weight from' to' weight' : List ℕ} (most n : ℕ)
    → ListRoom from to weight most
    → SameRoom from to weight from' to' weight'
    → n ≤ most
    → ListRoom from' to' weight' n
room_for most n p q l =
    record {
      sources = omega (arith, p.sources, q.sources);
      targets = omega (arith, p.targets, q.targets);
      weights = omega (arith, p.weights, q.weights);
    }

pub room_then
    : {from to weight from1 to1 weight1 from2 to2 weight2 : List ℕ}
    → SameRoom from to weight from1 to1 weight1
    → length from2 ≡ length from1
    → length to2 ≡ length to1
    → length weight2 ≡ length weight1
    → SameRoom from to weight from2 to2 weight2
room_then p a b c = record { sources = a ∙ p.sources; targets = b ∙ p.targets; weights = c ∙ p.weights }
