-- Raising over marked rows until none is left, and what it starts from.
use Prim.Native.Nat.{ℕ, ◌+◌, ◌≤◌, ◌<◌}
use native.Mathlib.Omega.{arith}
use native.Mathlib.Decide.{ℕ_discrete}
use mathlib.Core.Path.{◌≡◌, refl, sym, ◌∙◌}
use mathlib.Core.Logic.{◌⊎◌, inl, inr}
use mathlib.Core.List.{List}
use lib.ListN.{length, get_or, set, length-set, replicate, length-replicate, get_or-replicate}
use lib.Dec.{ltb}
use borrow.Author.Tests.{ltb-true, ltb-false}
use lib.Bits.{bit_and, bit_or, and_le_l, and_le_r, or_add_and}
use lib.Seq.{get_or-set_same}
use Rattle.kernel_advice.specs.Readable.{Readable, variables}
use Rattle.kernel_advice.specs.declared.Span.{Span}
use Rattle.kernel_least.specs.System.{System, Between, Least, Unsolvable}
use Rattle.kernel_least.specs.Rows.{at, rows_of, Shaped, Lent, Under, KeptBut, Outcome, Raised}
use Rattle.kernel_least.specs.Steps.{TicksHeld, Part, Going, Noted, Clear, Picked, AnyIs, Swept, Lifted, Settled}
use Rattle.kernel_least.specs.declared.Range.{Range}
use Rattle.kernel_least.specs.declared.Impossible.{Impossible}
use Rattle.std.specs.Prelude.{Bool, false, Option, Some, None, is_some, Result, Ok, Err}

-- what an order is made from, as it was read
pub readable
    : {first to weight first' to' : List ℕ} {lo hi : ℕ}
    → first ≡ first'
    → to ≡ to'
    → Shaped first to weight lo hi
    → Readable first' to' lo hi
readable ef et s =
    rw (sym ef, sym et) (record {
      small = s.small;
      rows = s.rows;
      targets = λ a l k. s.targets a (record { from = l; below = k });
    })

-- nothing was found
pub picked_none : (lo hi : ℕ) (m : List ℕ) (r : Option ℕ) → is_some r ≡ false → Picked lo hi m r → Clear lo hi m
picked_none lo hi m None z h = h
picked_none lo hi m (Some v) z h = absurd (cc)

pub picked_left : (lo hi : ℕ) (m : List ℕ) (r : Option ℕ) → ((v : ℕ) → r ≡ Some v → ⊥) → Picked lo hi m r → Clear lo hi m
picked_left lo hi m None d h = h
picked_left lo hi m (Some v) d h = absurd (d v refl)

-- ---- one look after the other

pub record Sweeping (s : System) (x₀ m₀ x m : List ℕ) : Type 0 where
  pub xs : length x ≡ length x₀
  pub ms : length m ≡ length m₀
  pub swept : Swept {T = Unit {0}} s x₀ m₀ x m (Ok tt)

pub sweep_start : (s : System) (x m : List ℕ) → Sweeping s x m x m
sweep_start s x m =
    record {
      xs = refl;
      ms = refl;
      swept =
          record { ticks = λ u o. refl; less = omega arith; going = λ z f g. g; none = λ z. absurd (cc) };
    }

pub held_on
    : {range : Range} {x m x' m' : List ℕ}
    → length x' ≡ length x
    → length m' ≡ length m
    → TicksHeld range x m
    → TicksHeld range x' m'
held_on ex em h =
    record {
      lent = record { low = h.lent.low; ticks = omega (arith, h.lent.ticks) };
      marked = omega (arith, h.marked);
    }

-- what raise_from starts with
pub held_one
    : {range : Range} (x : List ℕ) (v : ℕ)
    → Lent range.hi range.ceiling x
    → range.hi ≤ variables
    → TicksHeld range x (set (replicate variables 0) v 1)
held_one x v l small =
    record { lent = l; marked = omega (arith, length-set {A = ℕ} (replicate variables 0) v 1, length-replicate {A = ℕ} variables 0) }

pub held
    : {s : System} {range : Range} {x₀ m₀ x m : List ℕ}
    → Sweeping s x₀ m₀ x m
    → TicksHeld range x₀ m₀
    → TicksHeld range x m
held inv = held_on inv.xs inv.ms

-- from a place on, a part is still one
pub part_rest : {range : Range} {span : Span} {v : ℕ} → Part range span → span.lo ≤ v → Part range (record { lo = v; hi = span.hi })
part_rest p l = record { from = omega (arith, p.from); to = p.to }

-- all errors say the same
pub ended
    : {T U : Type 0} {s : System} {x₀ m₀ x m : List ℕ} {e e' : Impossible}
    → Swept {T = T} s x₀ m₀ x m (Err e)
    → Swept {T = U} s x₀ m₀ x m (Err e')
ended a =
    record { ticks = a.ticks; less = a.less; going = λ z. absurd (cc); none = λ z. a.none refl }

-- all answers that are no error say the same
pub alike
    : {T U : Type 0} {s : System} {x₀ m₀ x m : List ℕ} {a : T} {b : U}
    → Swept s x₀ m₀ x m (Ok a)
    → Swept s x₀ m₀ x m (Ok b)
alike a =
    record { ticks = a.ticks; less = a.less; going = λ z. a.going refl; none = λ z. absurd (cc) }

module _
    {T U : Type 0} {s : System} {x₀ m₀ x m x' m' : List ℕ} {o : T} {p : Result U Impossible}
    (a : Swept s x₀ m₀ x m (Ok o))
    (b : Swept s x m x' m' p) where
  pub then : Swept s x₀ m₀ x' m' p
  then =
      record {
        ticks = λ u out. b.ticks u out ∙ a.ticks u out;
        less = omega (arith, a.less, b.less);
        going = λ e f g. b.going e f (a.going refl f g);
        none = λ h f g. b.none h f (a.going refl f g);
      }

pub sweep_none
    : {T U : Type 0} {s : System} {x₀ m₀ x m x' m' : List ℕ} {e e' : Impossible}
    → Sweeping s x₀ m₀ x m
    → Swept {T = T} s x m x' m' (Err e)
    → Swept {T = U} s x₀ m₀ x' m' (Err e')
sweep_none inv l = ended (then inv.swept l)

pub sweep_on
    : {T : Type 0} {s : System} {x₀ m₀ x m x' m' : List ℕ} {a : T}
    → Sweeping s x₀ m₀ x m
    → Swept s x m x' m' (Ok a)
    → length x' ≡ length x
    → length m' ≡ length m
    → Sweeping s x₀ m₀ x' m'
sweep_on inv l ex em =
    record { xs = ex ∙ inv.xs; ms = em ∙ inv.ms; swept = alike (then inv.swept l) }

-- ---- what is noted on the way

-- a row that is not marked is not looked at
pub noted_same : {edge v : ℕ} {noted : Bool} (m : List ℕ) → get_or m v 0 ≡ 0 → Noted edge v noted m m (Ok noted)
noted_same {edge} {v} m z = record { was = λ e. cc; clear = λ e u h. pick u }
  where
    pick : (u : ℕ) → (u ≡ v) ⊎ (get_or m u 0 ≡ 0) → get_or m u 0 ≡ 0
    pick u (inl e) = rw e z
    pick u (inr w) = w

-- nothing is marked from v + 1 on; then from v on
pub clear_down
    : {v hi : ℕ} {noted r : Bool} {m m' : List ℕ}
    → (noted ≡ false → Clear (v + 1) hi m)
    → Noted v v noted m m' (Ok r)
    → r ≡ false
    → Clear v hi m'
clear_down {v} {hi} {m = m} h n z u o = n.clear (cc) u o.from (pick (ℕ_discrete u v))
  where
    pick : Dec (u ≡ v) → (u ≡ v) ⊎ (get_or m u 0 ≡ 0)
    pick (yes e) = inl e
    pick (no d) = inr (h (n.was (cc)) u (record { from = omega (arith, o.from); below = o.below }))

-- ---- the row of v, then others

module _ {T : Type 0} {s : System} {v : ℕ} {x₀ m₀ x m : List ℕ} where
  pub lifted_none
      : {U : Type 0} {e e' : Impossible} → Lifted {T = T} s v x₀ m₀ x m (Err e) → Lifted {T = U} s v x₀ m₀ x m (Err e')
  lifted_none l = record { swept = ended l.swept; less = l.less }

  pub lifted_then
      : {U : Type 0} {a : T} {x' m' : List ℕ} {p : Result U Impossible}
      → Lifted s v x₀ m₀ x m (Ok a)
      → Swept s x m x' m' p
      → Lifted s v x₀ m₀ x' m' p
  lifted_then l b =
      record { swept = then l.swept b; less = λ h. omega (arith, l.less h, b.less) }

-- ---- until nothing is marked

module _ (first to weight : List ℕ) (lo hi ceiling : ℕ) where
  abbrev pub Rules : System
  Rules = rows_of first to weight lo hi ceiling

  -- nothing is marked: the ticks are the least solution
  all_settled
      : {f x m : ℕ → ℕ} → Going Rules f x m → ((v : ℕ) → Between lo hi v → m v ≡ 0) → Least Rules f x
  all_settled g z =
      record {
        solves =
            record {
              above = g.above;
              below = g.under;
              kept = λ a b w r. g.settled a b w r (z a r.stands.of);
            };
        least = g.least;
      }

  module _ {x₀ m₀ x m : List ℕ} (inv : Sweeping Rules x₀ m₀ x m) where
    pub settle_done : ((v : ℕ) → Between lo hi v → get_or m v 0 ≡ 0) → Settled Rules x₀ m₀ x (Ok tt)
    settle_done z =
        record { ticks = inv.swept.ticks; answer = λ f g. all_settled (inv.swept.going refl f g) z }

    pub settle_cycle : {e : Impossible} → ((f : ℕ → ℕ) → Unsolvable Rules f) → Settled Rules x₀ m₀ x (Err e)
    settle_cycle h = record { ticks = inv.swept.ticks; answer = λ f g. h f }

    pub settle_none
        : {T : Type 0} {x' m' : List ℕ} {e e' : Impossible}
        → Swept {T = T} Rules x m x' m' (Err e)
        → Settled Rules x₀ m₀ x' (Err e')
    settle_none l =
        record {
          ticks = λ u out. l.ticks u out ∙ inv.swept.ticks u out;
          answer = λ f g. l.none refl f (inv.swept.going refl f g);
        }

    pub settle_then : {x' : List ℕ} {o : Outcome} → Settled Rules x m x' o → Settled Rules x₀ m₀ x' o
    settle_then l =
        record {
          ticks = λ u out. l.ticks u out ∙ inv.swept.ticks u out;
          answer = λ f g. l.answer f (inv.swept.going refl f g);
        }

  -- where it starts: everything is marked, or only v, of which alone rules may be broken
  module _ (x₀ : List ℕ) (under : Under lo hi ceiling x₀) where
    going_all : hi ≤ variables → Going Rules (at x₀) (at x₀) (at (replicate variables 1))
    going_all small =
        record {
          above = λ v o. omega arith;
          under = under;
          least = λ y p. p.above;
          settled = λ a b w r z. absurd (omega (arith, marked a r.stands.of.below));
        }
      where
        marked : (a : ℕ) → a < hi → ◌≡◌ {A = ℕ} (get_or (replicate variables 1) a 0) 1
        marked a h = get_or-replicate {A = ℕ} variables a 1 0 (omega arith)

    going_from : (m : List ℕ) (v : ℕ) → v < length m → KeptBut Rules v x₀ → Going Rules (at x₀) (at x₀) (at (set m v 1))
    going_from m v there kept =
        record {
          above = λ u o. omega arith;
          under = under;
          least = λ y p. p.above;
          settled = λ a b w r z. kept a b w r (λ e. marked (rw e at z));
        }
      where
        marked : get_or (set m v 1) v 0 ≡ 0 → ⊥
        marked z = omega (arith, get_or-set_same m v 1 0 there)

    pub raised_all : {x : List ℕ} {o : Outcome} → hi ≤ variables → Settled Rules x₀ (replicate variables 1) x o → Raised Rules x₀ x o
    raised_all small l = record { answer = l.answer (at x₀) (going_all small); ticks = l.ticks }

    pub raised_from
        : {x : List ℕ} {o : Outcome} (v : ℕ)
        → v < variables
        → KeptBut Rules v x₀
        → Settled Rules x₀ (set (replicate variables 0) v 1) x o
        → Raised Rules x₀ x o
    raised_from v h kept l =
        record { answer = l.answer (at x₀) (going_from (replicate variables 0) v there kept); ticks = l.ticks }
      where
        there : v < length {A = ℕ} (replicate variables 0)
        there = omega (arith, length-replicate {A = ℕ} variables 0)

-- ---- whether a variable is marked

-- the marks from lo up to v in one byte, which is 0 only where none of them is set
pub record Gathered (lo hi : ℕ) (m : List ℕ) (some v : ℕ) : Type 0 where
  pub from : lo ≤ v
  pub clear : some ≡ 0 → Clear lo v m
  pub none : Clear lo hi m → some ≡ 0

pub gather_start : (lo hi : ℕ) (m : List ℕ) → Gathered lo hi m 0 lo
gather_start lo hi m =
    record { from = omega arith; clear = λ z u o. absurd (omega (arith, o.from, o.below)); none = λ h. refl }

pub gather_step
    : {lo hi some v : ℕ} {m : List ℕ} → Gathered lo hi m some v → v < hi → Gathered lo hi m (bit_or some (get_or m v 0)) (v + 1)
gather_step {lo} {hi} {some} {v} {m} g l =
    record {
      from = omega (arith, g.from);
      clear = λ z u o. pick z u o (ℕ_discrete u v);
      none = λ h. omega (arith, both, g.none h, h v (record { from = g.from; below = l }));
    }
  where
    both : bit_or some (get_or m v 0) + bit_and some (get_or m v 0) ≡ some + get_or m v 0
    both = or_add_and some (get_or m v 0)

    pick : bit_or some (get_or m v 0) ≡ 0 → (u : ℕ) → Between lo (v + 1) u → Dec (u ≡ v) → get_or m u 0 ≡ 0
    pick z u o (yes e) = rw e (omega (arith, both, and_le_l some (get_or m v 0)))
    pick z u o (no d) =
        g.clear (omega (arith, both, and_le_r some (get_or m v 0))) u
        (record { from = o.from; below = omega (arith, o.below) })

pub gather_end : {lo hi some v : ℕ} {m : List ℕ} → Gathered lo hi m some v → hi ≤ v → AnyIs lo hi m (ltb 0 some)
gather_end {some = some} g l =
    record {
      clear = λ e u o. g.clear (omega (arith, ltb-false 0 some e)) u (record { from = o.from; below = omega (arith, o.below) });
      some = λ e h. omega (arith, ltb-true 0 some e, g.none h);
    }
