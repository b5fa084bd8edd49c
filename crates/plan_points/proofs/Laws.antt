-- The steps of the tests: one row, the split of a span, one more row, and the tick at which a need goes wrong.
use Prim.Native.Nat.{ℕ, ◌+◌, ◌-◌, ◌*◌, ◌≤◌, ◌<◌}
use native.Mathlib.Omega.{arith}
use native.Mathlib.Decide.{dec_lt}
use mathlib.Core.Path.{◌≡◌, refl, sym, ap, ◌∙◌, subst}
use mathlib.Core.Logic.{◌≢◌, ⊎_elim, inl, inr, dite}
use mathlib.Core.Bool.{Bool, true, false, not}
use Rattle.std.specs.Prelude.{◌⊎◌, length, get_or, drop, max, slice_range, ltb, Option, Some, None, MatchOption}
use Rattle.laws.specs.Bools.{clash}
use Rattle.std.proofs.lemmas.List.{length-take, length-drop, get_or-take, get_or-drop}
use mathlib.Core.List.{List}
use mir.Val.{bool_byte}
use borrow.Author.Tests.{eqb-true, eqb-false, ltb-true, ltb-false}
use Rattle.rules.specs.Sheet.{sets, clears, max_facts}
use Rattle.rules.specs.Plan.{distance_by}
use Rattle.laws.specs.Distance.{distance_by_same, distance_by_other, distance_by_within}
use Rattle.laws.specs.Test.{Says, says_of}
use Rattle.sorting.specs.Counting.{group_in}
use Rattle.plan_points.specs.Flat.{
  cell,
  groups,
  group_of,
  tick_in,
  entry_in,
  entry_at,
  tick_at,
  SpanOf,
  EveryIn,
  Serve,
  Harm,
  Source,
  Source.first,
  Source.set,
  Unharmed,
  never,
  FirstHarm,
  SourceOf,
  FirstHarmOf,
  FaultOf,
  Reaches,
  LastBelow,
  Latest,
  Later,
  OwnSet,
  OwnSetOf,
  WithOwn,
  Free,
}
use Rattle.plan_points.specs.Order.{InOrder, Ordered, SplitAt}
use Rattle.plan_points.specs.declared.Need.{Need}
use Rattle.plan_points.specs.declared.Span.{Span}
use Rattle.laws.specs.Set.{same_or_not}
use lib.Dec.{eqb}

-- ---- the distance

-- the test whether two numbers differ, from either side
pub differ : (i k : ℕ) → Says (i ≢ k) (not (eqb i k))
differ i k = go (eqb i k) refl
  where
    go : (t : Bool) → eqb i k ≡ t → Says (i ≢ k) (not t)
    go true q = λ other. other (eqb-true i k q)
    go false q = eqb-false i k q

pub differ_back : (i k : ℕ) → Says (i ≢ k) (not (eqb k i))
differ_back i k = says_of (λ d e. d (sym e), λ d e. d (sym e)) (not (eqb k i)) (differ k i)

-- the product with its number is the distance
pub distance_product : (g i k x : ℕ) (test : Bool) → x ≡ bool_byte test → Says (i ≢ k) test → g * x ≡ distance_by g i k
distance_product g i k x true e other = rw e (omega (arith, distance_by_other g i k other))
distance_product g i k x false e same =
    rw e (same_or_not i k (λ h. omega (arith, distance_by_same g i k h)) (λ other. absurd (same other)))

-- ---- one row

module _ (n : Need) (entry tick d : ℕ) where
  pub serves_says : (b : Bool) → d ≡ distance_by n.gap entry n.entry → Says (tick + d ≤ n.from) b → Says (Serve n entry tick) b
  serves_says b e h = rw (← e) h

  pub harms_says
      : (after : ℕ)
      → after ≤ tick
      → (b : Bool)
      → d ≡ distance_by n.gap n.entry entry
      → Says (n.to + d ≤ tick) b
      → Says (Harm n after entry tick) (not b)
  harms_says after l true e h = λ s. omega (arith, s.early)
  harms_says after l false e h = record { late = l; early = beyond (dec_lt tick (n.to + d)) }
    where
      beyond : Dec (tick < n.to + d) → tick < n.to + distance_by n.gap n.entry entry
      beyond (yes p) = omega arith
      beyond (no p) = absurd (h (omega arith))

-- ---- how late a source is, for arithmetic: one more than the first tick after it, 0 for none

abbrev pub rank : Option ℕ → ℕ
rank None = 0
rank (Some after) = after + 1

pub reached : (best : Option ℕ) (after : ℕ) → Reaches best after → after < rank best
reached None after h = absurd h
reached (Some b) after h = omega arith

pub reaches : (best : Option ℕ) (after : ℕ) → after < rank best → Reaches best after
reaches None after h = absurd (omega arith)
reaches (Some b) after h = omega arith

-- best after one more set is no earlier than either, and one of both
pub record Raised (n : Need) (entry tick : ℕ) (best r : Option ℕ) : Type 0 where
  pub up : rank best ≤ rank r
  pub beyond : Serve n entry tick → tick + 2 ≤ rank r
  pub which : (r ≡ best) ⊎ (Serve n entry tick × (r ≡ Some (tick + 1)))

pub raised : {n : Need} {x z : ℕ} {best r : Option ℕ} → Later n x z best r → Raised n x z best r
raised {z = z} {best = best} (Later.kept h) =
    record { up = omega arith; beyond = λ s. omega (arith, reached best (z + 1) (h s)); which = inl refl }
raised {z = z} {best = best} (Later.more s not) =
    record { up = omega (arith, below (dec_lt (z + 1) (rank best))); beyond = λ t. omega arith; which = inr (s, refl) }
  where
    below : Dec (z + 1 < rank best) → rank best ≤ z + 2
    below (yes h) = absurd (not (reaches best (z + 1) h))
    below (no h) = omega arith

-- what the test says, whether the best so far is no earlier
abbrev pub later_than : (tick : ℕ) → Option ℕ → Bool → Type 0
later_than tick best r = MatchOption best (r ≡ false) (λ b. r ≡ ltb tick b)

pub kept_by : (tick : ℕ) (best : Option ℕ) (r : Bool) → later_than tick best r → r ≡ true → Reaches best (tick + 1)
kept_by tick None r h e = absurd (clash e h)
kept_by tick (Some b) r h e = omega (arith, ltb-true tick b (sym h ∙ e))

pub passed_by : (tick : ℕ) (best : Option ℕ) (r : Bool) → later_than tick best r → r ≡ false → Reaches best (tick + 1) → ⊥
passed_by tick None r h e k = k
passed_by tick (Some b) r h e k = omega (arith, ltb-false tick b (sym h ∙ e))

-- ---- the split of a span

-- the number at a place of a slice
pub slice_cell : (rows : List ℕ) (lo hi i : ℕ) → lo + i < hi → get_or (slice_range rows lo hi) i 0 ≡ cell rows (lo + i)
unfolding cell
slice_cell rows lo hi i l = get_or-take (hi - lo) (drop lo rows) i 0 (omega arith) ∙ get_or-drop lo rows i 0

pub slice_long : (rows : List ℕ) (lo hi : ℕ) → lo ≤ hi → hi ≤ length rows → lo + length (slice_range rows lo hi) ≡ hi
slice_long rows lo hi l m = omega (arith, length-take (hi - lo) (drop lo rows), length-drop lo rows)

-- what is not yet known lies from low up to high
pub record Splitting (rows : List ℕ) (lo hi d u low high : ℕ) : Type 0 where
  pub from : lo ≤ low
  pub rises : low ≤ high
  pub to : high ≤ hi
  pub below : (q : ℕ) → lo ≤ q → q < low → tick_at rows q + d ≤ u
  pub above : (q : ℕ) → high ≤ q → q < hi → u < tick_at rows q + d

module _ {rows : List ℕ} {lo hi d u : ℕ} (o : InOrder rows lo hi) where
  pub splitting_start : Splitting rows lo hi d u lo hi
  splitting_start =
      record {
        from = omega arith;
        rises = o.rises;
        to = omega arith;
        below = λ q l m. absurd (omega arith);
        above = λ q l m. absurd (omega arith);
      }

  pub splitting_up
      : {low high m : ℕ}
      → Splitting rows lo hi d u low high
      → low ≤ m
      → m < high
      → tick_at rows m + d ≤ u
      → Splitting rows lo hi d u (m + 1) high
  splitting_up {m = m} w l h t =
      record {
        from = omega (arith, w.from);
        rises = omega arith;
        to = w.to;
        below = λ q a b. omega (arith, o.up q m a (omega arith) (omega (arith, w.to)));
        above = w.above;
      }

  pub splitting_down
      : {low high m : ℕ}
      → Splitting rows lo hi d u low high
      → low ≤ m
      → m < high
      → (tick_at rows m + d ≤ u → ⊥)
      → Splitting rows lo hi d u low m
  splitting_down {m = m} w l h t =
      record {
        from = w.from;
        rises = l;
        to = omega (arith, w.to);
        below = w.below;
        above = λ q a b. beyond q a b (dec_lt u (tick_at rows q + d));
      }
    where
      beyond : (q : ℕ) → m ≤ q → q < hi → Dec (u < tick_at rows q + d) → u < tick_at rows q + d
      beyond q a b (yes k) = k
      beyond q a b (no k) = absurd (t (omega (arith, o.up m q (omega (arith, w.from)) a b)))

  pub splitting_end : {low high : ℕ} → Splitting rows lo hi d u low high → high ≤ low → SplitAt rows lo hi d u low
  splitting_end w h =
      record {
        low = w.from;
        high = omega (arith, w.rises, w.to);
        below = w.below;
        above = λ q a b. w.above q (omega (arith, w.rises)) b;
      }

-- ---- the latest source

-- the sets before place r have been looked at
pub record Seeking (rows : List ℕ) (lo hi : ℕ) (n : Need) (i : Bool) (r : ℕ) (best : Option ℕ) : Type 0 where
  pub from : lo ≤ r
  pub to : r ≤ hi
  pub initially : i ≡ true → 1 ≤ rank best
  pub seen : (q : ℕ) → lo ≤ q → q < r → Serve n (entry_at rows q) (tick_at rows q) → tick_at rows q + 2 ≤ rank best
  pub sound : (after : ℕ) → best ≡ Some after → Source rows lo hi n i after

module _ {rows : List ℕ} {lo hi : ℕ} {n : Need} {i : Bool} (o : InOrder rows lo hi) where
  pub seeking_start
      : {r : ℕ} {best : Option ℕ} → SplitAt rows lo hi n.gap n.from r → LastBelow rows lo r i best → Seeking rows lo hi n i r best
  seeking_start {r} {best} w l = go i l (dec_lt lo r)
    where
      go : (j : Bool) → LastBelow rows lo r j best → Dec (lo < r) → Seeking rows lo hi n j r best
      go j p (yes h) =
          let e = p.row h in
          let high : rank best ≡ tick_at rows (r - 1) + 2 = rw e (omega arith) in
          record {
            from = w.low;
            to = w.high;
            initially = λ z. omega arith;
            seen = λ q a b s. omega (arith, o.up q (r - 1) a (omega arith) (omega (arith, w.high)));
            sound =
                λ a z.
                let same : tick_at rows (r - 1) + 1 ≡ a = cc in
                subst (λ (b : ℕ). Source rows lo hi n j b) same
                (set (r - 1) (omega arith) (omega (arith, w.high))
                (omega (
                  arith,
                  w.below (r - 1) (omega arith) (omega arith),
                  distance_by_within n.gap (entry_at rows (r - 1)) n.entry,
                )));
          }
      go true p (no h) =
          let e = p.none (omega arith) in
          record {
            from = w.low;
            to = w.high;
            initially = λ z. rw e (omega arith);
            seen = λ q a b s. absurd (omega arith);
            sound = λ a z. let same : 0 ≡ a = cc in subst (λ (b : ℕ). Source rows lo hi n true b) same (first refl);
          }
      go false p (no h) =
          let e = p.none (omega arith) in
          record {
            from = w.low;
            to = w.high;
            initially = λ z. cc;
            seen = λ q a b s. absurd (omega arith);
            sound = λ a z. cc;
          }

  module _ {r : ℕ} {best : Option ℕ} (w : Seeking rows lo hi n i r best) where
    -- no later row serves
    latest_from
        : ((q : ℕ) → r ≤ q → q < hi → Serve n (entry_at rows q) (tick_at rows q) → ⊥) → Latest rows lo hi n i best
    latest_from none = record { sound = w.sound; latest = λ a s. reaches best a (early s) }
      where
        early : {a : ℕ} → Source rows lo hi n i a → a < rank best
        early (first h) = omega (arith, w.initially h)
        early (set q l g s) = go (dec_lt q r)
          where
            go : Dec (q < r) → tick_at rows q + 1 < rank best
            go (yes k) = omega (arith, w.seen q l k s)
            go (no k) = absurd (none q (omega arith) g s)

    pub seeking_past : r < hi → n.from < tick_at rows r → Latest rows lo hi n i best
    seeking_past h l = latest_from (λ q a b s. omega (arith, o.up r q w.from a b))

    pub seeking_end : hi ≤ r → Latest rows lo hi n i best
    seeking_end h = latest_from (λ q a b s. omega arith)

    -- of the others only the need's own set serves
    module _ (v : SplitAt rows lo hi n.gap n.from r) {own : ℕ} (x : OwnSet rows lo hi n own) where
      own_row
          : (q : ℕ)
          → r ≤ q
          → q < hi
          → Serve n (entry_at rows q) (tick_at rows q)
          → (group_in own ≡ group_of sets n.fact) × (entry_in own ≡ n.entry) × (cell rows q ≡ own)
      own_row q a b s =
          same_or_not (entry_at rows q) n.entry
          (λ e.
          let y = x.only q (omega (arith, w.from)) b e (v.above q a b) in
          (y.0, ap entry_in (sym y.1) ∙ e, y.1))
          (λ e. absurd (omega (arith, s, v.above q a b, distance_by_other n.gap (entry_at rows q) n.entry e)))

      pub seeking_own : {u : Option ℕ} → WithOwn n own best u → Latest rows lo hi n i u
      seeking_own (WithOwn.other d) = latest_from (λ q a b s. let y = own_row q a b s in d y.0 y.1)
      seeking_own {u} (WithOwn.ours g e late) =
          record {
            sound = λ a p. ⊎_elim (λ q. w.sound a (sym q ∙ p)) (λ q. here a p q.0 q.1) l.which;
            latest = λ a s. reaches u a (early s);
          }
        where
          l : Raised n n.entry (tick_in own) best u
          l = raised late

          here : (a : ℕ) → u ≡ Some a → Serve n n.entry (tick_in own) → u ≡ Some (tick_in own + 1) → Source rows lo hi n i a
          here a p s q =
              let z = x.stands g in
              let t = z.0 in
              let tick : tick_at rows t ≡ tick_in own = ap tick_in z.3 in
              let near = distance_by_same n.gap (entry_at rows t) n.entry (ap entry_in z.3 ∙ e) in
              let next : tick_in own + 1 ≡ a = cc in
              let same : tick_at rows t + 1 ≡ a = omega arith in
              subst (λ (b : ℕ). Source rows lo hi n i b) same (set t z.1 z.2 (omega (arith, s, near, tick)))

          early : {a : ℕ} → Source rows lo hi n i a → a < rank u
          early (first h) = omega (arith, w.initially h, l.up)
          early (set q m k s) = go (dec_lt q r)
            where
              go : Dec (q < r) → tick_at rows q + 1 < rank u
              go (yes y) = omega (arith, w.seen q m y s, l.up)
              go (no y) =
                  let o = own_row q (omega arith) k s in
                  let tick : tick_at rows q ≡ tick_in own = ap tick_in o.2 in
                  let near = distance_by_same n.gap n.entry n.entry refl in
                  omega (arith, tick, l.beyond (omega (arith, s, near, tick)))

-- a set of another instance is not the need's own
pub own_other : {n : Need} {own : ℕ} {best : Option ℕ} → (entry_in own ≡ n.entry → ⊥) → WithOwn n own best best
own_other d = WithOwn.other (λ g e. d e)

-- ---- clears that harm

-- no clear before place r harms
pub record Sparing (rows : List ℕ) (lo hi : ℕ) (n : Need) (after r : ℕ) : Type 0 where
  pub from : lo ≤ r
  pub to : r ≤ hi
  pub seen : (q : ℕ) → lo ≤ q → q < r → Harm n after (entry_at rows q) (tick_at rows q) → ⊥

module _ {rows : List ℕ} {lo hi : ℕ} {n : Need} {after : ℕ} (o : InOrder rows lo hi) where
  pub sparing_start : {r : ℕ} → SplitAt rows lo hi 1 after r → Sparing rows lo hi n after r
  sparing_start w =
      record { from = w.low; to = w.high; seen = λ q a b h. omega (arith, w.below q a b, h.late) }

  module _ {r : ℕ} (w : Sparing rows lo hi n after r) where
    pub sparing_step
        : r < hi → (Harm n after (entry_at rows r) (tick_at rows r) → ⊥) → Sparing rows lo hi n after (r + 1)
    sparing_step h d =
        record {
          from = omega (arith, w.from);
          to = omega arith;
          seen =
              λ q a b.
              same_or_not q r
              (λ e. subst (λ j. Harm n after (entry_at rows j) (tick_at rows j) → ⊥) (sym e) d)
              (λ e. w.seen q a (omega arith));
        }

    unharmed_from
        : ((q : ℕ) → r ≤ q → q < hi → Harm n after (entry_at rows q) (tick_at rows q) → ⊥) → Unharmed rows lo hi n after
    unfolding Unharmed EveryIn
    unharmed_from none q a b = go (dec_lt q r)
      where
        go : Dec (q < r) → Harm n after (entry_at rows q) (tick_at rows q) → ⊥
        go (yes k) = w.seen q a k
        go (no k) = none q (omega arith) b

    pub sparing_past : r < hi → n.to + n.gap ≤ tick_at rows r → FirstHarm rows lo hi n after never
    sparing_past h l =
        FirstHarm.none
        (unharmed_from
        (λ q a b d.
        omega (arith, o.up r q w.from a b, d.early, distance_by_within n.gap n.entry (entry_at rows q))))

    pub sparing_end : hi ≤ r → FirstHarm rows lo hi n after never
    sparing_end h = FirstHarm.none (unharmed_from (λ q a b d. omega arith))

    pub sparing_stop
        : r < hi → Harm n after (entry_at rows r) (tick_at rows r) → FirstHarm rows lo hi n after (tick_at rows r)
    unfolding EveryIn
    sparing_stop h d = FirstHarm.harm r w.from h d (λ q a b x. go q a b x (dec_lt q r))
      where
        go
            : (q : ℕ)
            → lo ≤ q
            → q < hi
            → Harm n after (entry_at rows q) (tick_at rows q)
            → Dec (q < r)
            → tick_at rows r ≤ tick_at rows q
        go q a b x (yes k) = absurd (w.seen q a k x)
        go q a b x (no k) = o.up r q w.from (omega arith) b

-- ---- the tick at which a need goes wrong

span_order
    : {first rows : List ℕ} {s : Span} {g : ℕ}
    → Ordered first rows
    → group_of sets 0 ≤ g
    → g < groups
    → SpanOf first g s
    → InOrder rows s.lo s.hi
span_order o l m e = rw (e.lo, e.hi) (o.spans _ l m)

module _ {first rows : List ℕ} {f : ℕ} (o : Ordered first rows) (small : f < max_facts) where
  pub sets_order : {s : Span} → SpanOf first (group_of sets f) s → InOrder rows s.lo s.hi
  unfolding group_of max_facts
  sets_order e = span_order o (omega arith) (omega arith) e

  pub clears_order : {s : Span} → SpanOf first (group_of clears f) s → InOrder rows s.lo s.hi
  unfolding group_of max_facts
  clears_order e = span_order o (omega arith) (omega arith) e

pub own_in : {first rows : List ℕ} {n : Need} {own : ℕ} {s : Span} → OwnSetOf first rows n own → SpanOf first (group_of sets n.fact) s →
    OwnSet rows s.lo s.hi n own
own_in x e = rw (e.lo, e.hi) x

module _ (firsts rows : List ℕ) (n : Need) (i : Bool) {s : Span} (p : SpanOf firsts (group_of sets n.fact) s) where
  pub fault_none : Latest rows s.lo s.hi n i None → FaultOf firsts rows n i n.from
  fault_none h = FaultOf.unsourced (λ a v. h.latest a (rw (p.lo, p.hi) v))

  module _ {after : ℕ} (h : Latest rows s.lo s.hi n i (Some after)) {t : Span} (q : SpanOf firsts (group_of clears n.fact) t) {u : ℕ}
      (f : FirstHarm rows t.lo t.hi n after u) where
    source : SourceOf firsts rows n i after
    source = rw (p.lo, p.hi) at (h.sound after refl)

    top : (a : ℕ) → SourceOf firsts rows n i a → a ≤ after
    top a v = h.latest a (rw (p.lo, p.hi) v)

    first_of : FirstHarmOf firsts rows n after u
    first_of = rw (q.lo, q.hi) at f

    pub fault_at : (r : ℕ) → r ≡ max u n.from → FaultOf firsts rows n i r
    fault_at r e =
        dite (dec_lt u n.from)
        (λ l. let begin : r ≡ n.from = omega arith in rw begin (FaultOf.early after u source top first_of l))
        (λ l. let clear : r ≡ u = omega arith in rw clear (FaultOf.late after u source top first_of (omega arith)))

-- ---- point 2

module _ (firsts rows : List ℕ) (f at : ℕ) {s : Span} (p : SpanOf firsts (group_of clears f) s) (o : InOrder rows s.lo s.hi)
    {r : ℕ} (w : SplitAt rows s.lo s.hi 1 at r) where
  free_from : ((q : ℕ) → s.lo ≤ q → q < s.hi → tick_at rows q ≡ at → ⊥) → Free firsts rows f at
  unfolding Free EveryIn
  free_from h = rw (p.lo, p.hi) at h

  pub free_end : s.hi ≤ r → Free firsts rows f at
  free_end l = free_from (λ q a b e. omega (arith, w.below q a (omega arith)))

  free_here : r < s.hi → (tick_at rows r ≡ at → ⊥) → Free firsts rows f at
  free_here l d = free_from (λ q a b e. go q a b e (dec_lt q r))
    where
      go : (q : ℕ) → s.lo ≤ q → q < s.hi → tick_at rows q ≡ at → Dec (q < r) → ⊥
      go q a b e (yes k) = omega (arith, w.below q a k)
      go q a b e (no k) =
          d (omega (arith, o.up r q w.low (omega arith) b, w.above r (omega arith) l))

  free_not : r < s.hi → tick_at rows r ≡ at → Free firsts rows f at → ⊥
  unfolding Free EveryIn
  free_not l e h = h r (omega (arith, p.lo, w.low)) (omega (arith, p.hi)) e

  pub free_says : (t : ℕ) → r < s.hi → t ≡ tick_at rows r → Says (Free firsts rows f at) (not (eqb t at))
  free_says t l e = go (eqb t at) refl
    where
      go : (b : Bool) → eqb t at ≡ b → Says (Free firsts rows f at) (not b)
      go true z = free_not l (sym e ∙ eqb-true t at z)
      go false z = free_here l (λ y. eqb-false t at z (e ∙ y))
