-- All pairs: the look through a grid, what is watched, the marking, and that its end is the orders.
use Prim.Native.Nat.{ℕ, zero, suc, ◌+◌, ◌≤◌, ◌<◌}
use native.Mathlib.Omega.{arith}
use native.Mathlib.Decide.{dec_lt}
use native.Mathlib.Nat.{eq-or-lt_of_le}
use mathlib.Core.Path.{◌≡◌, refl, sym, ap, subst, ◌∙◌}
use mathlib.Core.Logic.{◌↔◌, ◌⊎◌, inl, inr, ⊎_elim, dite}
use mathlib.Core.Bool.{Bool, true, false, not, true≢false}
use mathlib.Core.List.{List, [], ◌∷◌, ◌++◌}
use Rattle.std.specs.Prelude.{Option, None, Some}
use Rattle.std.specs.Option.{is_some}
use Rattle.std.proofs.lemmas.Grind.{not_there}
use Rattle.std.proofs.Math.Seq.{get_or-append_seam}
use lib.ListN.{get_or-append, length-append}
use lib.Dec.{ltb}
use lib.ListN.{length, get_or, set, replicate, length-set, length-replicate}
use lib.Seq.{get_or-set_same, get_or-set_other}
use borrow.Author.Tests.{ltb-true, ltb-false}
use Rattle.rules.specs.Count.{count}
use Rattle.rules.specs.Sheet as rules
use Rattle.rules.specs.Sheet.{sets, clears}
use Rattle.rules.specs.Wanted.{OfPresent, WantedJob}
use Rattle.laws.specs.Present.{of_wanted}
use Rattle.rules.specs.Order.{shown}
use Rattle.theory.specs.Computed.Mark.{MarkedGuard, marked, AllGuarded, AllGuardedFirst, LastSound, last_mark, marked_last, marked_first}
use Rattle.laws.specs.Formed.{Formed}
use Rattle.laws.specs.Events.{small}
use Rattle.laws.specs.Set.{same_or_not, set_cases}
use Rattle.laws.specs.Counts.{bit, count_suc, count_more}
use Rattle.index.specs.View.{ByFactOf}
use Rattle.index.specs.Laws.{present_event}
use Rattle.order_shown.specs.declared.Spot.{Spot}
use Rattle.order_shown.specs.declared.Orders.{Orders}
use Rattle.order_shown.specs.declared.Order.{Order}
use Rattle.order_shown.specs.declared.Order.TheVariants.{Last, First}
use Rattle.order_shown.specs.View.{WantedAre, OrdersOf}
use Rattle.laws.specs.Test.{Tells, Says}
use Rattle.laws.specs.Limits.{most_facts}
use Rattle.order_guard.specs.Pair.{cell_of, mark_of, In, column_type, GuardBy, Guarded, Two}
use Rattle.order_guard.specs.Basis.{Read, Grounded, sheet_of}
use Rattle.order_shown.specs.Grid.{row_column, col_column, Paired, Unpaired, Plain, Open, Fine, RowFine, Sides, sides_of, RowsFine, AsksStop, OpenColumn, AsksSeek, Found, Seeks, PairsPassed, Watched, no_spot, spot_at, MarkedOrWatched, Long, Moved, StateTo, State, AsksSettle, AsksVisit, InRest, RestLists, SpreadOf, Untried, Next, LastOf, FirstOf}
use Rattle.laws.specs.Throughout.{Throughout, throughout_none, throughout_more, throughout_join, throughout_map}
use Rattle.order_guard.specs.Laws.{guarded_by, by, mark_none, mark_past}

-- ---- marks

-- a mark that was read
pub marked_is : (m : List Bool) (k : ℕ) → get_or m k false ≡ true → In m k
unfolding mark_of
marked_is m k h = h

pub not_marked : (m : List Bool) (k : ℕ) → get_or m k false ≡ false → In m k → ⊥
unfolding mark_of
not_marked m k h i = true≢false (sym i ∙ h)

module _ (m : List Bool) (f : ℕ) where
  mark_here : f < length m → In (set m f true) f
  unfolding mark_of
  mark_here l = get_or-set_same m f true false l

  unset : (k : ℕ) → (k ≡ f → ⊥) → mark_of (set m f true) k ≡ mark_of m k
  unfolding mark_of
  unset k n = get_or-set_other m f k true false n

  mark_keep : (k : ℕ) → f < length m → In m k → In (set m f true) k
  unfolding mark_of
  mark_keep k l h =
      same_or_not k f (λ q. subst (In (set m f true)) (sym q) (mark_here l)) (λ n. other n)
    where
      other : (k ≡ f → ⊥) → In (set m f true) k
      other n = get_or-set_other m f k true false n ∙ h

  -- a mark past the end is none, so that no bound is asked
  mark_stays : (k : ℕ) → In m k → In (set m f true) k
  mark_stays k h =
      same_or_not k f
      (λ q.
      dite (dec_lt f (length m)) (λ l. mark_keep k l h)
      (λ g. absurd (true≢false (sym h ∙ sym (mark_past m k (omega (arith, q, g)))))))
      (λ n. other n)
    where
      other : (k ≡ f → ⊥) → In (set m f true) k
      other n = unset k n ∙ h

  mark_old : (k : ℕ) → In (set m f true) k → In m k ⊎ (k ≡ f)
  unfolding mark_of
  mark_old k h = same_or_not k f (λ q. inr q) (λ n. inl (other n))
    where
      other : (k ≡ f → ⊥) → In m k
      other n = sym (get_or-set_other m f k true false n) ∙ h

-- the watched pair of fact f is put in its place
module _ (at : List Spot) (f : ℕ) (spot : Spot) where
  spot_here : f < length at → spot_at (set at f spot) f ≡ spot
  spot_here l = get_or-set_same at f spot no_spot l

  spot_other : (k : ℕ) → (k ≡ f → ⊥) → spot_at (set at f spot) k ≡ spot_at at k
  spot_other k n = get_or-set_other at f k spot no_spot n

-- the facts not yet tried
unfoldable pub left : List Bool → ℕ
left d = count (λ k. not (mark_of d k)) most_facts

-- a test that holds nowhere more and at some place less
count_fewer
    : (p q : ℕ → Bool) (i n : ℕ)
    → i < n
    → ((e : ℕ) → bit (p e) ≤ bit (q e))
    → bit (p i) < bit (q i)
    → count p n < count q n
count_fewer p q i zero l h d = absurd (omega arith)
count_fewer p q i (suc n) l h d =
    ⊎_elim
    (λ (e : i ≡ n). omega (arith, count_suc p n, count_suc q n, count_more p q n h, subst (λ k. bit (p k) < bit (q k)) e d))
    (λ (m : i < n). omega (arith, count_suc p n, count_suc q n, h n, count_fewer p q i n m h d))
    (eq-or-lt_of_le (omega arith))

fewer : (t u : Bool) → (u ≡ true → t ≡ true) → bit (not t) ≤ bit (not u)
fewer true u h = omega arith
fewer false true h = absurd (true≢false (sym (h refl)))
fewer false false h = omega arith

less : (t u : Bool) → t ≡ true → (u ≡ true → ⊥) → bit (not t) < bit (not u)
less true true p q = absurd (q refl)
less true false p q = omega arith
less false u p q = absurd (true≢false (sym p))

pub left_less : (d : List Bool) (p : ℕ) → length d ≡ most_facts → p < most_facts → (In d p → ⊥) → left (set d p true) < left d
unfolding left
left_less d p long l n =
    count_fewer (λ k. not (mark_of (set d p true) k)) (λ k. not (mark_of d k)) p most_facts l
    (λ k. fewer (mark_of (set d p true) k) (mark_of d k) (mark_keep d p k (omega arith)))
    (less (mark_of (set d p true) p) (mark_of d p) (mark_here d p (omega arith)) n)

-- ---- one pair

pub open_says
    : (s : rules.Sheet) (m jobs : List Bool) (both : Bool) (row col : ℕ)
    → (both ≡ true → In jobs (s.event row).job)
    → In jobs (s.event col).job
    → (r : Bool)
    → Says (Guarded s m row col) r
    → Tells (Open s m jobs both row col) (Fine s m jobs both row col) (not r)
open_says s m jobs both row col p q true g = record { guarded = λ _ _. g }
open_says s m jobs both row col p q false g = record { row_wanted = p; col_wanted = q; unguarded = g }

guarded_grow
    : {s : rules.Sheet} (m m' : List Bool) {row col : ℕ}
    → ((p : ℕ) → In m p → In m' p)
    → Guarded s m row col
    → Guarded s m' row col
guarded_grow m m' up (marked p u x h e c w) = marked p u x (up p h) e c w

fine_grow
    : {s : rules.Sheet} {m m' jobs : List Bool} {both : Bool} {row col : ℕ}
    → ((p : ℕ) → In m p → In m' p)
    → Fine s m jobs both row col
    → Fine s m' jobs both row col
fine_grow {m = m} {m' = m'} up h = record { guarded = λ p q. guarded_grow m m' up (h.guarded p q) }

-- ---- the look through a grid: the rows of fact f from a to r are fine, and row r up to column q

pub record Seeking (s : rules.Sheet) (g : Sides) (m : List Bool) (both : Bool) (f a r q : ℕ) : Type 0 where
  pub low : a ≤ r
  pub fine : RowsFine s g m both f a r
  pub col_low : cell_of g.col_first f ≤ q
  pub begun : RowFine s m g.jobs both g.cols (cell_of g.col_first f) q (cell_of g.rows r)

pub seek_start
    : {s : rules.Sheet} {g : Sides} {m : List Bool} {both : Bool} {f : ℕ} {start : Spot}
    → AsksSeek s g m both f start
    → Seeking s g m both f start.row start.row start.col
seek_start {start = start} asks =
    record { low = omega arith; fine = throughout_none start.row; col_low = asks.col_low; begun = asks.begun }

module _ {s : rules.Sheet} {g : Sides} {m : List Bool} {both : Bool} {f a r q : ℕ} (w : Seeking s g m both f a r q)
    {to e : ℕ} (isTo : to ≡ cell_of g.col_first (f + 1)) (is : e ≡ cell_of g.rows r)
  where
    pub seek_stop
        : {n : ℕ}
        → r < cell_of g.row_first (f + 1)
        → OpenColumn s m g.jobs both g.cols e q to n
        → Found s g m both f a (record { row = r; col = n })
    seek_stop {n} l stops =
        record {
          low = w.low;
          high = l;
          rows_fine = w.fine;
          col_low = omega (arith, w.col_low, stops.low);
          col_high = omega (arith, stops.high);
          fine = throughout_join w.begun (subst (λ x. RowFine s m g.jobs both g.cols q n x) is stops.fine);
          opens = subst (λ x. Open s m g.jobs both x (cell_of g.cols n)) is stops.opens;
        }

    pub seek_next
        : {from : ℕ}
        → from ≡ cell_of g.col_first f
        → RowFine s m g.jobs both g.cols q to e
        → Seeking s g m both f a (r + 1) from
    seek_next {from} isFrom fine =
        record {
          low = omega (arith, w.low);
          fine =
              throughout_more w.fine
              (subst (λ n. RowFine s m g.jobs both g.cols (cell_of g.col_first f) n (cell_of g.rows r)) isTo
              (throughout_join w.begun (subst (λ x. RowFine s m g.jobs both g.cols q to x) is fine)));
          col_low = omega (arith, isFrom);
          begun = record { each = λ k h i. absurd (omega (arith, isFrom)) };
        }

pub seek_none
    : {s : rules.Sheet} {g : Sides} {m : List Bool} {both : Bool} {f a r q : ℕ}
    → Seeking s g m both f a r q
    → cell_of g.row_first (f + 1) ≤ r
    → RowsFine s g m both f a (cell_of g.row_first (f + 1))
seek_none w l = record { each = λ k h i. w.fine.each k h (omega arith) }

-- ---- the sides of an order

-- they are those of the sheet
pub record SidesOf (s : rules.Sheet) (row_kind colKind : ℕ) (g : Sides) : Type 0 where
  pub rows : ByFactOf s row_kind g.row_first g.rows
  pub cols : ByFactOf s colKind g.col_first g.cols
  pub rows_long : s.events ≤ length g.rows
  pub cols_long : s.events ≤ length g.cols
  pub job_wanted : (j : ℕ) → In g.jobs j → (WantedJob s j → ⊥) → ⊥
  pub job_marked : (j : ℕ) → WantedJob s j → In g.jobs j

module _ {s : rules.Sheet} {jobs : List Bool} (wanted : ∥ WantedAre s jobs ∥₁) where
  -- a mark for each job
  pub jobs_long : {j : ℕ} → j < s.jobs → j < length jobs
  jobs_long {j} l = go (dec_lt j (length jobs))
    where
      go : Dec (j < length jobs) → j < length jobs
      go (yes h) = h
      go (no h) = absurd (not_there wanted (λ w. h (omega (arith, w.long))))

  jobs_wanted : (j : ℕ) → In jobs j → (WantedJob s j → ⊥) → ⊥
  unfolding mark_of
  jobs_wanted j i n = not_there wanted (λ w. n (w.job_wanted j i))

  jobs_marked : (j : ℕ) → WantedJob s j → In jobs j
  unfolding mark_of
  jobs_marked j want = go (get_or jobs j false) (λ h. not_there wanted (λ w. h (w.job_marked j want)))
    where
      go : (t : Bool) → ((t ≡ true → ⊥) → ⊥) → t ≡ true
      go true h = refl
      go false h = absurd (h (λ q. true≢false (sym q)))

pub sides_are
    : {k : Read} {jobs : List Bool}
    → Grounded k
    → ∥ WantedAre (sheet_of k) jobs ∥₁
    → (o : Order)
    → SidesOf (sheet_of k) (column_type (row_column o)) (column_type (col_column o)) (sides_of o jobs k.columns)
sides_are ground wanted Last =
    record {
      rows = ground.index.sets;
      cols = ground.index.clears;
      rows_long = ground.index.long;
      cols_long = ground.index.long;
      job_wanted = jobs_wanted wanted;
      job_marked = jobs_marked wanted;
    }
sides_are ground wanted First =
    record {
      rows = ground.index.clears;
      cols = ground.index.sets;
      rows_long = ground.index.long;
      cols_long = ground.index.long;
      job_wanted = jobs_wanted wanted;
      job_marked = jobs_marked wanted;
    }

-- ---- the events of a side

module _ {s : rules.Sheet} {kind : ℕ} {first event : List ℕ} (side : ByFactOf s kind first event) (f k : ℕ) (inFacts : f < s.facts)
    (low : cell_of first f ≤ k) (high : k < cell_of first (f + 1))
  where
    side_is : OfPresent s (cell_of event k) (s.event (cell_of event k)).job kind f
    side_is = side.sound f k inFacts low high

record Place (first event : List ℕ) (f e : ℕ) : Type 0 where
  pub at : ℕ
  pub low : cell_of first f ≤ at
  pub high : at < cell_of first (f + 1)
  pub is : cell_of event at ≡ e

side_place
    : {s : rules.Sheet} {kind : ℕ} {first event : List ℕ}
    → ByFactOf s kind first event
    → {e j f : ℕ}
    → f < s.facts
    → OfPresent s e j kind f
    → Place first event f e
side_place side {e} {j} {f} l is = let w = side.whole e j f l is in record { at = w.0; low = w.1; high = w.2; is = w.3 }

-- ---- all pairs of a fact

-- every row is fine
abbrev pub AllFine : rules.Sheet → Sides → (m : List Bool) → (both : Bool) → (f n : ℕ) → Type 0
AllFine s g m both f n = RowsFine s g m both f (cell_of g.row_first f) n

module _ (s : rules.Sheet) (m : List Bool) (i v a y : ℕ) where
  of_jobs : (s.event v).job ≡ i → (s.event y).job ≡ a → Guarded s m v y → MarkedGuard s (λ p. In m p) i v a y
  of_jobs p q g = subst (λ j. MarkedGuard s (λ p. In m p) j v a y) p (subst (λ j. MarkedGuard s (λ p. In m p) (s.event v).job v j y) q g)

module _ {s : rules.Sheet} {row_kind colKind : ℕ} {g : Sides} (ok : Formed s) (of : SidesOf s row_kind colKind g) where
  all_fine
      : (m : List Bool) (both : Bool) (f i v a y : ℕ)
      → f < s.facts
      → AllFine s g m both f (cell_of g.row_first (f + 1))
      → OfPresent s v i row_kind f
      → OfPresent s y a colKind f
      → (both ≡ true → In g.jobs i)
      → In g.jobs a
      → MarkedGuard s (λ p. In m p) i v a y
  all_fine m both f i v a y l all row col wantsRow wantsCol =
      let r = side_place of.rows l row in
      let c = side_place of.cols l col in
      let h = (all.each r.at r.low r.high).each c.at c.low c.high in
      let h = subst (λ e. Fine s m g.jobs both e (cell_of g.cols c.at)) r.is h in
      let h : Fine s m g.jobs both v y = subst (λ e. Fine s m g.jobs both v e) c.is h in
      of_jobs s m i v a y row.is.of_job col.is.of_job
      (h.guarded (λ b. subst (In g.jobs) (sym row.is.of_job) (wantsRow b)) (subst (In g.jobs) (sym col.is.of_job) wantsCol))

-- a row and a column of one fact
pub pair_two
    : {s : rules.Sheet} {row_kind colKind : ℕ} {g : Sides}
    → SidesOf s row_kind colKind g
    → (f i k : ℕ)
    → f < s.facts
    → cell_of g.row_first f ≤ i
    → i < cell_of g.row_first (f + 1)
    → cell_of g.col_first f ≤ k
    → k < cell_of g.col_first (f + 1)
    → Two s (cell_of g.rows i) (cell_of g.cols k)
pair_two of f i k l row_low row_high col_low col_high =
    record {
      row_of = present_event (side_is of.rows f i l row_low row_high);
      col_of = present_event (side_is of.cols f k l col_low col_high);
    }

-- the events of fact f stand in the column of events
pub rows_in
    : {s : rules.Sheet} {row_kind colKind : ℕ} {g : Sides}
    → SidesOf s row_kind colKind g
    → (f i : ℕ)
    → f < s.facts
    → i < cell_of g.row_first (f + 1)
    → i < length g.rows
rows_in of f i l h = omega (arith, of.rows_long, of.rows.within (f + 1) (omega arith))

pub cols_in
    : {s : rules.Sheet} {row_kind colKind : ℕ} {g : Sides}
    → SidesOf s row_kind colKind g
    → (f k : ℕ)
    → f < s.facts
    → k ≤ cell_of g.col_first (f + 1)
    → k ≤ length g.cols
cols_in of f k l h = omega (arith, of.cols_long, of.cols.within (f + 1) (omega arith))

cols_below
    : {s : rules.Sheet} {row_kind colKind : ℕ} {g : Sides}
    → SidesOf s row_kind colKind g
    → (f k : ℕ)
    → f < s.facts
    → k < cell_of g.col_first (f + 1)
    → k < length g.cols
cols_below of f k l h = omega (arith, of.cols_long, of.cols.within (f + 1) (omega arith))

-- a row with its columns
pub seek_asks
    : {s : rules.Sheet} {row_kind colKind : ℕ} {g : Sides} {m : List Bool} {both : Bool} {f a r q to e : ℕ}
    → SidesOf s row_kind colKind g
    → Seeking s g m both f a r q
    → f < s.facts
    → cell_of g.row_first f ≤ a
    → r < cell_of g.row_first (f + 1)
    → to ≡ cell_of g.col_first (f + 1)
    → e ≡ cell_of g.rows r
    → AsksStop s g.cols e q to
seek_asks {s} {g = g} {f = f} {r = r} {to = to} of w l low high isTo is =
    record {
      pairs =
          λ k i h.
          subst (λ x. Two s x (cell_of g.cols k)) (sym is)
          (pair_two of f r k l (omega (arith, w.low)) high (omega (arith, w.col_low)) (omega arith));
      long = cols_in of f to l (omega arith);
    }

-- a fact without a pair
unpaired_none
    : {s : rules.Sheet} {row_kind colKind : ℕ} {g : Sides}
    → SidesOf s row_kind colKind g
    → (f v i y a : ℕ)
    → f < s.facts
    → Unpaired g.row_first g.col_first f
    → OfPresent s v i row_kind f
    → OfPresent s y a colKind f
    → ⊥
unpaired_none of f v i y a l (inl h) row col = let r = side_place of.rows l row in omega (arith, r.low, r.high)
unpaired_none of f v i y a l (inr h) row col = let r = side_place of.cols l col in omega (arith, r.low, r.high)

-- ---- watching

passed_grow
    : {s : rules.Sheet} {g : Sides} {m m' : List Bool} {f : ℕ} {spot : Spot}
    → ((p : ℕ) → In m p → In m' p)
    → PairsPassed s g m f spot
    → PairsPassed s g m' f spot
passed_grow up w =
    record {
      row_low = w.row_low;
      col_low = w.col_low;
      before = throughout_map (λ k h. throughout_map (λ l. fine_grow up) h) w.before;
      begun = throughout_map (λ l. fine_grow up) w.begun;
    }

watched_grow
    : {s : rules.Sheet} {g : Sides} {m m' d d' : List Bool} {f : ℕ} {spot : Spot}
    → ((p : ℕ) → In m p → In m' p)
    → ((p : ℕ) → In d' p → In d p)
    → Watched s g m d f spot
    → Watched s g m' d' f spot
watched_grow up down w =
    record {
      passed = passed_grow up w.passed;
      row_in = w.row_in;
      col_in = w.col_in;
      row_long = w.row_long;
      col_long = w.col_long;
      wanted = w.wanted;
      opens = λ p h. w.opens p (down p h);
    }

-- a fact that is not marked is watched
settled_open
    : {s : rules.Sheet} {g : Sides} {d : List Bool} (m : List Bool) (at : List Spot) (f : ℕ)
    → (In m f → ⊥)
    → MarkedOrWatched s g m d at f
    → Watched s g m d f (spot_at at f)
settled_open m at f n h = ⊎_elim (λ i. absurd (n i)) (λ w. w) h

-- one more fact is tried, and does not guard the pair
watched_more
    : {s : rules.Sheet} {g : Sides} {m d : List Bool} {f : ℕ} {spot : Spot} (p : ℕ)
    → (GuardBy s p (cell_of g.rows spot.row) (cell_of g.cols spot.col) → ⊥)
    → Watched s g m d f spot
    → Watched s g m (set d p true) f spot
watched_more {s} {g} {d = d} {spot = spot} p n w =
    record {
      passed = w.passed;
      row_in = w.row_in;
      col_in = w.col_in;
      row_long = w.row_long;
      col_long = w.col_long;
      wanted = w.wanted;
      opens = λ q h by.
          ⊎_elim (λ i. w.opens q i by)
          (λ (e : q ≡ p). n (subst (λ k. GuardBy s k (cell_of g.rows spot.row) (cell_of g.cols spot.col)) e by))
          (mark_old d p q h);
    }

-- ---- one fact is looked at

module _ {s : rules.Sheet} {g : Sides} {f : ℕ} {m : List Bool} {at : List Spot} (long : Long m at) (sound : LastSound s (λ p. In m p)) where
  moved_none : {d : List Bool} → MarkedOrWatched s g m d at f → Moved s g f d m at m at
  moved_none h = record { long = long; sound = sound; grown = λ k i. i; spot = λ k n. refl; here = h }

  pub moved_watch : (spot : Spot) → f < most_facts → Watched s g m m f spot → Moved s g f m m at m (set at f spot)
  moved_watch spot l w =
      record {
        long = record { marks = long.marks; places = simp length-set long.places };
        sound = sound;
        grown = λ k i. i;
        spot = λ k n. spot_other at f spot k n;
        here = inr (subst (λ x. Watched s g m m f x) (sym (spot_here at f spot (omega (arith, long.places)))) w);
      }

  pub moved_mark
      : f < most_facts
      → AllGuarded s (λ p. In m p) f
      → Moved s g f m m at (set m f true) at
  moved_mark l all =
      record {
        long = record { marks = simp length-set long.marks; places = long.places };
        sound = last_mark sound all (mark_old m f);
        grown = λ k. mark_keep m f k (omega (arith, long.marks));
        spot = λ k n. refl;
        here = inl (mark_here m f (omega (arith, long.marks)));
      }

module _ {s : rules.Sheet} {g : Sides} {f : ℕ} {d m : List Bool} {at : List Spot} {m' : List Bool} {at' : List Spot}
    (moved : Moved s g f d m at m' at')
  where
    moved_fewer : (d' : List Bool) → ((p : ℕ) → In d' p → In d p) → Moved s g f d' m at m' at'
    moved_fewer d' down =
        record {
          long = moved.long;
          sound = moved.sound;
          grown = moved.grown;
          spot = moved.spot;
          here = ⊎_elim (λ i. inl i) (λ w. inr (watched_grow (λ p i. i) down w)) moved.here;
        }

    settled_other
        : (e : List Bool) (k : ℕ)
        → (k ≡ f → ⊥)
        → MarkedOrWatched s g m e at k
        → MarkedOrWatched s g m' e at' k
    settled_other e k n h =
        ⊎_elim
        (λ i. inl (moved.grown k i))
        (λ w. inr (subst (λ x. Watched s g m' e k x) (sym (moved.spot k n)) (watched_grow moved.grown (λ p i. i) w)))
        h

    -- the facts below it stay settled, and it is settled now
    settled_next
        : (e : List Bool)
        → ((p : ℕ) → In e p → In d p)
        → Throughout (MarkedOrWatched s g m e at) 0 f
        → Throughout (MarkedOrWatched s g m' e at') 0 (f + 1)
    settled_next e down all =
        throughout_more
        (record { each = λ k l h. settled_other e k (λ q. omega arith) (all.each k l h) })
        (moved_fewer e down).here

-- ---- the facts are looked at in turn

pub begin_start
    : {s : rules.Sheet} {g : Sides} {d m : List Bool} {at : List Spot}
    → Long m at
    → LastSound s (λ p. In m p)
    → ((p : ℕ) → In d p → ⊥)
    → StateTo s g 0 d m at
begin_start long sound none =
    record { long = long; sound = sound; tried = λ p h. absurd (none p h); settled = throughout_none 0 }

pub begin_skip
    : {s : rules.Sheet} {g : Sides} {f : ℕ} {d m : List Bool} {at : List Spot}
    → StateTo s g f d m at
    → In m f
    → StateTo s g (f + 1) d m at
begin_skip state i =
    record { long = state.long; sound = state.sound; tried = state.tried; settled = throughout_more state.settled (inl i) }

pub begin_step
    : {s : rules.Sheet} {g : Sides} {f : ℕ} {d m : List Bool} {at : List Spot} {m' : List Bool} {at' : List Spot}
    → StateTo s g f d m at
    → Moved s g f m m at m' at'
    → StateTo s g (f + 1) d m' at'
begin_step {d = d} state moved =
    record {
      long = moved.long;
      sound = moved.sound;
      tried = λ p h. moved.grown p (state.tried p h);
      settled = settled_next moved d state.tried state.settled;
    }

-- every fact is settled against d, and the first k of the list against p too
pub record Spreading (s : rules.Sheet) (g : Sides) (p k : ℕ) (rest : List ℕ) (d m₀ m : List Bool) (at : List Spot) : Type 0 where
  pub state : State s g d m at
  pub tried : (q : ℕ) → In (set d p true) q → In m q
  pub grown : (q : ℕ) → In m₀ q → In m q
  pub done : Throughout (λ j. MarkedOrWatched s g m (set d p true) at (cell_of rest j)) 0 k

pub spread_start
    : {s : rules.Sheet} {g : Sides} (p : ℕ) (rest : List ℕ) {d m : List Bool} {at : List Spot}
    → State s g d m at
    → In m p
    → Spreading s g p 0 rest d m m at
spread_start p rest {d = d} {m = m} state i =
    record {
      state = state;
      tried = λ q h. ⊎_elim (state.tried q) (λ (e : q ≡ p). subst (In m) (sym e) i) (mark_old d p q h);
      grown = λ q h. h;
      done = throughout_none 0;
    }

module _ {s : rules.Sheet} {g : Sides} {p k f : ℕ} {rest : List ℕ} {d m₀ m : List Bool} {at : List Spot} {m' : List Bool} {at' : List Spot}
    (w : Spreading s g p k rest d m₀ m at)
    (moved : Moved s g f (set d p true) m at m' at')
  where
    -- f itself, or another fact
    moved_at : (e : List Bool) (j : ℕ) → ((q : ℕ) → In e q → In (set d p true) q) → MarkedOrWatched s g m e at j → MarkedOrWatched s g m' e at' j
    moved_at e j down h =
        same_or_not j f
        (λ q. subst (MarkedOrWatched s g m' e at') (sym q) (moved_fewer moved e down).here)
        (λ n. settled_other moved e j n h)

    pub spread_step : f ≡ cell_of rest k → Spreading s g p (k + 1) rest d m₀ m' at'
    spread_step is =
        record {
          state =
              record {
                long = moved.long;
                sound = moved.sound;
                tried = λ q h. moved.grown q (w.state.tried q h);
                settled = throughout_map (λ j. moved_at d j (λ q. mark_stays d p q)) w.state.settled;
              };
          tried = λ q h. moved.grown q (w.tried q h);
          grown = λ q h. moved.grown q (w.grown q h);
          done =
              throughout_more
              (throughout_map (λ j. moved_at (set d p true) (cell_of rest j) (λ q h. h)) w.done)
              (subst (MarkedOrWatched s g m' (set d p true) at') is moved.here);
        }

pub spread_end
    : {s : rules.Sheet} {g : Sides} {p k : ℕ} {rest : List ℕ} {d m₀ m : List Bool} {at : List Spot}
    → Spreading s g p k rest d m₀ m at
    → RestLists m₀ s.facts rest
    → length rest ≤ k
    → SpreadOf s g (set d p true) m₀ m at
spread_end {s} {g} {p} {d = d} {m = m} {at = at} w lists l =
    record {
      state =
          record {
            long = w.state.long;
            sound = w.state.sound;
            tried = w.tried;
            settled =
                record {
                  each = λ f h i.
                      ⊎_elim
                      (λ j. inl (w.grown f j))
                      (λ (j : InRest _ f).
                      subst (MarkedOrWatched s g m (set d p true) at) j.is (w.done.each j.at (omega arith) (omega (arith, j.below))))
                      (lists.whole f i);
                };
          };
      grown = w.grown;
    }

-- ---- the facts that are left

pub record Listing (m : List Bool) (f : ℕ) (rest : List ℕ) : Type 0 where
  pub few : length rest ≤ f
  pub exist : (k : ℕ) → k < length rest → cell_of rest k < f
  pub whole : (g : ℕ) → g < f → In m g ⊎ InRest rest g

pub list_start : (m : List Bool) → Listing m 0 []
list_start m = record { few = omega arith; exist = λ k l. absurd (omega arith); whole = λ g l. absurd (omega arith) }

pub list_end : {m : List Bool} {f facts : ℕ} {rest : List ℕ} → Listing m f rest → f ≡ facts → facts ≤ most_facts → RestLists m facts rest
list_end {m} {f} {facts} {rest} w q few =
    record { few = few; exist = λ k l. omega (arith, w.exist k l); whole = λ g l. w.whole g (omega arith) }

-- what holds of a fact below f, and of f
whole_more : {P : ℕ → Type 0} {f : ℕ} → ((k : ℕ) → k < f → P k) → P f → (k : ℕ) → k < f + 1 → P k
whole_more {P} {f} below here k l =
    let all : Throughout P 0 f = record { each = λ i a b. below i b } in (throughout_more all here).each k (omega arith) l

pub list_skip : {m : List Bool} {f : ℕ} {rest : List ℕ} → Listing m f rest → In m f → Listing m (f + 1) rest
list_skip {m} {f} {rest} w i =
    record {
      few = omega (arith, w.few);
      exist = λ k l. omega (arith, w.exist k l);
      whole = whole_more {P = λ g. In m g ⊎ InRest rest g} w.whole (inl i);
    }

module _ (rest : List ℕ) (f : ℕ) where
  add_here : cell_of (rest ++ f ∷ []) (length rest) ≡ f
  add_here = get_or-append_seam rest f [] 0

  add_other : (k : ℕ) → k < length rest → cell_of (rest ++ f ∷ []) k ≡ cell_of rest k
  add_other k l = get_or-append rest (f ∷ []) 0 k l

  add_long : length (rest ++ f ∷ []) ≡ length rest + 1
  add_long = length-append rest (f ∷ [])

pub list_add : {m : List Bool} {f : ℕ} {rest : List ℕ} → Listing m f rest → Listing m (f + 1) (rest ++ f ∷ [])
list_add {m} {f} {rest} w =
    record {
      few = omega (arith, w.few, add_long rest f);
      exist = λ k i.
          dite (dec_lt k (length rest))
          (λ l. omega (arith, add_other rest f k l, w.exist k l))
          (λ d. let q : k ≡ length rest = omega (arith, d, i, add_long rest f) in omega (arith, ap (cell_of (rest ++ f ∷ [])) q, add_here rest f));
      whole =
          whole_more {P = λ g. In m g ⊎ InRest (rest ++ f ∷ []) g}
          (λ g l.
          ⊎_elim (λ i. inl i)
          (λ (j : InRest rest g).
          inr (record { at = j.at; below = omega (arith, j.below, add_long rest f); is = add_other rest f j.at j.below ∙ j.is }))
          (w.whole g l))
          (inr (record { at = length rest; below = omega (arith, add_long rest f); is = add_here rest f }));
    }

pub lists_grow
    : {m m' : List Bool} {facts : ℕ} {rest : List ℕ}
    → RestLists m facts rest
    → ((k : ℕ) → In m k → In m' k)
    → RestLists m' facts rest
lists_grow w up = record { few = w.few; exist = w.exist; whole = λ f l. ⊎_elim (λ i. inl (up f i)) (λ j. inr j) (w.whole f l) }

pub lists_are
    : {m : List Bool} {n k : ℕ} {rest rest' : List ℕ}
    → RestLists m n rest
    → n ≡ k
    → rest' ≡ rest
    → RestLists m k rest'
lists_are {m} {n} {k} {rest} {rest'} w p q = subst (λ x. RestLists m k x) (sym q) (subst (λ x. RestLists m x rest) p w)

-- ---- the next fact that is tried

pub next_is : {m d : List Bool} {n p : ℕ} (r : Option ℕ) → Next m d n r → r ≡ Some p → Untried m d n p
next_is {m} {d} {n} r w q = subst (λ x. Next m d n x) q w

pub next_none : (m d : List Bool) (n : ℕ) (r : Option ℕ) → Next m d n r → ((p : ℕ) → r ≡ Some p → ⊥) → Next m d n None
next_none m d n None w h = w
next_none m d n (Some p) w h = absurd (h p refl)

pub next_facts : (m d : List Bool) {n k : ℕ} (r : Option ℕ) → Next m d n r → n ≡ k → Next m d k r
next_facts m d r w q = subst (λ x. Next m d x r) q w

-- ---- the end of the marking

module _ {s : rules.Sheet} {g : Sides} (ok : Formed s) (of : SidesOf s sets clears g) where
  -- a pair that is watched keeps its fact from being shown
  watched_never
      : (m d : List Bool) (f : ℕ) (spot : Spot)
      → f < s.facts
      → Watched s g m d f spot
      → Throughout (λ q. In m q → In d q) 0 s.facts
      → AllGuarded s (λ p. In m p) f
      → ⊥
  unfolding AllGuarded
  watched_never m d f spot l w all guarded =
      let set = side_is of.rows f spot.row l w.passed.row_low w.row_in in
      let clear = side_is of.cols f spot.col l w.passed.col_low w.col_in in
      of.job_wanted _ w.wanted
      (λ want.
      let h = by m (guarded _ _ _ _ set clear.is want) in
      let is = h.guards.clear in
      let inFacts : h.fact < s.facts = omega (arith, ok.fact h.guards.at is.in_sheet, is.of_fact) in
      w.opens h.fact (all.each h.fact (omega arith) inFacts h.is_marked) h.guards)

  pub last_end : {d m : List Bool} {at : List Spot} → State s g d m at → Next m d s.facts None → LastOf s m
  last_end {d} {m} {at} state next =
      record {
        long = state.long.marks;
        sound = state.sound;
        closed =
            record {
              full = λ f h all.
                  ⊎_elim (λ i. i) (λ w. absurd (watched_never m d f (spot_at at f) h w next all))
                  (state.settled.each f (omega arith) h);
            };
      }

  -- no fact is left
  pub last_all
      : {d m : List Bool} {at : List Spot} {rest : List ℕ}
      → State s g d m at
      → RestLists m s.facts rest
      → length rest ≡ 0
      → LastOf s m
  last_all {rest = rest} state lists none =
      record {
        long = state.long.marks;
        sound = state.sound;
        closed =
            record {
              full = λ f h all.
                  ⊎_elim (λ i. i) (λ (j : InRest rest f). absurd (omega (arith, j.below))) (lists.whole f h);
            };
      }

-- ---- the facts without a pair

pub paired_says
    : (row_first col_first : List ℕ) (f : ℕ)
    → cell_of row_first f < cell_of row_first (f + 1)
    → (a c : ℕ)
    → a ≡ cell_of col_first f
    → c ≡ cell_of col_first (f + 1)
    → Tells (Paired row_first col_first f) (Unpaired row_first col_first f) (ltb a c)
paired_says row_first col_first f l a c p q = go (ltb a c) refl
  where
    go : (t : Bool) → ltb a c ≡ t → Tells (Paired row_first col_first f) (Unpaired row_first col_first f) t
    go true h = record { rows = l; cols = omega (arith, ltb-true a c h) }
    go false h = inr (omega (arith, ltb-false a c h))

pub plain_start : (row_first col_first : List ℕ) → Plain row_first col_first 0 (replicate most_facts false)
plain_start row_first col_first =
    record { long = length-replicate {A = Bool} most_facts false; plain = λ f i. absurd (mark_none most_facts f i) }

pub plain_step
    : {row_first col_first : List ℕ} {f : ℕ} {m : List Bool}
    → Plain row_first col_first f m
    → f < most_facts
    → (r : Bool)
    → Tells (Paired row_first col_first f) (Unpaired row_first col_first f) r
    → Plain row_first col_first (f + 1) (set m f (not r))
unfolding mark_of
plain_step {row_first} {col_first} {f} {m} w l r tells =
    record {
      long = simp length-set w.long;
      plain =
          λ k.
          set_cases (λ i x. x ≡ true → (i < f + 1) × Unpaired row_first col_first i) false m f (not r) k (omega (arith, w.long)) (here r tells)
          (λ n i. let h = w.plain k i in (omega (arith, h.0), h.1));
    }
  where
    here
        : (t : Bool)
        → Tells (Paired row_first col_first f) (Unpaired row_first col_first f) t
        → not t ≡ true
        → (f < f + 1) × Unpaired row_first col_first f
    here true h q = absurd (true≢false (sym q))
    here false h q = (omega arith, h)

-- they are shown cleared last
pub plain_sound
    : {s : rules.Sheet} {g : Sides} {m : List Bool}
    → SidesOf s sets clears g
    → Plain g.row_first g.col_first s.facts m
    → LastSound s (λ p. In m p)
plain_sound of w =
    record {
      shows =
          λ f i.
          let h = w.plain f i in
          shown (λ j v a y set clear want. absurd (unpaired_none of f v j y a h.0 h.1 set (of_wanted want clear)));
    }

-- ---- what the steps ask and give

module _ {s : rules.Sheet} {g : Sides} (ok : Formed s) (of : SidesOf s sets clears g) {m : List Bool} {at : List Spot} {f : ℕ} {start : Spot}
    (asks : AsksSettle s g m at f start)
  where
    small_fact : f < most_facts
    small_fact = omega (arith, asks.exists, (small s ok).facts)

    pub settle_watch : (spot : Spot) → Found s g m false f start.row spot → Moved s g f m m at m (set at f spot)
    settle_watch spot found =
        moved_watch asks.long asks.sound spot small_fact
        (record {
          passed =
              record {
                row_low = omega (arith, asks.passed.row_low, found.low);
                col_low = found.col_low;
                before = throughout_join asks.passed.before found.rows_fine;
                begun = found.fine;
              };
          row_in = found.high;
          col_in = found.col_high;
          row_long = rows_in of f spot.row asks.exists found.high;
          col_long = cols_below of f spot.col asks.exists found.col_high;
          wanted = found.opens.col_wanted;
          opens = λ p h by. found.opens.unguarded (guarded_by m h by);
        })

    settle_all : RowsFine s g m false f start.row (cell_of g.row_first (f + 1)) → AllGuarded s (λ p. In m p) f
    unfolding AllGuarded
    settle_all fine = λ i e a y set clear w.
        all_fine ok of m false f i e a y asks.exists (throughout_join asks.passed.before fine)
        set (of_wanted w clear) (λ q. absurd (true≢false (sym q))) (of.job_marked a w)

    pub settle_mark : RowsFine s g m false f start.row (cell_of g.row_first (f + 1)) → Moved s g f m m at (set m f true) at
    settle_mark fine = moved_mark asks.long asks.sound small_fact (settle_all fine)

-- from the start of a fact's pairs
pub passed_start
    : {s : rules.Sheet} {g : Sides} (m : List Bool) (f : ℕ) (start : Spot)
    → start.row ≡ cell_of g.row_first f
    → start.col ≡ cell_of g.col_first f
    → PairsPassed s g m f start
passed_start m f start p q =
    record {
      row_low = omega arith;
      col_low = omega arith;
      before = record { each = λ k h i. absurd (omega arith) };
      begun = record { each = λ k h i. absurd (omega arith) };
    }

-- a fact p is tried on fact f, after those of d
pub record Visiting (s : rules.Sheet) (g : Sides) (d m : List Bool) (at : List Spot) (p f : ℕ) : Type 0 where
  pub long : Long m at
  pub sound : LastSound s (λ q. In m q)
  pub tried : (q : ℕ) → In (set d p true) q → In m q
  pub exists : f < s.facts
  pub settled : MarkedOrWatched s g m d at f

module _ {s : rules.Sheet} {g : Sides} {m : List Bool} {at : List Spot} {p f : ℕ} (asks : AsksVisit s g m at p f) where
  pub visiting
      : (d : List Bool)
      → ((q : ℕ) → In (set d p true) q → In m q)
      → MarkedOrWatched s g m d at f
      → Visiting s g d m at p f
  visiting d tried settled =
      record { long = asks.long; sound = asks.sound; tried = tried; exists = asks.exists; settled = settled }

  -- after none
  pub visiting_first : Visiting s g [] m at p f
  unfolding mark_of
  visiting_first =
      visiting []
      (λ q h. ⊎_elim (λ i. absurd (true≢false (sym i))) (λ (e : q ≡ p). subst (In m) (sym e) asks.marked) (mark_old [] p q h))
      asks.settled

module _ {s : rules.Sheet} {g : Sides} {d m : List Bool} {at : List Spot} {p f : ℕ} (asks : Visiting s g d m at p f) where
  pub visit_marked : In m f → Moved s g f (set d p true) m at m at
  visit_marked i = moved_none asks.long asks.sound (inl i)

  pub visit_moved
      : {m' : List Bool} {at' : List Spot}
      → Moved s g f m m at m' at'
      → Moved s g f (set d p true) m at m' at'
  visit_moved moved = moved_fewer moved (set d p true) asks.tried

  module _ (n : In m f → ⊥) (spot : Spot) (is : spot ≡ spot_at at f) where
    watched : Watched s g m d f spot
    watched = subst (λ x. Watched s g m d f x) (sym is) (settled_open m at f n asks.settled)

    pub visit_settle : AsksSettle s g m at f spot
    visit_settle = record { long = asks.long; sound = asks.sound; exists = asks.exists; passed = watched.passed }

    pub visit_row : spot.row < length g.rows
    visit_row = watched.row_long

    pub visit_col : spot.col < length g.cols
    visit_col = watched.col_long

    module _ (e k : ℕ) (isE : e ≡ cell_of g.rows spot.row) (isK : k ≡ cell_of g.cols spot.col) where
      pub visit_two : SidesOf s sets clears g → Two s e k
      visit_two of =
          let w = watched in
          subst (λ x. Two s x k) (sym isE)
          (subst (λ x. Two s (cell_of g.rows spot.row) x) (sym isK)
          (pair_two of f spot.row spot.col asks.exists w.passed.row_low w.row_in w.passed.col_low w.col_in))

      pub visit_keep : (GuardBy s p e k → ⊥) → Moved s g f (set d p true) m at m at
      visit_keep h =
          moved_none asks.long asks.sound
          (inr
          (subst (λ x. Watched s g m (set d p true) f x) is
          (watched_more p
          (λ by.
          h
          (subst (λ x. GuardBy s p x k) (sym isE)
          (subst (λ x. GuardBy s p (cell_of g.rows spot.row) x) (sym isK) by)))
          watched)))

-- ---- cleared first

module _ {s : rules.Sheet} {g : Sides} (ok : Formed s) (of : SidesOf s clears sets g) (m : List Bool) (long : most_facts ≤ length m)
    (f : ℕ) (inFacts : f < s.facts) (start : Spot) (isRow : start.row ≡ cell_of g.row_first f) (isCol : start.col ≡ cell_of g.col_first f)
  where
    pub first_seek : AsksSeek s g m true f start
    first_seek =
        record {
          marks = long;
          exists = inFacts;
          row_low = omega arith;
          col_low = omega arith;
          begun = record { each = λ k h i. absurd (omega arith) };
        }

    first_yes : RowsFine s g m true f start.row (cell_of g.row_first (f + 1)) → AllGuardedFirst s (λ p. In m p) f
    unfolding AllGuardedFirst
    first_yes fine = λ i e a y set w clear w'.
        all_fine ok of m true f a y i e inFacts (subst (λ r. RowsFine s g m true f r (cell_of g.row_first (f + 1))) isRow fine)
        (of_wanted w' clear) (of_wanted w set) (λ _. of.job_marked a w') (of.job_marked i w)

    first_no : (spot : Spot) → Found s g m true f start.row spot → AllGuardedFirst s (λ p. In m p) f → ⊥
    unfolding AllGuardedFirst
    first_no spot found all =
        let o = found.opens in
        let clear = side_is of.rows f spot.row inFacts (omega (arith, found.low)) found.high in
        let set = side_is of.cols f spot.col inFacts found.col_low found.col_high in
        of.job_wanted _ o.col_wanted
        (λ w. of.job_wanted _ (o.row_wanted refl) (λ w'. o.unguarded (all _ _ _ _ set.is w clear.is w')))

    pub first_sought
        : (r : Option Spot)
        → Seeks s g m true f start.row r
        → (t : Bool)
        → is_some r ≡ not t
        → Says (AllGuardedFirst s (λ p. In m p) f) t
    first_sought None seeks true q = first_yes seeks
    first_sought None seeks false q = absurd (true≢false (sym q))
    first_sought (Some spot) seeks true q = absurd (true≢false q)
    first_sought (Some spot) seeks false q = first_no spot seeks

-- a pair of a set and a clear, in either order
unpaired_swap : (row_first col_first : List ℕ) (f : ℕ) → Unpaired row_first col_first f → Unpaired col_first row_first f
unpaired_swap row_first col_first f (inl h) = inr h
unpaired_swap row_first col_first f (inr h) = inl h

-- a fact without a pair is shown cleared first
pub first_unpaired
    : {s : rules.Sheet} {g : Sides} (m : List Bool) (f : ℕ)
    → SidesOf s clears sets g
    → f < s.facts
    → Unpaired g.col_first g.row_first f
    → AllGuardedFirst s (λ p. In m p) f
unfolding AllGuardedFirst
first_unpaired {g = g} m f of l h = λ i e a y set w clear w'.
    absurd (unpaired_none of f y a e i l (unpaired_swap g.col_first g.row_first f h) (of_wanted w' clear) (of_wanted w set))

pub first_step
    : {s : rules.Sheet} {m : List Bool} {f : ℕ} {r : List Bool} (t : Bool)
    → FirstOf s m f r
    → f < most_facts
    → Says (AllGuardedFirst s (λ p. In m p) f) t
    → FirstOf s m (f + 1) (set r f t)
unfolding mark_of
first_step {s} {m} {f} {r} t w l says =
    record {
      long = simp length-set w.long;
      says =
          throughout_more
          (record {
            each = λ k h i.
                subst (λ x. Says (AllGuardedFirst s (λ p. In m p) k) x) (sym (get_or-set_other r f k t false (λ q. omega arith))) (w.says.each k h i);
          })
          (subst (λ x. Says (AllGuardedFirst s (λ p. In m p) f) x) (sym (get_or-set_same r f t false (omega (arith, w.long)))) says);
    }

pub first_start : (s : rules.Sheet) (m : List Bool) → FirstOf s m 0 (replicate most_facts false)
first_start s m = record { long = length-replicate {A = Bool} most_facts false; says = throughout_none 0 }

-- ---- all facts are passed

-- the same of fewer facts that were tried
pub state_fewer
    : {s : rules.Sheet} {g : Sides} {d m : List Bool} {at : List Spot} (d' : List Bool)
    → ((p : ℕ) → In d' p → In d p)
    → State s g d m at
    → State s g d' m at
state_fewer d' down w =
    record {
      long = w.long;
      sound = w.sound;
      tried = λ p h. w.tried p (down p h);
      settled = throughout_map (λ k h. ⊎_elim (λ i. inl i) (λ x. inr (watched_grow (λ p i. i) down x)) h) w.settled;
    }

pub none_tried : (p : ℕ) → In [] p → ⊥
unfolding mark_of
none_tried p h = true≢false (sym h)

-- the marks at the end are the orders
module _ {s : rules.Sheet} (ok : Formed s) {r : Orders} (last : LastOf s r.last) (first : FirstOf s r.last s.facts r.first) where
  first_shown : (f : ℕ) → f < s.facts → AllGuardedFirst s (λ p. In r.last p) f ↔ (get_or r.first f false ≡ true)
  unfolding mark_of
  first_shown f l = go (get_or r.first f false) (first.says.each f (omega arith) l)
    where
      go : (t : Bool) → Says (AllGuardedFirst s (λ p. In r.last p) f) t → AllGuardedFirst s (λ p. In r.last p) f ↔ (t ≡ true)
      go true h = (λ _. refl, λ _. h)
      go false h = (λ all. absurd (h all), λ q. absurd (true≢false (sym q)))

  pub orders_of : OrdersOf s r
  unfolding mark_of
  orders_of =
      let few = (small s ok).facts in
      record {
        last =
            record {
              long = omega (arith, few, last.long);
              means = λ f l. (marked_last last.sound ok last.closed f l).0;
              marked = λ f l. (marked_last last.sound ok last.closed f l).1;
            };
        first =
            record {
              long = omega (arith, few, first.long);
              means = λ f l h. (marked_first last.sound ok last.closed f).0 ((first_shown f l).1 h);
              marked = λ f l h. (first_shown f l).0 ((marked_first last.sound ok last.closed f).1 h);
            };
      }
