-- All rows: one row more, and what they hold at the end.
use Prim.Native.Nat.{ℕ, zero, suc, ◌+◌, ◌-◌, ◌*◌, ◌≤◌, ◌<◌}
use native.Mathlib.Omega.{arith}
use native.Mathlib.Decide.{ℕ_discrete}
use mathlib.Core.Path.{◌≡◌, refl, sym, ap, subst, subst₂, ◌∙◌}
use mathlib.Core.Logic.{◌≢◌, ◌⊎◌, inl, inr, ⊎_elim, dite}
use mathlib.Core.List.{List}
use lib.ListN.{length, get_or, set, length-set}
use lib.Seq.{get_or-set_same, get_or-set_other}
use Rattle.rules.specs.Sheet.{Sheet}
use Rattle.rules.specs.Wanted.{WantedJob}
use Rattle.kernel_least.specs.Rows.{Row, InRow}
use Rattle.own_times.specs.Rules.{most_rules, Rules, OwnRule, Idle}
use Rattle.own_times.specs.Times.{same_job_lem}
use Rattle.laws.specs.Limits.{most_events}
use Rattle.laws.specs.Formed.{Formed}
use Rattle.laws.specs.Events.{small}
use Rattle.list_rules.specs.Rules.{LinkRule, set_need, set_clear, need_clear, clear_set, ListedRule}
use Rattle.list_rules.specs.View.{starts_most, links_most, rows_most, starts, OwnRows, OwnEntry, RowRule, Entry, Extended, RoomFor, RowsFilled, ListRows, RoomIs, own_count}
use Rattle.list_rules.proofs.Laws.{grown_none, grown_then}

pub row_both
    : (s : Sheet) (own : List (List ℕ)) (a most : ℕ) {all allw all' allw' all'' allw'' : List ℕ} {n m r : ℕ}
    → WantedJob s (s.event a).job
    → Extended most (OwnEntry own a) all allw n all' allw' m
    → Extended links_most (LinkRule s a) all' allw' m all'' allw'' r
    → Extended (most + links_most) (RowRule s own a) all allw n all'' allw'' r
row_both s own a most want g h =
    grown_then g _ h (omega arith) (λ b w x. inl (want, x)) (λ b w. inr) (λ b w. ⊎_elim (λ x. inl x.1) inr)

-- a job that is not wanted has no row
link_wanted : {s : Sheet} {a b w : ℕ} → LinkRule s a b w → WantedJob s (s.event a).job
link_wanted (set_need l x) = l.wanted
link_wanted (set_clear l x) = l.wanted
link_wanted (need_clear l x) = l.wanted
link_wanted (clear_set l x) = l.wanted

pub row_none
    : (s : Sheet) (own : List (List ℕ)) (a most : ℕ) (to weight : List ℕ) (n : ℕ)
    → (WantedJob s (s.event a).job → ⊥)
    → Extended most (RowRule s own a) to weight n to weight n
row_none s own a most to weight n unwanted =
    grown_none to weight n (λ b w. ⊎_elim (λ x. unwanted x.0) (λ x. unwanted (link_wanted x)))

-- ---- one row more

filled_start : {R : Rules} (first to weight : List ℕ) → 0 < length first → RowsFilled R 0 (set first 0 0) to weight 0
filled_start first to weight l =
    record {
      here = get_or-set_same first 0 0 0 l;
      under = λ a h. let z : a ≡ 0 = omega arith in rw z (omega (arith, get_or-set_same first 0 0 0 l));
      sound = λ a r h. absurd (omega arith);
      whole = λ a b w h. absurd (omega arith);
    }

filled_step
    : {R : Rules} {most v n r : ℕ} {first to weight to' weight' : List ℕ}
    → RowsFilled R v first to weight n
    → Extended most (R v) to weight n to' weight' r
    → v + 1 < length first
    → RowsFilled R (v + 1) (set first (v + 1) r) to' weight' r
filled_step {R} {most} {v} {n} {r} {first} {to} {weight} {to'} {weight'} f g l =
    record {
      here = new;
      under =
          λ a h.
          dite (ℕ_discrete a (v + 1))
          (λ q. rw (q, new) (omega arith))
          (λ d. rw (old a d) (omega (arith, f.under a (omega arith), g.up)));
      sound = λ a i h. dite (ℕ_discrete a v) (λ q. sound_here a i q) (λ d. sound_old a i (omega arith));
      whole = λ a b w h. dite (ℕ_discrete a v) (λ q. Whole-here a b w q) (λ d. whole_old a b w (omega arith));
    }
  where
    new : get_or (set first (v + 1) r) (v + 1) 0 ≡ r
    new = get_or-set_same first (v + 1) r 0 l

    old : (a : ℕ) → a ≢ v + 1 → get_or (set first (v + 1) r) a 0 ≡ get_or first a 0
    old a d = get_or-set_other first (v + 1) a r 0 d

    from : get_or (set first (v + 1) r) v 0 ≡ n
    from = old v (λ e. omega arith) ∙ f.here

    sound_here
        : (a i : ℕ)
        → a ≡ v
        → get_or (set first (v + 1) r) a 0 ≤ i
        → i < get_or (set first (v + 1) r) (a + 1) 0
        → R a (get_or to' i 0) (get_or weight' i 0)
    sound_here a i q p k =
        subst (λ x. R x (get_or to' i 0) (get_or weight' i 0)) (sym q)
        (g.sound i
        (omega (arith, ap (λ x. get_or (set first (v + 1) r) x 0) q, from))
        (omega (arith, ap (λ x. get_or (set first (v + 1) r) (x + 1) 0) q, new)))

    sound_old
        : (a i : ℕ)
        → a < v
        → get_or (set first (v + 1) r) a 0 ≤ i
        → i < get_or (set first (v + 1) r) (a + 1) 0
        → R a (get_or to' i 0) (get_or weight' i 0)
    sound_old a i h p k =
        let p' : get_or first a 0 ≤ i = omega (arith, old a (λ e. omega arith)) in
        let k' : i < get_or first (a + 1) 0 = omega (arith, old (a + 1) (λ e. omega arith)) in
        let z : i < n = omega (arith, f.under (a + 1) (omega arith)) in
        rw (g.targets i z, g.weights i z) (f.sound a i h p' k')

    Whole-here
        : (a b w : ℕ) → a ≡ v → R a b w → Entry to' weight' (get_or (set first (v + 1) r) a 0) (get_or (set first (v + 1) r) (a + 1) 0) b w
    Whole-here a b w q x =
        let e = g.whole b w (subst (λ y. R y b w) q x) in
        record {
          place = e.place;
          from = omega (arith, ap (λ y. get_or (set first (v + 1) r) y 0) q, from, e.from);
          below = omega (arith, ap (λ y. get_or (set first (v + 1) r) (y + 1) 0) q, new, e.below);
          target = e.target;
          weighs = e.weighs;
        }

    whole_old
        : (a b w : ℕ) → a < v → R a b w → Entry to' weight' (get_or (set first (v + 1) r) a 0) (get_or (set first (v + 1) r) (a + 1) 0) b w
    whole_old a b w h x =
        let e = f.whole a b w h x in
        let z : e.place < n = omega (arith, e.below, f.under (a + 1) (omega arith)) in
        record {
          place = e.place;
          from = omega (arith, old a (λ e. omega arith), e.from);
          below = omega (arith, old (a + 1) (λ e. omega arith), e.below);
          target = g.targets e.place z ∙ e.target;
          weighs = g.weights e.place z ∙ e.weighs;
        }

-- ---- the loop over the events

pub record Turn
    (s : Sheet) (own : List (List ℕ)) (all₀ to₀ weight₀ : List ℕ) (e : ℕ) (all to' weight' : List ℕ) (n : ℕ)
    : Type 0 where
  pub filled : RowsFilled (RowRule s own) e all to' weight' n
  pub few : n ≤ get_or (starts own) e 0 + links_most * e
  pub within : e ≤ s.events
  pub fits_targets : n ≤ length to₀
  pub fits_weights : n ≤ length weight₀
  pub rows : length all ≡ length all₀
  pub targets : length to' ≡ length to₀
  pub weights : length weight' ≡ length weight₀

link_in : {s : Sheet} {a b w : ℕ} → LinkRule s a b w → (a < s.events) × (b < s.events)
link_in (set_need l x) = (l.in_sheet, l.in_sheet')
link_in (set_clear l x) = (l.in_sheet, l.in_sheet')
link_in (need_clear l x) = (l.in_sheet, l.in_sheet')
link_in (clear_set l x) = (l.in_sheet, l.in_sheet')

module _ {s : Sheet} (own : List (List ℕ)) (rules : OwnRows s own) where
  -- own rules are no more than there can be, up to any event
  upto : (a : ℕ) → a ≤ s.events → get_or (starts own) a 0 ≤ most_rules
  upto a l = go (s.events - a) a (omega arith)
    where
      go : (k a : ℕ) → a + k ≡ s.events → get_or (starts own) a 0 ≤ most_rules
      go zero a q = let z : a ≡ s.events = omega arith in rw z rules.few
      go (suc k) a q = omega (arith, rules.rises a (omega arith), go k (a + 1) (omega arith))

  own_of : {a b w : ℕ} → a < s.events → OwnEntry own a b w → OwnRule s a b w
  own_of {a} {b} {w} l x =
      rules.rows.has.sound a b w
      (record {
        place = x.place;
        stands =
            record {
              of = record { from = omega arith; below = l };
              from = x.from;
              below = x.below;
            };
        target = x.target;
        weighs = x.weighs;
      })

  listed : {a b w : ℕ} → a < s.events → RowRule s own a b w → ListedRule s a b w
  listed l x = ⊎_elim (λ y. inl (y.0, own_of l y.1)) inr x

module _
    {s : Sheet} {own : List (List ℕ)} {all₀ to₀ weight₀ : List ℕ}
    (formed : Formed s) (rules : OwnRows s own) (long : starts_most ≤ length all₀)
  where
    pub turn_start : Turn s own all₀ to₀ weight₀ 0 (set all₀ 0 0) to₀ weight₀ 0
    turn_start =
        record {
          filled = filled_start all₀ to₀ weight₀ (omega (arith, long));
          few = omega arith;
          within = omega arith;
          fits_targets = omega arith;
          fits_weights = omega arith;
          rows = length-set all₀ 0 0;
          targets = refl;
          weights = refl;
        }

    module _
        {e n : ℕ} {all to' weight' : List ℕ}
        (t : Turn s own all₀ to₀ weight₀ e all to' weight' n)
        (l : e < s.events)
      where
        pub near : e < most_events
        near = omega (arith, (small s formed).events)

        pub turn_small : n + own_count own e + links_most ≤ rows_most
        turn_small =
            let u = upto own rules (e + 1) (omega arith) in
            omega (arith, near, rules.rises e l, t.few)

        -- with room for everything the row fits
        pub turn_never
            : {r k : ℕ}
            → RoomIs to₀ weight₀ r
            → k ≡ own_count own e
            → r < n + k + links_most
            → rows_most ≤ length to'
            → rows_most ≤ length weight'
            → ⊥
        turn_never h q x p w =
            omega (arith, turn_small, h.whole (omega (arith, t.targets)) (omega (arith, t.weights)))

        pub turn_fits
            : {r k : ℕ}
            → RoomIs to₀ weight₀ r
            → k ≡ own_count own e
            → n + k + links_most ≤ r
            → RoomFor (own_count own e + links_most) to' weight' n
        turn_fits h q x =
            record {
              targets = omega (arith, h.targets, t.targets);
              weights = omega (arith, h.weights, t.weights);
              small = omega (arith, turn_small);
            }

        module _
            {to'' weight'' : List ℕ} {m : ℕ}
            (f : RoomFor (own_count own e + links_most) to' weight' n)
            (g : Extended (own_count own e + links_most) (RowRule s own e) to' weight' n to'' weight'' m)
          where
            pub turn_step
                : length to'' ≡ length to'
                → length weight'' ≡ length weight'
                → Turn s own all₀ to₀ weight₀ (e + 1) (set all (e + 1) m) to'' weight'' m
            turn_step p q =
                record {
                  filled = filled_step t.filled g (omega (arith, near, t.rows, long));
                  few = omega (arith, rules.rises e l, t.few, g.few);
                  within = omega arith;
                  fits_targets = omega (arith, f.targets, t.targets, g.few);
                  fits_weights = omega (arith, f.weights, t.weights, g.few);
                  rows = length-set all (e + 1) m ∙ t.rows;
                  targets = p ∙ t.targets;
                  weights = q ∙ t.weights;
                }

    -- ---- the end

    module _
        {e n : ℕ} {all to' weight' : List ℕ}
        (t : Turn s own all₀ to₀ weight₀ e all to' weight' n)
        (l : s.events ≤ e)
      where
        end : e ≡ s.events
        end = omega (arith, t.within)

        below_end : {a : ℕ} → a < s.events → a < e
        below_end h = omega (arith, end)

        row : {a b w : ℕ} → a < s.events → RowRule s own a b w → Row all to' weight' 0 s.events a b w
        row {a} {b} {w} h x =
            let y = t.filled.whole a b w (below_end h) x in
            record {
              place = y.place;
              stands = record { of = record { from = omega arith; below = h }; from = y.from; below = y.below };
              target = y.target;
              weighs = y.weighs;
            }

        of_row
            : {a r : ℕ} → InRow all 0 s.events a r → ListedRule s a (get_or to' r 0) (get_or weight' r 0)
        of_row {a} {r} x = listed own rules x.of.below (t.filled.sound a r (below_end x.of.below) x.from x.below)

        whole : (a b w : ℕ) → ListedRule s a b w → Idle s.horizon w ⊎ Row all to' weight' 0 s.events a b w
        whole a b w (inr x) = inr (row (link_in x).0 (inr x))
        whole a b w (inl x) =
            ⊎_elim inl
            (λ y.
            inr
            (row (same_job_lem s formed a b w x.1).0
            (inl (
              x.0,
              record {
                place = y.place;
                from = y.stands.from;
                below = y.stands.below;
                target = y.target;
                weighs = y.weighs;
              },
            ))))
            (rules.rows.has.whole a b w x.1)

        ends_in : {a b w : ℕ} → ListedRule s a b w → b < s.events
        ends_in {a} {b} {w} (inl x) = (same_job_lem s formed a b w x.1).1
        ends_in (inr x) = (link_in x).1

        pub turn_end : ListRows s all to' weight'
        turn_end =
            record {
              has =
                  record {
                    sound =
                        λ a b w x.
                        subst₂ (λ p q. ListedRule s a p q) x.target x.weighs (of_row x.stands);
                    whole = whole;
                  };
              shaped =
                  record {
                    order = omega arith;
                    small = (small s formed).events;
                    rows = omega (arith, t.rows, long, (small s formed).events);
                    targets =
                        λ a o. omega (arith, t.filled.under (a + 1) (omega (arith, end, o.below)), t.targets, t.fits_targets);
                    weights =
                        λ a o. omega (arith, t.filled.under (a + 1) (omega (arith, end, o.below)), t.weights, t.fits_weights);
                    inside = λ a r x. record { from = omega arith; below = ends_in (of_row x) };
                  };
            }
