-- The least ticks with one variable at the ceiling, raised and then lowered, attain every greatest difference.
use Prim.Native.Nat.{ℕ, ◌+◌, ◌-◌, ◌*◌, ◌≤◌, ◌<◌, max}
use native.Mathlib.Omega.{arith}
use native.Mathlib.Decide.{dec_le}
use mathlib.Core.Path.{◌≡◌, refl, sym, ap, ◌∙◌, subst}
use mathlib.Core.Logic.{◌≢◌, ◌⊎◌, inl, inr, ⊎_elim, dite}
use mathlib.Core.List.{List}
use lib.ListN.{length, get_or, set, length-set}
use lib.Seq.{get_or-set_same, get_or-set_other}
use Rattle.laws.specs.Set.{set_cases, same_or_not}
use Rattle.kernel_least.specs.System.{System, Between, Of, Solves, Least, Closed, origin}
use Rattle.kernel_least.specs.Rows.{Under, KeptBut, Raised, Outcome, OutcomeIs, at}
use Rattle.std.specs.Prelude.{Ok, Err}
use Rattle.kernel_widest.specs.View.{WideAsks, WideDone, Copied, MostIs, AboveIs, Lowered}

-- ---- copying

pub record Copying (lo hi : ℕ) (x row₀ row : List ℕ) (v : ℕ) : Type 0 where
  pub long : length row ≡ length row₀
  pub from : lo ≤ v
  pub high : v ≤ hi
  pub done : (u : ℕ) → Between lo v u → get_or row u 0 ≡ get_or x u 0
  pub rest : (u : ℕ) → (Between lo v u → ⊥) → get_or row u 0 ≡ get_or row₀ u 0

pub copying_start : {lo hi : ℕ} → lo ≤ hi → (x row : List ℕ) → Copying lo hi x row row lo
copying_start l x row =
    record {
      long = refl;
      from = omega arith;
      high = l;
      done = λ u o. absurd (omega (arith, o.from, o.below));
      rest = λ u d. refl;
    }

pub copying_step
    : {lo hi : ℕ} {x row₀ row : List ℕ} {v : ℕ}
    → Copying lo hi x row₀ row v
    → v < hi
    → v < length row
    → Copying lo hi x row₀ (set row v (get_or x v 0)) (v + 1)
copying_step {lo} {hi} {x} {row₀} {row} {v} p h l =
    record {
      long = length-set row v _ ∙ p.long;
      from = omega (arith, p.from);
      high = omega arith;
      done =
          λ u o.
          set_cases (λ i n. i < v + 1 → n ≡ get_or x i 0) 0 row v (get_or x v 0) u l (λ b. refl)
          (λ d b. p.done u (record { from = o.from; below = omega arith }))
          o.below;
      rest =
          λ u d.
          get_or-set_other row v u (get_or x v 0) 0 (λ e. d (record { from = omega (arith, p.from); below = omega arith }))
          ∙ p.rest u (λ o. d (record { from = o.from; below = omega (arith, o.below) }));
    }

pub copying_end
    : {lo hi : ℕ} {x row₀ row : List ℕ} {v : ℕ} → Copying lo hi x row₀ row v → hi ≤ v → Copied lo hi x row₀ row
copying_end {lo} {hi} {x} {row₀} {row} {v} p l =
    let e : v ≡ hi = omega (arith, p.high) in
    record {
      inside = λ u o. p.done u (rw e o);
      outside = λ u d. p.rest u (rw e d);
    }

-- ---- the greatest tick

pub record Mosting (lo hi : ℕ) (row : List ℕ) (m v : ℕ) : Type 0 where
  pub upper : (u : ℕ) → Between lo v u → get_or row u 0 ≤ m
  pub least : (k : ℕ) → Under lo hi k row → m ≤ k
  pub from : lo ≤ v

pub mosting_start : (lo hi : ℕ) (row : List ℕ) → Mosting lo hi row 0 lo
mosting_start lo hi row =
    record { upper = λ u o. absurd (omega (arith, o.from, o.below)); least = λ k h. omega arith; from = omega arith }

module _ {lo hi : ℕ} {row : List ℕ} {m v : ℕ} (p : Mosting lo hi row m v) (l : v < hi) where
  more : (k : ℕ) → m ≤ k → get_or row v 0 ≤ k → (u : ℕ) → Between lo (v + 1) u → get_or row u 0 ≤ k
  more k h here u o =
      same_or_not u v
      (λ e. rw e here)
      (λ d. omega (arith, p.upper u (record { from = o.from; below = omega (arith, o.below) })))

  pub mosting_step : (t m' : ℕ) → t ≡ get_or row v 0 → m' ≡ max m t → Mosting lo hi row m' (v + 1)
  mosting_step t m' is e =
      record {
        upper = more m' (omega arith) (omega arith);
        least = λ k u. omega (arith, p.least k u, u v (record { from = p.from; below = l }));
        from = omega (arith, p.from);
      }

pub mosting_end : {lo hi : ℕ} {row : List ℕ} {m v : ℕ} → Mosting lo hi row m v → hi ≤ v → MostIs lo hi row m
mosting_end p l =
    record { upper = λ u o. p.upper u (record { from = o.from; below = omega (arith, o.below) }); least = p.least }

-- ---- lowering

pub record Lowering (lo hi s : ℕ) (x row₀ row : List ℕ) (v : ℕ) : Type 0 where
  pub long : length row ≡ length row₀
  pub from : lo ≤ v
  pub high : v ≤ hi
  pub done : (u : ℕ) → Between lo v u → AboveIs (get_or row₀ u 0) s (get_or x u 0) (get_or row u 0)
  pub rest : (u : ℕ) → (Between lo v u → ⊥) → get_or row u 0 ≡ get_or row₀ u 0

pub lowering_start : {lo hi : ℕ} → lo ≤ hi → (s : ℕ) (x row : List ℕ) → Lowering lo hi s x row row lo
lowering_start l s x row =
    record {
      long = refl;
      from = omega arith;
      high = l;
      done = λ u o. absurd (omega (arith, o.from, o.below));
      rest = λ u d. refl;
    }

module _ {lo hi s : ℕ} {x row₀ row : List ℕ} {v : ℕ} (p : Lowering lo hi s x row₀ row v) (h : v < hi) where
  pub lowering_step
      : (t low r : ℕ) (row' : List ℕ)
      → t ≡ get_or row v 0
      → low ≡ get_or x v 0
      → AboveIs t s low r
      → row' ≡ set row v r
      → v < length row
      → Lowering lo hi s x row₀ row' (v + 1)
  lowering_step t low r row' isT isX above is l =
      rw is
      (record {
        long = length-set row v r ∙ p.long;
        from = omega (arith, p.from);
        high = omega arith;
        done =
            λ u o.
            set_cases (λ i n. i < v + 1 → AboveIs (get_or row₀ i 0) s (get_or x i 0) n) 0 row v r u l
            (λ b. here)
            (λ d b. p.done u (record { from = o.from; below = omega arith }))
            o.below;
        rest =
            λ u d.
            get_or-set_other row v u r 0 (λ e. d (record { from = omega (arith, p.from); below = omega arith }))
            ∙ p.rest u (λ o. d (record { from = o.from; below = omega (arith, o.below) }));
      })
    where
      here : AboveIs (get_or row₀ v 0) s (get_or x v 0) r
      here =
          let q : get_or row v 0 ≡ get_or row₀ v 0 = p.rest v (λ o. omega (arith, o.below)) in
          subst (λ i. AboveIs i s (get_or x v 0) r) (isT ∙ q) (subst (λ i. AboveIs t s i r) isX above)

pub lowering_end
    : {lo hi s : ℕ} {x row₀ row : List ℕ} {v : ℕ}
    → Lowering lo hi s x row₀ row v → hi ≤ v → Lowered lo hi s x row₀ row
lowering_end {lo} {hi} {s} {x} {row₀} {row} {v} p l =
    let e : v ≡ hi = omega (arith, p.high) in
    record { inside = λ u o. p.done u (rw e o); outside = λ u d. p.rest u (rw e d) }

-- ---- a row

-- the same rules with room to twice the ceiling
abbrev pub roomy : System → System
roomy s = record { lo = s.lo; hi = s.hi; ceiling = 2 * s.ceiling; rule = s.rule }

-- the floor of a row: the least ticks, with u at the ceiling
module _
    (s : System) (u : ℕ) (x row₀ row : List ℕ) (asks : WideAsks s u x)
    (copied : Copied s.lo s.hi x row₀ row)
    (there : u < length row)
    (floor : List ℕ)
    (is : floor ≡ set row u s.ceiling) where
  floor_at : get_or floor u 0 ≡ s.ceiling
  floor_at = ap (λ l. get_or l u 0) is ∙ get_or-set_same row u s.ceiling 0 there

  floor_other : (v : ℕ) → Of s v → v ≢ u → get_or floor v 0 ≡ get_or x v 0
  floor_other v o d = ap (λ l. get_or l v 0) is ∙ get_or-set_other row u v s.ceiling 0 d ∙ copied.inside v o

  in_range : (v : ℕ) → Of s v → get_or x v 0 ≤ s.ceiling
  in_range v o = asks.solves.below v o

  floor_above : (v : ℕ) → Of s v → get_or x v 0 ≤ get_or floor v 0
  floor_above v o =
      same_or_not v u (λ e. rw e (omega (arith, floor_at, in_range u asks.of))) (λ d. omega (arith, floor_other v o d))

  pub row_under : Under s.lo s.hi (2 * s.ceiling) floor
  row_under v o =
      same_or_not v u (λ e. rw e (omega (arith, floor_at))) (λ d. omega (arith, floor_other v o d, in_range v o))

  pub row_kept : Closed s → KeptBut s u floor
  row_kept closed a b w r d =
      let (oa, ob) = closed a b w r in
      omega (arith, floor_other a oa d, floor_above b ob, asks.solves.kept a b w r)

  -- own times y, lifted until u is at the ceiling, but nowhere below the least ones
  abbrev lifted : (ℕ → ℕ) → ℕ → ℕ
  lifted y v = get_or x v 0 + (y v + (s.ceiling - y u) - get_or x v 0)

  lifted_solves : {f : ℕ → ℕ} (y : ℕ → ℕ) → Solves s f y → Solves (roomy s) (at floor) (lifted y)
  lifted_solves y p =
      record {
        above =
            λ v o.
            same_or_not v u
            (λ e. rw e (omega (arith, floor_at, p.below u asks.of)))
            (λ d. omega (arith, floor_other v o d));
        below = λ v o. omega (arith, in_range v o, p.below v o);
        kept = λ a b w r. lift a b w (asks.solves.kept a b w r) (p.kept a b w r);
      }
    where
      lift : (a b w : ℕ) → get_or x a 0 + w ≤ get_or x b 0 + origin → y a + w ≤ y b + origin → lifted y a + w ≤ lifted y b + origin
      lift a b w p q = omega arith

  row_least : (r : ℕ → ℕ) (o : Outcome) → OutcomeIs (roomy s) (at floor) r o → Least (roomy s) (at floor) r
  row_least r (Ok _) p = p
  row_least r (Err _) p = absurd (p _ (lifted_solves (at x) asks.solves))

  -- what raising gives
  module _ {raised : List ℕ} {o : Outcome} (done : Raised (roomy s) floor raised o) where
    is_least : Least (roomy s) (at floor) (at raised)
    is_least = row_least (at raised) o done.answer

    -- each tick is the least one, or as far above u's as in any own times
    nearest
        : {f : ℕ → ℕ} (y : ℕ → ℕ) → Solves s f y → (v : ℕ) → Of s v
        → (get_or raised v 0 ≤ get_or x v 0) ⊎ (get_or raised v 0 + y u ≤ y v + s.ceiling)
    nearest y p v o =
        let l = is_least.least (lifted y) (lifted_solves y p) v o in
        dite (dec_le (get_or raised v 0) (get_or x v 0)) inl (λ n. inr (omega (arith, p.below u asks.of)))

    at_ceiling : s.ceiling ≤ get_or raised u 0
    at_ceiling = omega (arith, is_least.solves.above u asks.of, floor_at)

    -- to lower it by nothing leaves it as it is
    level : 2 * s.ceiling < origin → Lowered s.lo s.hi 0 x raised raised
    level low =
        record {
          inside =
              λ v o.
              record {
                high = omega (arith, floor_above v o, is_least.solves.above v o);
                near = omega arith;
                is = inr (omega arith);
                small = omega (arith, is_least.solves.below v o);
              };
          outside = λ v d. refl;
        }

    module _ (most : ℕ) (isMost : MostIs s.lo s.hi raised most) where
      pub row_over : s.ceiling ≤ most
      row_over = omega (arith, isMost.upper u asks.of, at_ceiling)

      pub row_small : most ≤ 2 * s.ceiling
      row_small = isMost.least (2 * s.ceiling) (λ v o. is_least.solves.below v o)

      -- no own times have u later than the ceiling less the excess
      latest : {f : ℕ → ℕ} (y : ℕ → ℕ) → Solves s f y → y u + most ≤ 2 * s.ceiling
      latest y p =
          let q = p.below u asks.of in
          let l = isMost.least (2 * s.ceiling - y u) under in
          omega arith
        where
          under : Under s.lo s.hi (2 * s.ceiling - y u) raised
          under v o =
              let q = p.below u asks.of in
              ⊎_elim (λ h. omega (arith, in_range v o)) (λ h. omega (arith, p.below v o)) (nearest y p v o)

      module _ {over : ℕ} (is_over : over ≡ most - s.ceiling) {row' : List ℕ} (low : Lowered s.lo s.hi over x raised row') where
        row_solves : {f : ℕ → ℕ} → Least s f (at x) → Closed s → Solves s f (at row')
        row_solves least closed =
            record {
              above = λ v o. omega (arith, least.solves.above v o, (low.inside v o).high);
              below =
                  λ v o.
                  let h = low.inside v o in
                  ⊎_elim (λ e. omega (arith, in_range v o)) (λ e. omega (arith, isMost.upper v o, row_over)) h.is;
              kept =
                  λ a b w r.
                  let (oa, ob) = closed a b w r in
                  let ha = low.inside a oa in
                  let hb = low.inside b ob in
                  ⊎_elim
                  (λ e. omega (arith, hb.high, asks.solves.kept a b w r))
                  (λ e. omega (arith, hb.near, is_least.solves.kept a b w r))
                  ha.is;
            }

        row_widest
            : {f : ℕ → ℕ} → Least s f (at x) → (y : ℕ → ℕ) → Solves s f y → (v : ℕ) → Of s v
            → y u + get_or row' v 0 ≤ get_or row' u 0 + y v
        row_widest is_low y p v o =
            let hu = low.inside u asks.of in
            let late = latest y p in
            let least = is_low.least y p v o in
            ⊎_elim
            (λ e. omega (arith, hu.near, at_ceiling, row_over))
            (λ e.
            ⊎_elim
            (λ n. omega (arith, hu.near, at_ceiling, row_over))
            (λ n. omega (arith, hu.near, at_ceiling, row_over))
            (nearest y p v o))
            (low.inside v o).is

        pub row_done : Closed s → WideDone s u x row₀ row'
        row_done closed =
            record {
              widened = λ f least. record { solves = row_solves least closed; widest = row_widest least };
              outside =
                  λ v d.
                  low.outside v d
                  ∙ done.ticks v d
                  ∙ ap (λ l. get_or l v 0) is
                  ∙ get_or-set_other row u v s.ceiling 0 (λ e. d (subst (λ i. Of s i) (sym e) asks.of))
                  ∙ copied.outside v d;
            }

      -- where nothing lies above the ceiling, raising is all
      pub row_level : most - s.ceiling ≤ 0 → 2 * s.ceiling < origin → Closed s → WideDone s u x row₀ raised
      row_level none low = row_done (omega arith) (level low)
