-- Raising over rows: what holds while a row is looked at, and the work that is left.
use Prim.Native.Nat.{ℕ, zero, suc, ◌+◌, ◌-◌, ◌*◌, ◌≤◌, ◌<◌, max}
use native.Mathlib.Omega.{arith}
use native.Mathlib.Decide.{ℕ_discrete, dec_lt}
use mathlib.Core.Path.{◌≡◌, refl, sym, ap, ◌∙◌}
use mathlib.Core.Logic.{◌≢◌, ◌⊎◌, inl, inr}
use mathlib.Core.List.{List}
use lib.ListN.{length, get_or, set, length-set}
use lib.Seq.{get_or-set_same, get_or-set_other}
use Rattle.kernel_advice.specs.Readable.{variables}
use Rattle.numbers.specs.Size.{word}
use Rattle.kernel_least.specs.System.{System, Between, Solves, Unsolvable, origin}
use Rattle.kernel_least.specs.Steps.Lift.{kept, raised, passed}
use Rattle.kernel_least.specs.Rows.{at, InRow, Row, rows_of, Same}
use Rattle.kernel_least.specs.Steps.{Answer, Going, sum, work, Lift, Noted, Lifted, Hop}
use Rattle.kernel_least.specs.declared.Impossible.{Impossible}
use Rattle.std.specs.Prelude.{Bool, false, Some, None, Ok, Err}

-- ---- lists

set_all
    : (P : ℕ → ℕ → Type 0) (l : List ℕ) (t a : ℕ) → t < length l → ((j : ℕ) → j ≢ t → P j (get_or l j 0)) → P t a → (j : ℕ)
    → P j (get_or (set l t a) j 0)
set_all P l t a h others here j = pick (ℕ_discrete j t)
  where
    pick : Dec (j ≡ t) → P j (get_or (set l t a) j 0)
    pick (yes e) = rw (e, get_or-set_same l t a 0 h) here
    pick (no n) = rw (get_or-set_other l t j a 0 n) (others j n)

-- a store inside leaves what is outside
same_set
    : (lo hi : ℕ) (l₀ l : List ℕ) (t a : ℕ) → Between lo hi t → Same lo hi l₀ l → Same lo hi l₀ (set l t a)
same_set lo hi l₀ l t a o s u out = get_or-set_other l t u a 0 (λ e. out (rw e o)) ∙ s u out

-- ---- the work that is left

sum_le : (f g : ℕ → ℕ) → ((i : ℕ) → g i ≤ f i) → (n : ℕ) → sum g n ≤ sum f n
unfolding sum
sum_le f g h zero = omega arith
sum_le f g h (suc n) = omega (arith, sum_le f g h n, h n)

sum_lt : (f g : ℕ → ℕ) → ((i : ℕ) → g i ≤ f i) → (v n : ℕ) → v < n → g v < f v → sum g n < sum f n
unfolding sum
sum_lt f g h v zero p q = absurd (omega arith)
sum_lt f g h v (suc n) p q = pick (ℕ_discrete v n) (λ k. sum_lt f g h v n k q)
  where
    pick : Dec (v ≡ n) → (v < n → sum g n < sum f n) → sum g (suc n) < sum f (suc n)
    pick (yes e) less = omega (arith, sum_le f g h n, rw e at q)
    pick (no d) less = omega (arith, less (omega arith), h n)

module _ (hi ceiling : ℕ) (x m : List ℕ) (v : ℕ) (there : v < length m) where
  work_clear : work hi ceiling x (set m v 0) ≤ work hi ceiling x m
  unfolding work
  work_clear =
      sum_le _ _
      (set_all (λ i n. 2 * (ceiling - get_or x i 0) + n ≤ 2 * (ceiling - get_or x i 0) + get_or m i 0) m v 0 there
      (λ i d. omega arith) (omega arith)) hi

  work_less : v < hi → 0 < get_or m v 0 → work hi ceiling x (set m v 0) < work hi ceiling x m
  unfolding work
  work_less h p =
      sum_lt _ _
      (set_all (λ i n. 2 * (ceiling - get_or x i 0) + n ≤ 2 * (ceiling - get_or x i 0) + get_or m i 0) m v 0 there
      (λ i d. omega arith) (omega arith)) v hi h (rw (get_or-set_same m v 0 0 there) (omega arith))

work_raised
    : (hi ceiling : ℕ) (x m : List ℕ) (t a : ℕ) → t < length x → t < length m → get_or x t 0 < a → a ≤ ceiling
    → work hi ceiling (set x t a) (set m t 1) ≤ work hi ceiling x m
unfolding work
work_raised hi ceiling x m t a hx hm up top = sum_le _ _ (λ i. pick i (ℕ_discrete i t)) hi
  where
    pick
        : (i : ℕ) → Dec (i ≡ t)
        → 2 * (ceiling - get_or (set x t a) i 0) + get_or (set m t 1) i 0 ≤ 2 * (ceiling - get_or x i 0) + get_or m i 0
    pick i (yes e) = rw (e, get_or-set_same x t a 0 hx, get_or-set_same m t 1 0 hm) (omega arith)
    pick i (no d) = rw (get_or-set_other x t i a 0 d, get_or-set_other m t i 1 0 d) (omega arith)

-- the rule at place r, in the numbers that were read
pub lift_at
    : (to weight : List ℕ) (base r : ℕ) {ceiling t w edge : ℕ} {noted : Bool} {o : Answer} {x m x' m' : List ℕ} → t ≡ get_or to r 0 → w ≡ get_or weight r 0
    → Lift ceiling t (base + w) edge noted x m x' m' o → Lift ceiling (get_or to r 0) (base + get_or weight r 0) edge noted x m x' m' o
lift_at to weight base r et ew l = rw (et, ew) at l

-- ---- a row that is looked at, up to place r

module _ (first to weight : List ℕ) (lo hi ceiling : ℕ) where
  abbrev pub Sys : System
  Sys = rows_of first to weight lo hi ceiling

  pub record Scan (f : ℕ → ℕ) (x m : List ℕ) (v base r : ℕ) : Type 0 where
    pub above : (u : ℕ) → Between lo hi u → f u ≤ get_or x u 0
    pub under : (u : ℕ) → Between lo hi u → get_or x u 0 ≤ ceiling
    pub least : (y : ℕ → ℕ) → Solves Sys f y → (u : ℕ) → Between lo hi u → get_or x u 0 ≤ y u
    pub low : base ≤ get_or x v 0
    pub fresh : get_or m v 0 ≡ 0 → get_or x v 0 ≡ base
    pub settled
        : (a j : ℕ) → InRow first lo hi a j → (a ≡ v → j < r) → get_or m a 0 ≡ 0
        → get_or x a 0 + get_or weight j 0 ≤ get_or x (get_or to j 0) 0 + origin

  -- a rule of the rows says of a solution
  pub says
      : {f y : ℕ → ℕ} → Solves Sys f y → (a j : ℕ) → InRow first lo hi a j
      → y a + get_or weight j 0 ≤ y (get_or to j 0) + origin
  says p a j i = p.kept a (get_or to j 0) (get_or weight j 0) (record { place = j; stands = i; target = refl; weighs = refl })

  scan_start
      : {f : ℕ → ℕ} (x m : List ℕ) (v base : ℕ) → base ≡ get_or x v 0 → Going Sys f (at x) (at m)
      → Scan f x (set m v 0) v base (get_or first v 0)
  scan_start x m v base e g =
      record {
        above = g.above;
        under = g.under;
        least = g.least;
        low = omega arith;
        fresh = λ z. sym e;
        settled = λ a j i before z. pick a j i before z (ℕ_discrete a v);
      }
    where
      pick
          : (a j : ℕ) → InRow first lo hi a j → (a ≡ v → j < get_or first v 0) → get_or (set m v 0) a 0 ≡ 0 → Dec (a ≡ v)
          → get_or x a 0 + get_or weight j 0 ≤ get_or x (get_or to j 0) 0 + origin
      pick a j i before z (yes p) =
          let h : get_or first a 0 ≤ j = i.from in
          let k : j < get_or first a 0 = rw p (before p) in
          absurd (omega arith)
      pick a j i before z (no d) =
          g.settled a (get_or to j 0) (get_or weight j 0)
          (record { place = j; stands = i; target = refl; weighs = refl })
          (rw (get_or-set_other m v a 0 0 d) at z)

  module _ {f : ℕ → ℕ} {x m : List ℕ} {v base r : ℕ} (g : Scan f x m v base r) where
    scan_kept : base + get_or weight r 0 ≤ get_or x (get_or to r 0) 0 + origin → Scan f x m v base (r + 1)
    scan_kept k =
        record {
          above = g.above;
          under = g.under;
          least = g.least;
          low = g.low;
          fresh = g.fresh;
          settled = λ a j i before z. pick a j i before z (ℕ_discrete a v) (ℕ_discrete j r);
        }
      where
        pick
            : (a j : ℕ) → InRow first lo hi a j → (a ≡ v → j < r + 1) → get_or m a 0 ≡ 0 → Dec (a ≡ v) → Dec (j ≡ r)
            → get_or x a 0 + get_or weight j 0 ≤ get_or x (get_or to j 0) 0 + origin
        pick a j i before z (yes p) (yes q) =
            rw (p, q) (omega (arith, g.fresh (rw p at z)))
        pick a j i before z (yes p) (no d) = g.settled a j i (λ e. omega (arith, before e)) z
        pick a j i before z (no d) q = g.settled a j i (λ e. absurd (d e)) z

    module _ (i : InRow first lo hi v r) (inside : Between lo hi (get_or to r 0)) where
      scan_passed : ceiling + origin < base + get_or weight r 0 → Unsolvable Sys f
      scan_passed h y p =
          omega (arith, says p v r i, g.low, g.least y p v i.of, p.below (get_or to r 0) inside)

      module _ (hx : get_or to r 0 < length x) (hm : get_or to r 0 < length m)
          (broken : get_or x (get_or to r 0) 0 + origin < base + get_or weight r 0)
          (fits : base + get_or weight r 0 ≤ ceiling + origin) where
        new : List ℕ
        new = set x (get_or to r 0) (base + get_or weight r 0 - origin)

        rises : (u : ℕ) → get_or x u 0 ≤ get_or new u 0
        unfolding new
        rises = set_all (λ u n. get_or x u 0 ≤ n) x (get_or to r 0) _ hx (λ u d. omega arith) (omega arith)

        other : (u : ℕ) → u ≢ get_or to r 0 → get_or new u 0 ≡ get_or x u 0
        unfolding new
        other u d = get_or-set_other x (get_or to r 0) u _ 0 d

        here : get_or new (get_or to r 0) 0 ≡ base + get_or weight r 0 - origin
        unfolding new
        here = get_or-set_same x (get_or to r 0) _ 0 hx

        unmarked : (u : ℕ) → get_or (set m (get_or to r 0) 1) u 0 ≡ 0 → (u ≢ get_or to r 0) × (get_or m u 0 ≡ 0)
        unmarked u z = pick (ℕ_discrete u (get_or to r 0))
          where
            pick : Dec (u ≡ get_or to r 0) → (u ≢ get_or to r 0) × (get_or m u 0 ≡ 0)
            pick (yes e) =
                let k : ◌≡◌ {A = ℕ} 1 0 = sym (get_or-set_same m (get_or to r 0) 1 0 hm) ∙ (rw e at z) in absurd (omega arith)
            pick (no d) = (d, sym (get_or-set_other m (get_or to r 0) u 1 0 d) ∙ z)

        after_raise : Scan f new (set m (get_or to r 0) 1) v base (r + 1)
        unfolding new
        after_raise =
            record {
              above = λ u o. omega (arith, g.above u o, rises u);
              under = under;
              least = least;
              low = omega (arith, g.low, rises v);
              fresh = λ z. other v (unmarked v z).0 ∙ g.fresh (unmarked v z).1;
              settled = λ a j i' before z. pick a j i' before (unmarked a z).0 (unmarked a z).1 (ℕ_discrete a v) (ℕ_discrete j r);
            }
          where
            under : (u : ℕ) → Between lo hi u → get_or new u 0 ≤ ceiling
            under =
                set_all (λ u n. Between lo hi u → n ≤ ceiling) x (get_or to r 0) _ hx (λ u d. g.under u) (λ o. omega arith)

            least : (y : ℕ → ℕ) → Solves Sys f y → (u : ℕ) → Between lo hi u → get_or new u 0 ≤ y u
            least y p =
                set_all (λ u n. Between lo hi u → n ≤ y u) x (get_or to r 0) _ hx (λ u d. g.least y p u)
                (λ o. omega (arith, says p v r i, g.low, g.least y p v i.of))

            pick
                : (a j : ℕ) → InRow first lo hi a j → (a ≡ v → j < r + 1) → a ≢ get_or to r 0 → get_or m a 0 ≡ 0 → Dec (a ≡ v)
                → Dec (j ≡ r) → get_or new a 0 + get_or weight j 0 ≤ get_or new (get_or to j 0) 0 + origin
            pick a j i' before d z (yes p) (yes q) =
                rw q (omega (arith, here, other a d, rw p at (other a d), g.fresh (rw p at z), ap (at x) p))
            pick a j i' before d z (yes p) (no k) =
                omega (arith, other a d, rises (get_or to j 0), g.settled a j i' (λ e. omega (arith, before e)) z)
            pick a j i' before d z (no k) q =
                omega (arith, other a d, rises (get_or to j 0), g.settled a j i' (λ e. absurd (k e)) z)

        scan_raised
            : Scan f (set x (get_or to r 0) (base + get_or weight r 0 - origin)) (set m (get_or to r 0) 1) v base (r + 1)
        unfolding new
        scan_raised = after_raise

    scan_done : get_or first (v + 1) 0 ≤ r → Going Sys f (at x) (at m)
    scan_done h =
        record {
          above = g.above;
          under = g.under;
          least = g.least;
          settled = λ a b w p z. rw (← p.target, ← p.weighs) (g.settled a p.place p.stands (last a p) z);
        }
      where
        last : (a : ℕ) {b w : ℕ} (p : Row first to weight lo hi a b w) → a ≡ v → p.place < r
        last a p e = omega (arith, p.stands.below, ap (λ (k : ℕ). get_or first (k + 1) 0) e)

  -- ---- the loop over a row

  pub record RowInv (v base : ℕ) (x₀ m₀ : List ℕ) (r₀ : ℕ) (x m : List ℕ) (r : ℕ) : Type 0 where
    pub from : r₀ ≤ r
    pub xs : length x ≡ length x₀
    pub ms : length m ≡ length m₀
    pub ticks : Same lo hi x₀ x
    pub less : work hi ceiling x m ≤ work hi ceiling x₀ m₀
    pub going : (f : ℕ → ℕ) → Scan f x₀ m₀ v base r₀ → Scan f x m v base r

  pub row_start : (v base : ℕ) (x m : List ℕ) (r : ℕ) → RowInv v base x m r x m r
  row_start v base x m r =
      record {
        from = omega arith;
        xs = refl;
        ms = refl;
        ticks = λ u o. refl;
        less = omega arith;
        going = λ f s. s;
      }

  module _
      {v base r r₀ : ℕ} {x₀ m₀ x m x' m' : List ℕ}
      (inv : RowInv v base x₀ m₀ r₀ x m r)
      (i : InRow first lo hi v r)
      (inside : Between lo hi (get_or to r 0))
      (hx : get_or to r 0 < length x)
      (hm : get_or to r 0 < length m) where
    pub Row-step
        : {edge : ℕ} {noted a : Bool} → Lift ceiling (get_or to r 0) (base + get_or weight r 0) edge noted x m x' m' (Ok a)
        → RowInv v base x₀ m₀ r₀ x' m' (r + 1)
    Row-step (kept k ex em z) =
        rw (ex, em) (record {
          from = omega (arith, inv.from);
          xs = inv.xs;
          ms = inv.ms;
          ticks = inv.ticks;
          less = inv.less;
          going = λ f s. scan_kept (inv.going f s) k;
        })
    Row-step (raised b fits ex em n z k) =
        rw (ex, em) (record {
          from = omega (arith, inv.from);
          xs = length-set x (get_or to r 0) (base + get_or weight r 0 - origin) ∙ inv.xs;
          ms = length-set m (get_or to r 0) 1 ∙ inv.ms;
          ticks = same_set lo hi x₀ x (get_or to r 0) (base + get_or weight r 0 - origin) inside inv.ticks;
          less =
              omega (
                arith,
                inv.less,
                work_raised hi ceiling x m (get_or to r 0) (base + get_or weight r 0 - origin) hx hm (omega arith) (omega arith),
              );
          going = λ f s. scan_raised (inv.going f s) i inside hx hm b fits;
        })
    Row-step (passed k ex em e z) = absurd (cc)

  module _
      (X M : List ℕ) {v base r₀ r : ℕ} {x m : List ℕ}
      (there : v < length M)
      (ov : Between lo hi v)
      (read : base ≡ get_or X v 0)
      (start : r₀ ≡ get_or first v 0)
      (inv : RowInv v base X (set M v 0) r₀ x m r) where
    begun : (f : ℕ → ℕ) → Going Sys f (at X) (at M) → Scan f x m v base r
    begun f g = inv.going f (rw start (scan_start X M v base read g))

    fewer : 0 < get_or M v 0 → work hi ceiling x m < work hi ceiling X M
    fewer h = omega (arith, inv.less, work_less hi ceiling X M v there ov.below h)

    no_more : work hi ceiling x m ≤ work hi ceiling X M
    no_more = omega (arith, inv.less, work_clear hi ceiling X M v there)

    pub row_done : {T : Type 0} {a : T} → get_or first (v + 1) 0 ≤ r → Lifted Sys v X M x m (Ok a)
    row_done h =
        record {
          swept =
              record {
                ticks = inv.ticks;
                less = no_more;
                going = λ z f g. scan_done (begun f g) h;
                none = λ z. absurd (cc);
              };
          less = fewer;
        }

    pub row_none
        : {T : Type 0} {edge : ℕ} {noted : Bool} {e e' : Impossible} {x' m' : List ℕ}
        → InRow first lo hi v r → Between lo hi (get_or to r 0)
        → Lift ceiling (get_or to r 0) (base + get_or weight r 0) edge noted x m x' m' (Err e)
        → Lifted {T = T} Sys v X M x' m' (Err e')
    row_none i inside (kept k ex em z) = absurd (cc)
    row_none i inside (raised b fits ex em n z k) = absurd (cc)
    row_none i inside (passed k ex em e z) =
        rw (ex, em) (record {
          swept =
              record {
                ticks = inv.ticks;
                less = no_more;
                going = λ z. absurd (cc);
                none = λ z f g. scan_passed (begun f g) i inside k;
              };
          less = fewer;
        })

-- ---- what is noted while a row is looked at

pub record NoteInv (edge : ℕ) (before : Bool) (m₀ m : List ℕ) (noted : Bool) : Type 0 where
  pub was : noted ≡ false → before ≡ false
  pub clear : noted ≡ false → (u : ℕ) → edge ≤ u → get_or m₀ u 0 ≡ 0 → get_or m u 0 ≡ 0

pub note_start : (edge : ℕ) (noted : Bool) (m : List ℕ) → NoteInv edge noted m m noted
note_start edge noted m = record { was = λ z. z; clear = λ z u e q. q }

pub note_step
    : {edge t need ceiling : ℕ} {before late a : Bool} {m₀ x m x' m' : List ℕ} → NoteInv edge before m₀ m late
    → Lift ceiling t need edge late x m x' m' (Ok a) → NoteInv edge before m₀ m' a
note_step {late = late} {a = a} inv (kept _ ex em z) =
    let e : a ≡ late = cc in
    rw (em, e) inv
note_step {t = t} {a = a} {m = m} inv (raised _ _ ex em b z n) =
    let e : a ≡ b = cc in
    rw (em, e) (record {
      was = λ e. inv.was (n.was e);
      clear =
          λ e u p q. get_or-set_other m t u 1 0 (λ d. omega (arith, n.below e)) ∙ inv.clear (n.was e) u p q;
    })
note_step inv (passed _ ex em e z) = absurd (cc)

pub noted
    : {edge : ℕ} {before : Bool} (M : List ℕ) (v : ℕ) {m : List ℕ} {r : Bool} → v < length M → NoteInv edge before (set M v 0) m r
    → Noted edge v before M m (Ok r)
noted M v there inv =
    record { was = λ z. inv.was (cc); clear = λ z u e p. inv.clear (cc) u e (unmarked u p (ℕ_discrete u v)) }
  where
    unmarked : (u : ℕ) → (u ≡ v) ⊎ (get_or M u 0 ≡ 0) → Dec (u ≡ v) → get_or (set M v 0) u 0 ≡ 0
    unmarked u p (yes e) = rw e (get_or-set_same M v 0 0 there)
    unmarked u (inl e) (no d) = absurd (d e)
    unmarked u (inr z) (no d) = get_or-set_other M v u 0 0 d ∙ z

pub noted_none : {e : Impossible} (edge v : ℕ) (before : Bool) (M m : List ℕ) → Noted edge v before M m (Err e)
noted_none edge v before M m = record { was = λ z. absurd (cc); clear = λ z. absurd (cc) }

-- ---- the greatest weight from p to v, and a walk back to s by who lifted whom

module _ (first to weight : List ℕ) (lo hi p v : ℕ) where
  -- w is 0, or the weight of a rule from p to v
  pub record Best (w : ℕ) : Type 0 where
    pub small : w < word
    pub stands : 0 < w → Row first to weight lo hi p v w

  pub best_none : Best 0
  best_none = record { small = omega arith; stands = λ h. absurd (omega arith) }

  pub best_step
      : {best r t w : ℕ} → Best best → InRow first lo hi p r → t ≡ get_or to r 0 → t ≡ v → w ≡ get_or weight r 0 → w < word
      → Best (max best w)
  best_step {best} {r} {t} {w} h i et e ew k = pick (dec_lt best w)
    where
      pick : Dec (best < w) → Best (max best w)
      pick (yes l) =
          let q : max best w ≡ w = omega arith in
          rw q (record {
            small = k;
            stands = λ z. record { place = r; stands = i; target = sym et ∙ e; weighs = sym ew };
          })
      pick (no d) =
          let q : max best w ≡ best = omega arith in
          rw q h

  pub hop_none : Hop (Row first to weight lo hi) p v None
  hop_none = record { small = tt; stands = tt }

  pub hop_some : {best : ℕ} → Best best → (best ≡ 0 → ⊥) → Hop (Row first to weight lo hi) p v (Some best)
  hop_some h d = record { small = h.small; stands = h.stands (omega arith) }

module _ (first to weight : List ℕ) (lo hi s : ℕ) where
  pub record WalkInv (v total base left : ℕ) : Type 0 where
    pub of : Between lo hi v
    pub total_fits : total + word * left ≤ word * variables
    pub base_fits : base + origin * left ≤ origin * variables
    pub says
        : (ceiling : ℕ) (f y : ℕ → ℕ) → Solves (rows_of first to weight lo hi ceiling) f y → y v + total ≤ y s + base

  pub walk_start : Between lo hi s → hi ≤ variables → WalkInv s 0 0 (hi - lo)
  walk_start o small =
      record { of = o; total_fits = omega arith; base_fits = omega arith; says = λ ceiling f y p. omega arith }

  module _ {v total base left p w : ℕ} (inv : WalkInv v total base left) (r : Row first to weight lo hi p v w) where
    walk_says
        : (ceiling : ℕ) (f y : ℕ → ℕ) → Solves (rows_of first to weight lo hi ceiling) f y
        → y p + (total + w) ≤ y s + (base + origin)
    walk_says ceiling f y q = omega (arith, inv.says ceiling f y q, q.kept p v w r)

    pub walk_step : {rest : ℕ} → rest + 1 ≡ left → w < word → WalkInv p (total + w) (base + origin) rest
    walk_step h k =
        record {
          of = r.stands.of;
          total_fits = omega (arith, inv.total_fits);
          base_fits = omega (arith, inv.base_fits);
          says = walk_says;
        }

    pub walk_gains
        : p ≡ s → base + origin < total + w → (ceiling : ℕ) (f : ℕ → ℕ) → Unsolvable (rows_of first to weight lo hi ceiling) f
    walk_gains z h ceiling f y q = omega (arith, walk_says ceiling f y q, ap y z)
