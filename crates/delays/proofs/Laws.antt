-- The steps of delaying a list: the delays, the rows one by one, and what they are together.
use Prim.Native.Nat.{ℕ, ◌+◌, ◌≤◌, ◌<◌}
use native.Mathlib.Omega.{arith}
use mathlib.Core.Path.{◌≡◌, refl, ap, ◌∙◌}
use mathlib.Core.Logic.{◌≢◌}
use mathlib.Core.Bool.{Bool, true}
use mathlib.Core.List.{List}
use lib.ListN.{length, get_or, set as store, length-set}
use lib.Seq.{get_or-set_same, get_or-set_other}
use Rattle.rules.specs.Sheet as rules
use Rattle.rules.specs.Sheet.{sheet_of, max_horizon}
use Rattle.rules.specs.RunList.{Plan, instances, max_times}
use Rattle.rules.specs.Plan.{latest}
use Rattle.rules.specs.Answer.{Judged}
use Rattle.rules.specs.Late.{delays_ok, delayed, delayed_of}
use Rattle.laws.specs.Set.{same_or_not}
use Rattle.sheet.specs.declared.formed.WellFormed.{WellFormed}
use Rattle.sheet.specs.WellFormed.{formed_by}
use Rattle.reader.specs.Reads.{ReadAs, read_means}
use Rattle.list_reader.specs.Laws.{plan_count}
use Rattle.sorting.specs.Counting.{group_in}
use Rattle.plan_points.specs.Flat.{cell, packed, tick_in, entry_in}
use Rattle.instances.specs.Rows.{RowHas, EventRow, EventRows}
use Rattle.judge.specs.Verdict.{Accepts}
use Rattle.delays.specs.Delays.{delays_get}
use Rattle.delays.specs.Trial.{late_tick, LateRows, Shifted, Barred, Barred.judged, Tries}

-- ---- the delays

pub in_order_of : (d l : List ℕ) {n : ℕ} {r : Bool} → n ≡ instances l → r ≡ delays_ok d n → r ≡ delays_ok d (instances l)
in_order_of d l e h = rw e at h

-- ---- the rows

-- the first k rows are late, the others as they were
pub record Shifting (d old new : List ℕ) (k : ℕ) : Type 0 where
  pub long : length new ≡ length old
  pub late : (j : ℕ) → j < k → cell new j ≡ packed (group_in (cell old j)) (late_tick d (cell old j)) (entry_in (cell old j))
  pub rest : (j : ℕ) → k ≤ j → cell new j ≡ cell old j

pub shift_start : (d rows : List ℕ) → Shifting d rows rows 0
shift_start d rows = record { long = refl; late = λ j l. absurd (omega arith); rest = λ j l. refl }

pub shift_next
    : {d old new : List ℕ} {k x : ℕ}
    → Shifting d old new k
    → k < length new
    → x ≡ packed (group_in (cell old k)) (late_tick d (cell old k)) (entry_in (cell old k))
    → Shifting d old (store new k x) (k + 1)
unfolding cell
shift_next {d} {old} {new} {k} {x} w h q =
    record {
      long = length-set new k x ∙ w.long;
      late =
          λ j l.
          same_or_not j k
          (λ z. rw z (get_or-set_same new k x 0 h ∙ q))
          (λ z. get_or-set_other new k j x 0 z ∙ w.late j (omega arith));
      rest = λ j l. get_or-set_other new k j x 0 (omega arith) ∙ w.rest j (omega arith);
    }

-- a row as it is packed again
pub packed_late
    : {d old new : List ℕ} {k g t u i r : ℕ}
    → Shifting d old new k
    → i ≡ entry_in (cell new k)
    → t ≡ tick_in (cell new k)
    → u ≡ get_or d i 0
    → g ≡ group_in (cell new k)
    → r ≡ packed g (t + u) i
    → r ≡ packed (group_in (cell old k)) (late_tick d (cell old k)) (entry_in (cell old k))
packed_late {d} {old} {new} {k} w hi ht hu hg hr =
    let e = w.rest k (omega arith) in
    hr ∙ rw (hu, hi, ht, hg, e) refl

pub shift_end : {d old new : List ℕ} {n k : ℕ} → Shifting d old new k → n ≤ k → Shifted d old n new
shift_end w h = record { long = w.long; late = λ j l. w.late j (omega arith) }

-- ---- the delayed plan

module _ {s : rules.Sheet} {p : Plan} {d old new : List ℕ} {n : ℕ} (w : EventRows s p old n) (a : LateRows d old n) (z : Shifted d old n new)
  where
    -- the tick of a row of instance i, in the delayed plan
    late_tick_lem : (k i : ℕ) → k < n → entry_in (cell old k) ≡ i → tick_in (cell new k) ≡ tick_in (cell old k) + get_or d i 0
    late_tick_lem k i h e = omega (arith, z.late k h, a.near k h, ap (λ j. get_or d j 0) e)

    late_entry : (k : ℕ) → k < n → entry_in (cell new k) ≡ entry_in (cell old k)
    late_entry k h = omega (arith, z.late k h)

    late_has : (k i e : ℕ) → k < n → RowHas s p (cell old k) i e → RowHas s (delayed p d) (cell new k) i e
    unfolding delayed
    late_has k i e h o =
        record {
          in_plan = o.in_plan;
          in_sheet = o.in_sheet;
          of_job = o.of_job;
          group = omega (arith, z.late k h, a.near k h, o.group);
          tick = late_tick_lem k i h o.entry ∙ ap (λ t. t + get_or d i 0) o.tick;
          entry = late_entry k h ∙ o.entry;
        }

    late_row : (k i e : ℕ) → k < n → EventRow s p old n k i e → EventRow s (delayed p d) new n k i e
    unfolding delayed
    late_row k i e h r =
        record {
          has = late_has k i e h r.has;
          ahead = λ m x y. let q = r.ahead m x y in (q.0, late_has (k + m) i (e + m) q.0 q.1);
        }

    late_rows : EventRows s (delayed p d) new n
    unfolding delayed
    late_rows =
        record {
          few = w.few;
          room = omega (arith, w.room, z.long);
          sound = λ k h. let q = w.sound k h in (q.0, q.1, late_row k q.0 q.1 h q.2);
          whole = λ i e x y o. let q = w.whole i e x y o in (q.0, q.1, late_row q.0 i e q.1 q.2);
        }

-- an accepted list's rows can be late: ticks are at most H, delays at most 600
module _ {b l rows d : List ℕ} {sheet : WellFormed} {n : ℕ} (r : ReadAs b sheet) (x : Accepts b l rows n) (h : delays_ok d (instances l) ≡ true) where
  pub can_be_late : LateRows d rows n
  unfolding max_times latest max_horizon
  can_be_late =
      let g = delays_get d (instances l) h in
      record {
        room = x.listed.room;
        few = omega (arith, x.listed.few);
        delay =
            λ k i.
            let q = x.listed.sound k i in
            omega (arith, q.2.has.entry, q.2.has.in_plan, plan_count (sheet_of b) l, g.0);
        near =
            λ k i.
            let q = x.listed.sound k i in
            let o = q.2.has in
            let late = (x.plan.own q.0 o.in_plan).late q.1 o.in_sheet o.of_job in
            let delay : get_or d (entry_in (cell rows k)) 0 ≤ 600 =
            g.1 _ (omega (arith, o.entry, o.in_plan, plan_count (sheet_of b) l)) in
            let far : (sheet_of b).horizon ≤ 10080 = rw (← read_means r) (formed_by sheet).formed.horizon in
            omega (arith, o.tick, late, delay, far);
      }

  -- and then the rows are those of the delayed plan
  pub tries : {new : List ℕ} → Judged b l 0 0 → Shifted d rows n new → Tries b l d new sheet n
  unfolding delayed_of
  tries j z =
      record {
        tried = record { accepted = j; delays = h };
        read = r;
        means = read_means r;
        plan = x.plan;
        listed = late_rows x.listed can_be_late z;
      }

-- ---- the refusals

pub barred_by : {b l : List ℕ} (d : List ℕ) {n : ℕ} → Judged b l n 0 × (n ≢ 0) → Barred b l d n
barred_by d {n} q = judged n q.0 q.1
