-- The loops' steps: filling the rows, the window, and the bounds.
use Prim.Native.Nat.{ℕ, zero, suc, ◌+◌, ◌-◌, ◌*◌, ◌≤◌, ◌<◌}
use native.Mathlib.Omega.{arith}
use native.Mathlib.Decide.{dec_lt}
use native.Mathlib.Numerals.{add-one}
use borrow.Author.Tests.{lt-ltb, le-ltb}
use mathlib.Core.Path.{◌≡◌, refl, sym, ap, subst, ◌∙◌}
use mathlib.Core.Logic.{◌↔◌, dite}
use mathlib.Core.Bool.{Bool}
use mathlib.Core.List.{List, [], map}
use denote.Ref.{Bor}
use Rattle.laws.specs.Columns.{get_d_map}
use lib.ListN.{length, get_or, set as store, length-set, replicate, length-replicate, get_or-replicate, get_or-eq_default}
use lib.Seq.{get_or-set_same, get_or-set_other}
use Rattle.rules.specs.Count.{two}
use Rattle.rules.specs.Sheet as rules
use Rattle.rules.specs.Sheet.{begins, origin, tightest, max_facts, max_events, max_jobs}
use Rattle.rules.specs.RunList.{instances, events_of, rank, job_of, plan_of, max_times, max_instances}
use Rattle.rules.specs.Plan.{Meets, earliest, latest}
use Rattle.laws.specs.Test.{Says, says_of}
use Rattle.laws.specs.Set.{same_or_not}
use Rattle.laws.specs.Formed.{Formed}
use Rattle.laws.specs.Pairs.{tightest_at}
use Rattle.sheet.specs.WellFormed.{said_by, formed_by}
use Rattle.sheet.specs.View.{type_of, event_from, PairIs}
use Rattle.sheet.specs.declared.formed.WellFormed.{WellFormed}
use Rattle.sheet.specs.declared.Event.{Event}
use Rattle.sheet.specs.declared.Pair.{Pair}
use Rattle.index.specs.Laws.{span_events, span_rank}
use Rattle.index.specs.View.{KeysOf}
use Rattle.list_reader.specs.View.{times_of}
use Rattle.list_reader.specs.Laws.{times_start, times_step, times_rise, body_times, body_rise, body_start}
use Rattle.list_reader.specs.Laws.{list_rules, list_job, list_times, plan_count, plan_job, plan_time, plan_inside}
use Rattle.sorting.specs.Counting.{group_in}
use Rattle.plan_points.specs.Flat.{Every, cell, groups, group_of, packed, type_in, fact_in, entry_at, tick_at}
use Rattle.std.specs.Prelude.{Option, None}
use Rattle.instances.specs.Chain.{link_at, Unchained, Chained}
use Rattle.instances.specs.Decode.{type_from}
use Rattle.instances.specs.Rows.{InstancesOf, Lists, entry_jobs, time_at, BodyFits, BodyFilled, RowHas, EventRow, EventRows}
use Rattle.instances.specs.Own.{TimelyEvent, next_tick, TimelyRow, MeetsAt, OnePair, PairMet}
use Rattle.instances.specs.declared.Body.{Body}
use Rattle.instances.proofs.Pairs.{PairOf}

-- ---- the columns of a bundle

abbrev no_column : Bor (List ℕ)
no_column = record { ref_ptr = (0, 0); now = [] }

-- column k of the bundle, as the code takes it out
abbrev pub lent : List (Bor (List ℕ)) → ℕ → List ℕ
lent columns k = (get_or columns k no_column).now

pub jobs_lent : (columns : List (Bor (List ℕ))) → entry_jobs (map (λ x. x.now) columns) ≡ lent columns 1
jobs_lent columns = get_d_map (λ x. x.now) columns 1 no_column

-- the job of an entry
pub job_lent
    : (columns : List (Bor (List ℕ))) {j e i : ℕ}
    → j ≡ get_or (lent columns 1) e 0
    → e ≡ i
    → j ≡ cell (entry_jobs (map (λ x. x.now) columns)) i
unfolding cell
job_lent columns p q = rw (jobs_lent columns, ← q) p

pub columns_lent
    : {sheet : WellFormed} (columns : List (Bor (List ℕ))) {count : ℕ} {l : List ℕ}
    → Lists sheet (map (λ x. x.now) columns) count l
    → InstancesOf sheet (lent columns 0) (lent columns 1) (lent columns 2) count l
columns_lent columns w =
    let first = get_d_map (λ x. x.now) columns 0 no_column in
    let place = get_d_map (λ x. x.now) columns 2 no_column in
    rw (← first, ← jobs_lent columns, ← place) w

-- ---- one instance

-- the rows of the events before e are filled
pub record FillingBody (group : List ℕ) (at : Body) (l : List ℕ) (n : ℕ) (old new : List ℕ) (e : ℕ) : Type 0 where
  pub from : at.first ≤ e
  pub to : e ≤ at.end
  pub long : length new ≡ length old
  pub before : (k : ℕ) → k < n → cell new k ≡ cell old k
  pub here
      : (d : ℕ)
      → at.first ≤ d
      → d < e
      → cell new (n + (d - at.first)) ≡ packed (cell group d) (time_at l at.place at.first d) at.entry
  pub ticks : (d : ℕ) → at.first ≤ d → d < e → time_at l at.place at.first d < 65536

module _ {group : List ℕ} {at : Body} {l : List ℕ} {n : ℕ} {old : List ℕ} (f : BodyFits group at l old n) where
  module _ {new : List ℕ} {e : ℕ} (w : FillingBody group at l n old new e) where
    pub body_room : e < at.end → n + (e - at.first) < length new
    body_room h = omega (arith, f.room, w.long, w.from)

    pub body_next
        : {g t x : ℕ}
        → e < at.end
        → g ≡ cell group e
        → t ≡ two l (at.place + 2 * (e - at.first))
        → t < 65536
        → x ≡ packed g t at.entry
        → FillingBody group at l n old (store new (n + (e - at.first)) x) (e + 1)
    unfolding cell time_at
    body_next {g} {t} {x} h is_group isTick small is_row =
        record {
          from = omega (arith, w.from);
          to = omega arith;
          long = length-set new (n + (e - at.first)) x ∙ w.long;
          before =
              λ k a. get_or-set_other new (n + (e - at.first)) k x 0 (omega arith) ∙ w.before k a;
          here =
              λ d a b.
              same_or_not d e
              (λ z.
              ap (λ i. get_or (store new (n + (e - at.first)) x) (n + (i - at.first)) 0) z
              ∙ get_or-set_same new (n + (e - at.first)) x 0 (body_room h)
              ∙ is_row
              ∙ ap (λ i. packed i t at.entry) is_group
              ∙ ap (λ i. packed (cell group e) i at.entry) isTick
              ∙ ap (λ i. packed (cell group i) (two l (at.place + 2 * (i - at.first))) at.entry) (sym z))
              (λ z.
              get_or-set_other new (n + (e - at.first)) (n + (d - at.first)) x 0 (λ y. z (omega (arith, w.from)))
              ∙ w.here d a (omega arith));
          ticks =
              λ d a b.
              same_or_not d e
              (λ z. subst (λ i. two l (at.place + 2 * (i - at.first)) < 65536) (sym z) (omega arith))
              (λ z. w.ticks d a (omega arith));
        }

-- ---- all instances

-- where the row of event e of instance i stands
abbrev row_place : rules.Sheet → List ℕ → (i e : ℕ) → ℕ
row_place s l i e = times_of s l i + rank s e

-- the rows of the first i instances are filled
pub record FillingAll (s : rules.Sheet) (l : List ℕ) (m : ℕ) (rows : List ℕ) (n i : ℕ) : Type 0 where
  pub count : n ≡ times_of s l i
  pub within : i ≤ instances l
  pub long : length rows ≡ m
  pub done
      : (j e : ℕ)
      → j < i
      → e < s.events
      → (s.event e).job ≡ job_of s l j
      → RowHas s (plan_of s l) (cell rows (row_place s l j e)) j e

pub filling_start : (s : rules.Sheet) (l rows : List ℕ) → FillingAll s l (length rows) rows 0 0
filling_start s l rows =
    record {
      count = sym (times_start s l);
      within = omega arith;
      long = refl;
      done = λ j e h. absurd (omega arith);
    }

module _ {sheet : WellFormed} {first jobs places : List ℕ} {count : ℕ} {l : List ℕ} (w : InstancesOf sheet first jobs places count l) where
  abbrev s : rules.Sheet
  s = said_by sheet

  abbrev f : Formed s
  f = (formed_by sheet).formed

  entry_job : (i : ℕ) → i < count → cell jobs i ≡ job_of s l i
  unfolding cell
  entry_job i h = w.list.job i h

  pub entry_known : (i : ℕ) → i < count → cell jobs i < s.jobs
  entry_known i h = omega (arith, entry_job i h, list_job s l w.list.ok i (omega (arith, w.list.count)))

  -- the event at a place of a job's span, and its place among them
  span_place : (j e : ℕ) → j < s.jobs → e < s.events → (s.event e).job ≡ j → rank s e ≡ e - cell first j
  unfolding cell
  span_place j e h k q = span_rank w.spans j h e k q

  span_size : (j : ℕ) → j < s.jobs → events_of s j ≡ cell first (j + 1) - cell first j
  unfolding cell
  span_size j h = span_events w.spans j h

  span_rise : (j : ℕ) → j < s.jobs → cell first j ≤ cell first (j + 1)
  unfolding cell
  span_rise j h = w.spans.rises j h

  span_within : (j : ℕ) → j < s.jobs → cell first (j + 1) ≤ s.events
  unfolding cell
  span_within j h = w.spans.within (j + 1) (omega arith)

  in_span : (d e : ℕ) → d < count → e < s.events → (s.event e).job ≡ cell jobs d → (cell first (cell jobs d) ≤ e) ×
      (e < cell first (cell jobs d + 1))
  unfolding cell
  in_span d e a k o = (w.spans.from e (cell jobs d) k (entry_known d a) o, w.spans.to e (cell jobs d) k (entry_known d a) o)

  of_span : (d e : ℕ) → d < count → cell first (cell jobs d) ≤ e → e < cell first (cell jobs d + 1) → (s.event e).job ≡ cell jobs d
  unfolding cell
  of_span d e a from to = w.spans.of_job e (cell jobs d) (entry_known d a) from to

  -- the tick that the plan says
  entry_time
      : (i e : ℕ)
      → i < count
      → e < s.events
      → (s.event e).job ≡ cell jobs i
      → time_at l (cell places i) (cell first (cell jobs i)) e ≡ (plan_of s l).time i e
  unfolding time_at cell
  entry_time i e h k q = sym (plan_time w.list w.spans i e (cell jobs i) h k q (entry_known i h))

  next_times : (i : ℕ) → i < count → times_of s l (i + 1) ≡ times_of s l i + (cell first (cell jobs i + 1) - cell first (cell jobs i))
  next_times i h =
      omega (
        arith,
        times_step s l i,
        ap (events_of s) (entry_job i h),
        span_size (cell jobs i) (entry_known i h),
      )

  all_times : (i : ℕ) → i ≤ count → times_of s l i ≤ 512
  all_times i h = omega (arith, times_rise s l i (instances l) (omega (arith, w.list.count)), list_times s l w.list.ok)

  module _ {group rows : List ℕ} {m n i : ℕ} (g : KeysOf s group) (room : max_times ≤ m) (few : m < 65536)
      (z : FillingAll s l m rows n i) (h : i < count) where
    abbrev j : ℕ
    j = cell jobs i

    abbrev body : Body
    body = record { entry = i; first = cell first j; end = cell first (j + 1); place = cell places i }

    filling_fits : BodyFits group body l rows n
    unfolding max_times max_events max_instances cell
    filling_fits =
        let r = list_rules s l w.list.ok in
        let known = entry_known i h in
        record {
          entry = omega (arith, w.list.few);
          rises = span_rise j known;
          in_group = omega (arith, span_within j known, g.long);
          keys =
              λ e from to.
              let k : e < s.events = omega (arith, span_within j known) in
              omega (arith, g.keys e k, f.kind e k, f.fact e k, (formed_by sheet).few.facts);
          few_events = omega (arith, span_within j known, (formed_by sheet).few.events);
          in_list =
              omega (
                arith,
                w.list.place i h,
                next_times i h,
                body_times s l i,
                body_times s l (i + 1),
                body_rise s l (i + 1) (instances l) (omega (arith, w.list.count)),
                r.end,
              );
          short = omega (arith, r.end, r.times, r.few, body_start s l);
          room = omega (arith, z.count, z.long, next_times i h, all_times (i + 1) (omega arith));
          few = omega (arith, z.long);
        }

    -- the body as the code made it
    abbrev body_with : (from to at : ℕ) → Body
    body_with from to at = record { entry = i; first = from; end = to; place = at }

    pub body_fits
        : (k : ℕ) {from to at : ℕ}
        → k ≡ j
        → from ≡ cell first k
        → to ≡ cell first (k + 1)
        → at ≡ cell places i
        → BodyFits group (body_with from to at) l rows n
    body_fits k a b c d = rw (b, c, d, a) filling_fits

    -- a row as it was packed
    row_has
        : {x e : ℕ}
        → e < s.events
        → (s.event e).job ≡ j
        → time_at l (cell places i) (cell first j) e < 65536
        → x ≡ packed (cell group e) (time_at l (cell places i) (cell first j) e) i
        → RowHas s (plan_of s l) x i e
    unfolding cell group_of max_facts max_instances
    row_has {x} {e} k q small is_row =
        let group-is = g.keys e k in
        let few' = w.list.few in
        let kind = f.kind e k in
        let fact = f.fact e k in
        let facts = (formed_by sheet).few.facts in
        record {
          in_plan = omega (arith, plan_count s l, w.list.count);
          in_sheet = k;
          of_job = q ∙ entry_job i h ∙ sym (plan_job s l i);
          group = omega (arith, group-is, is_row, small, kind, fact, facts, few');
          tick = omega (arith, is_row, small, few', entry_time i e h k q);
          entry = omega (arith, is_row, few');
        }

    module _ {new : List ℕ} {r : ℕ} (q : BodyFilled group body l n rows new r) where
      abbrev Has : (d e : ℕ) → Type 0
      Has d e = RowHas s (plan_of s l) (cell new (row_place s l d e)) d e

      old : (d e : ℕ) → d < i → e < s.events → (s.event e).job ≡ job_of s l d → Has d e
      old d e a k o =
          let known = entry_known d (omega arith) in
          let own = o ∙ sym (entry_job d (omega arith)) in
          let span = in_span d e (omega arith) k own in
          let below : row_place s l d e < n =
          omega (
            arith,
            span,
            span_place (cell jobs d) e known k own,
            next_times d (omega arith),
            times_rise s l (d + 1) i (omega arith),
            z.count,
          ) in
          subst (λ x. RowHas s (plan_of s l) x d e) (sym (q.before (row_place s l d e) below)) (z.done d e a k o)

      here : (e : ℕ) → e < s.events → (s.event e).job ≡ job_of s l i → Has i e
      here e k o =
          let own = o ∙ sym (entry_job i h) in
          let span = in_span i e h k own in
          let same : n + (e - cell first j) ≡ row_place s l i e = omega (arith, z.count, span_place j e (entry_known i h) k own) in
          subst (λ x. RowHas s (plan_of s l) (cell new x) i e) same
          (row_has k own (q.ticks e span.0 span.1) (q.here e span.0 span.1))

      filling_next : FillingAll s l m new r (i + 1)
      filling_next =
          record {
            count = omega (arith, q.count, z.count, next_times i h);
            within = omega (arith, w.list.count);
            long = q.long ∙ z.long;
            done =
                λ d e a k o.
                same_or_not d i
                (λ y. subst (λ x. (s.event e).job ≡ job_of s l x → Has x e) (sym y) (here e k) o)
                (λ y. old d e (omega arith) k o);
          }

    pub body_filled
        : (k : ℕ) {from to at : ℕ} {new : List ℕ} {r : ℕ}
        → k ≡ j
        → from ≡ cell first k
        → to ≡ cell first (k + 1)
        → at ≡ cell places i
        → BodyFilled group (body_with from to at) l n rows new r
        → FillingAll s l m new r (i + 1)
    body_filled k a b c d q = filling_next (rw (b, c, d, a) at q)

  -- ---- when all are filled
  module _ {rows : List ℕ} {m n i : ℕ} (room : max_times ≤ m) (z : FillingAll s l m rows n i) (h : count ≤ i) where
    all_count : n ≡ times_of s l count
    all_count =
        let e : i ≡ count = omega (arith, z.within, w.list.count) in
        z.count ∙ ap (times_of s l) e

    place_below : (d e : ℕ) → d < count → e < s.events → (s.event e).job ≡ job_of s l d → row_place s l d e < n
    place_below d e a k o =
        let own = o ∙ sym (entry_job d a) in
        omega (
          arith,
          in_span d e a k own,
          span_place (cell jobs d) e (entry_known d a) k own,
          next_times d a,
          times_rise s l (d + 1) count (omega arith),
          all_count,
        )

    -- the place of a later event of the job
    place_ahead
        : (d e m : ℕ)
        → d < count
        → e < s.events
        → (s.event e).job ≡ job_of s l d
        → e + m < s.events
        → (s.event (e + m)).job ≡ job_of s l d
        → row_place s l d (e + m) ≡ row_place s l d e + m
    place_ahead d e m a k o k' o' =
        let own = o ∙ sym (entry_job d a) in
        let own' = o' ∙ sym (entry_job d a) in
        omega (
          arith,
          in_span d e a k own,
          span_place (cell jobs d) e (entry_known d a) k own,
          span_place (cell jobs d) (e + m) (entry_known d a) k' own',
        )

    has_row : (d e : ℕ) → d < count → e < s.events → (s.event e).job ≡ job_of s l d → RowHas s (plan_of s l)
        (cell rows (row_place s l d e)) d e
    has_row d e a k o = z.done d e (omega arith) k o

    event_row_lem
        : (d e : ℕ)
        → d < count
        → e < s.events
        → (s.event e).job ≡ job_of s l d
        → EventRow s (plan_of s l) rows n (row_place s l d e) d e
    event_row_lem d e a k o =
        record {
          has = has_row d e a k o;
          ahead =
              λ m x y.
              let own = y ∙ plan_job s l d in
              let z = place_ahead d e m a k o x own in (
                omega (arith, z, place_below d (e + m) a x own),
                subst (λ r. RowHas s (plan_of s l) (cell rows r) d (e + m)) z (has_row d (e + m) a x own),
              );
        }

    -- the instance whose rows hold place k
    find : (d k : ℕ) → d ≤ count → k < times_of s l d → (c : ℕ) × (c < d) × (times_of s l c ≤ k) × (k < times_of s l (c + 1))
    find zero k a l' = absurd (omega (arith, times_start s l))
    find (suc d) k a l' =
        dite (dec_lt k (times_of s l d))
        (λ y. let q = find d k (omega arith) y in (q.0, omega (arith, q.1), q.2, q.3))
        (λ y. (d, omega arith, omega arith, rw add-one l'))

    at_place : (k : ℕ) → k < n → (d : ℕ) × (e : ℕ) × EventRow s (plan_of s l) rows n k d e
    at_place k a =
        let q = find count k (omega arith) (omega (arith, all_count)) in
        let d = q.0 in
        let e = cell first (cell jobs d) + (k - times_of s l d) in
        let known = entry_known d q.1 in
        let to : e < cell first (cell jobs d + 1) = omega (arith, q.2, q.3, next_times d q.1, span_rise (cell jobs d) known) in
        let inside : e < s.events = omega (arith, span_within (cell jobs d) known) in
        let own : (s.event e).job ≡ cell jobs d = of_span d e q.1 (omega arith) to in
        let same : row_place s l d e ≡ k = omega (arith, span_place (cell jobs d) e known inside own, q.2) in (
          d,
          e,
          subst (λ r. EventRow s (plan_of s l) rows n r d e) same (event_row_lem d e q.1 inside (own ∙ entry_job d q.1)),
        )

    pub filling_end : EventRows s (plan_of s l) rows n
    unfolding max_times
    filling_end =
        record {
          few = omega (arith, all_count, all_times count (omega arith));
          room = omega (arith, all_count, all_times count (omega arith), z.long);
          sound = at_place;
          whole =
              λ d e a k o.
              let a' : d < count = omega (arith, plan_count s l, w.list.count) in
              let own = o ∙ plan_job s l d in
              (row_place s l d e, place_below d e a' k own, event_row_lem d e a' k own);
        }

-- ---- the window, and the needs' ends

pub next_some : (rows : List ℕ) (n k t : ℕ) → k + 1 < n → t ≡ tick_at rows (k + 1) → t ≡ next_tick rows n k
unfolding next_tick
next_some rows n k t l e = rw (lt-ltb (k + 1) n l) e

pub next_none : (rows : List ℕ) (n k : ℕ) → n ≤ k + 1 → 0 ≡ next_tick rows n k
unfolding next_tick
next_none rows n k l = rw (le-ltb (k + 1) n l) refl

-- a row's event as it was decoded
pub timely_row
    : (s : rules.Sheet) (jobs rows : List ℕ) (n k : ℕ) {a h : ℕ} {x : Event} {t u : ℕ}
    → group_in (cell rows k) < groups
    → a ≡ earliest s (cell jobs (entry_at rows k))
    → h ≡ latest s (cell jobs (entry_at rows k))
    → x ≡ event_from (type_in (cell rows k)) (fact_in (cell rows k))
    → t ≡ tick_at rows k
    → u ≡ next_tick rows n k
    → (b : Bool)
    → Says (TimelyEvent a h x t u) b
    → Says (TimelyRow s jobs rows n k) b
timely_row s jobs rows n k {a} {h} {x} {t} {u} few ea eh ex et eu =
    let type : type_of x ≡ type_in (cell rows k) =
    ap type_of ex ∙ type_from (type_in (cell rows k)) (fact_in (cell rows k)) (omega arith) in
    says_of (
      λ w.
          record {
            not_early = omega (arith, w.not_early);
            not_late = omega (arith, w.not_late);
            ordered = λ z. omega (arith, w.ordered (type ∙ z));
          },
      λ w.
          record {
            not_early = omega (arith, w.not_early);
            not_late = omega (arith, w.not_late);
            ordered = λ z. omega (arith, w.ordered (sym type ∙ z));
          },
    )

-- ---- the bounds

no_links : (m g : ℕ) → link_at (replicate m None) g ≡ None
no_links m g = go (dec_lt g m)
  where
    go : Dec (g < m) → link_at (replicate m None) g ≡ None
    go (yes l) = get_or-replicate {A = Option ℕ} m g None None l
    go (no l) = get_or-eq_default (replicate m None) None (let n = length-replicate {A = Option ℕ} m None in omega arith)

pub unchained
    : {sheet : WellFormed} {first jobs places : List ℕ} {count : ℕ} {l : List ℕ}
    → InstancesOf sheet first jobs places count l
    → Unchained jobs count (replicate max_instances None) (replicate max_jobs None)
unfolding max_instances max_jobs
unchained {sheet = sheet} w =
    record {
      few = omega (arith, w.list.few);
      groups = omega (arith, w.list.few, w.list.room.job_room);
      links = omega (arith, w.list.few, length-replicate {A = Option ℕ} 64 None);
      known = λ k h. omega (arith, entry_known w k h, (formed_by sheet).formed.jobs);
      lasts = omega (arith, length-replicate {A = Option ℕ} 32 None);
      none = no_links 32;
    }

-- the ticks as they were read
pub meets_read
    : (c : Pair) (l : List ℕ) (place first x y : ℕ)
    → x ≡ two l (place + 2 * (c.later - first))
    → y ≡ two l (place + 2 * (c.earlier - first))
    → (b : Bool)
    → Says (MeetsAt c x y) b
    → Says (MeetsAt c (time_at l place first c.later) (time_at l place first c.earlier)) b
unfolding time_at
meets_read c l place first x y p q b h = rw (← p, ← q) h

-- the pair of row k as it was looked up, with the job of its events
module _
    {sheet : WellFormed}
    {first jobs places : List ℕ}
    {count : ℕ}
    {l : List ℕ}
    (w : InstancesOf sheet first jobs places count l)
    {k : ℕ}
    (h : k < (said_by sheet).bounds)
    {c : Pair}
    (q : PairIs (said_by sheet) k c)
    {job : ℕ}
    (j : job ≡ ((said_by sheet).event c.later).job)
  where
    abbrev sh : rules.Sheet
    sh = said_by sheet

    abbrev fo : Formed sh
    fo = (formed_by sheet).formed

    pub later_in : c.later < sh.events
    later_in = omega (arith, q.later, (fo.bound k h).later)

    earlier_in : c.earlier < sh.events
    earlier_in = omega (arith, q.earlier, (fo.bound k h).earlier)

    earlier_job : (sh.event c.earlier).job ≡ job
    earlier_job = rw (q.earlier, j, q.later) (sym (fo.bound k h).same_job)

    job_known : job < sh.jobs
    job_known = omega (arith, j, fo.job c.later later_in)

    module _ {x : ℕ} {chain last : List (Option ℕ)} (ch : Chained jobs count chain last) (isFirst : x ≡ cell first job) where
      pub one_pair : OnePair c (record { job = job; first = x; last = link_at last job }) count jobs places chain l
      unfolding cell max_instances
      one_pair =
          record {
            low = q.small_low;
            high = q.small_high;
            linked = ch.links;
            last = ch.last job;
            link_room = ch.room;
            place_room = omega (arith, w.list.few, w.list.room.place_room);
            later =
                λ i a o.
                rw isFirst
                (plan_inside w.list w.spans i c.later job a later_in (sym j) job_known (sym o ∙ entry_job w i a));
            earlier =
                λ i a o.
                rw isFirst
                (plan_inside w.list w.spans i c.earlier job a earlier_in earlier_job job_known (sym o ∙ entry_job w i a));
          }

      entry_meets
          : (i : ℕ)
          → i < count
          → cell jobs i ≡ job
          → MeetsAt c (time_at l (cell places i) x c.later) (time_at l (cell places i) x c.earlier)
          ↔ Meets (tightest_at sh k) ((plan_of sh l).time i)
      unfolding origin tightest
      entry_meets i a o =
          let same : x ≡ cell first (cell jobs i) = isFirst ∙ ap (cell first) (sym o) in
          let p = ap (λ e. time_at l (cell places i) e c.later) same
          ∙ entry_time w i c.later a later_in (sym j ∙ sym o)
          ∙ ap ((plan_of sh l).time i) q.later in
          let r = ap (λ e. time_at l (cell places i) e c.earlier) same
          ∙ entry_time w i c.earlier a earlier_in (earlier_job ∙ sym o)
          ∙ ap ((plan_of sh l).time i) q.earlier in (
            λ m. record { low = omega (arith, m.low, q.low); high = omega (arith, m.high, q.high) },
            λ m. record { low = omega (arith, m.low, q.low); high = omega (arith, m.high, q.high) },
          )

      pair_iff : PairMet c job x count jobs places l ↔ PairOf sh (plan_of sh l) k
      unfolding Every
      pair_iff = (
        λ m i a o.
            let a' : i < count = omega (arith, plan_count sh l, w.list.count) in
            let own = entry_job w i a' ∙ sym (plan_job sh l i) ∙ sym o ∙ ap (λ (e : ℕ). (sh.event e).job) (sym q.later) ∙ sym j in
            (entry_meets i a' own).0 (m i a' own),
        λ m i a o.
            (entry_meets i a o).1
            (m i (omega (arith, plan_count sh l, w.list.count))
            (ap (λ (e : ℕ). (sh.event e).job) (sym q.later) ∙ sym j ∙ sym o ∙ entry_job w i a ∙ sym (plan_job sh l i))),
      )

      pub pair_says : (r : Bool) → Says (PairMet c job x count jobs places l) r → Says (PairOf sh (plan_of sh l) k) r
      pair_says = says_of pair_iff
