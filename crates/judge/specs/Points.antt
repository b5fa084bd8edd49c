-- Points 2 to 4 over the rows of a list, and that they are those of the plan.
use Rattle.std.specs.Prelude.{ℕ, zero, suc, ◌+◌, ◌*◌, ◌/◌, ◌%◌, ◌≤◌, ◌<◌, ◌≡◌, ◌↔◌, ◌≢◌, true, List, length}
use Rattle.std.proofs.Common.{arith, ◌∙◌}
use Rattle.std.proofs.Math.Decide.{dec_lt}
use Rattle.std.proofs.Math.Numerals.{add-one}
use Rattle.std.proofs.Math.Path.{refl, sym, ap, ap₂}
use Rattle.std.proofs.Math.Logic.{dite}
use Rattle.std.proofs.Math.ListN.{get_or}
use Rattle.rules.specs.Sheet as rules
use Rattle.rules.specs.Sheet.{begins, ends, sets, clears, initial, goal, event_key, max_facts}
use Rattle.rules.specs.RunList.{Plan, max_times}
use Rattle.rules.specs.Plan.{Is, Occurs, Served, Held, gap}
use Rattle.laws.specs.Set.{same_or_not}
use Rattle.laws.specs.Rise.{up_after}
use Rattle.laws.specs.Formed.{Formed}
use Rattle.laws.specs.Events.{small, end_after, end_of}
use Rattle.laws.specs.Limits.{most_facts}
use Rattle.sorting.specs.Counting.{group_count, group_in, key_at}
use Rattle.sorting.specs.Rows.{Ascending, Sorted}
use Rattle.plan_points.specs.Flat.{
  cell,
  Every,
  groups,
  ticks,
  entries,
  group_of,
  tick_in,
  entry_in,
  type_in,
  fact_in,
  ServedBy,
  FaultOf,
  Free,
  past,
  goal_need,
}
use Rattle.plan_points.specs.Order.{Ordered}
use Rattle.plan_points.specs.Link.{TableOf}
use Rattle.plan_points.specs.Exact.{free_iff, served_iff, held_iff}
use Rattle.plan_points.specs.declared.Need.{Need}
use Rattle.instances.specs.Rows.{group_at, RowHas, EventRow, EventRows}
use Rattle.instances.specs.Own.{next_tick, kind_of, fact_of_lem, begins_next}

-- the need that row x begins, and that ends at tick u
unfoldable pub need_of : rules.Sheet → (x u : ℕ) → Need
need_of s x u = record { entry = entry_in x; fact = fact_in x; from = tick_in x; to = u; gap = gap s }

-- points 3 and 2, for a row and the tick of the next one
pub record RowHolds (s : rules.Sheet) (first sorted : List ℕ) (x u : ℕ) : Type 0 where
  pub served : type_in x ≡ begins → ServedBy first sorted (need_of s x u) (initial s (fact_in x))
  pub free : type_in x ≡ sets → Free first sorted (fact_in x) (tick_in x)

-- the tick at which the need goes wrong that row k begins
abbrev pub NeedFaultAt : rules.Sheet → (first sorted rows : List ℕ) → (n k r : ℕ) → Type 0
NeedFaultAt s first sorted rows n k r =
    FaultOf first sorted (need_of s (cell rows k) (next_tick rows n k)) (initial s (fact_in (cell rows k))) r

-- for all rows
abbrev pub RowHoldsAt : rules.Sheet → (first sorted rows : List ℕ) → (n k : ℕ) → Type 0
RowHoldsAt s first sorted rows n k = RowHolds s first sorted (cell rows k) (next_tick rows n k)

abbrev pub RowsHold : rules.Sheet → (first sorted rows : List ℕ) → ℕ → Type 0
RowsHold s first sorted rows n = Every (RowHoldsAt s first sorted rows n) n

-- point 4, for a fact
abbrev pub GoalHeld : rules.Sheet → (first sorted : List ℕ) → ℕ → Type 0
GoalHeld s first sorted f = goal s f ≡ true → ServedBy first sorted (goal_need f (gap s)) (initial s f)

abbrev pub GoalsHeld : rules.Sheet → (first sorted : List ℕ) → Type 0
GoalsHeld s first sorted = Every (GoalHeld s first sorted) s.facts

-- what the tests of points 2 to 4 ask of the rows
pub record FewRows (s : rules.Sheet) (rows : List ℕ) (n : ℕ) : Type 0 where
  pub room : n ≤ length rows
  pub few : n ≤ max_times
  pub facts : (k : ℕ) → k < n → fact_in (cell rows k) < s.facts
  -- the row after a need's begin is its end
  pub ended : (k : ℕ) → k < n → type_in (cell rows k) ≡ begins → k + 1 < n
  -- and a set of the need's fact by its instance is the row after that
  pub own
      : (k q : ℕ)
      → k < n
      → q < n
      → type_in (cell rows k) ≡ begins
      → group_in (cell rows q) ≡ group_of sets (fact_in (cell rows k))
      → entry_in (cell rows q) ≡ entry_in (cell rows k)
      → (k + 2 < n) × (cell rows q ≡ cell rows (k + 2))

-- r is the second row after row k, 0 where there is none
pub record AfterNext (rows : List ℕ) (n k r : ℕ) : Type 0 where
  pub some : k + 2 < n → r ≡ cell rows (k + 2)
  pub none : n ≤ k + 2 → r ≡ 0

pub record Early (s : rules.Sheet) (p : Plan) : Type 0 where
  pub early : (k d : ℕ) → k < p.count → p.time k d + gap s < past

-- points 2 to 4 of a plan
pub record Points (s : rules.Sheet) (p : Plan) : Type 0 where
  pub apart : (i e k d f : ℕ) → Occurs s p i e sets f → Occurs s p k d clears f → p.time i e ≢ p.time k d
  pub served : (i b e f : ℕ) → Occurs s p i b begins f → Occurs s p i e ends f → Served s p i f (p.time i b) (p.time i e)
  pub held : (f : ℕ) → f < s.facts → goal s f ≡ true → Held s p f

-- ---- where a need's begin stands, its end and its instance's set follow

key_sets
    : (e d : rules.Event)
    → e.job ≡ d.job
    → e.fact ≡ d.fact
    → e.kind ≡ ends
    → d.kind ≡ sets
    → event_key d ≡ suc (event_key e)
unfolding event_key
key_sets e d p q r t = omega arith

-- a row is known by its three digits
upper : (x : ℕ) → x / entries / ticks ≡ group_in x
upper x = omega arith

by_digits : (x y : ℕ) → x / ticks ≡ y / ticks → x % ticks ≡ y % ticks → x ≡ y
by_digits x y a b = omega arith

same_row : (x y : ℕ) → group_in x ≡ group_in y → tick_in x ≡ tick_in y → entry_in x ≡ entry_in y → x ≡ y
same_row x y g t e = lower x y (by_digits (x / entries) (y / entries) (upper x ∙ g ∙ sym (upper y)) t) e
  where
    lower : (x y : ℕ) → x / entries ≡ y / entries → entry_in x ≡ entry_in y → x ≡ y
    lower x y a b = omega arith

module _ {s : rules.Sheet} {p : Plan} {rows : List ℕ} {n : ℕ} (f : Formed s) (w : EventRows s p rows n) where
  set_after : (b e j g : ℕ) → Is s b j begins g → Is s e j sets g → e ≡ b + 2
  set_after b e j g x y =
      let z = end_of s f b j g x in
      omega (
        arith,
        up_after (λ i. event_key (s.event i)) s.events f.keys (suc b) e z.in_sheet y.in_sheet
            (key_sets (s.event (suc b)) (s.event e) (z.of_job ∙ sym y.of_job) (z.of_fact ∙ sym y.of_fact) z.of_kind y.of_kind),
      )

  module _ {k i e : ℕ} (r : EventRow s p rows n k i e) (m : type_in (cell rows k) ≡ begins) where
    begun : Is s e (p.job i) begins (s.event e).fact
    begun = record { in_sheet = r.has.in_sheet; of_job = r.has.of_job; of_kind = sym (kind_of f r.has) ∙ m; of_fact = refl }

    row_ended : k + 1 < n
    row_ended =
        let z : Is s (e + 1) (p.job i) ends (s.event e).fact = rw add-one (end_of s f e _ _ begun) in
        (r.ahead 1 z.in_sheet z.of_job).0

    row_own
        : {x j d : ℕ}
        → RowHas s p x j d
        → group_in x ≡ group_of sets (fact_in (cell rows k))
        → entry_in x ≡ entry_in (cell rows k)
        → (k + 2 < n) × (x ≡ cell rows (k + 2))
    unfolding group_of max_facts
    row_own {x} {j} {d} c g y =
        let same : j ≡ i = sym c.entry ∙ y ∙ r.has.entry in
        let job : (s.event d).job ≡ p.job i = c.of_job ∙ ap p.job same in
        let kind : (s.event d).kind ≡ sets = omega (arith, kind_of f c, g) in
        let fact : (s.event d).fact ≡ (s.event e).fact = omega (arith, fact_of_lem f c, fact_of_lem f r.has, g) in
        let two : d ≡ e + 2 =
        set_after e d _ _ begun (record { in_sheet = c.in_sheet; of_job = job; of_kind = kind; of_fact = fact }) in
        let q = r.ahead 2 (omega (arith, c.in_sheet)) (ap (λ t. (s.event t).job) (sym two) ∙ job) in
        let h = q.1 in (
          q.0,
          same_row _ _ (c.group ∙ ap (group_at s) two ∙ sym h.group) (c.tick ∙ ap₂ p.time same two ∙ sym h.tick)
              (c.entry ∙ same ∙ sym h.entry),
        )

  pub few_rows : FewRows s rows n
  few_rows =
      record {
        room = w.room;
        few = w.few;
        facts = λ k h. let q = w.sound k h in omega (arith, fact_of_lem f q.2.has, f.fact q.1 q.2.has.in_sheet);
        ended = λ k h m. row_ended (w.sound k h).2 m;
        own = λ k q h l m g y. row_own (w.sound k h).2 m (w.sound q l).2.has g y;
      }

-- ---- sorted rows are in order

module _ {n : ℕ} {rows first out : List ℕ} (few : n ≤ max_times) (t : Sorted n (group_of sets 0) rows first out) where
  first_up : (f g : ℕ) → f ≤ g → g ≤ group_count → get_or first f 0 ≤ get_or first g 0
  first_up f zero l m = rw (let z : f ≡ 0 = omega arith in z) (omega arith)
  first_up f (suc g) l m =
      dite (dec_lt g f)
      (λ k. rw (let z : f ≡ suc g = omega arith in z) (omega arith))
      (λ k. omega (arith, first_up f g (omega arith) (omega arith), rw add-one at (t.spans.rises g (omega arith))))

  tick_up : (x y : ℕ) → x ≤ y → group_in x ≡ group_in y → tick_in x ≤ tick_in y
  tick_up x y l e = omega arith

  ticks_up : (g q r : ℕ) → group_of sets 0 ≤ g → g < groups → get_or first g 0 ≤ q → q ≤ r → r < get_or first (g + 1) 0 →
      tick_in (get_or out q 0) ≤ tick_in (get_or out r 0)
  unfolding Ascending
  ticks_up g q r l m a b c =
      same_or_not q r
      (λ e. rw e (omega arith))
      (λ e.
      tick_up _ _
      (t.ordered q r
      (omega (arith, first_up (group_of sets 0) g l (omega arith)))
      (omega arith)
      (omega (arith, t.spans.within (g + 1) (omega arith))))
      (t.spans.of_group g q m a (omega arith) ∙ sym (t.spans.of_group g r m (omega arith) c)))

  pub ordered_of : Ordered first out
  unfolding cell max_times
  ordered_of =
      record {
        long = omega (arith, t.spans.long);
        spans =
            λ g l m.
            record {
              rises = t.spans.rises g m;
              within = omega (arith, t.spans.within (g + 1) (omega arith), t.room);
              up = λ q r a b c. ticks_up g q r l m a b c;
              near = omega (arith, t.spans.within (g + 1) (omega arith));
            };
      }

module _ {s : rules.Sheet} {p : Plan} {rows first out : List ℕ} {n : ℕ} (f : Formed s) (w : EventRows s p rows n)
    (t : Sorted n (group_of sets 0) rows first out) where
  -- the sorted rows are the plan's events, by groups
  pub table_of : TableOf s p first out
  unfolding group_of max_facts cell
  table_of =
      record {
        sound =
            λ kind g r known few low high.
            let k = most_facts * kind + g in
            let key = t.spans.of_group k r (omega arith) low high in
            let q = t.same.sound r (omega (arith, t.spans.within (k + 1) (omega arith))) in
            let z = w.sound q.0 q.1 in
            let h = z.2.has in
            let e = z.1 in
            let group = sym key ∙ ap group_in q.2 ∙ h.group in
            let entry : entry_in (get_or out r 0) ≡ z.0 = ap entry_in q.2 ∙ h.entry in
            let tick = ap tick_in q.2 ∙ h.tick in
            let fact = f.fact e h.in_sheet in
            let facts = (small s f).facts in
            rw entry
            (record {
              event = e;
              occurs =
                  record {
                    in_plan = h.in_plan;
                    is =
                        record {
                          in_sheet = h.in_sheet;
                          of_job = h.of_job;
                          of_kind = omega (arith, group, fact, facts);
                          of_fact = omega (arith, group, fact, facts);
                        };
                  };
              on_tick = tick;
            });
        whole =
            λ kind i e g o.
            let z = w.whole i e o.in_plan o.is.in_sheet o.is.of_job in
            let h = z.2.has in
            let q = t.same.whole z.0 z.1 in
            let key : key_at out q.0 ≡ most_facts * kind + g =
            ap group_in q.2 ∙ h.group ∙ ap₂ (λ a c. most_facts * a + c) o.is.of_kind o.is.of_fact in
            record {
              place = q.0;
              from = omega (arith, t.spans.from q.0 q.1, ap (λ a. get_or first a 0) key);
              to = omega (arith, t.spans.to q.0 q.1, ap (λ a. get_or first (a + 1) 0) key);
              of_entry = ap entry_in q.2 ∙ h.entry;
              on_tick = ap tick_in q.2 ∙ h.tick;
            };
      }

  small_fact_lem : (e : ℕ) → e < s.events → (s.event e).fact < max_facts
  small_fact_lem e l = omega (arith, f.fact e l, f.facts)

  rows_apart
      : RowsHold s first out rows n → (i e k d g : ℕ) → Occurs s p i e sets g → Occurs s p k d clears g → p.time i e ≢ p.time k d
  unfolding Every
  rows_apart h i e k d g o c =
      let q = w.whole i e o.in_plan o.is.in_sheet o.is.of_job in
      let r = q.2.has in
      let isFact = fact_of_lem f r ∙ o.is.of_fact in
      let isKind = kind_of f r ∙ o.is.of_kind in
      let small : g < max_facts = omega (arith, o.is.of_fact, small_fact_lem e o.is.in_sheet) in
      (free_iff table_of g (p.time i e) small).0 (rw (isFact, r.tick) at ((h q.0 q.1).free isKind)) k d c

  rows_served
      : RowsHold s first out rows n
      → (i d e g : ℕ)
      → Occurs s p i d begins g
      → Occurs s p i e ends g
      → Served s p i g (p.time i d) (p.time i e)
  unfolding Every need_of
  rows_served h i d e g o u =
      let q = w.whole i d o.in_plan o.is.in_sheet o.is.of_job in
      let r = q.2.has in
      let x = cell rows q.0 in
      let isFact : fact_in x ≡ g = fact_of_lem f r ∙ o.is.of_fact in
      let next : e ≡ d + 1 = omega (arith, end_after s f d e (p.job i) g o.is u.is) in
      let isNext : next_tick rows n q.0 ≡ p.time i e = begins_next f q.2 o.is.of_kind ∙ ap (p.time i) (sym next) in
      let small : fact_in x < max_facts = omega (arith, isFact, o.is.of_fact, small_fact_lem d o.is.in_sheet) in
      rw (r.entry, isFact, r.tick, isNext) at
      ((served_iff table_of (need_of s x (next_tick rows n q.0)) _ refl refl small).0
      ((h q.0 q.1).served (kind_of f r ∙ o.is.of_kind)))

  rows_hold : Points s p → RowsHold s first out rows n
  unfolding Every need_of
  rows_hold h k l =
      let q = w.sound k l in
      let r = q.2.has in
      let i = q.0 in
      let d = q.1 in
      let x = cell rows k in
      let isFact = fact_of_lem f r in
      let small : fact_in x < max_facts = omega (arith, isFact, small_fact_lem d r.in_sheet) in
      record {
        served =
            λ m.
            let kind = sym (kind_of f r) ∙ m in
            let o : Is s d (p.job i) begins (s.event d).fact =
            record { in_sheet = r.in_sheet; of_job = r.of_job; of_kind = kind; of_fact = refl } in
            let u : Is s (d + 1) (p.job i) ends (s.event d).fact = rw add-one (end_of s f d _ _ o) in
            (served_iff table_of (need_of s x (next_tick rows n k)) _ refl refl small).1
            (rw (r.entry, isFact, r.tick, begins_next f q.2 kind)
            (h.served i d (d + 1) _ (record { in_plan = r.in_plan; is = o }) (record { in_plan = r.in_plan; is = u })));
        free =
            λ m.
            let o : Is s d (p.job i) sets (s.event d).fact =
            record { in_sheet = r.in_sheet; of_job = r.of_job; of_kind = sym (kind_of f r) ∙ m; of_fact = refl } in
            (free_iff table_of (fact_in x) (tick_in x) small).1
            (rw (r.tick, isFact) (λ j c y. h.apart i d j c _ (record { in_plan = r.in_plan; is = o }) y));
      }

  -- the test of goals is point 4
  pub goals_iff : Early s p → GoalsHeld s first out ↔ ((g : ℕ) → g < s.facts → goal s g ≡ true → Held s p g)
  unfolding Every
  goals_iff e =
      let one : (g : ℕ) → g < s.facts → ServedBy first out (goal_need g (gap s)) (initial s g) ↔ Held s p g =
      λ g l. held_iff table_of e.early g (gap s) (initial s g) refl refl (omega (arith, f.facts)) in
      (λ h g l m. (one g l).0 (h g l m), λ h g l m. (one g l).1 (h g l m))

  -- the two tests are the three points
  pub points_iff : Early s p → (RowsHold s first out rows n × GoalsHeld s first out) ↔ Points s p
  points_iff e = (
    λ q. record { apart = rows_apart q.0; served = rows_served q.0; held = (goals_iff e).0 q.1 },
    λ q. (rows_hold q, (goals_iff e).1 q.held),
  )
