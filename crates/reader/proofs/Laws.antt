-- The code's tests equal those of the definitions: each row, each body, and a need's ends by the rows beside it.
use Rattle.std.specs.Prelude.{Result, Ok, Err}
use Prim.Native.Nat.{ℕ, zero, suc, ◌+◌, ◌*◌, ◌-◌, ◌≤◌, ◌<◌}
use native.Mathlib.Omega.{arith}
use native.Mathlib.Nat.{lt_of_lt_of_le, eq-or-lt_of_le}
use native.Mathlib.Numerals.{add-one}
use mathlib.Core.Path.{◌≡◌, refl, sym, ap, ap₂, ◌∙◌}
use mathlib.Core.Logic.{◌≢◌, ◌⊎◌, inl, inr, ⊎_elim}
use mathlib.Core.Bool.{Bool, true, false, not, ◌&&◌, ◌||◌, and-false, and-true, and_assoc}
use mathlib.Core.List.{List}
use lib.Dec.{leb, ltb, eqb}
use borrow.Author.Tests.{ltb-true, eqb-true, eq-eqb, ne_eqb, lt-ltb, le-ltb, le-leb, lt-leb, leb-true, not-true, not-false}
use lib.ListN.{length}
use Rattle.rules.specs.Count.{every, any, rises, never_falls, byte, two}
use Rattle.rules.specs.Sheet.{
  Sheet,
  Bound,
  Event,
  begins,
  ends,
  sets,
  clears,
  edition,
  facts_head,
  job_row,
  length_of,
  kind_of,
  zero_of,
  offset_of,
  start_of,
  sheet_of,
  edition_ok,
  entry_ok,
  contents_ok,
  max_facts,
  max_horizon,
  max_gap,
  max_jobs,
  max_events,
  max_bounds,
  facts_ok,
  jobs_ok,
  event_key,
  two_ends,
  event_ok,
  events_ok,
  bound_key,
  bound_ok,
  bounds_ok,
  facts_body_ok,
  jobs_body_ok,
  events_body_ok,
  bounds_body_ok,
  sheet_fault,
  fault_in,
}
use Rattle.laws.specs.Bools.{clash, decided, and_get, and_put, or_get, or_left, or_right, same}
use Rattle.laws.specs.Places.{every_get, every_put, any_get, any_put, every_both}
use Rattle.laws.specs.Rise.{Up, rises_get, up_after}
use Rattle.sheet.specs.View.{meaning, SheetIs, RowIs, BoundIs, event_from}
use Rattle.sheet.specs.Laws.{sheet_means}
use Rattle.sheet.specs.declared.Sheet as code
use Rattle.sheet.specs.declared.formed.WellFormed.{WellFormed}
use Rattle.sheet.specs.declared.Row.{Row}
use Rattle.sheet.specs.declared.Event as declared
use Rattle.sheet.specs.declared.Bound as coded
use Rattle.sheet.specs.declared.Event.TheVariants.{Begins, Ends, Sets, Clears}
use Rattle.reader.specs.declared.Fault.{Fault}
use Rattle.reader.specs.declared.Fault.TheVariants.{Contents}
use Rattle.reader.specs.Reads.{number_of, Reads, ReadsIn}
use Rattle.reader.specs.Loop.{after, rises_after, Passed, passed_start, passed_step, passed_end, broken_at, after_start, after_step}
use Rattle.numbers.specs.Size.{byte_values}
use Rattle.laws.specs.Faults.{other_edition, its_edition}
use Rattle.laws.specs.Formed.{row_ok, ends_ok, OtherEnd, other_end}
use Rattle.laws.specs.Events.{Digits, key_next, key_ends}
use Rattle.reader.specs.Adjacent.{opens, follows, event_of, begun, order_key_of, linked, event_rows, marks_ok, sides_ok, bound_rows_ok}

-- ---- rows

pub entry_is
    : (b : List ℕ) (i start x y z : ℕ)
    → start ≡ start_of b i
    → x ≡ byte b (2 + 6 * i)
    → y ≡ byte b (3 + 6 * i)
    → z ≡ two b (4 + 6 * i)
    → eqb x (i + 1) && eqb y 0 && eqb z start ≡ entry_ok b i
unfolding entry_ok kind_of zero_of offset_of
entry_is b i start x y z h p q r = rw (h, p, q, r) refl

pub event_is
    : (s : Sheet) (e jobs facts : ℕ) (r : Row)
    → jobs ≡ s.jobs
    → facts ≡ s.facts
    → RowIs (s.event e) r
    → leb r.kind clears && ltb r.job jobs && ltb r.fact facts ≡ row_ok s e
event_is s e jobs facts r hj hf w = rw (hj, hf, w.kind, w.job, w.fact) refl

-- a bound c of the sheet s, as the code holds it
module _ (s : Sheet) {c : Bound} {v : coded.Bound} {n : ℕ} (w : BoundIs c v) (hn : n ≡ s.events) where
  pub later_over : n ≤ v.later → false ≡ bound_ok s c
  unfolding bound_ok
  later_over l = rw (le-ltb c.later s.events (omega (arith, w.later))) refl

  pub earlier_over : v.later < n → n ≤ v.earlier → false ≡ bound_ok s c
  unfolding bound_ok
  earlier_over l k =
      rw (lt-ltb c.later s.events (omega (arith, w.later)), le-ltb c.earlier s.events (omega (arith, w.earlier))) refl

  module _ (l : v.later < n) (k : v.earlier < n) where
    inside : (ltb c.later s.events ≡ true) × (ltb c.earlier s.events ≡ true)
    inside = (lt-ltb c.later s.events (omega (arith, w.later)), lt-ltb c.earlier s.events (omega (arith, w.earlier)))

    pub same_event : v.later ≡ v.earlier → false ≡ bound_ok s c
    unfolding bound_ok
    same_event h = rw (inside.0, inside.1, eq-eqb c.later c.earlier (sym w.later ∙ h ∙ w.earlier)) refl

    module _ {x y : ℕ} (hx : x ≡ (s.event v.later).job) (hy : y ≡ (s.event v.earlier).job) (h : v.later ≢ v.earlier) where
      differ : eqb c.later c.earlier ≡ false
      differ = ne_eqb c.later c.earlier (λ q. h (w.later ∙ q ∙ sym w.earlier))

      jobs : eqb (s.event c.later).job (s.event c.earlier).job ≡ eqb x y
      jobs = rw (hx, hy, w.later, w.earlier) refl

      pub other_job : x ≢ y → false ≡ bound_ok s c
      unfolding bound_ok
      other_job o = rw (inside.0, inside.1, differ, jobs, ne_eqb x y o) refl

      pub bound_is : {r : Bool} → x ≡ y → r ≡ sides_ok v.low v.high → r ≡ bound_ok s c
      unfolding bound_ok sides_ok
      bound_is o q = q ∙ rw (inside.0, inside.1, differ, jobs, eq-eqb x y o, w.low, w.high) refl

-- ---- a need's ends

-- which events begin a need, and which must follow the one before
opens_is : (k f : ℕ) → opens (event_from k f) ≡ eqb k begins
unfolding event_from
opens_is zero f = refl
opens_is (suc zero) f = refl
opens_is (suc (suc zero)) f = refl
opens_is (suc (suc (suc k))) f = sym (ne_eqb (suc (suc (suc k))) begins (λ p. omega (arith, p)))

opens_get : (k f : ℕ) → opens (event_from k f) ≡ true → k ≡ begins
opens_get k f h = eqb-true k begins (sym (opens_is k f) ∙ h)

follows_get : (k f : ℕ) (b : Bool) → follows (event_from k f) b ≡ true → (k ≡ ends) ⊎ (b ≡ true)
unfolding event_from
follows_get zero f b h = inr h
follows_get (suc zero) f b h = inl refl
follows_get (suc (suc zero)) f b h = inr h
follows_get (suc (suc (suc k))) f b h = inr h

follows_begun : (x : declared.Event) → follows x true ≡ true
follows_begun (Begins f) = refl
follows_begun (Ends f) = refl
follows_begun (Sets f) = refl
follows_begun (Clears f) = refl

-- event e ends a need, or the one before begins one
abbrev Bound-to : Sheet → ℕ → Type 0
Bound-to s e = ((s.event e).kind ≡ ends) ⊎ (begun s e ≡ true)

module _ (s : Sheet) where
  begun_get : (e : ℕ) → begun s (suc e) ≡ true → (s.event e).kind ≡ begins
  unfolding begun event_of
  begun_get e h = opens_get (s.event e).kind (s.event e).fact h

  begun_put : (e : ℕ) → (s.event e).kind ≡ begins → begun s (suc e) ≡ true
  unfolding begun event_of event_from
  begun_put e k = rw k refl

  begun_first : begun s 0 ≡ false
  unfolding begun
  begun_first = refl

  follows_put : (e : ℕ) → Bound-to s e → follows (event_of s e) (begun s e) ≡ true
  unfolding event_of event_from
  follows_put e (inl k) = rw k refl
  follows_put e (inr b) = rw b (follows_begun (event_of s e))

  linked_get : (e : ℕ) → linked s e ≡ true → Bound-to s e → after (order_key_of s) e ≡ order_key_of s e
  unfolding linked
  linked_get e h w =
      ⊎_elim
      (λ p. eqb-true _ _ p)
      (λ p. absurd (clash (follows_put e w) (not-true _ p)))
      (or_get (eqb (after (order_key_of s) e) (order_key_of s e)) _ h)

  linked_put : (e : ℕ) → (Bound-to s e → after (order_key_of s) e ≡ order_key_of s e) → linked s e ≡ true
  unfolding linked event_of
  linked_put e h = go (decided (follows (event_of s e) (begun s e)))
    where
      go
          : (follows (event_of s e) (begun s e) ≡ true) ⊎ (follows (event_of s e) (begun s e) ≡ false)
          → eqb (after (order_key_of s) e) (order_key_of s e) || not (follows (event_of s e) (begun s e)) ≡ true
      go (inl p) =
          or_left
          (not (follows (event_of s e) (begun s e)))
          (eq-eqb (after (order_key_of s) e) (order_key_of s e) (h (follows_get (s.event e).kind (s.event e).fact (begun s e) p)))
      go (inr p) = or_right (eqb (after (order_key_of s) e) (order_key_of s e)) (ap not p)

two_ends_lem : (e d : Event) → e.job ≡ d.job → e.fact ≡ d.fact → e.kind + d.kind ≡ 1 → two_ends e d ≡ true
unfolding two_ends
two_ends_lem e d p q r = and_put (and_put (eq-eqb _ _ p) (eq-eqb _ _ q)) (eq-eqb _ _ r)

module _ (s : Sheet) (up : Up (λ e. event_key (s.event e)) s.events) (good : (e : ℕ) → e < s.events → Digits (s.event e)) where
  abbrev other : ℕ → ℕ → Bool
  other e d = two_ends (s.event e) (s.event d)

  -- the other end of a need stands in the next row, or in the row before
  begin_after : (e d : ℕ) → e < s.events → (s.event e).kind ≡ begins → OtherEnd s e d → d ≡ suc e
  begin_after e d l k o =
      up_after
      (λ i. event_key (s.event i))
      s.events
      up
      e
      d
      l
      o.in_sheet
      (key_ends (s.event e) (s.event d) o.same_job o.same_fact k (omega (arith, o.kinds)))

  end_before : (e d : ℕ) → e < s.events → (s.event e).kind ≡ ends → OtherEnd s e d → e ≡ suc d
  end_before e d l k o =
      up_after
      (λ i. event_key (s.event i))
      s.events
      up
      d
      e
      o.in_sheet
      l
      (key_ends (s.event d) (s.event e) (sym o.same_job) (sym o.same_fact) (omega (arith, o.kinds)) k)

  -- two rows whose keys follow each other are the two ends of a need, if the first begins one or the second ends one
  joined_ends
      : (e : ℕ)
      → suc e < s.events
      → suc (order_key_of s e) ≡ order_key_of s (suc e)
      → ((s.event e).kind ≡ begins) ⊎ ((s.event (suc e)).kind ≡ ends)
      → (other e (suc e) ≡ true) × (other (suc e) e ≡ true)
  joined_ends e l h w =
      let r = key_next (s.event e) (s.event (suc e)) (good e (omega arith)) (good (suc e) l) (sym h) w in (
        two_ends_lem (s.event e) (s.event (suc e)) r.0 r.1 r.2,
        two_ends_lem (s.event (suc e)) (s.event e) (sym r.0) (sym r.1) (omega (arith, r.2)),
      )

  -- the other end of a need that event e begins or ends
  other_of : (e : ℕ) → (s.event e).kind ≤ ends → ends_ok s e ≡ true → (d : ℕ) × OtherEnd s e d
  other_of e l h =
      ⊎_elim
      (λ p. absurd (omega (arith, leb-true sets (s.event e).kind p)))
      (λ p. let r = any_get (other e) s.events p in (r.0, other_end s e r.0 r.1 r.2))
      (or_get (leb sets (s.event e).kind) (any (other e) s.events) h)

  -- a begin with its end, and an end with its begin
  begin_joined
      : (e : ℕ)
      → e < s.events
      → (s.event e).kind ≡ begins
      → ends_ok s e ≡ true
      → (suc e < s.events) × (suc (order_key_of s e) ≡ order_key_of s (suc e))
  begin_joined e l k h =
      let r = other_of e (omega arith) h in
      let o : OtherEnd s e (suc e) = rw (begin_after e r.0 l k r.1) at r.1 in
      (o.in_sheet, sym (key_ends (s.event e) (s.event (suc e)) o.same_job o.same_fact k (omega (arith, o.kinds))))

  end_joined : (e : ℕ) → e < s.events → (s.event e).kind ≡ ends → ends_ok s e ≡ true → after (order_key_of s) e ≡ order_key_of s e
  unfolding after
  end_joined e l k h =
      let r = other_of e (omega arith) h in
      let o = r.1 in
      let q = end_before e r.0 l k o in
      ap (after (order_key_of s)) q ∙ sym (key_ends (s.event r.0) (s.event e) (sym o.same_job) (sym o.same_fact) (omega (arith, o.kinds)) k)

  -- events that are linked, and of which the last begins no need
  module _ (h : every (linked s) s.events ≡ true) (b : begun s s.events ≡ false) where
    linked_at : (e : ℕ) → e < s.events → Bound-to s e → after (order_key_of s) e ≡ order_key_of s e
    linked_at e l = linked_get s e (every_get (linked s) s.events h e l)

    linked_end : (e : ℕ) → e < s.events → (s.event e).kind ≡ ends → any (other e) s.events ≡ true
    unfolding after event_key
    linked_end zero l k = let q = linked_at zero l (inl k) in absurd (omega arith)
    linked_end (suc e) l k = any_put (other (suc e)) s.events e (omega arith) (joined_ends e l (linked_at (suc e) l (inl k)) (inr k)).1

    linked_begin : (e : ℕ) → e < s.events → (s.event e).kind ≡ begins → any (other e) s.events ≡ true
    unfolding after
    linked_begin e l k =
        ⊎_elim
        (λ p. let q : begun s (suc e) ≡ false = rw p b in absurd (clash (begun_put s e k) q))
        (λ p. any_put (other e) s.events (suc e) p (joined_ends e p (linked_at (suc e) p (inr (begun_put s e k))) (inl k)).0)
        (eq-or-lt_of_le l)

    linked_ends : (e : ℕ) → e < s.events → ends_ok s e ≡ true
    linked_ends e l = go (s.event e).kind refl
      where
        go : (k : ℕ) → (s.event e).kind ≡ k → leb sets k || any (other e) s.events ≡ true
        go zero k = linked_begin e l k
        go (suc zero) k = linked_end e l k
        go (suc (suc n)) k = or_left _ (le-leb sets (suc (suc n)) (omega arith))

  -- needs that have both their ends
  module _ (h : every (ends_ok s) s.events ≡ true) where
    ends_linked : (e : ℕ) → e < s.events → Bound-to s e → after (order_key_of s) e ≡ order_key_of s e
    unfolding after
    ends_linked e l (inl k) = end_joined e l k (every_get (ends_ok s) s.events h e l)
    ends_linked zero l (inr b) = absurd (clash b (begun_first s))
    ends_linked (suc e) l (inr b) = (begin_joined e (omega arith) (begun_get s e b) (every_get (ends_ok s) s.events h e (omega arith))).1

    ends_last : (n : ℕ) → n ≡ s.events → begun s n ≡ false
    ends_last zero q = begun_first s
    ends_last (suc e) q =
        ⊎_elim
        (λ p. absurd (omega (arith, (begin_joined e (omega arith) (begun_get s e p) (every_get (ends_ok s) s.events h e (omega arith))).0)))
        (λ p. p)
        (decided (begun s (suc e)))

  ends_is : every (linked s) s.events && not (begun s s.events) ≡ every (ends_ok s) s.events
  ends_is =
      same _ _
      (λ h.
      let p = and_get (every (linked s) s.events) _ h in
      every_put (ends_ok s) s.events (linked_ends p.0 (not-true _ p.1)))
      (λ h.
      and_put
      (every_put (linked s) s.events (λ e l. linked_put s e (ends_linked h e l)))
      (ap not (ends_last h s.events refl)))

limit : {n : ℕ} → n ≤ max_facts → n ≤ 64
unfolding max_facts
limit l = l

-- the rows as the code tests them, and as the definition does
module _ (s : Sheet) (few : s.facts ≤ max_facts) where
  abbrev key : ℕ → ℕ
  key e = event_key (s.event e)

  abbrev n : ℕ
  n = s.events

  row_digits : (e : ℕ) → row_ok s e ≡ true → Digits (s.event e)
  row_digits e h =
      let p = and_get _ (ltb (s.event e).fact s.facts) h in
      let q = and_get (leb (s.event e).kind clears) _ p.0 in
      let l = ltb-true (s.event e).fact s.facts p.1 in
      record { fact = lt_of_lt_of_le l (limit few); kind = leb-true _ _ q.0 }

  -- the two ends of each need stand side by side
  abbrev both_ends : Bool
  both_ends = every (linked s) n && not (begun s n)

  rows_is : event_rows s n ≡ every (event_ok s) n && rises key n
  unfolding event_rows event_ok
  rows_is =
      ap (λ (t : Bool). t && not (begun s n)) parts
      ∙ and_assoc (every (row_ok s) n && rises key n) (every (linked s) n) (not (begun s n))
      ∙ go (decided (every (row_ok s) n)) (decided (rises key n))
      ∙ sym (ap (λ (t : Bool). t && rises key n) (every_both (row_ok s) (ends_ok s) n))
    where
      parts : every (λ e. row_ok s e && leb (after key e) (key e) && linked s e) n ≡ every (row_ok s) n && rises key n && every (linked s) n
      parts = every_both (λ e. row_ok s e && leb (after key e) (key e)) (linked s) n ∙ ap (λ (t : Bool). t && every (linked s) n)
          (every_both (row_ok s) (λ e. leb (after key e) (key e)) n ∙ ap (λ (t : Bool). every (row_ok s) n && t) (rises_after key n))

      go
          : (every (row_ok s) n ≡ true) ⊎ (every (row_ok s) n ≡ false)
          → (rises key n ≡ true) ⊎ (rises key n ≡ false)
          → every (row_ok s) n && rises key n && both_ends ≡ every (row_ok s) n && every (ends_ok s) n && rises key n
      go (inr p) d = rw p refl
      go (inl p) (inr q) = rw (p, q) (sym (and-false (every (ends_ok s) n)))
      go (inl p) (inl q) =
          rw (p, q) (ends_is s (rises_get key n q) (λ e l. row_digits e (every_get (row_ok s) n p e l)) ∙ sym (and-true (every (ends_ok s) n)))

-- ---- bodies: a count above its limit, and a count within it

over : (n m : ℕ) (a x y : Bool) → m < n → false ≡ a && (leb n m && x && y)
over n m a x y l = rw (lt-leb n m l) (sym (and-false a))

over_facts : (n m : ℕ) (a x y z : Bool) → m < n → false ≡ a && (leb n m && x && y && z)
over_facts n m a x y z l = rw (lt-leb n m l) (sym (and-false a))

under_facts : (n m : ℕ) (a x y z : Bool) → n ≤ m → a && x && y && z ≡ a && (leb n m && x && y && z)
under_facts n m true x y z l = rw (le-leb n m l) refl
under_facts n m false x y z l = refl

over_one : (n m : ℕ) (a x : Bool) → m < n → false ≡ a && (leb n m && x)
over_one n m a x l = rw (lt-leb n m l) (sym (and-false a))

under_one : (n m : ℕ) (a x : Bool) → n ≤ m → a && x ≡ a && (leb n m && x)
under_one n m a x l = rw (le-leb n m l) refl

under_rows : (n m : ℕ) (a x y z : Bool) → n ≤ m → x ≡ y && z → a && x ≡ a && (leb n m && y && z)
under_rows n m true x y z l h = rw (le-leb n m l) h
under_rows n m false x y z l h = refl

module _ (b : List ℕ) (v : code.Sheet) (w : SheetIs b v) where
  abbrev s : Sheet
  s = sheet_of b

  abbrev head : ℕ
  head = facts_head (edition b)

  pub head_after : 26 ≤ v.marks_at
  unfolding start_of
  head_after = omega (arith, w.marks_at)

  head_is : v.marks_at - 26 ≡ head
  unfolding start_of
  head_is = omega (arith, w.marks_at)

  abbrev row : ℕ
  row = job_row (edition b)

  pub facts_over : max_facts < v.facts → false ≡ facts_body_ok b
  unfolding facts_body_ok facts_ok
  facts_over l =
      over_facts s.facts max_facts (eqb (length_of b 0) (head + s.facts)) (leb s.horizon max_horizon) (leb s.gap max_gap)
      (every (λ f. leb (s.mark f) 3) s.facts) (omega (arith, w.facts))

  pub facts_is
      : (n : ℕ) (m : Bool)
      → v.facts ≤ max_facts
      → n ≡ length_of b 0
      → m ≡ marks_ok (meaning v b) v.facts
      → eqb n (v.marks_at - 26 + v.facts) && leb v.horizon max_horizon && leb v.gap max_gap && m ≡ facts_body_ok b
  unfolding facts_body_ok facts_ok marks_ok
  facts_is n m l p q =
      rw
      (p, head_is, q ∙ ap (λ (x : Sheet). marks_ok x v.facts) (sheet_means w), w.facts, w.horizon, w.gap)
      (under_facts s.facts max_facts (eqb (length_of b 0) (head + s.facts)) (leb s.horizon max_horizon) (leb s.gap max_gap)
      (every (λ f. leb (s.mark f) 3) s.facts) (omega (arith, w.facts)))

  pub jobs_over : max_jobs < v.jobs → false ≡ jobs_body_ok b
  unfolding jobs_body_ok jobs_ok
  jobs_over l = over_one s.jobs max_jobs (eqb (length_of b 1) (row * s.jobs)) (rises s.code s.jobs) (omega (arith, w.jobs))

  pub jobs_is
      : (n : ℕ) (m : Bool)
      → v.jobs ≤ max_jobs
      → n ≡ length_of b 1
      → m ≡ rises (meaning v b).code v.jobs
      → eqb n (v.job_row * v.jobs) && m ≡ jobs_body_ok b
  unfolding jobs_body_ok jobs_ok
  jobs_is n m l p q =
      rw (p, q ∙ ap (λ (x : Sheet). rises x.code v.jobs) (sheet_means w), w.jobs, w.job_row)
      (under_one s.jobs max_jobs (eqb (length_of b 1) (row * s.jobs)) (rises s.code s.jobs) (omega (arith, w.jobs)))

  pub events_over : max_events < v.events → false ≡ events_body_ok b
  unfolding events_body_ok events_ok
  events_over l =
      over s.events max_events (eqb (length_of b 2) (3 * s.events)) (every (event_ok s) s.events)
      (rises (λ e. event_key (s.event e)) s.events) (omega (arith, w.events))

  facts_few : facts_body_ok b ≡ true → s.facts ≤ max_facts
  unfolding facts_body_ok facts_ok
  facts_few h =
      let p = and_get (eqb (length_of b 0) (head + s.facts)) (facts_ok s) h in
      let q = and_get _ _ p.1 in
      let r = and_get _ _ q.0 in
      leb-true s.facts max_facts (and_get _ _ r.0).0

  pub events_is
      : (n : ℕ) (m : Bool)
      → facts_body_ok b ≡ true
      → v.events ≤ max_events
      → n ≡ length_of b 2
      → m ≡ event_rows (meaning v b) v.events
      → eqb n (3 * v.events) && m ≡ events_body_ok b
  unfolding events_body_ok events_ok
  events_is n m f l p q =
      rw
      (p, q ∙ ap (λ (x : Sheet). event_rows x v.events) (sheet_means w), w.events)
      (under_rows
      s.events
      max_events
      (eqb (length_of b 2) (3 * s.events))
      (event_rows s s.events)
      (every (event_ok s) s.events)
      (rises (λ e. event_key (s.event e)) s.events)
      (omega (arith, w.events))
      (rows_is s (facts_few f)))

  pub bounds_over : max_bounds < v.bounds → false ≡ bounds_body_ok b
  unfolding bounds_body_ok bounds_ok
  bounds_over l =
      over s.bounds max_bounds (eqb (length_of b 3) (6 * s.bounds)) (every (λ i. bound_ok s (s.bound i)) s.bounds)
      (never_falls (λ i. bound_key (s.bound i)) s.bounds) (omega (arith, w.bounds))

  pub bounds_is
      : (n : ℕ) (m : Bool)
      → v.bounds ≤ max_bounds
      → n ≡ length_of b 3
      → m ≡ bound_rows_ok (meaning v b) v.bounds && never_falls (λ i. bound_key ((meaning v b).bound i)) v.bounds
      → eqb n (6 * v.bounds) && m ≡ bounds_body_ok b
  unfolding bounds_body_ok bounds_ok bound_rows_ok
  bounds_is n m l p q =
      rw
      (p, q ∙ ap (λ (x : Sheet). bound_rows_ok x v.bounds && never_falls (λ i. bound_key (x.bound i)) v.bounds) (sheet_means w), w.bounds)
      (under_rows
      s.bounds
      max_bounds
      (eqb (length_of b 3) (6 * s.bounds))
      _
      (every (λ i. bound_ok s (s.bound i)) s.bounds)
      (never_falls (λ i. bound_key (s.bound i)) s.bounds)
      (omega (arith, w.bounds))
      refl)

-- ---- the contents, entry by entry

pub edition_is : (b : List ℕ) (x : ℕ) → x ≡ byte b 0 → eqb x 1 || eqb x 2 ≡ edition_ok b
unfolding edition_ok edition
edition_is b x q = rw q refl

abbrev head_ok : List ℕ → Bool
head_ok b = leb 26 (length b) && edition_ok b && eqb (byte b 1) 4

pub record Walked (b : List ℕ) (ok : Bool) (start i : ℕ) : Type 0 where
  pub at_most : i ≤ 4
  pub place : start ≡ start_of b i
  pub near : start ≤ 26 + 65536 * i
  pub all : ok ≡ head_ok b && every (entry_ok b) i

pub walked_start
    : (b : List ℕ) (t : Bool) (y : ℕ) → t ≡ edition_ok b → y ≡ byte b 1 → Walked b (leb 26 (length b) && t && eqb y 4) 26 0
unfolding every start_of
walked_start b t y p q =
    record {
      at_most = omega arith;
      place = refl;
      near = omega arith;
      all = rw (p, q) (sym (and-true (head_ok b)));
    }

pub Walked-step
    : (b : List ℕ) (ok t : Bool) (start n i : ℕ)
    → Walked b ok start i
    → i < 4
    → t ≡ entry_ok b i
    → n ≡ length_of b i
    → n < 65536
    → Walked b (ok && t) (start + n) (i + 1)
unfolding start_of every
Walked-step b ok t start n i w l h p s =
    record {
      at_most = omega arith;
      place = rw add-one (ap₂ ◌+◌ w.place p);
      near = omega (arith, w.near);
      all = rw add-one (ap₂ ◌&&◌ w.all h ∙ and_assoc (head_ok b) (every (entry_ok b) i) (entry_ok b i));
    }

pub walked_end : (b : List ℕ) (ok : Bool) (start i : ℕ) → Walked b ok start i → 4 ≤ i → ok && eqb start (length b) ≡ contents_ok b
unfolding contents_ok
walked_end b ok start i w l =
    let e : i ≡ 4 = omega (arith, w.at_most) in
    rw (w.all, w.place, e) refl

-- ---- the event rows

-- the test of row d
abbrev event_row : Sheet → ℕ → Bool
event_row s d = row_ok s d && leb (after (order_key_of s) d) (order_key_of s d) && linked s d

-- `most` is next where x is 0, which says that the event must follow (t), and else no less than the key: so the key is at most that
-- exactly where it is next or need not be
pub linked_by
    : (next place most x : ℕ) (t : Bool)
    → next ≤ place
    → eqb x 0 ≡ t
    → (x ≡ 0 → most ≡ next)
    → (0 < x → place ≤ most)
    → leb place most ≡ eqb next place || not t
linked_by next place most x true l e here any =
    let m : most ≡ next = here (eqb-true x 0 e) in
    ⊎_elim
    (λ (q : next ≡ place). rw (le-leb place most (omega (arith, m, q)), eq-eqb next place q) refl)
    (λ (q : next < place). rw (lt-leb place most (omega (arith, m, q)), ne_eqb next place (λ p. omega (arith, p, q))) refl)
    (eq-or-lt_of_le l)
linked_by next place most zero false l e here any = absurd (clash refl e)
linked_by next place most (suc x) false l e here any =
    rw (le-leb place most (any (omega arith))) (sym (or_right (eqb next place) refl))

-- the rows below e have passed; next is the key after the last one's, and was is the type of that one, or that of an end where there is
-- none; that it is small keeps the sum within a word
pub record Linking (s : Sheet) (n next was e : ℕ) : Type 0 where
  pub passed : Passed (event_row s) n e
  pub last : next ≡ after (order_key_of s) e
  pub before : eqb was begins ≡ begun s e
  pub small : was < byte_values

pub linking_start : (s : Sheet) (n : ℕ) → Linking s n 0 ends 0
linking_start s n =
    record { passed = passed_start _ _; last = after_start (order_key_of s); before = sym (begun_first s); small = omega arith }

-- row e, by its key x, its event v, and the test t of its numbers
module _ {s : Sheet} {n next e x was : ℕ} {t : Bool} {v : declared.Event}
    (w : Linking s n next was e) (l : e < n) (hx : x ≡ order_key_of s e) (hv : v ≡ event_from (s.event e).kind (s.event e).fact)
    (ht : t ≡ row_ok s e) where
  row_is : event_row s e ≡ t && leb next x && (eqb next x || not (follows v (eqb was begins)))
  unfolding linked event_of
  row_is = rw (ht, hv, w.last, w.before, hx) refl

  broken_row : event_row s e ≡ false → false ≡ event_rows s n
  unfolding event_rows
  broken_row h = rw (sym (broken_at (event_row s) n e l h)) refl

  pub linking_broken : t && leb next x ≡ false → false ≡ event_rows s n
  linking_broken h = broken_row (row_is ∙ rw h refl)

  pub linking_loose : {k : Bool} → k ≡ eqb next x || not (follows v (eqb was begins)) → k ≡ false → false ≡ event_rows s n
  linking_loose h f = broken_row (row_is ∙ rw (sym h, f) (and-false (t && leb next x)))

  pub linking_step
      : {k : Bool} {kind : ℕ}
      → t && leb next x ≡ true
      → k ≡ eqb next x || not (follows v (eqb was begins))
      → k ≡ true
      → (kind ≡ (s.event e).kind) × (kind < byte_values)
      → Linking s n (x + 1) kind (e + 1)
  unfolding event_of begun
  linking_step p h f hk =
      record {
        passed = passed_step (event_row s) n e w.passed l (row_is ∙ and_put p (sym h ∙ f));
        last = after_step (order_key_of s) e x hx;
        before = rw add-one (rw hk.0 (sym (opens_is (s.event e).kind (s.event e).fact)));
        small = hk.1;
      }

pub linking_end : {s : Sheet} {n next was e : ℕ} → Linking s n next was e → n ≤ e → not (eqb was begins) ≡ event_rows s n
unfolding event_rows
linking_end {s} {n} {next} {was} {e} w l =
    let q : e ≡ n = omega (arith, w.passed.at_most) in
    rw (sym (passed_end (event_row s) n e w.passed l), w.before, q) refl

-- ---- the first broken rule

pub held : (t x : Bool) → t ≡ x → not t ≡ false → x ≡ true
held t x h n = sym h ∙ not-false t n

pub broken : (t x : Bool) → t ≡ x → not t ≡ true → x ≡ false
broken t x h n = sym h ∙ not-true t n

module _ (b : List ℕ) where
  pub fault_contents : contents_ok b ≡ false → sheet_fault b ≡ 10
  unfolding sheet_fault
  fault_contents p = rw p refl

  pub fault_facts : contents_ok b ≡ true → facts_body_ok b ≡ false → sheet_fault b ≡ 11
  unfolding sheet_fault
  fault_facts p q = rw (p, q) refl

  pub fault_jobs : contents_ok b ≡ true → facts_body_ok b ≡ true → jobs_body_ok b ≡ false → sheet_fault b ≡ 12
  unfolding sheet_fault
  fault_jobs p q r = rw (p, q, r) refl

  pub fault_events
      : contents_ok b ≡ true → facts_body_ok b ≡ true → jobs_body_ok b ≡ true → events_body_ok b ≡ false → sheet_fault b ≡ 13
  unfolding sheet_fault
  fault_events p q r t = rw (p, q, r, t) refl

  module _ (p : contents_ok b ≡ true) (q : facts_body_ok b ≡ true) (r : jobs_body_ok b ≡ true) (t : events_body_ok b ≡ true) where
    pub fault_bounds : bounds_body_ok b ≡ false → sheet_fault b ≡ 14
    unfolding sheet_fault
    fault_bounds u = rw (p, q, r, t, u) refl

    pub fault_none : bounds_body_ok b ≡ true → sheet_fault b ≡ 0
    unfolding sheet_fault
    fault_none u = rw (p, q, r, t, u) refl

-- ---- the edition

module _ (n : ℕ) (b : List ℕ) {x : ℕ} (first : x ≡ byte b 0) where
  pub refused_edition : x ≢ n → fault_in n b ≡ number_of Contents
  unfolding edition
  refused_edition q = other_edition n b (λ (e : byte b 0 ≡ n). q (first ∙ e))

  pub read_its : x ≡ n → (r : Result WellFormed Fault) → Reads b r → ReadsIn n b r
  unfolding edition
  read_its q (Err f) h = its_edition n b (sym first ∙ q) ∙ h
  read_its q (Ok v) h = record { edition = sym first ∙ q; read = h }
