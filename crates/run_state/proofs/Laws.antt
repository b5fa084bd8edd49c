-- The steps of the loops over facts and rows, and a move over a plan's rows as one move of its run state.
use Prim.Native.Nat.{ℕ, ◌+◌, ◌^◌, ◌≤◌, ◌<◌}
use native.Mathlib.Omega.{arith}
use mathlib.Core.Path.{◌≡◌, refl, sym, ap, subst, ◌∙◌}
use mathlib.Core.Logic.{inl, inr, ⊎_elim}
use mathlib.Core.Bool.{true, false}
use mathlib.Core.List.{List}
use lib.Bits.{bit_and, bit_or, bit_xor, and_lt, or_lt, xor_lt}
use Rattle.rules.specs.Sheet.{Sheet, initial, max_facts, max_horizon, sets, clears, sheet_of}
use Rattle.rules.specs.RunList.{Plan}
use Rattle.rules.specs.Late.{Bits, ChangesAt, IsInitial, HeldAfter, Fresh, Moved}
use Rattle.rules.specs.Late as rules
use Rattle.laws.specs.Formed.{Formed}
use Rattle.sheet.specs.WellFormed.{said_by, formed_by}
use Rattle.sheet.specs.View.{type_of, fact_of, event_from}
use Rattle.sheet.specs.declared.formed.WellFormed.{WellFormed}
use Rattle.sheet.specs.declared.Event.{Event}
use Rattle.sheet.specs.declared.Event.TheVariants.{Begins, Ends, Sets, Clears}
use Rattle.reader.specs.Reads.{Reads, ReadAs, number_of, refused, read_means}
use Rattle.reader.specs.declared.Fault.{Fault}
use Rattle.std.specs.Prelude.{Err}
use Rattle.plan_points.specs.Flat.{cell, tick_at, type_in, fact_in}
use Rattle.instances.specs.Decode.{type_from, fact_from}
use Rattle.instances.specs.Rows.{EventRows}
use Rattle.instances.specs.Own.{kind_of, fact_of_lem}
use Rattle.delays.specs.Trial.{Barred, Tries}
use Rattle.run_state.specs.Bits.{Among, among_skip, among_add, bits_map, on_or, on_clear}
use Rattle.run_state.specs.State.{Marked, event_at, RowIs, RowSets, RowClears, Changes, sets_with, clears_with, HeldRows, Steps}
use Rattle.run_state.specs.declared.Change.{Change}

-- ---- the initial facts

pub fact_small : (sheet : WellFormed) {f : ℕ} → f < sheet.view.facts → f < max_facts
fact_small sheet l = omega (arith, (formed_by sheet).formed.facts, sheet.counted.facts)

module _ (s : Sheet) {h f : ℕ} (b : Bits h (Among (Marked s) f)) where
  pub mark_off : initial s f ≡ false → Bits h (Among (Marked s) (f + 1))
  mark_off off = among_skip b (λ g x. let z : true ≡ false = sym x.is_initial ∙ off in let y : ◌≡◌ {A = ℕ} 0 1 = cc in omega arith)

  pub mark_on : initial s f ≡ true → f < max_facts → Bits (bit_or h (2 ^ f)) (Among (Marked s) (f + 1))
  unfolding max_facts
  mark_on on l = among_add b f l (record { same = refl; is_initial = on }) (λ g x. x.same)

pub marks_end : (s : Sheet) {h n : ℕ} → n ≡ s.facts → Bits h (Among (Marked s) n) → Bits h (IsInitial s)
marks_end s e b =
    bits_map
    (λ f x.
    record {
      in_sheet = omega (arith, x.below, x.is.same);
      is_initial = rw x.is.same x.is.is_initial;
    })
    (λ f x. record { at = f; below = omega (arith, x.in_sheet); is = record { same = refl; is_initial = x.is_initial } })
    b

-- ---- the rows

pub event_small : (x : ℕ) {e : Event} → e ≡ event_from (type_in x) (fact_in x) → fact_of e < max_facts
unfolding max_facts
event_small x q = omega (arith, ap fact_of q ∙ fact_from (type_in x) (fact_in x))

-- a bit for fact g goes to the sets, to the clears
module _ {e : Event} {g m : ℕ} (on off : ℕ) (q : m ≡ 2 ^ g) where
  pub with_set : e ≡ Sets g → (bit_or on m ≡ sets_with e on) × (off ≡ clears_with e off)
  with_set p = (rw (q, p) refl, rw p refl)

  pub with_clear : e ≡ Clears g → (on ≡ sets_with e on) × (bit_or off m ≡ clears_with e off)
  with_clear p = (rw p refl, rw (q, p) refl)

module _ {rows : List ℕ} {k t : ℕ} {c : Change} (w : Changes rows k t c) where
  -- row k is at another tick
  pub row_off : (tick_at rows k ≡ t → ⊥) → Changes rows (k + 1) t c
  row_off d =
      record {
        sets = among_skip w.sets (λ f x. d x.on_tick);
        clears = among_skip w.clears (λ f x. d x.on_tick);
      }

  -- row k is at the tick, its event e
  module _ (on : tick_at rows k ≡ t) {e : Event} (q : e ≡ event_at rows k) where
    no_set : (type_of e ≡ sets → ⊥) → Bits c.sets (RowSets rows (k + 1) t)
    no_set d = among_skip w.sets (λ f x. d (ap type_of (q ∙ x.is)))

    no_clear : (type_of e ≡ clears → ⊥) → Bits c.clears (RowClears rows (k + 1) t)
    no_clear d = among_skip w.clears (λ f x. d (ap type_of (q ∙ x.is)))

    small : {g : ℕ} → fact_of e ≡ g → g < 64
    unfolding max_facts
    small p = omega (arith, event_small (cell rows k) q)

    one_set : {g : ℕ} → e ≡ Sets g → Bits (bit_or c.sets (2 ^ g)) (RowSets rows (k + 1) t)
    one_set {g} p =
        among_add w.sets g (small (ap fact_of p)) (record { on_tick = on; is = sym q ∙ p }) (λ f x. ap fact_of (sym x.is ∙ sym q ∙ p))

    one_clear : {g : ℕ} → e ≡ Clears g → Bits (bit_or c.clears (2 ^ g)) (RowClears rows (k + 1) t)
    one_clear {g} p =
        among_add w.clears g (small (ap fact_of p)) (record { on_tick = on; is = sym q ∙ p }) (λ f x. ap fact_of (sym x.is ∙ sym q ∙ p))

  with_event
      : (e : Event)
      → tick_at rows k ≡ t
      → e ≡ event_at rows k
      → Changes rows (k + 1) t (record { sets = sets_with e c.sets; clears = clears_with e c.clears })
  with_event (Begins g) on q = record { sets = no_set on q (λ z. omega arith); clears = no_clear on q (λ z. omega arith) }
  with_event (Ends g) on q = record { sets = no_set on q (λ z. omega arith); clears = no_clear on q (λ z. omega arith) }
  with_event (Sets g) on q = record { sets = one_set on q refl; clears = no_clear on q (λ z. omega arith) }
  with_event (Clears g) on q = record { sets = no_set on q (λ z. omega arith); clears = one_clear on q refl }

  pub row_on
      : (e : Event) (r : Change)
      → tick_at rows k ≡ t
      → e ≡ event_at rows k
      → r.sets ≡ sets_with e c.sets
      → r.clears ≡ clears_with e c.clears
      → Changes rows (k + 1) t r
  row_on e r on q x y = let z = with_event e on q in record { sets = rw x z.sets; clears = rw y z.clears }

pub rows_end : {rows : List ℕ} {n m t : ℕ} {c : Change} → n ≡ m → Changes rows n t c → Changes rows m t c
rows_end {rows} {n} {m} {t} {c} e w = subst (λ (k : ℕ). Changes rows k t c) e w

-- ---- a move over rows

-- sets are added, then clears taken away
pub held_rows
    : {rows : List ℕ} {n t held : ℕ} {c : Change}
    → held < 2 ^ 64
    → Changes rows n t c
    → Bits (bit_xor (bit_or held c.sets) (bit_and (bit_or held c.sets) c.clears)) (HeldRows rows n t held)
held_rows {rows} {n} {t} {held} {c} l w =
    let a = bit_or held c.sets in
    let aFits : a < 2 ^ 64 = or_lt 64 held c.sets l w.sets.fits in
    record {
      fits = xor_lt 64 a (bit_and a c.clears) aFits (and_lt 64 a c.clears aFits w.clears.fits);
      bits =
          λ f m. (
            λ x.
                let y = (on_clear a c.clears f).0 x in
                record {
                  source = ⊎_elim inl (λ z. inr ((w.sets.bits f m).0 z)) ((on_or held c.sets f).0 y.0);
                  not_cleared = λ z. y.1 ((w.clears.bits f m).1 z);
                },
            λ x.
                (on_clear a c.clears f).1 (
                  (on_or held c.sets f).1 (⊎_elim inl (λ z. inr ((w.sets.bits f m).1 z)) x.source),
                  λ z. x.not_cleared ((w.clears.bits f m).0 z),
                ),
          );
    }

-- ---- the rows of a plan

event_of_lem : (e : Event) → event_from (type_of e) (fact_of e) ≡ e
unfolding event_from
event_of_lem (Begins f) = refl
event_of_lem (Ends f) = refl
event_of_lem (Sets f) = refl
event_of_lem (Clears f) = refl

-- E makes events of one type, by their facts
module _ {s : Sheet} {p : Plan} {rows : List ℕ} {n : ℕ} (w : EventRows s p rows n) (form : Formed s) (E : ℕ → Event) (kind t : ℕ)
    (types : (f : ℕ) → type_of (E f) ≡ kind) (facts : (f : ℕ) → fact_of (E f) ≡ f) where
  changes_of : (f : ℕ) → Among (λ k f. RowIs rows t k (E f)) n f → ChangesAt s p kind f t
  changes_of f x =
      let q = w.sound x.at x.below in
      let has = q.2.has in
      let y = cell rows x.at in
      let k = kind_of form has in
      let few = form.kind q.1 has.in_sheet in
      record {
        instance = q.0;
        event = q.1;
        occurs =
            record {
              in_plan = has.in_plan;
              is =
                  record {
                    in_sheet = has.in_sheet;
                    of_job = has.of_job;
                    of_kind = sym k ∙ sym (type_from (type_in y) (fact_in y) (omega arith)) ∙ ap type_of x.is.is ∙ types f;
                    of_fact = sym (fact_of_lem form has) ∙ sym (fact_from (type_in y) (fact_in y)) ∙ ap fact_of x.is.is ∙ facts f;
                  };
            };
        on_tick = sym has.tick ∙ x.is.on_tick;
      }

  rows_of : (f : ℕ) → ChangesAt s p kind f t → Among (λ k f. RowIs rows t k (E f)) n f
  rows_of f x =
      let o = x.occurs in
      let q = w.whole x.instance x.event o.in_plan o.is.in_sheet o.is.of_job in
      let has = q.2.has in
      let k = kind_of form has ∙ o.is.of_kind ∙ sym (types f) in
      let g = fact_of_lem form has ∙ o.is.of_fact ∙ sym (facts f) in
      record { at = q.0; below = q.1; is = record { on_tick = has.tick ∙ x.on_tick; is = rw (k, g) (event_of_lem (E f)) } }

module _ {s : Sheet} {p : Plan} {rows : List ℕ} {n : ℕ} (w : EventRows s p rows n) (form : Formed s) where
  held_after : {t held h : ℕ} → Bits h (HeldRows rows n t held) → Bits h (HeldAfter s p t held)
  held_after {t} =
      bits_map
      (λ f x.
      record {
        source = ⊎_elim inl (λ y. inr (changes_of w form Sets sets t (λ g. refl) (λ g. refl) f y)) x.source;
        not_cleared = λ y. x.not_cleared (rows_of w form Clears clears t (λ g. refl) (λ g. refl) f y);
      })
      (λ f x.
      record {
        source = ⊎_elim inl (λ y. inr (rows_of w form Sets sets t (λ g. refl) (λ g. refl) f y)) x.source;
        not_cleared = λ y. x.not_cleared (changes_of w form Clears clears t (λ g. refl) (λ g. refl) f y);
      })

-- ---- the answers

-- a sheet that is refused with fault x
pub fresh_refused : (b : List ℕ) (old : ℕ) (x : Fault) → Reads b (Err x) → Fresh b old (number_of x) old
fresh_refused b old x h = rw (sym h) (rules.Fresh.bad_sheet (refused b x h))

pub fresh_formed
    : {b : List ℕ} {sheet : WellFormed} (old : ℕ) {h : ℕ} → ReadAs b sheet → Bits h (IsInitial (said_by sheet)) → Fresh b old 0 h
fresh_formed old {h} r w = rules.Fresh.fresh h r.formed (subst (λ (s : Sheet). Bits h (IsInitial s)) (read_means r) w)

pub barred_moved : {b l d : List ℕ} {n : ℕ} (x : rules.Run) → Barred b l d n → Moved b l d x n x
barred_moved x (Barred.judged n j z) = rules.Moved.refused n j z
barred_moved x (Barred.bad_delays j z) = rules.Moved.bad_delays j z

-- the last tick that an event may have
pub horizon_near : (sheet : WellFormed) → sheet.view.horizon ≤ max_horizon
horizon_near sheet = omega (arith, (formed_by sheet).formed.horizon, sheet.counted.horizon)

module _ {b l d rows : List ℕ} {sheet : WellFormed} {n : ℕ} (w : Tries b l d rows sheet n) where
  last_is : sheet.view.horizon ≡ (sheet_of b).horizon
  last_is = sheet.counted.horizon ∙ ap (λ (s : Sheet). s.horizon) w.means

  form : Formed (sheet_of b)
  form = subst Formed w.means (formed_by sheet).formed

  pub moved_on : {x y : rules.Run} → Steps rows n sheet.view.horizon x y → Moved b l d x 0 y
  moved_on (Steps.stays late) = rules.Moved.stays w.tried (omega (arith, last_is))
  moved_on (Steps.moves h near bits) = rules.Moved.moves h w.tried (omega (arith, last_is)) (held_after w.listed form bits)
