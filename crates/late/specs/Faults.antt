-- The first tick at which a row goes wrong is the least fault of the plan.
use Rattle.std.specs.Prelude.{ℕ, ◌+◌, ◌≤◌, ◌<◌, ◌≡◌, ◌↔◌, Bool, List}
use native.Mathlib.Omega.{arith}
use Rattle.std.proofs.Math.Decide.{ℕ_discrete}
use Rattle.std.proofs.Common.{add-one, subst, ◌∙◌}
use Rattle.std.proofs.Math.Path.{refl, sym, ap}
use Rattle.std.proofs.Math.Logic.{⊎_elim, dite}
use Rattle.rules.specs.Sheet.{Sheet, begins, ends, sets, clears, initial, max_facts}
use Rattle.rules.specs.RunList.{Plan}
use Rattle.rules.specs.Plan.{Occurs, gap, distance, distance_by, latest}
use Rattle.rules.specs.Late.{Uncleared, Fault, Fault.unserved, Fault.breaks}
use Rattle.laws.specs.Distance.{distance_by_lem}
use Rattle.laws.specs.Formed.{Formed}
use Rattle.laws.specs.Events.{end_after, end_of}
use Rattle.late_starts.specs.Delays.{InTime}
use Rattle.late_starts.specs.Faults.{some_occurs}
use Rattle.sorting.specs.Rows.{Sorted}
use Rattle.plan_points.specs.Flat.{cell, Every, group_of, tick_in, fact_in, entry_at, never}
use Rattle.plan_points.specs.Fault.{UnclearedBy, NeedFault, NeedFault.unserved, NeedFault.breaks, BothAt, fault_sound, fault_first}
use Rattle.plan_points.specs.Exact.{free_iff, uncleared_iff}
use Rattle.plan_points.specs.Link.{TableOf}
use Rattle.plan_points.specs.declared.Need.{Need}
use Rattle.instances.specs.Rows.{EventRow, EventRows}
use Rattle.instances.specs.Own.{next_tick, kind_of, fact_of_lem, begins_next}
use Rattle.judge.specs.Points.{need_of, table_of}
use Rattle.late.specs.Rows.{SetFault, RowFault, RowFaultAt, FirstFault, RowsInTime}

-- the ends of a plan's needs do not come before their begins
abbrev pub NeedsRise : Sheet → Plan → Type 0
NeedsRise s p = (i b e f : ℕ) → Occurs s p i b begins f → Occurs s p i e ends f → p.time i b ≤ p.time i e

uncleared_as
    : {s : Sheet} {p : Plan} {a f b i g t : ℕ} → a ≡ i → f ≡ g → b ≡ t → Uncleared s p a f b → Uncleared s p i g t
uncleared_as x y z u = rw (x, y, z) at u

module _ {s : Sheet} {p : Plan} {rows first out : List ℕ} {n : ℕ} (f : Formed s) (w : EventRows s p rows n)
    (t : Sorted n (group_of sets 0) rows first out) (o : NeedsRise s p) where
  abbrev table : TableOf s p first out
  table = table_of f w t

  -- event d of instance i, of the type and fact that it has
  occurs : {k i d : ℕ} → EventRow s p rows n k i d → Occurs s p i d (s.event d).kind (s.event d).fact
  occurs r =
      record {
        in_plan = r.has.in_plan;
        is = record { in_sheet = r.has.in_sheet; of_job = r.has.of_job; of_kind = refl; of_fact = refl };
      }

  small_fact_lem : (d : ℕ) → d < s.events → (s.event d).fact < max_facts
  small_fact_lem d l = omega (arith, f.fact d l, f.facts)

  begun : {k i d : ℕ} → EventRow s p rows n k i d → (s.event d).kind ≡ begins → Occurs s p i d begins (s.event d).fact
  begun r kind =
      record {
        in_plan = r.has.in_plan;
        is = record { in_sheet = r.has.in_sheet; of_job = r.has.of_job; of_kind = kind; of_fact = refl };
      }

  -- a need v of fact g by instance i, begun by event d
  module _ (v : Need) (x : Bool) (i d g : ℕ) (from_is : v.from ≡ p.time i d) (to_is : v.to ≡ p.time i (d + 1)) (entry_is : v.entry ≡ i)
      (fact-is : v.fact ≡ g) (gap_is : v.gap ≡ gap s) (initial-is : x ≡ initial s v.fact) (starts : Occurs s p i d begins g) where
    stops : Occurs s p i (d + 1) ends g
    stops = record { in_plan = starts.in_plan; is = rw add-one (end_of s f d _ _ starts.is) }

    small : v.fact < max_facts
    small = omega (arith, fact-is, starts.is.of_fact, small_fact_lem d starts.is.in_sheet)

    rises : v.from ≤ v.to
    rises = omega (arith, from_is, to_is, o i d (d + 1) g starts stops)

    far : (k : ℕ) → distance_by v.gap v.entry k ≡ distance s i k
    far k = rw (gap_is, entry_is) (sym (distance_by_lem s i k))

    uncleared_of : UnclearedBy first out v x ↔ Uncleared s p i g (p.time i d)
    uncleared_of =
        let e = uncleared_iff table v x gap_is initial-is small in (
          λ u. uncleared_as entry_is fact-is from_is (e.0 u),
          λ u. e.1 (uncleared_as (sym entry_is) (sym fact-is) (sym from_is) u),
        )

    -- an event of the need's fact is one of g
    of_fact_lem : {k c kind : ℕ} → Occurs s p k c kind v.fact → Occurs s p k c kind g
    of_fact_lem {k} {c} {kind} y = subst (λ (h : ℕ). Occurs s p k c kind h) fact-is y

    -- the ticks at which it goes wrong are faults
    need_fault : {r : ℕ} → NeedFault first out v x r → Fault s p r
    need_fault (unserved z) = rw from_is (Fault.unserved i d g starts (λ u. z (uncleared_of.1 u)))
    need_fault (breaks q lo hi harm) =
        let z = table.sound clears v.fact q (omega arith) small lo hi in
        rw z.on_tick
        (Fault.breaks i d (d + 1) g (entry_at out q) z.event starts stops (of_fact_lem z.occurs) (omega (arith, harm.late, from_is, z.on_tick))
        (omega (arith, harm.early, to_is, z.on_tick, far (entry_at out q))))

    -- a clear that breaks point 3 for it stands among the rows
    clear_row
        : (k c : ℕ)
        → Occurs s p k c clears g
        → p.time i d ≤ p.time k c
        → p.time k c < p.time i (d + 1) + distance s i k
        → NeedFault first out v x (p.time k c)
    clear_row k c y l h =
        let z = table.whole clears k c g y in
        let e : distance_by v.gap v.entry (entry_at out z.place) ≡ distance s i k =
        ap (distance_by v.gap v.entry) z.of_entry ∙ far k in
        rw (← z.on_tick)
        (breaks z.place (rw fact-is z.from) (rw fact-is z.to)
        (record { late = omega (arith, z.on_tick, from_is); early = omega (arith, z.on_tick, to_is, e) }))

    -- a set and a clear of it at one tick are events of the plan
    both_at : {t : ℕ} → BothAt first out v t → (a b k c : ℕ) × Occurs s p a b sets g × Occurs s p k c clears g × (p.time a b ≡ t) × (p.time k c ≡ t)
    both_at (q, l, h, e, c, m, j, u) =
        let y = table.sound sets v.fact q (omega arith) small l h in
        let z = table.sound clears v.fact c (omega arith) small m j in (
          entry_at out q,
          y.event,
          entry_at out c,
          z.event,
          of_fact_lem y.occurs,
          of_fact_lem z.occurs,
          sym y.on_tick ∙ e,
          sym z.on_tick ∙ u,
        )

  -- ---- the row of an event

  -- a row's tick where it goes wrong is that of a fault
  row_sound : (k i d : ℕ) → EventRow s p rows n k i d → {r : ℕ} → r < never → RowFaultAt s first out rows n k r → Fault s p r
  unfolding need_of
  row_sound k i d e l (RowFault.need m h) =
      let kind = sym (kind_of f e.has) ∙ m in
      let tick = e.has.tick in
      let next = begins_next f e kind in
      let entry = e.has.entry in
      let fact = fact_of_lem f e.has in
      need_fault _ _ i d _ tick next entry fact refl refl (begun e kind)
      (fault_sound h l (rises _ _ i d _ tick next entry fact refl refl (begun e kind)))
  row_sound k i d e l (RowFault.set m (SetFault.free h)) = absurd (omega arith)
  row_sound k i d e l (RowFault.set m (SetFault.met h)) =
      let x = cell rows k in
      let fact = fact_of_lem f e.has in
      let set : Occurs s p i d sets (fact_in x) =
      record {
        in_plan = e.has.in_plan;
        is = record { in_sheet = e.has.in_sheet; of_job = e.has.of_job; of_kind = sym (kind_of f e.has) ∙ m; of_fact = sym fact };
      } in
      let small : fact_in x < max_facts = omega (arith, fact, small_fact_lem d e.has.in_sheet) in
      dite (some_occurs s p clears (fact_in x) (λ a c. ℕ_discrete (p.time a c) (tick_in x)))
      (λ z. rw (← z.3) (Fault.meets i d z.0 z.1 (fact_in x) set z.2 (sym e.has.tick ∙ sym z.3)))
      (λ z. absurd (h ((free_iff table (fact_in x) (tick_in x) small).1 (λ a c y q. z (a, c, y, sym q)))))
  row_sound k i d e l (RowFault.other a b) = absurd (omega arith)

  module _ {r : ℕ} (h : FirstFault s first out rows n n r) where
    pub first_sound : r < never → Fault s p r
    first_sound l =
        let q = h.some l in
        let e = w.sound q.0 q.1 in
        row_sound q.0 e.0 e.1 e.2 l q.2

    -- no fault comes before it
    set_least
        : (j i e k d g t : ℕ)
        → EventRow s p rows n j i e
        → Occurs s p i e sets g
        → Occurs s p k d clears g
        → p.time i e ≡ p.time k d
        → r ≤ t
        → RowFaultAt s first out rows n j t
        → r ≤ p.time k d
    set_least j i e k d g t row a c q l (RowFault.need m z) = absurd (omega (arith, m, kind_of f row.has, a.is.of_kind))
    set_least j i e k d g t row a c q l (RowFault.set m (SetFault.free z)) =
        let fact = fact_of_lem f row.has ∙ a.is.of_fact in
        let small : g < max_facts = omega (arith, a.is.of_fact, small_fact_lem e a.is.in_sheet) in
        absurd ((free_iff table g (p.time i e) small).0 (rw (fact, row.has.tick) at z) k d c q)
    set_least j i e k d g t row a c q l (RowFault.set m (SetFault.met z)) = omega (arith, row.has.tick)
    set_least j i e k d g t row a c q l (RowFault.other x y) = absurd (y (kind_of f row.has ∙ a.is.of_kind))

    meets_least : (i e k d g : ℕ) → Occurs s p i e sets g → Occurs s p k d clears g → p.time i e ≡ p.time k d → r ≤ p.time k d
    meets_least i e k d g a c q =
        let row = w.whole i e a.in_plan a.is.in_sheet a.is.of_job in
        ⊎_elim (λ l. omega (arith, row.2.has.tick))
        (λ z. set_least row.0 i e k d g z.0 row.2 a c q z.1 z.2)
        (h.least row.0 row.1)

    -- of a need that instance i begins with event d
    need_least
        : (j i d t u : ℕ)
        → EventRow s p rows n j i d
        → (s.event d).kind ≡ begins
        → r ≤ t
        → NeedFault first out (need_of s (cell rows j) (next_tick rows n j)) (initial s (fact_in (cell rows j))) u
        → RowFaultAt s first out rows n j t
        → r ≤ u
    unfolding need_of
    need_least j i d t u e kind l z (RowFault.need m y) =
        let fact = fact_of_lem f e.has in
        let next = begins_next f e kind in
        let up = rises _ _ i d _ e.has.tick next e.has.entry fact refl refl (begun e kind) in
        ⊎_elim (λ x. omega (arith, x))
        (λ x.
        let b = both_at _ _ i d _ e.has.tick next e.has.entry fact refl refl (begun e kind) x in
        omega (arith, meets_least b.0 b.1 b.2 b.3 _ b.4 b.5 (b.6 ∙ sym b.7), b.7))
        (fault_first y up u z)
    need_least j i d t u e kind l z (RowFault.set m y) = absurd (omega (arith, m, kind_of f e.has))
    need_least j i d t u e kind l z (RowFault.other x y) = absurd (x (kind_of f e.has ∙ kind))

    pub first_least : (t : ℕ) → Fault s p t → r ≤ t
    unfolding need_of
    first_least t (Fault.meets i e k d g a c q) = meets_least i e k d g a c q
    first_least t (Fault.unserved i d g a z) =
        let row = w.whole i d a.in_plan a.is.in_sheet a.is.of_job in
        let e = row.2 in
        let kind = a.is.of_kind in
        let un = uncleared_of _ _ i d g e.has.tick (begins_next f e kind) e.has.entry (fact_of_lem f e.has ∙ a.is.of_fact) refl refl a in
        ⊎_elim (λ l. omega (arith, e.has.tick))
        (λ x.
        omega (
          arith,
          need_least row.0 i d x.0 _ e kind x.1 (unserved (λ u. z (un.0 u))) x.2,
          e.has.tick,
        ))
        (h.least row.0 row.1)
    first_least t (Fault.breaks i d b g k c a u y l m) =
        let row = w.whole i d a.in_plan a.is.in_sheet a.is.of_job in
        let e = row.2 in
        let kind = a.is.of_kind in
        let next : b ≡ d + 1 = omega (arith, end_after s f d b (p.job i) g a.is u.is) in
        let at =
        clear_row _ _ i d g e.has.tick (begins_next f e kind) e.has.entry (fact_of_lem f e.has ∙ a.is.of_fact) refl refl a k c y l
        (omega (arith, m, ap (p.time i) next)) in
        ⊎_elim (λ x. omega (arith, e.has.tick, l)) (λ x. need_least row.0 i d x.0 _ e kind x.1 at x.2)
        (h.least row.0 row.1)

  -- all rows in time is all events in time
  pub in_time_iff : RowsInTime rows n s.horizon ↔ InTime s p
  unfolding Every latest
  in_time_iff = (
    λ z.
        record {
          in_time =
              λ i e a c d.
              let row = w.whole i e a c d in omega (arith, z row.0 row.1, row.2.has.tick);
        },
    λ z k l.
        let e = w.sound k l in
        let has = e.2.has in
        omega (arith, z.in_time e.0 e.1 has.in_plan has.in_sheet has.of_job, has.tick),
  )
