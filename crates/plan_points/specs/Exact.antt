-- Points 2, 3 and 4 over the rows of a plan's events hold exactly when they hold of the plan.
use Rattle.std.specs.Prelude.{ℕ, ◌+◌, ◌≤◌, ◌<◌, ◌≡◌, ◌≢◌, ◌↔◌, Bool, List}
use Rattle.std.proofs.Common.{arith, ◌∙◌}
use Rattle.std.proofs.Math.Decide.{dec_le}
use Rattle.std.proofs.Math.Path.{refl, sym}
use Rattle.rules.specs.Sheet.{Sheet, initial, sets, clears, max_facts}
use Rattle.rules.specs.RunList.{Plan}
use Rattle.rules.specs.Plan.{Occurs, Served, Held, gap, distance_by, distance}
use Rattle.rules.specs.Late.{Uncleared}
use Rattle.laws.specs.Distance.{distance_by_lem, distance_within}
use Rattle.plan_points.specs.Flat.{
  cell,
  group_of,
  EveryIn,
  entry_at,
  tick_at,
  Source,
  Source.first,
  Source.set,
  Unharmed,
  ServedBy,
  past,
  goal_need,
  Free,
}
use Rattle.plan_points.specs.Link.{TableOf}
use Rattle.plan_points.specs.Fault.{UnclearedBy}
use Rattle.plan_points.specs.declared.Need.{Need}

-- the distance of the rules
distance_of : (s : Sheet) (g i k x y : ℕ) → g ≡ gap s → x ≡ i → y ≡ k → distance_by g x y ≡ distance s i k
distance_of s g i k x y p q r = rw (p, q, r) (sym (distance_by_lem s i k))

-- point 4 for a goal is point 3 for a need that begins and ends past every tick
module _ (s : Sheet) (p : Plan) (b : ℕ) (early : (k d : ℕ) → k < p.count → p.time k d + gap s < b) (i f : ℕ) where
  held_to : Served s p i f b b → Held s p f
  held_to (Served.by_initial q far) =
      Held.by_initial q (λ k d o. omega (arith, far k d o, early k d o.in_plan))
  held_to (Served.by_set k d o l far) = Held.by_set k d o (λ j c x. go j c x (dec_le (p.time j c) (p.time k d)))
    where
      go : (j c : ℕ) → Occurs s p j c clears f → Dec (p.time j c ≤ p.time k d) → p.time j c ≤ p.time k d
      go j c x (yes q) = q
      go j c x (no q) = absurd (omega (arith, far j c x (omega arith), early j c x.in_plan))

  held_from : Held s p f → Served s p i f b b
  held_from (Held.by_initial q none) = Served.by_initial q (λ k d o. absurd (none k d o))
  held_from (Held.by_set k d o none) =
      Served.by_set k d o (omega (arith, early k d o.in_plan, distance_within s k i)) (λ j c x y. absurd (omega (arith, none j c x)))

  held_served : Served s p i f b b ↔ Held s p f
  held_served = (held_to, held_from)

module _ {s : Sheet} {p : Plan} {firsts rows : List ℕ} (w : TableOf s p firsts rows) where
  abbrev start : (kind f : ℕ) → ℕ
  start kind f = cell firsts (group_of kind f)

  abbrev end : (kind f : ℕ) → ℕ
  end kind f = cell firsts (group_of kind f + 1)

  -- point 2 for a set of fact f with tick u
  pub free_iff : (f u : ℕ) → f < max_facts → Free firsts rows f u ↔ ((k d : ℕ) → Occurs s p k d clears f → u ≢ p.time k d)
  unfolding Free EveryIn
  free_iff f u small = (
    λ v k d o q. let z = w.whole clears k d f o in v z.place z.from z.to (z.on_tick ∙ sym q),
    λ v r l g q.
        let z = w.sound clears f r (omega arith) small l g in
        v (entry_at rows r) z.event z.occurs (sym q ∙ z.on_tick),
  )

  -- point 3 for one need
  module _ (v : Need) (i : Bool) (isGap : v.gap ≡ gap s) (is_initial : i ≡ initial s v.fact) (small : v.fact < max_facts) where
    abbrev f : ℕ
    f = v.fact

    clear_far
        : (a : ℕ)
        → Unharmed rows (start clears f) (end clears f) v a
        → (k d : ℕ)
        → Occurs s p k d clears f
        → a ≤ p.time k d
        → v.to + distance s v.entry k ≤ p.time k d
    unfolding Unharmed EveryIn
    clear_far a un k d o l = go (dec_le (v.to + distance s v.entry k) (p.time k d))
      where
        go : Dec (v.to + distance s v.entry k ≤ p.time k d) → v.to + distance s v.entry k ≤ p.time k d
        go (yes q) = q
        go (no q) =
            let z = w.whole clears k d v.fact o in
            let x = distance_of s v.gap v.entry k v.entry (entry_at rows z.place) isGap refl z.of_entry in
            absurd
            (un z.place z.from z.to
            (record { late = omega (arith, z.on_tick); early = omega (arith, z.on_tick) }))

    served_to
        : {a : ℕ}
        → Source rows (start sets f) (end sets f) v i a
        → Unharmed rows (start clears f) (end clears f) v a
        → Served s p v.entry f v.from v.to
    served_to (first q) un = Served.by_initial (sym is_initial ∙ q) (λ k d o. clear_far 0 un k d o (omega arith))
    served_to (set r l g early) un =
        let z = w.sound sets v.fact r (omega arith) small l g in
        let x = distance_of s v.gap (entry_at rows r) v.entry (entry_at rows r) v.entry isGap refl refl in
        Served.by_set (entry_at rows r) z.event z.occurs (omega (arith, z.on_tick, early))
        (λ k d o y. clear_far (tick_at rows r + 1) un k d o (omega (arith, z.on_tick)))

    clear_harmless
        : (a : ℕ)
        → ((k d : ℕ) → Occurs s p k d clears f → a ≤ p.time k d → v.to + distance s v.entry k ≤ p.time k d)
        → Unharmed rows (start clears f) (end clears f) v a
    unfolding Unharmed EveryIn
    clear_harmless a far r l g d =
        let z = w.sound clears v.fact r (omega arith) small l g in
        let y = distance_of s v.gap v.entry (entry_at rows r) v.entry (entry_at rows r) isGap refl refl in
        let x = far (entry_at rows r) z.event z.occurs (omega (arith, z.on_tick, d.late)) in
        omega (arith, z.on_tick, d.early)

    served_from : Served s p v.entry f v.from v.to → ServedBy firsts rows v i
    served_from (Served.by_initial q far) =
        record { after = 0; source = first (is_initial ∙ q); unharmed = clear_harmless 0 (λ k d o l. far k d o) }
    served_from (Served.by_set k d o early far) =
        let z = w.whole sets k d v.fact o in
        let x = distance_of s v.gap k v.entry (entry_at rows z.place) v.entry isGap z.of_entry refl in
        record {
          after = tick_at rows z.place + 1;
          source = set z.place z.from z.to (omega (arith, z.on_tick));
          unharmed = clear_harmless (tick_at rows z.place + 1) (λ l c x y. far l c x (omega (arith, z.on_tick)));
        }

    pub served_iff : ServedBy firsts rows v i ↔ Served s p v.entry f v.from v.to
    served_iff = (λ u. served_to u.source u.unharmed, served_from)

    -- a source uncleared up to the need's begin
    uncleared_to
        : {a : ℕ}
        → Source rows (start sets f) (end sets f) v i a
        → EveryIn (λ r. a ≤ tick_at rows r → v.from ≤ tick_at rows r) (start clears f) (end clears f)
        → Uncleared s p v.entry f v.from
    unfolding EveryIn
    uncleared_to (first q) un =
        Uncleared.by_initial (sym is_initial ∙ q)
        (λ k d o. let z = w.whole clears k d v.fact o in omega (arith, z.on_tick, un z.place z.from z.to (omega arith)))
    uncleared_to (set r l g early) un =
        let z = w.sound sets v.fact r (omega arith) small l g in
        let x = distance_of s v.gap (entry_at rows r) v.entry (entry_at rows r) v.entry isGap refl refl in
        Uncleared.by_set (entry_at rows r) z.event z.occurs (omega (arith, z.on_tick, early))
        (λ k d o y.
        let c = w.whole clears k d v.fact o in
        omega (arith, c.on_tick, un c.place c.from c.to (omega (arith, c.on_tick, z.on_tick))))

    uncleared_from : Uncleared s p v.entry f v.from → UnclearedBy firsts rows v i
    unfolding EveryIn
    uncleared_from (Uncleared.by_initial q far) =
        record {
          after = 0;
          source = first (is_initial ∙ q);
          uncleared =
              λ r l g m.
              let z = w.sound clears v.fact r (omega arith) small l g in
              omega (arith, z.on_tick, far (entry_at rows r) z.event z.occurs);
        }
    uncleared_from (Uncleared.by_set k d o early far) =
        let c = w.whole sets k d v.fact o in
        let x = distance_of s v.gap k v.entry (entry_at rows c.place) v.entry isGap c.of_entry refl in
        record {
          after = tick_at rows c.place + 1;
          source = set c.place c.from c.to (omega (arith, c.on_tick));
          uncleared =
              λ r l g m.
              let z = w.sound clears v.fact r (omega arith) small l g in
              omega (arith, z.on_tick, far (entry_at rows r) z.event z.occurs (omega (arith, z.on_tick, c.on_tick)));
        }

    pub uncleared_iff : UnclearedBy firsts rows v i ↔ Uncleared s p v.entry f v.from
    uncleared_iff = (λ u. uncleared_to u.source u.uncleared, uncleared_from)

  -- point 4 for one goal
  pub held_iff
      : (early : (k d : ℕ) → k < p.count → p.time k d + gap s < past) (x y : ℕ) (i : Bool)
      → y ≡ gap s
      → i ≡ initial s x
      → x < max_facts
      → ServedBy firsts rows (goal_need x y) i ↔ Held s p x
  unfolding goal_need
  held_iff early x y i isGap is_initial small =
      let a = served_iff (goal_need x y) i isGap is_initial small in
      let b = held_served s p past early 0 x in
      (λ v. b.0 (a.0 v), λ v. a.1 (b.1 v))
