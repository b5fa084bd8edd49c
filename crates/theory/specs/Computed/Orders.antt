-- How it is computed: which orders are shown is decided, for every sheet. "Greatest ≤ least over own times" by trying all ticks
-- that own times can have, cleared last by a marking that ends. Code does it faster; this shows that it can be done.
use Rattle.std.specs.Prelude.{ℕ, ◌+◌, ◌<◌, ◌≡◌, ◌⊎◌, Bool, true, false}
use Rattle.std.proofs.Math.Path.{refl, sym}
use Rattle.std.proofs.Math.Logic.{inl, inr, ⊎_elim, dite}
use Rattle.std.proofs.Math.Logic.Dec.{and as dec_and, of_iff as dec_of_iff}
use Rattle.std.proofs.Math.Bool.{Bool-discrete}
use Rattle.std.proofs.Common.{arith, eqb-true}
use Rattle.std.proofs.Math.Decide.{dec_le, dec_lt, map_dec}
use Rattle.rules.specs.Count.{None}
use Rattle.rules.specs.Sheet.{Sheet, ends, sets, clears}
use Rattle.rules.specs.Plan.{Is, OwnTimes}
use Rattle.rules.specs.Order.{AtMost, ClearedLast, shown, ClearedFirst}
use Rattle.laws.specs.Bools.{decided, clash, or_get}
use Rattle.laws.specs.Formed.{Formed}
use Rattle.laws.specs.Events.{fact_in_sheet}
use Rattle.theory.specs.Why.Places.{find, some_dec, all_dec}
use Rattle.theory.specs.Why.Own.{own_same}
use Rattle.theory.specs.Why.Alone.{if_dec, Within, tried, is_own_lem, present_own, is_dec, present_dec}
use Rattle.theory.specs.Why.Alone.{own_dec, limit, clipped, clipped_same, clipped_within}
use Rattle.theory.specs.Computed.Mark.{MarkedGuard, marked, AllGuarded, AllGuardedFirst, LastSound, LastClosed}
use Rattle.theory.specs.Computed.Mark.{last_mark, marked_last, marked_first}
use Rattle.theory.specs.Computed.Decided.{mark, marking, job_decided}

-- where A is decided, and B given A
and_dec : {A B : Type 0} → Dec A → (A → Dec B) → Dec (A × B)
and_dec (no g) b = no (λ r. g r.0)
and_dec (yes a) b = map_dec (λ h. (a, h)) (λ r. r.1) (b a)

-- ---- own times

-- event e is one of job j's
record OfJob (s : Sheet) (e j : ℕ) : Type 0 where
  pub in_sheet : e < s.events
  pub of_job : (s.event e).job ≡ j

module _ {s : Sheet} (ok : Formed s) where
  -- two own times that break the comparison, of x and y of job a, and of u and v of job i
  module _ (a x y i u v : ℕ) where
    Breaks : (τ σ : ℕ → ℕ) → Type 0
    Breaks τ σ = OwnTimes s i σ × (σ u + τ y < τ x + σ v)

    BreaksWith : (ℕ → ℕ) → Type 0
    BreaksWith τ = OwnTimes s a τ × ((σ : ℕ → ℕ) × Within (limit ok) s.events σ × Breaks τ σ)

    module _ (inX : x < s.events) (inY : y < s.events) (inU : u < s.events) (inV : v < s.events) where
      breaks_dec : (τ : ℕ → ℕ) → Dec (BreaksWith τ)
      unfolding BreaksWith Breaks
      breaks_dec τ =
          dec_and (own_dec ok a τ)
          (tried (limit ok) s.events (Breaks τ)
          (λ σ ρ same b.
          (own_same ok (λ e l q. sym (same e l)) b.0, omega (arith, b.1, same u inU, same v inV)))
          (λ σ. dec_and (own_dec ok i σ) (dec_lt (σ u + τ y) (τ x + σ v))))

      broken_dec : Dec ((τ : ℕ → ℕ) × Within (limit ok) s.events τ × BreaksWith τ)
      unfolding BreaksWith Breaks
      broken_dec =
          tried (limit ok) s.events BreaksWith
          (λ τ ρ same b.
          let (own, (σ, within, (own', less))) = b in
          (own_same ok (λ e l q. sym (same e l)) own, (σ, within, (own', omega (arith, same x inX, same y inY)))))
          breaks_dec

  of_job_lem : {e j k f : ℕ} → Is s e j k f → OfJob s e j
  of_job_lem is = record { in_sheet = is.in_sheet; of_job = is.of_job }

  at_most_dec
      : {a x y i u v : ℕ} → OfJob s x a → OfJob s y a → OfJob s u i → OfJob s v i → Dec (AtMost s a x y i u v)
  unfolding AtMost BreaksWith Breaks
  at_most_dec {a} {x} {y} {i} {u} {v} ofX ofY ofU of_v =
      dite (broken_dec a x y i u v ofX.in_sheet ofY.in_sheet ofU.in_sheet of_v.in_sheet)
      (λ r.
      let (τ, within, (own, (σ, within', (own', less)))) = r in
      no (λ all. omega (arith, all τ σ own own')))
      (λ none.
      yes
      (λ τ σ own own'.
      dite (dec_le (τ x + σ v) (σ u + τ y)) (λ h. h)
      (λ more.
      let atX = clipped_same ok own x ofX.in_sheet ofX.of_job in
      let atY = clipped_same ok own y ofY.in_sheet ofY.of_job in
      let at_u = clipped_same ok own' u ofU.in_sheet ofU.of_job in
      let atV = clipped_same ok own' v of_v.in_sheet of_v.of_job in
      absurd
      (none (
        clipped ok τ,
        clipped_within ok τ,
        (
          own_same ok (λ e l q. sym (clipped_same ok own e l q)) own,
          (clipped ok σ, clipped_within ok σ, (own_same ok (λ e l q. sym (clipped_same ok own' e l q)) own', omega arith)),
        ),
      )))))

  -- ---- cleared last and cleared first

  module _ (m : ℕ → Bool) where
    -- a mark is on a fact
    Marked : ℕ → Type 0
    Marked f = m f ≡ true

    -- the guard of events v and y, by u and x
    Guards : (v y u x : ℕ) → Type 0
    Guards v y u x =
        (Is s u (s.event v).job ends (s.event u).fact × Is s x (s.event y).job clears (s.event u).fact)
        × (Marked (s.event u).fact × AtMost s (s.event y).job x y (s.event v).job u v)

    guards_dec : (v y : ℕ) → v < s.events → y < s.events → (u x : ℕ) → Dec (Guards v y u x)
    unfolding Guards Marked
    guards_dec v y inV inY u x =
        and_dec (dec_and (is_dec ok u _ ends _) (is_dec ok x _ clears _))
        (λ is.
        dec_and (Bool-discrete (m (s.event u).fact) true)
        (at_most_dec (of_job_lem is.1) (record { in_sheet = inY; of_job = refl }) (of_job_lem is.0) (record { in_sheet = inV; of_job = refl })))

    guard_dec : (v y : ℕ) → v < s.events → y < s.events → Dec (MarkedGuard s Marked (s.event v).job v (s.event y).job y)
    unfolding Guards
    guard_dec v y inV inY = map_dec to from (some_dec (λ u. some_dec (guards_dec v y inV inY u) s.events) s.events)
      where
        to
            : (u : ℕ) × (u < s.events) × ((x : ℕ) × (x < s.events) × Guards v y u x)
            → MarkedGuard s Marked (s.event v).job v (s.event y).job y
        to (u, inU, (x, inX, ((end, clear), (h, most)))) = marked (s.event u).fact u x h end clear most

        from
            : MarkedGuard s Marked (s.event v).job v (s.event y).job y
            → (u : ℕ) × (u < s.events) × ((x : ℕ) × (x < s.events) × Guards v y u x)
        from (marked p u x h end clear most) =
            (u, end.in_sheet, (x, clear.in_sheet, (rw end.of_fact (end, clear), (rw end.of_fact h, most))))

    last_dec : (f : ℕ) → Dec (AllGuarded s Marked f)
    unfolding AllGuarded
    last_dec f =
        map_dec
        (λ all i v a y set clear w.
        rw (set.is.of_job, clear.of_job) at
        (all v set.is.in_sheet y clear.in_sheet ((present_own set, is_own_lem clear), rw clear.of_job w)))
        (λ all v inV y inY h. all _ v _ y h.0.0 h.0.1 h.1)
        (all_dec
        (λ v.
        all_dec
        (λ y.
        if_dec (dec_and (dec_and (present_dec ok v _ sets f) (is_dec ok y _ clears f)) (job_decided ok (s.event y).job))
        (λ h. guard_dec v y h.0.0.is.in_sheet h.0.1.in_sheet))
        s.events)
        s.events)

    first_dec : (f : ℕ) → Dec (AllGuardedFirst s Marked f)
    unfolding AllGuardedFirst
    first_dec f =
        map_dec
        (λ all i v a y set w clear w'.
        rw (set.of_job, clear.of_job) at
        (all v set.in_sheet y clear.in_sheet ((is_own_lem set, is_own_lem clear), (rw set.of_job w, rw clear.of_job w'))))
        (λ all v inV y inY h. all _ v _ y h.0.0 h.1.0 h.0.1 h.1.1)
        (all_dec
        (λ v.
        all_dec
        (λ y.
        if_dec
        (dec_and (dec_and (is_dec ok v _ sets f) (is_dec ok y _ clears f))
        (dec_and (job_decided ok (s.event v).job) (job_decided ok (s.event y).job)))
        (λ h. guard_dec y v h.0.1.in_sheet h.0.0.in_sheet))
        s.events)
        s.events)

    last_turn
        : LastSound s Marked
        → LastClosed s Marked ⊎ ((i : ℕ) × (i < s.facts) × (m i ≡ false) × LastSound s (λ f. mark m i f ≡ true))
    unfolding Marked mark None
    last_turn sound =
        ⊎_elim
        (λ r.
        let (f, fIn, (q, all)) = r in
        inr
        (f, fIn, q, last_mark sound all (λ g h. ⊎_elim (λ o. inl o) (λ e. inr (eqb-true g f e)) (or_get (m g) _ h))))
        (λ none.
        inl (record { full = λ f l all. ⊎_elim (λ h. h) (λ q. absurd (none f l (q, all))) (decided (m f)) }))
        (find (λ f. dec_and (Bool-discrete (m f) false) (last_dec f)) s.facts)

  last_marks_lem : (m : ℕ → Bool) × LastSound s (Marked m) × LastClosed s (Marked m)
  unfolding Marked
  last_marks_lem =
      marking s.facts (λ m. LastSound s (Marked m)) (λ m. LastClosed s (Marked m)) last_turn (λ f. false)
      (record { shows = λ f q. absurd (clash q refl) })

  pub cleared_last_decided : (f : ℕ) → Dec (ClearedLast s f)
  unfolding Marked
  cleared_last_decided f =
      let (m, sound, closed) = last_marks_lem in
      dite (dec_lt f s.facts) (λ l. dec_of_iff (marked_last sound ok closed f l) (Bool-discrete (m f) true))
      (λ g. yes (shown (λ i v a y set clear w. absurd (g (fact_in_sheet ok set.is)))))

  pub cleared_first_decided : (f : ℕ) → Dec (ClearedFirst s f)
  cleared_first_decided f =
      let (m, sound, closed) = last_marks_lem in
      dec_of_iff (marked_first sound ok closed f) (first_dec m f)
