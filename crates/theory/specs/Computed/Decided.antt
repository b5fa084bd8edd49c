-- How it is computed: which facts and jobs are wanted is decided, for every sheet, by a marking that ends.
use Rattle.std.specs.Prelude.{ℕ, zero, suc, ◌+◌, ◌≤◌, ◌<◌, ◌≡◌, refl, ◌⊎◌, Bool, true, false, not, cond, ◌||◌, eqb}
use Rattle.std.proofs.Common.{◌∙◌, arith, eqb-true, eq-eqb, ne_eqb}
use Rattle.std.proofs.Math.Path.{ap}
use Rattle.std.proofs.Math.Logic.{inl, inr, ⊎_elim, dite}
use Rattle.std.proofs.Math.Logic.Dec.{and as dec_and}
use Rattle.std.proofs.Math.Bool.{Bool-discrete}
use Rattle.std.proofs.Math.Decide.{dec_lt, ℕ_discrete}
use Rattle.rules.specs.Count.{None, count}
use Rattle.rules.specs.Sheet.{Sheet, initial, goal, begins, sets}
use Rattle.rules.specs.Wanted.{OfPresent, WantedFact, is_goal, is_need, WantedJob}
use Rattle.laws.specs.Bools.{decided, clash, or_get}
use Rattle.laws.specs.Counts.{count_add, count_at}
use Rattle.laws.specs.Formed.{Formed}
use Rattle.laws.specs.Events.{job_in_sheet}
use Rattle.theory.specs.Why.Places.{find, some_dec}
use Rattle.theory.specs.Why.Alone.{present_own, present_dec}
use Rattle.theory.specs.Computed.Mark.{WantedSound, WantedClosed, mark_setter, facts_decided, jobs_decided}

-- ---- a marking of the places below n ends

-- the marks m, and i
unfoldable pub mark : (ℕ → Bool) → ℕ → ℕ → Bool
mark m i k = m k || eqb k i

unmarked : (ℕ → Bool) → ℕ → ℕ
unmarked m n = count (λ k. not (m k)) n

fewer : (m : ℕ → Bool) (i n : ℕ) → i < n → m i ≡ false → unmarked (mark m i) n < unmarked m n
unfolding unmarked mark
fewer m i n h q =
    omega (
      arith,
      count_at (λ k. eqb k i) i n h (eq-eqb i i refl),
      count_add (λ k. eqb k i) (λ k. not (mark m i k)) (λ k. not (m k)) n
          (λ k. dite (ℕ_discrete k i) (λ e. rw (eq-eqb k i e, e, q) (omega arith)) (λ g. rw (ne_eqb k i g) (other (m k)))),
    )
  where
    other : (b : Bool) → 0 + cond (not (b || false)) 1 0 ≤ cond (not b) 1 0
    other true = omega arith
    other false = omega arith

-- from marks that are good, one good mark after the other, to good marks that are done
module _
    (n : ℕ) (Good Done : (ℕ → Bool) → Type 0)
    (step : (m : ℕ → Bool) → Good m → Done m ⊎ ((i : ℕ) × (i < n) × (m i ≡ false) × Good (mark m i)))
  where
    marking_ends : (fuel : ℕ) (m : ℕ → Bool) → unmarked m n < fuel → Good m → (r : ℕ → Bool) × Good r × Done r
    marking_ends zero m h good = absurd (omega arith)
    marking_ends (suc fuel) m h good =
        ⊎_elim (λ done. (m, good, done))
        (λ r. let (i, iIn, q, better) = r in marking_ends fuel (mark m i) (omega (arith, fewer m i n iIn q)) better) (step m good)

    pub marking : (m : ℕ → Bool) → Good m → (r : ℕ → Bool) × Good r × Done r
    marking m good = marking_ends (suc (unmarked m n)) m (omega arith) good

-- ---- wanted

-- by the marked jobs m: a fact is a goal, or a marked job needs it
Asked : Sheet → (ℕ → Bool) → ℕ → Type 0
Asked s m f =
    ((f < s.facts) × (goal s f ≡ true))
    ⊎ ((e : ℕ) × (e < s.events) × (((s.event e).kind ≡ begins) × ((s.event e).fact ≡ f) × (m (s.event e).job ≡ true)))

⊎-dec : {A B : Type 0} → Dec A → Dec B → Dec (A ⊎ B)
⊎-dec (yes a) d = yes (inl a)
⊎-dec (no g) (yes b) = yes (inr b)
⊎-dec (no g) (no h) = no (⊎_elim g h)

asked_dec : (s : Sheet) (m : ℕ → Bool) (f : ℕ) → Dec (Asked s m f)
unfolding Asked
asked_dec s m f =
    ⊎-dec (dec_and (dec_lt f s.facts) (Bool-discrete (goal s f) true))
    (some_dec
    (λ e.
    and₃ (ℕ_discrete (s.event e).kind begins) (ℕ_discrete (s.event e).fact f) (Bool-discrete (m (s.event e).job) true))
    s.events)
  where
    and₃ : {A B C : Type 0} → Dec A → Dec B → Dec C → Dec (A × B × C)
    and₃ (yes a) (yes b) (yes c) = yes (a, b, c)
    and₃ (yes a) (yes b) (no h) = no (λ r. h r.2)
    and₃ (yes a) (no h) c = no (λ r. h r.1)
    and₃ (no h) b c = no (λ r. h r.0)

-- job events e that must still mark their job: a set, by a present job, of a fact that is asked for and not initial
Owed : Sheet → (ℕ → Bool) → ℕ → Type 0
Owed s m e =
    (OfPresent s e (s.event e).job sets (s.event e).fact × (initial s (s.event e).fact ≡ false))
    × (Asked s m (s.event e).fact × (m (s.event e).job ≡ false))

module _ {s : Sheet} (ok : Formed s) where
  owed_dec : (m : ℕ → Bool) (e : ℕ) → Dec (Owed s m e)
  unfolding Owed
  owed_dec m e =
      dec_and (dec_and (present_dec ok e _ sets _) (Bool-discrete (initial s (s.event e).fact) false))
      (dec_and (asked_dec s m (s.event e).fact) (Bool-discrete (m (s.event e).job) false))

  asked_sound : {m : ℕ → Bool} → ((j : ℕ) → m j ≡ true → WantedJob s j) → WantedSound s (Asked s m) (λ j. m j ≡ true)
  unfolding Asked
  asked_sound jobs =
      record {
        facts = λ f.
            ⊎_elim (λ g. is_goal g.0 g.1)
            (λ r. is_need r.0 (jobs _ r.2.2) (record { in_sheet = r.1; of_job = refl; of_kind = r.2.0; of_fact = r.2.1 }));
        jobs = jobs;
      }

  asked_closed : {m : ℕ → Bool} → None (Owed s m) s.events → WantedClosed s (Asked s m) (λ j. m j ≡ true)
  unfolding Asked Owed None
  asked_closed {m} none =
      record {
        goals = λ f l q. inl (l, q);
        needs = λ j f e h is. inr (e, is.in_sheet, (is.of_kind, is.of_fact, ap m is.of_job ∙ h));
        setters = λ j f e asked q is.
            ⊎_elim (λ y. y)
            (λ y.
            absurd
            (none e is.is.in_sheet (
              (rw is.is.of_fact (present_own is), ap (initial s) is.is.of_fact ∙ q),
              (rw is.is.of_fact asked, ap m is.is.of_job ∙ y),
            )))
            (decided (m j));
      }

  turn
      : (m : ℕ → Bool)
      → WantedSound s (Asked s m) (λ j. m j ≡ true)
      → WantedClosed s (Asked s m) (λ j. m j ≡ true)
      ⊎ ((i : ℕ) × (i < s.jobs) × (m i ≡ false) × WantedSound s (Asked s (mark m i)) (λ j. mark m i j ≡ true))
  unfolding Owed mark
  turn m sound = ⊎_elim (λ r. inr (more r)) (λ g. inl (asked_closed g)) (find (owed_dec m) s.events)
    where
      more
          : (e : ℕ) × (e < s.events) × Owed s m e
          → (i : ℕ) × (i < s.jobs) × (m i ≡ false) × WantedSound s (Asked s (mark m i)) (λ j. mark m i j ≡ true)
      more (e, eIn, owed) =
          let w = mark_setter sound owed.1.0 owed.0.1 owed.0.0 in (
            (s.event e).job,
            job_in_sheet ok owed.0.0.is,
            owed.1.1,
            asked_sound (λ j h. ⊎_elim (sound.jobs j) (λ q. rw (eqb-true j (s.event e).job q) w) (or_get (m j) _ h)),
          )

  marks : (m : ℕ → Bool) × WantedSound s (Asked s m) (λ j. m j ≡ true) × WantedClosed s (Asked s m) (λ j. m j ≡ true)
  marks =
      marking s.jobs (λ m. WantedSound s (Asked s m) (λ j. m j ≡ true)) (λ m. WantedClosed s (Asked s m) (λ j. m j ≡ true))
      turn (λ j. false) (asked_sound (λ j q. absurd (clash q refl)))

  pub job_decided : (j : ℕ) → Dec (WantedJob s j)
  job_decided = let (m, sound, closed) = marks in jobs_decided sound closed (λ j. Bool-discrete (m j) true)

  pub fact_decided : (f : ℕ) → Dec (WantedFact s f)
  fact_decided = let (m, sound, closed) = marks in facts_decided sound closed (asked_dec s m)
