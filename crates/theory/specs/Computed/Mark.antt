-- How it is computed: wanted, and cleared last, as the end of a marking that adds nothing more.
-- A mark is a property P of a fact (Q of a job). Start: nothing is marked. Step: one more mark. End: nothing is left to mark.
use Rattle.std.specs.Prelude.{ℕ, ◌<◌, ◌≡◌, ◌↔◌, ◌⊎◌, true, false}
use Rattle.std.proofs.Common.{⊎_elim}
use Rattle.std.proofs.Math.Logic.Dec.{of_iff as dec_of_iff}
use Rattle.rules.specs.Sheet.{Sheet, initial, goal, begins, ends, sets, clears}
use Rattle.rules.specs.Plan.{Is}
use Rattle.rules.specs.Wanted.{OfPresent, WantedFact, WantedJob, is_setter}
use Rattle.rules.specs.Order.{AtMost, ClearedLast, shown, Guard, guard, ClearedFirst}
use Rattle.laws.specs.Formed.{Formed}
use Rattle.laws.specs.Events.{fact_in_sheet}
use Rattle.theory.specs.Why.Sound.{last_ind, guard_ind}
use Rattle.theory.specs.Why.Present.{fact_ind, job_ind}

-- P and g: one more mark
abbrev pub Added : (ℕ → Type 0) → ℕ → (ℕ → Type 0) → Type 0
Added P g P' = (f : ℕ) → P' f → P f ⊎ (f ≡ g)

-- ---- wanted

-- every mark is wanted
pub record WantedSound (s : Sheet) (P Q : ℕ → Type 0) : Type 0 where
  pub facts : (f : ℕ) → P f → WantedFact s f
  pub jobs : (j : ℕ) → Q j → WantedJob s j

-- nothing is left to mark
pub record WantedClosed (s : Sheet) (P Q : ℕ → Type 0) : Type 0 where
  pub goals : (f : ℕ) → f < s.facts → goal s f ≡ true → P f
  pub needs : (j f e : ℕ) → Q j → Is s e j begins f → P f
  pub setters : (j f e : ℕ) → P f → initial s f ≡ false → OfPresent s e j sets f → Q j

module _ {s : Sheet} {P Q : ℕ → Type 0} (sound : WantedSound s P Q) where
  -- the setter of a marked fact that is not initial may be marked
  pub mark_setter : {j f e : ℕ} → P f → initial s f ≡ false → OfPresent s e j sets f → WantedJob s j
  mark_setter {j} {f} {e} h q is = is_setter e (sound.facts f h) q is

  module _ (closed : WantedClosed s P Q) where
    pub marked_facts : (f : ℕ) → P f ↔ WantedFact s f
    marked_facts f = (
      sound.facts f,
      fact_ind P Q closed.goals (λ j f e w h is. closed.needs j f e h is) (λ j f e w h q is. closed.setters j f e h q is),
    )

    pub marked_jobs : (j : ℕ) → Q j ↔ WantedJob s j
    marked_jobs j = (
      sound.jobs j,
      job_ind P Q closed.goals (λ j f e w h is. closed.needs j f e h is) (λ j f e w h q is. closed.setters j f e h q is),
    )

    pub facts_decided : ((f : ℕ) → Dec (P f)) → (f : ℕ) → Dec (WantedFact s f)
    facts_decided dec f = dec_of_iff (marked_facts f) (dec f)

    pub jobs_decided : ((j : ℕ) → Dec (Q j)) → (j : ℕ) → Dec (WantedJob s j)
    jobs_decided dec j = dec_of_iff (marked_jobs j) (dec j)

-- ---- cleared last

-- a guard whose fact is marked
pub data MarkedGuard (s : Sheet) (P : ℕ → Type 0) (i v a y : ℕ) : Type 0 where
  marked : (p u x : ℕ) → P p → Is s u i ends p → Is s x a clears p → AtMost s a x y i u v → MarkedGuard s P i v a y

-- every set of f by a present job, and every clear of f by a wanted job, have a marked guard
unfoldable pub AllGuarded : Sheet → (ℕ → Type 0) → ℕ → Type 0
AllGuarded s P f = (i v a y : ℕ) → OfPresent s v i sets f → Is s y a clears f → WantedJob s a → MarkedGuard s P i v a y

-- the same for cleared first
unfoldable pub AllGuardedFirst : Sheet → (ℕ → Type 0) → ℕ → Type 0
AllGuardedFirst s P f =
    (i v a y : ℕ) → Is s v i sets f → WantedJob s i → Is s y a clears f → WantedJob s a → MarkedGuard s P a y i v

-- every mark is shown
pub record LastSound (s : Sheet) (P : ℕ → Type 0) : Type 0 where
  pub shows : (f : ℕ) → P f → ClearedLast s f

-- nothing is left to mark
pub record LastClosed (s : Sheet) (P : ℕ → Type 0) : Type 0 where
  pub full : (f : ℕ) → f < s.facts → AllGuarded s P f → P f

module _ {s : Sheet} {P : ℕ → Type 0} (sound : LastSound s P) where
  marked_guard_sound : {i v a y : ℕ} → MarkedGuard s P i v a y → Guard s i v a y
  marked_guard_sound (marked p u x h e c m) = guard p u x (sound.shows p h) e c m

  mark_last : (f : ℕ) → AllGuarded s P f → ClearedLast s f
  unfolding AllGuarded
  mark_last f all = shown (λ i v a y set clear w. marked_guard_sound (all i v a y set clear w))

  pub last_mark : {P' : ℕ → Type 0} {g : ℕ} → AllGuarded s P g → Added P g P' → LastSound s P'
  last_mark {P'} {g} all more = record { shows = λ f h. ⊎_elim (sound.shows f) (λ q. rw q (mark_last g all)) (more f h) }

  module _ (ok : Formed s) (closed : LastClosed s P) where
    -- the guard of a pair has its fact in the sheet, so that its mark is known
    known_guard
        : (i v a y p u x : ℕ)
        → (p < s.facts → P p)
        → Is s u i ends p
        → Is s x a clears p
        → AtMost s a x y i u v
        → MarkedGuard s P i v a y
    known_guard i v a y p u x h e c m = marked p u x (h (fact_in_sheet ok e)) e c m

    all_known
        : (f : ℕ)
        → ((i v a y : ℕ) → OfPresent s v i sets f → Is s y a clears f → WantedJob s a → MarkedGuard s P i v a y)
        → f < s.facts
        → P f
    unfolding AllGuarded
    all_known f all l = closed.full f l all

    pub marked_last : (f : ℕ) → f < s.facts → P f ↔ ClearedLast s f
    marked_last f l =
        (sound.shows f, λ c. last_ind (λ g. g < s.facts → P g) (MarkedGuard s P) all_known known_guard c l)

    marked_guard : (i v a y : ℕ) → MarkedGuard s P i v a y ↔ Guard s i v a y
    marked_guard i v a y = (marked_guard_sound, guard_ind (λ g. g < s.facts → P g) (MarkedGuard s P) all_known known_guard)

    pub marked_first : (f : ℕ) → AllGuardedFirst s P f ↔ ClearedFirst s f
    unfolding AllGuardedFirst ClearedFirst
    marked_first f = (
      λ all i v a y set w clear w'. (marked_guard a y i v).0 (all i v a y set w clear w'),
      λ all i v a y set w clear w'. (marked_guard a y i v).1 (all i v a y set w clear w'),
    )
