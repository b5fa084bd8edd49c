-- The class, as tests: what a sheet's reasons show of every fact, and of one that is shown in neither order.
use Rattle.std.specs.Prelude.{ℕ, ◌+◌, ◌≤◌, ◌<◌, ◌≡◌}
use Rattle.std.proofs.Math.Path.{refl, sym, ap}
use Rattle.std.proofs.Common.{◌∙◌, inl, inr}
use Rattle.std.proofs.Math.Logic.{⊎_elim}
use Rattle.std.proofs.Math.Bool.{false}
use native.Mathlib.Omega.{arith}
use Rattle.rules.specs.Count.{None, Lowest}
use Rattle.rules.specs.Sheet.{Sheet, initial, ends, sets, clears}
use Rattle.rules.specs.Plan.{Is, OwnTimes}
use Rattle.rules.specs.Wanted.{RunsAlone, OfPresent, WantedFact, WantedJob}
use Rattle.rules.specs.Order.{AtMost, ClearedLast, shown, Guard, guard, ClearedFirst}
use Rattle.rules.specs.Class.{Unordered, TwoSetters, WantedUnordered, Inside}
use Rattle.laws.specs.Formed.{Formed}
use Rattle.laws.specs.Events.{job_in_sheet}
use Rattle.examples.specs.Test.{Test, eq, lt, on, off, ◌&◌, or, when, each, some, Passes}
use Rattle.examples.specs.Own.{is, is_put, is_get, own_times, alone, all_present}
use Rattle.examples.specs.Marks.{wanted_job, wanted_fact, wanted_marks, fact_wanted_lem, job_wanted_lem, Reason, last_marks, last_shown}

-- why a sheet is what it is: the marks of wanted jobs, ticks for each job alone, the marks of facts cleared last, their guards
pub record Reasons : Type 0 where
  pub wanted : ℕ → ℕ
  pub alone : ℕ → ℕ
  pub last : ℕ → ℕ
  pub guards : ℕ → ℕ → Reason

-- one job sets each wanted fact that is not initial
unfoldable pub one_setter : Sheet → (ℕ → ℕ) → Test
one_setter s turn =
    each s.events (λ e. each s.events (λ d.
    when
    (eq (s.event e).kind sets & eq (s.event d).kind sets & eq (s.event d).fact (s.event e).fact
    & off (initial s (s.event e).fact) & wanted_fact s turn (s.event e).fact)
    (eq (s.event e).job (s.event d).job)))

unfoldable pub reasons : Sheet → Reasons → Test
reasons s r =
    wanted_marks s r.wanted & alone s r.alone & one_setter s r.wanted
    & last_marks s (wanted_job s r.wanted) r.last r.guards

-- no fact can guard event v of job i before event y of job a: the ticks t refute each
unfoldable pub unguarded : Sheet → (ℕ → ℕ) → (v y : ℕ) → Test
unguarded s t v y =
    each s.events (λ u. each s.events (λ x.
    when (is s u (s.event v).job ends (s.event u).fact & is s x (s.event y).job clears (s.event u).fact) (lt (t u + t y) (t x + t v))))

-- f is not shown cleared last, and not shown cleared first
unfoldable pub not_last : Sheet → Reasons → ℕ → Test
not_last s r f =
    some s.events (λ v. some s.events (λ y.
    is s v (s.event v).job sets f & is s y (s.event y).job clears f & wanted_job s r.wanted (s.event y).job
    & unguarded s r.alone v y))

unfoldable pub not_first : Sheet → Reasons → ℕ → Test
not_first s r f =
    some s.events (λ v. some s.events (λ y.
    is s v (s.event v).job sets f & is s y (s.event y).job clears f & wanted_job s r.wanted (s.event v).job
    & wanted_job s r.wanted (s.event y).job & unguarded s r.alone y v))

module _ (s : Sheet) (r : Reasons) (ok : Formed s) (h : Passes (reasons s r)) where
  present : (j : ℕ) → j < s.jobs → RunsAlone s j
  unfolding reasons
  present = all_present s r.alone h.1.0

  pub of_present : {e j k f : ℕ} → Is s e j k f → OfPresent s e j k f
  of_present {j = j} i = record { is = i; alone = present j (job_in_sheet ok i) }

  pub wanted_fact_lem : (f : ℕ) → WantedFact s f → Passes (wanted_fact s r.wanted f)
  unfolding reasons
  wanted_fact_lem f = (fact_wanted_lem s r.wanted ok present h.0 f).1

  pub is_wanted_fact : (f : ℕ) → Passes (wanted_fact s r.wanted f) → WantedFact s f
  unfolding reasons
  is_wanted_fact f = (fact_wanted_lem s r.wanted ok present h.0 f).0

  pub wanted_job_lem : (j : ℕ) → WantedJob s j → Passes (wanted_job s r.wanted j)
  unfolding reasons
  wanted_job_lem j = (job_wanted_lem s r.wanted ok present h.0 j).1

  pub is_wanted_job : (j : ℕ) → Passes (wanted_job s r.wanted j) → WantedJob s j
  unfolding reasons
  is_wanted_job j = (job_wanted_lem s r.wanted ok present h.0 j).0

  own_alone : {e j k f : ℕ} → Is s e j k f → OwnTimes s j r.alone
  unfolding reasons alone
  own_alone i = own_times (h.1.0 _ (job_in_sheet ok i))

  pub one_setter_lem : None (TwoSetters s) s.facts
  unfolding reasons one_setter None
  one_setter_lem f l two =
      let (e, i, d, j, a, b, g) = two.setters in
      let unset : initial s (s.event e).fact ≡ false = ap (initial s) a.is.of_fact ∙ two.not_initial in
      g
      (sym a.is.of_job
      ∙ h.1.1.0 e a.is.in_sheet d b.is.in_sheet
      (a.is.of_kind, (b.is.of_kind, (b.is.of_fact ∙ sym a.is.of_fact, (unset, rw a.is.of_fact (wanted_fact_lem f two.is_wanted)))))
      ∙ b.is.of_job)

  pub is_last : (f : ℕ) → f < s.facts → 0 < r.last f → ClearedLast s f
  unfolding reasons
  is_last = last_shown s (wanted_job s r.wanted) r.last r.guards ok wanted_job_lem h.1.1.1

  no_guard_lem : (i v a y : ℕ) → (s.event v).job ≡ i → (s.event y).job ≡ a → Passes (unguarded s r.alone v y) → Guard s i v a y → ⊥
  unfolding unguarded AtMost
  no_guard_lem i v a y p q refute (guard f u x l need clear most) =
      let t = r.alone in
      omega (
        arith,
        most t t (own_alone clear) (own_alone need),
        refute u need.in_sheet x clear.in_sheet (is_put (rw (p, need.of_fact) need), is_put (rw (q, need.of_fact) clear)),
      )

  pub not_last_lem : (f : ℕ) → Passes (not_last s r f) → ClearedLast s f → ⊥
  unfolding not_last
  not_last_lem f (v, v_in, (y, y_in, (set, (clear, (w, free))))) (shown all) =
      no_guard_lem _ v _ y refl refl free (all _ v _ y (of_present (is_get v_in set)) (is_get y_in clear) (is_wanted_job _ w))

  pub not_first_lem : (f : ℕ) → Passes (not_first s r f) → ClearedFirst s f → ⊥
  unfolding not_first ClearedFirst
  not_first_lem f (v, v_in, (y, y_in, (set, (clear, (w, (w', free)))))) all =
      no_guard_lem _ y _ v refl refl free (all _ v _ y (is_get v_in set) (is_wanted_job _ w) (is_get y_in clear) (is_wanted_job _ w'))

  -- a fact shown cleared last keeps the second and the third class rule
  ordered : (f : ℕ) → ClearedLast s f → WantedUnordered s f → ⊥
  unfolding Unordered
  ordered f c b = ⊎_elim (λ u. u.0 c) (λ u. u.1 c) b.unshown

  ordered_below : (n : ℕ) → n ≤ s.facts → Passes (each n (λ f. lt 0 (r.last f))) → None (WantedUnordered s) n
  unfolding None
  ordered_below n l marked f fIn b = ordered f (is_last f (omega arith) (marked f fIn)) b

  pub inside : Passes (each s.facts (λ f. lt 0 (r.last f))) → Inside s
  unfolding None Unordered
  inside marked =
      record {
        one_setter = one_setter_lem;
        ordered = ordered_below s.facts (omega arith) marked;
        unwanted_ordered = λ f l b. b.unshown.0 (is_last f l (marked f l));
      }

-- the lowest wanted fact shown in neither order, or initial and not shown cleared last
unfoldable pub lowest_unordered : Sheet → Reasons → ℕ → Test
lowest_unordered s r f =
    lt f s.facts & each f (λ g. lt 0 (r.last g)) & wanted_fact s r.wanted f & not_last s r f
    & or (on (initial s f)) (not_first s r f)

pub lowest_unordered_lem
    : (s : Sheet) (r : Reasons) (f : ℕ)
    → Formed s
    → Passes (reasons s r)
    → Passes (lowest_unordered s r f)
    → Lowest (WantedUnordered s) s.facts f
unfolding lowest_unordered Unordered
lowest_unordered_lem s r f ok h (fIn, (marked, (w, (last, rest)))) =
    record {
      below = fIn;
      has =
          record {
            is_wanted = is_wanted_fact s r ok h f w;
            unshown =
                ⊎_elim (λ q. inr (q, not_last_lem s r ok h f last)) (λ first. inl (not_last_lem s r ok h f last, not_first_lem s r ok h f first)) rest;
          };
      lower = ordered_below s r ok h f (omega arith) marked;
    }
