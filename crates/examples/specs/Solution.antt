-- Ticks that meet the list rules, where neither other reason for no plan holds, as a test.
use Rattle.std.specs.Prelude.{ℕ, ◌+◌, ◌≤◌, ◌<◌, ◌⊎◌}
use Rattle.std.proofs.Common.{sym, ◌∙◌, ⊎_elim}
use Rattle.std.proofs.Math.Path.{ap}
use Rattle.rules.specs.Sheet.{Sheet, initial, goal, begins, ends, sets, clears}
use Rattle.rules.specs.Plan.{Is, distance}
use Rattle.rules.specs.Wanted.{WantedFact, WantedJob}
use Rattle.rules.specs.Order.{ClearedLast, ClearedFirst}
use Rattle.rules.specs.Class.{ByWanted, ListRules}
use Rattle.laws.specs.Formed.{Formed}
use Rattle.laws.specs.Events.{fact_in_sheet, wanted_job_in}
use Rattle.theory.specs.Statements.{Solution}
use Rattle.examples.specs.Test.{Test, le, lt, on, off, ◌&◌, or, when, each, some, Passes}
use Rattle.examples.specs.Own.{is, is_get, is_own_lem, own, own_times}
use Rattle.examples.specs.Marks.{wanted_job, wanted_fact}
use Rattle.examples.specs.Class.{Reasons, reasons, of_present, not_last, not_first, not_last_lem, not_first_lem, wanted_fact_lem, wanted_job_lem}

-- ---- two events of one fact, of wanted jobs

unfoldable pub linked : Sheet → Reasons → (k m e d : ℕ) → Test
linked s r k m e d =
    is s e (s.event e).job k (s.event e).fact & is s d (s.event d).job m (s.event e).fact
    & wanted_job s r.wanted (s.event e).job & wanted_job s r.wanted (s.event d).job

-- for each two of them
unfoldable pub pairs : Sheet → Reasons → (k m : ℕ) → (ℕ → ℕ → Test) → Test
pairs s r k m t = each s.events (λ e. each s.events (λ d. when (linked s r k m e d) (t e d)))

-- ---- ticks that solve the sheet

-- t e + distance ≤ t d
unfoldable pub before : Sheet → (ℕ → ℕ) → ℕ → ℕ → Test
before s t e d = le (t e + distance s (s.event e).job (s.event d).job) (t d)

unfoldable pub meets : Sheet → Reasons → (ℕ → ℕ) → Test
meets s r t =
    each s.jobs (λ j. when (wanted_job s r.wanted j) (own s j t))
    & pairs s r sets begins (λ e d.
    when (off (initial s (s.event e).fact) & wanted_fact s r.wanted (s.event e).fact) (before s t e d))
    & pairs s r sets clears (λ e d. or (not_last s r (s.event e).fact) (lt (t e) (t d)))
    & pairs s r ends clears (λ e d. or (not_last s r (s.event e).fact) (before s t e d))
    & pairs s r sets clears (λ e d. or (not_first s r (s.event e).fact) (lt (t d) (t e)))

-- and neither other reason for no plan holds
unfoldable pub solves : Sheet → Reasons → (ℕ → ℕ) → Test
solves s r t =
    meets s r t
    & each s.facts (λ f.
    when (wanted_fact s r.wanted f & off (initial s f)) (some s.events (λ e. is s e (s.event e).job sets f)))
    & each s.events (λ e.
    when (is s e (s.event e).job clears (s.event e).fact & wanted_job s r.wanted (s.event e).job & on (goal s (s.event e).fact))
    (not_last s r (s.event e).fact))

module _ (s : Sheet) (r : Reasons) (ok : Formed s) (h : Passes (reasons s r)) where
  link_of : {k m f i e j d : ℕ} → WantedJob s i → Is s e i k f → WantedJob s j → Is s d j m f → Passes (linked s r k m e d)
  unfolding linked
  link_of w a w' b = (
    is_own_lem a (sym a.of_fact),
    (is_own_lem b (sym a.of_fact), (wanted_job_lem s r ok h _ (rw a.of_job w), wanted_job_lem s r ok h _ (rw b.of_job w'))),
  )

  unless_last : {A : Type 0} {e i k f : ℕ} → Is s e i k f → ClearedLast s f → Passes (not_last s r (s.event e).fact) ⊎ A → A
  unless_last a c = ⊎_elim (λ n. absurd (not_last_lem s r ok h _ n (rw a.of_fact c))) (λ x. x)

  unless_first : {A : Type 0} {e i k f : ℕ} → Is s e i k f → ClearedFirst s f → Passes (not_first s r (s.event e).fact) ⊎ A → A
  unless_first a c = ⊎_elim (λ n. absurd (not_first_lem s r ok h _ n (rw a.of_fact c))) (λ x. x)

  far
      : {e d i j k m f g : ℕ} (t : ℕ → ℕ)
      → Is s e i k f
      → Is s d j m g
      → Passes (before s t e d)
      → t e + distance s i j ≤ t d
  unfolding before
  far t a b q = rw (a.of_job, b.of_job) at q

  list_rules : (t : ℕ → ℕ) → Passes (meets s r t) → ListRules s t
  unfolding meets pairs
  list_rules t (o, (n, (sc, (nc, cs)))) =
      record {
        own = λ j w. own_times (o j (wanted_job_in ok w) (wanted_job_lem s r ok h j w));
        set_need = λ f i e j d wf q w a w' b.
            far t a b
            (n e a.in_sheet d b.in_sheet (link_of w a w' b)
            (ap (initial s) a.of_fact ∙ q, rw a.of_fact (wanted_fact_lem s r ok h f wf)));
        set_clear = λ f i e j d c w a w' b. unless_last a c (sc e a.in_sheet d b.in_sheet (link_of w a w' b));
        need_clear = λ f i e j d c w a w' b.
            far t a b (unless_last a c (nc e a.in_sheet d b.in_sheet (link_of w a w' b)));
        clear_set = λ f i e j d c w a w' b. unless_first a c (cs e a.in_sheet d b.in_sheet (link_of w a w' b));
      }

  pub solution : (t : ℕ → ℕ) → Passes (solves s r t) → Solution s t
  unfolding solves ByWanted
  solution t (met, (sources, goals)) =
      record {
        rules = list_rules t met;
        sources = λ f b.
            let (e, eIn, set) = sources f (fact_in_lem f b.is_wanted) (wanted_fact_lem s r ok h f b.is_wanted, b.not_initial) in
            b.not_set e _ (of_present s r ok h (is_get eIn set));
        goals = λ f b.
            let (e, j, a, w) = b.is_cleared in
            not_last_lem s r ok h _
            (goals e a.in_sheet (
              is_own_lem a (sym a.of_fact),
              (wanted_job_lem s r ok h _ (rw a.of_job w), ap (goal s) a.of_fact ∙ b.is_goal),
            ))
            (rw a.of_fact b.is_last);
      }
    where
      fact_in_lem : (f : ℕ) → WantedFact s f → f < s.facts
      fact_in_lem f (WantedFact.is_goal l q) = l
      fact_in_lem f (WantedFact.is_need e w i) = fact_in_sheet ok i
