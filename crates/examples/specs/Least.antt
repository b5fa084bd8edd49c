-- The least list, and that there is no plan, as tests: chains of list rules that tell how early an event can be.
use Rattle.std.specs.Prelude.{ℕ, zero, suc, ◌+◌, ◌≤◌, ◌≡◌, refl, List, [], ◌∷◌, length, get_or}
use Rattle.std.proofs.Math.Path.{ap}
use Rattle.std.proofs.Math.Logic.{⊎_elim, dite}
use Rattle.std.proofs.Common.{arith}
use Rattle.std.proofs.Math.Decide.{dec_lt}
use Rattle.rules.specs.Count.{byte, rises}
use Rattle.rules.specs.Sheet.{Sheet, initial, begins, ends, sets, clears}
use Rattle.rules.specs.RunList.{Plan, instances, job_of, list_ok, plan_of}
use Rattle.rules.specs.Plan.{IsPlan, latest}
use Rattle.rules.specs.Wanted.{LeastList}
use Rattle.rules.specs.Class.{Inside, ListRules}
use Rattle.laws.specs.Limits.{byte_values}
use Rattle.laws.specs.Rise.{rises_get}
use Rattle.laws.specs.Formed.{Formed}
use Rattle.laws.specs.Events.{fact_in_sheet, wanted_job_in}
use Rattle.theory.specs.Statements.{LeastSolution}
use Rattle.theory.specs.Why.Least.{solution_of}
use Rattle.theory.specs.Why.Entries.{least_list}
use Rattle.theory.specs.Computed.Raise.{Keeps}
use Rattle.examples.specs.Test.{Test, eq, le, lt, on, off, ◌&◌, or, when, each, some, Passes}
use Rattle.examples.specs.Own.{is_get, Step, low, high, link, rule_at, along, chain, chain_keeps}
use Rattle.examples.specs.Marks.{wanted_job, wanted_fact}
use Rattle.examples.specs.Class.{Reasons, reasons, is_wanted_fact, wanted_job_lem, is_wanted_job, is_last}
use Rattle.examples.specs.Solution.{linked, solves, solution}

-- ---- chains of list rules

-- the list rules that the reasons show
unfoldable pub of_list : Sheet → Reasons → Step → Test
of_list s r (low i) = lt i s.bounds & wanted_job s r.wanted (s.event (s.bound i).later).job
of_list s r (high i) = lt i s.bounds & wanted_job s r.wanted (s.event (s.bound i).later).job
of_list s r (link e d) =
    lt e s.events & lt d s.events
    & or
    (linked s r sets begins e d & off (initial s (s.event e).fact) & wanted_fact s r.wanted (s.event e).fact)
    (linked s r ends clears e d & lt 0 (r.last (s.event e).fact))

-- rules one after the other, from an event on
pub record Path : Type 0 where
  pub from : ℕ
  pub steps : List Step

unfoldable pub path : Sheet → Reasons → Path → Test
path s r p = chain s (of_list s r) p.from p.steps

-- the path of each event of a wanted job tells that its tick is t at least
unfoldable pub below : Sheet → Reasons → (ℕ → ℕ) → (ℕ → Path) → Test
below s r t why =
    each s.events (λ e.
    when (wanted_job s r.wanted (s.event e).job)
    (let end = along s (why e).from (why e).steps in
    path s r (why e) & eq end.to e & le (t e + end.minus) end.plus))

-- the path rises above its own start, or above the latest tick of its end
unfoldable pub too_long : Sheet → Reasons → Path → Test
too_long s r p =
    let end = along s p.from p.steps in
    path s r p
    & or (eq end.to p.from & lt end.minus end.plus)
    (lt end.to s.events & wanted_job s r.wanted (s.event end.to).job
    & lt (latest s (s.event end.to).job + end.minus) end.plus)

module _ (s : Sheet) (r : Reasons) (ok : Formed s) (h : Passes (reasons s r)) where
  list_step : (u : ℕ → ℕ) → ListRules s u → (a : Step) → Passes (of_list s r a) → Keeps (rule_at s a) u
  unfolding of_list rule_at Keeps linked
  list_step u rules (low i) (l, w) = ((rules.own _ (is_wanted_job s r ok h _ w)).bounds i l refl).low
  list_step u rules (high i) (l, w) = ((rules.own _ (is_wanted_job s r ok h _ w)).bounds i l refl).high
  list_step u rules (link e d) (eIn, (dIn, which)) =
      ⊎_elim
      (λ x.
      let ((a, (b, (w, w'))), (q, wf)) = x in
      let far =
      rules.set_need (s.event e).fact _ e _ d (is_wanted_fact s r ok h _ wf) q (is_wanted_job s r ok h _ w) (is_get eIn a)
      (is_wanted_job s r ok h _ w') (is_get dIn b)
      in
      omega arith)
      (λ x.
      let ((a, (b, (w, w'))), marked) = x in
      let far =
      rules.need_clear (s.event e).fact _ e _ d (is_last s r ok h _ (fact_in_sheet ok (is_get eIn a)) marked)
      (is_wanted_job s r ok h _ w) (is_get eIn a) (is_wanted_job s r ok h _ w') (is_get dIn b)
      in
      omega arith)
      which

  path_keeps
      : (u : ℕ → ℕ) (p : Path)
      → ListRules s u
      → Passes (path s r p)
      → u p.from + (along s p.from p.steps).plus
      ≤ u (along s p.from p.steps).to + (along s p.from p.steps).minus
  unfolding path
  path_keeps u p rules q = chain_keeps s (of_list s r) u (list_step u rules) p.from p.steps q

  pub least_solution_lem : (t : ℕ → ℕ) (why : ℕ → Path) → Passes (solves s r t) → Passes (below s r t why) → LeastSolution s t
  unfolding below
  least_solution_lem t why met under =
      record {
        solution = solution s r ok h t met;
        least = λ u rules e eIn w.
            let (q, (to, few)) = under e eIn (wanted_job_lem s r ok h _ w) in
            omega (arith, path_keeps u (why e) rules q, ap u to);
      }

  no_ticks : (p : Path) → Passes (too_long s r p) → (u : ℕ → ℕ) → ListRules s u → ⊥
  unfolding too_long
  no_ticks p (there, past) u rules =
      let told = path_keeps u p rules there in
      ⊎_elim (λ x. omega (arith, ap u x.0))
      (λ x. omega (arith, (rules.own _ (is_wanted_job s r ok h _ x.1.0)).late _ x.0 refl)) past

  pub no_plan_lem : (p : Path) → Inside s → Passes (too_long s r p) → (q : Plan) → IsPlan s q → ⊥
  no_plan_lem p inside past q plan = no_ticks p past _ (solution_of ok inside plan).rules

-- ---- the bytes of the least list

unfoldable pub writes : Sheet → Reasons → (ℕ → ℕ) → List ℕ → Test
writes s r t l =
    each (length l) (λ i. lt (byte l i) byte_values)
    & on (list_ok s l)
    & on (rises (λ k. s.code (job_of s l k)) (instances l))
    & each (instances l) (λ k. wanted_job s r.wanted (job_of s l k))
    & each s.jobs (λ j. when (wanted_job s r.wanted j) (some (instances l) (λ k. eq (job_of s l k) j)))
    & each (instances l) (λ k. each s.events (λ e. when (eq (s.event e).job (job_of s l k)) (eq ((plan_of s l).time k e) (t e))))

past_end : (l : List ℕ) (i : ℕ) → length l ≤ i → get_or l i 0 ≡ 0
past_end [] i h = refl
past_end (x ∷ l) zero h = absurd (omega arith)
past_end (x ∷ l) (suc i) h = past_end l i (omega arith)

pub least_bytes
    : (s : Sheet) (r : Reasons) (t : ℕ → ℕ) (l : List ℕ)
    → Formed s
    → Passes (reasons s r)
    → Inside s
    → LeastSolution s t
    → Passes (writes s r t l)
    → LeastList s l
unfolding writes byte plan_of
least_bytes s r t l ok h inside best (small, (form, (rise, (wanted, (whole, ticks))))) =
    least_list ok inside best
    (λ i. dite (dec_lt i (length l)) (small i) (λ g. omega (arith, past_end l i (omega arith)))) form
    (record {
      rising = rises_get (λ k. s.code (job_of s l k)) (instances l) rise;
      wanted = λ i l. is_wanted_job s r ok h _ (wanted i l);
      whole = λ j w. whole j (wanted_job_in ok w) (wanted_job_lem s r ok h j w);
    })
    (λ i e iIn eIn q. ticks i iIn e eIn q)
