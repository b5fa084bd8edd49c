-- Raising job by job: one job's ticks do not touch another's.
use Prim.Native.Nat.{ℕ, zero, suc, ◌+◌, ◌≤◌, ◌<◌}
use native.Mathlib.Omega.{arith}
use mathlib.Core.Path.{◌≡◌, refl, sym, ◌∙◌, subst}
use mathlib.Core.Logic.{◌≢◌, ⊎_elim}
use mathlib.Core.Bool.{Bool, true, false}
use mathlib.Core.List.{List}
use lib.ListN.{length, get_or, set, replicate, length-set, length-replicate}
use lib.Seq.{get_or-set_other}
use Rattle.rules.specs.Sheet as rules
use Rattle.rules.specs.Plan.{earliest}
use Rattle.rules.specs.Wanted.{RunsAlone, Absent}
use Rattle.laws.specs.Bools.{decided, clash}
use Rattle.laws.specs.Limits.{most_jobs}
use Rattle.laws.specs.Set.{set_cases}
use Rattle.sheet.specs.WellFormed.{said_by, formed_by}
use Rattle.sheet.specs.declared.formed.WellFormed.{WellFormed}
use Rattle.index.specs.View.{KeptFrom}
use Rattle.kernel_least.specs.System.{System, Of, Solves, Least, Unsolvable, Closed}
use Rattle.kernel_least.specs.Rows.{Same, Raised, Outcome, OutcomeIs, at}
use Rattle.std.specs.Prelude.{Ok, Err, is_ok, is_err}
use Rattle.kernel_widest.specs.Laws.{rows_closed}
use Rattle.own_times.specs.View.{FilledWith, JobDone, JobLeast, JobFound, job_rows, RulesAsk, LeastOwn, AloneAre}
use Rattle.own_times.proofs.Own.{Span-of, job_shaped, own_least, own_absent, own_present, not_both}

-- ---- ticks that agree on a system's variables

module _ {s : System} (closed : Closed s) where
  solves_same
      : {f x y : ℕ → ℕ} → ((v : ℕ) → Of s v → y v ≡ x v) → Solves s f x → Solves s f y
  solves_same {f} {x} {y} h p =
      record {
        above = λ v o. omega (arith, h v o, p.above v o);
        below = λ v o. omega (arith, h v o, p.below v o);
        kept = λ a b w r. let (oa, ob) = closed a b w r in omega (arith, h a oa, h b ob, p.kept a b w r);
      }

  least_same
      : {f x y : ℕ → ℕ} → ((v : ℕ) → Of s v → y v ≡ x v) → Least s f x → Least s f y
  least_same {f} {x} {y} h p =
      record { solves = solves_same h p.solves; least = λ z q v o. omega (arith, h v o, p.least z q v o) }

floor_solves : {s : System} {f g x : ℕ → ℕ} → ((v : ℕ) → Of s v → g v ≡ f v) → Solves s f x → Solves s g x
floor_solves h p = record { above = λ v o. omega (arith, h v o, p.above v o); below = p.below; kept = p.kept }

floor_least : {s : System} {f g x : ℕ → ℕ} → ((v : ℕ) → Of s v → g v ≡ f v) → Least s f x → Least s g x
floor_least h p =
    record {
      solves = floor_solves h p.solves;
      least = λ y q. p.least y (floor_solves (λ v o. sym (h v o)) q);
    }

floor_none : {s : System} {f g : ℕ → ℕ} → ((v : ℕ) → Of s v → g v ≡ f v) → Unsolvable s f → Unsolvable s g
floor_none h p y q = p y (floor_solves (λ v o. sym (h v o)) q)

-- ---- one job

module _ (s : System) (floor : ℕ) {x₀ x₁ : List ℕ} (filled : FilledWith s.lo s.hi floor x₀ x₁) where
  answered : (x : ℕ → ℕ) (o : Outcome) → OutcomeIs s (at x₁) x o → OutcomeIs s (λ v. floor) x o
  answered x (Ok _) p = floor_least (λ v k. sym (filled.inside v k)) p
  answered x (Err _) p = floor_none (λ v k. sym (filled.inside v k)) p

  pub done_raised : {x : List ℕ} {o : Outcome} → Raised s x₁ x o → JobDone s floor x₀ x o
  done_raised {x} {o} p =
      record {
        ticks = λ v k. p.ticks v k ∙ filled.outside v k;
        answer = answered (at x) o p.answer;
      }

pub found_none
    : {s : System} {floor : ℕ} {x₀ x₁ x : List ℕ} {r : Outcome}
    → JobDone s floor x₀ x₁ r
    → is_err r ≡ true
    → FilledWith s.lo s.hi 0 x₁ x
    → JobFound s floor x₀ x r
found_none {r = Ok _} p q filled = absurd (clash q refl)
found_none {r = Err _} p q filled =
    record {
      ticks = λ v o. filled.outside v o ∙ p.ticks v o;
      here = record { least = λ z. absurd (clash z refl); none = λ z. p.answer; cleared = λ z e o. filled.inside e o };
    }

-- ---- from job to job

-- no mark is set yet
none_marked : (n i : ℕ) → get_or (replicate n false) i false ≡ false
none_marked zero i = refl
none_marked (suc n) zero = refl
none_marked (suc n) (suc i) = none_marked n i

-- the jobs below j are raised, and those of them that have own times are marked
pub record Raising (s : rules.Sheet) (span : List ℕ) (r : List (List ℕ)) (x₀ x : List ℕ) (marks : List Bool) (j : ℕ) : Type 0 where
  pub long : length x ≡ length x₀
  pub long_marks : length marks ≡ most_jobs
  pub within : j ≤ s.jobs
  pub done : (i : ℕ) → i < j → JobLeast (job_rows s span r i) (earliest s i) x (get_or marks i false)
  pub unmarked : (i : ℕ) → j ≤ i → get_or marks i false ≡ false
  pub rest : KeptFrom s.events x₀ x

module _ {sheet : WellFormed} (span : List ℕ) (r : List (List ℕ)) (asks : RulesAsk sheet span r) where
  abbrev s : rules.Sheet
  s = said_by sheet

  pub raising_start : (x : List ℕ) → Raising s span r x x (replicate most_jobs false) 0
  raising_start x =
      record {
        long = refl;
        long_marks = length-replicate {A = Bool} most_jobs false;
        within = omega arith;
        done = λ i l. absurd (omega arith);
        unmarked = λ i l. none_marked most_jobs i;
        rest = λ e l. refl;
      }

  -- another job's ticks are not touched
  untouched
      : (i j : ℕ) (x y : List ℕ)
      → i < s.jobs
      → j < s.jobs
      → i ≢ j
      → Same (get_or span j 0) (get_or span (j + 1) 0) x y
      → (e : ℕ)
      → Of (job_rows s span r i) e
      → get_or y e 0 ≡ get_or x e 0
  untouched i j x y li lj d same e o = same e (λ q. d (sym ((Span-of s _ asks.by_job i li).of_job e o) ∙ (Span-of s _ asks.by_job j lj).of_job e q))

  others
      : (x y : List ℕ) (i j : ℕ) (k : Bool)
      → i < j
      → j < s.jobs
      → Same (get_or span j 0) (get_or span (j + 1) 0) x y
      → JobLeast (job_rows s span r i) (earliest s i) x k
      → JobLeast (job_rows s span r i) (earliest s i) y k
  others x y i j k l m d p =
      let same = untouched i j x y (omega arith) m (λ e. omega arith) d in
      record {
        least = λ z. least_same (rows_closed _ _ _ _ _ s.horizon (job_shaped asks i (omega arith))) same (p.least z);
        none = p.none;
        cleared = λ z e o. same e o ∙ p.cleared z e o;
      }

  pub raising_step
      : (x₀ x y : List ℕ) (marks : List Bool) (j : ℕ) (k : Bool) {o : Outcome}
      → Raising s span r x₀ x marks j
      → j < s.jobs
      → length y ≡ length x
      → k ≡ is_ok o
      → JobFound (job_rows s span r j) (earliest s j) x y o
      → Raising s span r x₀ y (set marks j k) (j + 1)
  raising_step x₀ x y marks j k {o} p l long e d =
      record {
        long = long ∙ p.long;
        long_marks = length-set marks j k ∙ p.long_marks;
        within = omega arith;
        done =
            λ i a.
            set_cases (λ n z. JobLeast (job_rows s span r n) (earliest s n) y z) false marks j k i
            (omega (arith, (formed_by sheet).few.jobs, p.long_marks))
            (subst (JobLeast (job_rows s span r j) (earliest s j) y) (sym e) d.here)
            (λ n. others x y i j (get_or marks i false) (omega arith) l d.ticks (p.done i (omega arith)));
        unmarked =
            λ i a. get_or-set_other marks j i k false (λ q. omega arith) ∙ p.unmarked i (omega arith);
        rest =
            λ e a.
            d.ticks e (λ o. omega (arith, o.below, asks.by_job.within (j + 1) (omega arith))) ∙ p.rest e a;
      }

  module _ (x₀ x : List ℕ) (marks : List Bool) (j : ℕ) (p : Raising s span r x₀ x marks j) (all : s.jobs ≤ j) where
    -- a marked job has its least own times, another is absent
    marked_least : (i : ℕ) → i < s.jobs → get_or marks i false ≡ true → LeastOwn s i (at x)
    marked_least i l q = own_least asks x i l ((p.done i (omega arith)).least q)

    unmarked_absent : (i : ℕ) → i < s.jobs → get_or marks i false ≡ false → Absent s i
    unmarked_absent i l q = own_absent asks i l ((p.done i (omega arith)).none q)

    present_marked : (i : ℕ) → i < s.jobs → RunsAlone s i → get_or marks i false ≡ true
    present_marked i l here = ⊎_elim (λ q. q) (λ q. absurd (not_both s i (unmarked_absent i l q) here)) (decided (get_or marks i false))

    absent_unmarked : (i : ℕ) → i < s.jobs → Absent s i → get_or marks i false ≡ false
    absent_unmarked i l gone =
        ⊎_elim (λ q. absurd (not_both s i gone (own_present i (marked_least i l q).own))) (λ q. q) (decided (get_or marks i false))

    pub raising_end : AloneAre s x₀ x marks
    raising_end =
        record {
          present =
              record {
                long = omega (arith, (formed_by sheet).few.jobs, p.long_marks);
                means = λ i l q. own_present i (marked_least i l q).own;
                marked = present_marked;
              };
          unmarked = λ i l. p.unmarked i (omega (arith, p.within));
          rest = p.rest;
          least =
              record {
                own = λ i l here. marked_least i l (present_marked i l here);
                cleared =
                    λ e l gone.
                    let i = (s.event e).job in
                    let k = (formed_by sheet).formed.job e l in
                    (p.done i (omega arith)).cleared (absent_unmarked i k gone) e ((Span-of s _ asks.by_job i k).holds e l refl);
              };
        }
