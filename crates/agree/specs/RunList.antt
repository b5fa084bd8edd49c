-- Sheets that agree read a list alike: the same jobs and bodies, well formed for both or for neither, and plans that agree.
use Prim.Native.Nat.{ℕ, zero, suc, ◌<◌}
use Rattle.std.proofs.Common.{arith, ◌∙◌}
use Rattle.std.specs.Prelude.{◌≡◌, List}
use Rattle.std.proofs.Math.Path.{refl, ap}
use Rattle.std.proofs.Math.Dec.{eqb}
use Rattle.rules.specs.Count.{count, first}
use Rattle.rules.specs.Sheet.{Sheet}
use Rattle.rules.specs.RunList.{events_of, rank, instances, code_of, job_of, body_of, entry_fits, list_ok, plan_of}
use Rattle.agree.specs.Agree.{Agree, job_agree}
use Rattle.laws.specs.Below.{every_below, count_below, first_below}
use Rattle.agree.specs.Plan.{SamePlan}

module _ {s t : Sheet} (a : Agree s t) where
  events_of_agree : (j : ℕ) → events_of s j ≡ events_of t j
  unfolding events_of
  events_of_agree j =
      count_below (λ e. eqb (s.event e).job j) (λ e. eqb (t.event e).job j) s.events
      (λ e l. ap (λ (i : ℕ). eqb i j) (job_agree a e l))
      ∙ ap (count (λ e. eqb (t.event e).job j)) a.events

  rank_agree : (e : ℕ) → e < s.events → rank s e ≡ rank t e
  unfolding rank
  rank_agree e l =
      count_below (λ d. eqb (s.event d).job (s.event e).job) (λ d. eqb (t.event d).job (t.event e).job) e
      (λ d m. rw (job_agree a d (omega arith), job_agree a e l))

  module _ (l : List ℕ) where
    job_of_agree : (k : ℕ) → job_of s l k ≡ job_of t l k
    unfolding job_of
    job_of_agree k =
        first_below (λ j. eqb (s.code j) (code_of l k)) (λ j. eqb (t.code j) (code_of l k)) s.jobs
        (λ j m. ap (λ (c : ℕ). eqb c (code_of l k)) (a.code j m))
        ∙ ap (first (λ j. eqb (t.code j) (code_of l k))) a.jobs

    body_of_agree : (k : ℕ) → body_of s l k ≡ body_of t l k
    unfolding body_of
    body_of_agree zero = refl
    body_of_agree (suc k) =
        omega (arith, body_of_agree k, events_of_agree (job_of s l k), ap (events_of t) (job_of_agree k))

    entry_agree : (k : ℕ) → entry_fits s l k ≡ entry_fits t l k
    unfolding entry_fits
    entry_agree k = rw (job_of_agree k, body_of_agree k, a.jobs)

    pub list_ok_agree : list_ok s l ≡ list_ok t l
    unfolding list_ok
    list_ok_agree =
        rw (
          every_below (entry_fits s l) (entry_fits t l) (instances l) (λ k m. entry_agree k),
          body_of_agree (instances l),
          body_of_agree 0,
        )

    pub plan_of_agree : SamePlan s.events (plan_of s l) (plan_of t l)
    unfolding plan_of
    plan_of_agree =
        record {
          count = refl;
          job = λ i m. job_of_agree i;
          time = λ i m e n. rw (body_of_agree i, rank_agree e n);
        }
