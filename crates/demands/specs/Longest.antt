-- A least list has at most 644 bytes: 4, and 4 for each of 32 jobs, and 2 for each of 256 events.
use Rattle.std.specs.Prelude.{ℕ, ◌≤◌, ◌<◌, ◌≡◌, List, length}
use native.Mathlib.Omega.{arith}
use Rattle.std.proofs.Math.Decide.{dec_lt}
use Rattle.std.proofs.Math.Path.{refl, ap}
use Rattle.std.proofs.Math.Logic.{dite}
use Rattle.rules.specs.Sheet.{Sheet, max_jobs, max_events}
use Rattle.rules.specs.RunList.{instances, job_of, plan_of}
use Rattle.rules.specs.Wanted.{LeastList}
use Rattle.laws.specs.Formed.{Formed}
use Rattle.laws.specs.Rise.{Up, up_size}
use Rattle.theory.specs.Why.Bytes.{ListFormed, list_formed}
use Rattle.theory.specs.Computed.AnyList.{start_front, start_of_lem, few_starts}

module _ {s : Sheet} {l : List ℕ} (ok : Formed s) (least : LeastList s l) where
  form : ListFormed s l
  form = list_formed s l least.formed

  -- jobs of rising codes rise
  rising : Up (job_of s l) (instances l)
  unfolding plan_of
  rising i k below kIn =
      let codes : s.code (job_of s l i) < s.code (job_of s l k) = least.rising i k below kIn in
      dite (dec_lt (job_of s l i) (job_of s l k)) (λ h. h)
      (λ g.
      dite (dec_lt (job_of s l k) (job_of s l i))
      (λ h. absurd (omega (arith, codes, ok.codes (job_of s l k) (job_of s l i) h (form.job_in i (omega arith)))))
      (λ h.
      let same : job_of s l i ≡ job_of s l k = omega (arith, g, h) in
      absurd (omega (arith, codes, ap s.code same))))

  pub least_list_short : length l ≤ 644
  unfolding max_jobs max_events
  least_list_short =
      let n = instances l in
      omega (
        arith,
        form.ends,
        start_of_lem s l n (job_of s l) refl (λ k h. refl) n (omega arith),
        few_starts s n (job_of s l) rising form.job_in n (omega arith),
        start_front s n (job_of s l),
        up_size (job_of s l) n rising s.jobs form.job_in,
        ok.jobs,
        ok.events,
      )
