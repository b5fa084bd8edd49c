-- A list in bytes that says the delayed list: it is always there, since the times of an accepted list, with delays, fit two bytes.
use Rattle.std.specs.Prelude.{ℕ, ◌+◌, ◌*◌, ◌≤◌, ◌<◌, ◌≡◌, ◌↔◌, true, List, get_or}
use native.Mathlib.Omega.{arith}
use Rattle.std.proofs.Math.Path.{refl, sym}
use Rattle.std.proofs.Common.{◌∙◌}
use Rattle.rules.specs.Sheet.{sheet_of, max_horizon}
use Rattle.rules.specs.RunList.{max_instances, max_times, instances, job_of, body_of, list_ok, plan_of}
use Rattle.rules.specs.Plan.{latest}
use Rattle.rules.specs.Answer.{Judged}
use Rattle.rules.specs.Late.{max_delay, delays_ok, delayed, Tried, Late}
use Rattle.laws.specs.Limits.{AllBytes}
use Rattle.laws.specs.OneEach.{one_each_get}
use Rattle.laws.specs.Formed.{Formed}
use Rattle.theory.specs.Statements.{pair_values, CodesFit}
use Rattle.theory.specs.Theorem.{codes_fit}
use Rattle.theory.specs.Why.Answers.{accepted}
use Rattle.theory.specs.Why.Bytes.{ListFormed, list_formed, list_ok_lem, job_of_lem}
use Rattle.theory.specs.Computed.AnyList.{start, start_front, start_of_lem, WrittenEach, built_each, built_each_written}
use Rattle.late_starts.specs.Answers.{tried_formed, SaysDelayed, judged_delayed}

module _ {b l d : List ℕ} (bytes : AllBytes b) (tried : Tried b l d) where
  n : ℕ
  n = instances l

  at : ℕ → ℕ
  at = job_of (sheet_of b) l

  -- the delayed times
  times : ℕ → ℕ → ℕ
  times k e = (plan_of (sheet_of b) l).time k e + get_or d k 0

  ok : Formed (sheet_of b)
  ok = tried_formed tried

  form : ListFormed (sheet_of b) l
  form = list_formed (sheet_of b) l (accepted tried.accepted).1

  -- the given times lie within the horizon, the delays are small
  near : (k e : ℕ) → k < n → e < (sheet_of b).events → ((sheet_of b).event e).job ≡ at k → times k e < pair_values
  unfolding n at times plan_of delays_ok max_delay latest max_horizon
  near k e kIn eIn job =
      omega (
        arith,
        ((accepted tried.accepted).2.own k kIn).late e eIn job,
        (one_each_get 600 d (instances l) tried.delays).1 k kIn,
        ok.horizon,
      )

  short : 2 * start (sheet_of b) n at n < pair_values
  unfolding n at max_instances max_times
  short =
      let body = start_of_lem (sheet_of b) l (instances l) (job_of (sheet_of b) l) refl (λ k h. refl) in
      omega (
        arith,
        body 0 (omega arith),
        body (instances l) (omega arith),
        start_front (sheet_of b) (instances l) (job_of (sheet_of b) l),
        form.times,
        form.few,
      )

  -- the list
  pub delayed_list : List ℕ
  delayed_list = built_each (sheet_of b) n at times

  written : WrittenEach (sheet_of b) n at times delayed_list
  unfolding delayed_list n at CodesFit
  written = built_each_written (sheet_of b) n at times ok form.job_in (codes_fit b bytes) near short

  its_job : (k : ℕ) → k < n → job_of (sheet_of b) delayed_list k ≡ at k
  unfolding n at
  its_job k h = job_of_lem (sheet_of b) delayed_list ok k (at k) (form.job_in k h) (written.codes k h)

  its_body : (k : ℕ) → k ≤ n → body_of (sheet_of b) delayed_list k ≡ body_of (sheet_of b) l k
  unfolding n at
  its_body k h =
      start_of_lem (sheet_of b) delayed_list n at written.count its_job k h
      ∙ sym (start_of_lem (sheet_of b) l n at refl (λ k h. refl) k h)

  formed : ListFormed (sheet_of b) delayed_list
  unfolding n at
  formed =
      let many = written.count in
      record {
        edition = written.edition;
        reserved = written.reserved;
        few = omega (arith, many, form.few);
        job_in = λ k h. let inside : k < n = omega (arith, many) in omega (arith, its_job k inside, form.job_in k inside);
        place = λ k h. written.places k (omega (arith, many));
        times = rw many (omega (arith, its_body 0 (omega arith), its_body n (omega arith), form.times));
        ends = rw many (sym written.ends);
      }

  pub delayed_ok : list_ok (sheet_of b) delayed_list ≡ true
  delayed_ok = list_ok_lem (sheet_of b) delayed_list formed

  pub delayed_bytes : AllBytes delayed_list
  delayed_bytes = written.bytes

  pub says_delayed : SaysDelayed (sheet_of b) l d delayed_list
  unfolding n at times plan_of delayed
  says_delayed =
      let many = written.count in
      record {
        count = many;
        job = λ i h. its_job i (omega (arith, many));
        time = λ i e h eIn job.
            let inside : i < n = omega (arith, many) in
            written.ticks i e inside eIn (job ∙ its_job i inside);
      }

  -- so `late` answers 0 exactly if the judge accepts it
  pub delayed_list_lem : Judged b delayed_list 0 0 ↔ Late b l d 0 0
  delayed_list_lem = judged_delayed tried delayed_ok says_delayed
