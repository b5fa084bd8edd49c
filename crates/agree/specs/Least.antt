-- Alike sheets have the same least ticks and the same least list, byte for byte.
use Rattle.std.specs.Prelude.{ℕ, ◌<◌, ◌≡◌, true, List}
use Rattle.std.proofs.Common.{arith, sym, ap, ◌∙◌, subst}
use Rattle.rules.specs.Sheet.{Sheet}
use Rattle.rules.specs.RunList.{list_ok, plan_of}
use Rattle.rules.specs.Wanted.{WantedJob, LeastTick, LeastList}
use Rattle.theory.specs.Why.Bytes.{list_formed}
use Rattle.agree.specs.Agree.{job_agree}
use Rattle.agree.specs.Formed.{Alike, flip}
use Rattle.agree.specs.Plan.{SamePlan, plan_agree}
use Rattle.agree.specs.RunList.{list_ok_agree, plan_of_agree}
use Rattle.agree.specs.Wanted.{wanted_job_lem}

-- the jobs of the entries of a well-formed list are in the sheet
listed : (s : Sheet) (l : List ℕ) → list_ok s l ≡ true → (k : ℕ) → k < (plan_of s l).count → (plan_of s l).job k < s.jobs
unfolding plan_of
listed s l ok k m = (list_formed s l ok).job_in k m

module _ {s t : Sheet} (h : Alike s t) where
  least_tick_lem : {e n : ℕ} → e < s.events → LeastTick s e n → LeastTick t e n
  least_tick_lem {e} {n} l r =
      let (p, plan, (i, m, q, at)) = r.reached in
      let job = job_agree h.agree e l in
      record {
        reached = (p, plan_agree h plan, (i, m, sym job ∙ q, at));
        least = λ p plan i m q. r.least p (plan_agree (flip h) plan) i m (job ∙ q);
      }

  module _ (l : List ℕ) (same : SamePlan s.events (plan_of s l) (plan_of t l)) where
    rising : LeastList s l → (i k : ℕ) → i < k → k < (plan_of t l).count → t.code ((plan_of t l).job i) < t.code ((plan_of t l).job k)
    rising r i k x y =
        let y' : k < (plan_of s l).count = omega (arith, same.count) in
        let x' : i < (plan_of s l).count = omega arith in
        omega (
          arith,
          r.rising i k x y',
          h.agree.code ((plan_of s l).job i) (listed s l r.formed i x'),
          h.agree.code ((plan_of s l).job k) (listed s l r.formed k y'),
          ap t.code (same.job i x'),
          ap t.code (same.job k y'),
        )

  pub least_list : {l : List ℕ} → LeastList s l → LeastList t l
  least_list {l} r =
      record {
        exists = (r.exists.0, plan_agree h r.exists.1);
        bytes = r.bytes;
        formed = sym (list_ok_agree h.agree l) ∙ r.formed;
        rising = rising l same r;
        wanted = λ i m.
            let n = within i m in
            subst (λ (j : ℕ). WantedJob t j) (same.job i n) (wanted_job_lem h (r.wanted i n));
        whole = λ j w.
            let (i, m, q) = r.whole j (wanted_job_lem (flip h) w) in
            (i, omega (arith, same.count), sym (same.job i m) ∙ q);
        ticks = λ i e m d q.
            let n = within i m in
            let e' : e < s.events = omega (arith, h.agree.events) in
            subst (λ (x : ℕ). LeastTick t e x) (same.time i n e e')
            (least_tick_lem e' (r.ticks i e n e' (job_agree h.agree e e' ∙ (q ∙ sym (same.job i n)))));
      }
    where
      same : SamePlan s.events (plan_of s l) (plan_of t l)
      same = plan_of_agree h.agree l

      within : (i : ℕ) → i < (plan_of t l).count → i < (plan_of s l).count
      within i m = omega (arith, same.count)
