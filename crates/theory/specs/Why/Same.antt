-- Two plans that say the same run. At events that are not of an instance's job they may differ: nothing reads those times.
use Rattle.std.specs.Prelude.{ℕ, ◌<◌, ◌≡◌}
use Rattle.std.proofs.Common.{arith, sym, ◌∙◌}
use Rattle.rules.specs.Sheet.{Sheet}
use Rattle.rules.specs.RunList.{Plan}

-- as many instances, of the same jobs, each own event at the same time
pub record SameRun (s : Sheet) (p q : Plan) : Type 0 where
  pub count : p.count ≡ q.count
  pub job : (i : ℕ) → i < p.count → p.job i ≡ q.job i
  pub time : (i e : ℕ) → i < p.count → e < s.events → (s.event e).job ≡ p.job i → p.time i e ≡ q.time i e

pub run_sym : {s : Sheet} {p q : Plan} → SameRun s p q → SameRun s q p
run_sym {p = p} {q} same =
    record {
      count = sym same.count;
      job = λ i l. sym (same.job i (inside i l));
      time = λ i e l m x. sym (same.time i e (inside i l) m (x ∙ sym (same.job i (inside i l))));
    }
  where
    inside : (i : ℕ) → i < q.count → i < p.count
    inside i l = omega (arith, same.count)
