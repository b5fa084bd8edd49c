-- A least list as a plan: one instance of each wanted job at the least ticks, hence a plan,
-- and the plan that no other is ahead of.
use Rattle.std.specs.Prelude.{ℕ, ◌≤◌, ◌<◌, ◌≡◌, ◌⊎◌, true, List}
use Rattle.std.proofs.Math.Path.{sym, ap}
use Rattle.std.proofs.Common.{◌∙◌, inl, inr}
use Rattle.std.proofs.Math.Logic.{⊎_elim}
use Rattle.std.proofs.Math.Decide.{ℕ_discrete}
use Rattle.rules.specs.Count.{None}
use Rattle.rules.specs.Sheet.{Sheet}
use Rattle.rules.specs.RunList.{Plan, list_ok, plan_of}
use Rattle.rules.specs.Plan.{IsPlan}
use Rattle.rules.specs.Wanted.{WantedJob, LeastTick, LeastList}
use Rattle.rules.specs.Class.{Inside}
use Rattle.laws.specs.Limits.{AllBytes}
use Rattle.laws.specs.Rise.{up_same}
use Rattle.laws.specs.Formed.{Formed}
use Rattle.theory.specs.Statements.{Present, LeastSolution, OneEach}
use Rattle.theory.specs.Why.Places.{find}
use Rattle.theory.specs.Why.Present.{job_present}
use Rattle.theory.specs.Why.Sufficient.{sufficient}
use Rattle.theory.specs.Why.Least.{least_tick_lem, solution_of, least_ticks_solve}

-- the tick of event e in the entry of its job
tick_of : Sheet → Plan → ℕ → ℕ
tick_of s p e = ⊎_elim (λ r. p.time r.0 e) (λ g. 0) (find (λ i. ℕ_discrete (p.job i) (s.event e).job) p.count)

-- one entry for each wanted job by rising code and no other: what the least list says besides its ticks
pub record Entries (s : Sheet) (p : Plan) : Type 0 where
  pub rising : (i k : ℕ) → i < k → k < p.count → s.code (p.job i) < s.code (p.job k)
  pub wanted : (i : ℕ) → i < p.count → WantedJob s (p.job i)
  pub whole : (j : ℕ) → WantedJob s j → (i : ℕ) × (i < p.count) × (p.job i ≡ j)

module _ {s : Sheet} {p : Plan} (entries : Entries s p) where
  once : (i k : ℕ) → i < p.count → k < p.count → p.job i ≡ p.job k → i ≡ k
  once i k iIn kIn q =
      up_same (λ i. s.code (p.job i)) p.count entries.rising i k iIn kIn (ap s.code q)

  tick_of_lem : (i e : ℕ) → i < p.count → (s.event e).job ≡ p.job i → p.time i e ≡ tick_of s p e
  unfolding tick_of None
  tick_of_lem i e iIn q = go (find (λ k. ℕ_discrete (p.job k) (s.event e).job) p.count)
    where
      go
          : (r : ((k : ℕ) × (k < p.count) × (p.job k ≡ (s.event e).job)) ⊎ None (λ k. p.job k ≡ (s.event e).job) p.count)
          → p.time i e ≡ ⊎_elim (λ r. p.time r.0 e) (λ g. 0) r
      go (inl (k, kIn, k_of)) = ap (λ n. p.time n e) (once i k iIn kIn (sym q ∙ sym k_of))
      go (inr g) = absurd (g i iIn (sym q))

  entries_each : OneEach s (tick_of s p) p
  unfolding Present
  entries_each =
      record { wanted = entries.wanted; once = once; whole = entries.whole; ticks = λ i e iIn eIn q. tick_of_lem i e iIn q }

list_entries : {s : Sheet} {l : List ℕ} → LeastList s l → Entries s (plan_of s l)
list_entries least = record { rising = least.rising; wanted = least.wanted; whole = least.whole }

module _ {s : Sheet} (ok : Formed s) (inside : Inside s) where
  -- a least list is a plan
  pub least_list_plan : {l : List ℕ} → LeastList s l → IsPlan s (plan_of s l)
  least_list_plan {l} least =
      let each = entries_each (list_entries least) in
      sufficient ok inside
      (record {
        rules = least_ticks_solve ok inside (tick_of s (plan_of s l)) ticks;
        sources = (solution_of ok inside least.exists.1).sources;
        goals = (solution_of ok inside least.exists.1).goals;
      })
      each
    where
      ticks : (e : ℕ) → e < s.events → WantedJob s (s.event e).job → LeastTick s e (tick_of s (plan_of s l) e)
      ticks e eIn w =
          let (i, iIn, iOf) = least.whole (s.event e).job w in
          rw (tick_of_lem (list_entries least) i e iIn (sym iOf)) at (least.ticks i e iIn eIn (sym iOf))

  -- the least solution, written by rising code, is the least list
  pub least_list
      : {t : ℕ → ℕ} {l : List ℕ}
      → LeastSolution s t
      → AllBytes l
      → list_ok s l ≡ true
      → Entries s (plan_of s l)
      → ((i e : ℕ) → i < (plan_of s l).count → e < s.events → (s.event e).job ≡ (plan_of s l).job i → (plan_of s l).time i e ≡ t e)
      → LeastList s l
  unfolding Present
  least_list {t} {l} best bytes formed entries ticks =
      let each : OneEach s t (plan_of s l) =
      record { wanted = entries.wanted; once = once entries; whole = entries.whole; ticks = ticks }
      in
      record {
        exists = (plan_of s l, sufficient ok inside best.solution each);
        bytes = bytes;
        formed = formed;
        rising = entries.rising;
        wanted = entries.wanted;
        whole = entries.whole;
        ticks = least_tick_lem ok inside best each;
      }

  -- no plan lacks one of its jobs, or has any of its steps earlier
  pub none_lacks_lem
      : {l : List ℕ} {p : Plan} → LeastList s l → IsPlan s p → (i : ℕ) → i < (plan_of s l).count → Present p ((plan_of s l).job i)
  none_lacks_lem least plan i iIn = job_present ok inside.one_setter plan (least.wanted i iIn)

pub none_earlier_lem
    : {s : Sheet} {l : List ℕ} {p : Plan}
    → LeastList s l
    → IsPlan s p
    → (i k e : ℕ)
    → i < (plan_of s l).count
    → k < p.count
    → p.job k ≡ (plan_of s l).job i
    → e < s.events
    → (s.event e).job ≡ p.job k
    → (plan_of s l).time i e ≤ p.time k e
none_earlier_lem {p = p} least plan i k e iIn kIn same eIn q = (least.ticks i e iIn eIn (q ∙ same)).least p plan k kIn q
