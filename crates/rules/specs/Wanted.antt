-- Present jobs, "wanted facts and jobs", and the least list.
use Rattle.std.specs.Prelude.{ℕ, ◌≤◌, ◌<◌, ◌≡◌, true, false, List}
use Rattle.rules.specs.Count.{byte}
use Rattle.rules.specs.Sheet.{Sheet, initial, goal, begins, sets}
use Rattle.rules.specs.RunList.{Plan, list_ok, plan_of}
use Rattle.rules.specs.Plan.{Is, OwnTimes, IsPlan}

-- job j is present: it "could run alone", it has own times
unfoldable pub RunsAlone : Sheet → ℕ → Type 0
RunsAlone s j = (t : ℕ → ℕ) × OwnTimes s j t

-- job j is absent: it has none
unfoldable pub Absent : Sheet → ℕ → Type 0
Absent s j = RunsAlone s j → ⊥

-- event e, of type kind and of fact f, is of a present job j
pub record OfPresent (s : Sheet) (e j kind f : ℕ) : Type 0 where
  pub is : Is s e j kind f
  pub alone : RunsAlone s j

-- "wanted": the least sets with every goal, every need of a wanted job, and every present job that sets a wanted fact that is not
-- initial
mutual
  pub data WantedFact (s : Sheet) : ℕ → Type 0 where
    is_goal : {f : ℕ} → f < s.facts → goal s f ≡ true → WantedFact s f
    is_need : {j f : ℕ} (e : ℕ) → WantedJob s j → Is s e j begins f → WantedFact s f

  pub data WantedJob (s : Sheet) : ℕ → Type 0 where
    is_setter : {j f : ℕ} (e : ℕ) → WantedFact s f → initial s f ≡ false → OfPresent s e j sets f → WantedJob s j

-- t is the least tick that event e has in any instance of its job in any plan
pub record LeastTick (s : Sheet) (e t : ℕ) : Type 0 where
  pub reached : (p : Plan) × IsPlan s p × ((i : ℕ) × (i < p.count) × ((s.event e).job ≡ p.job i) × (p.time i e ≡ t))
  pub least : (p : Plan) → IsPlan s p → (i : ℕ) → i < p.count → (s.event e).job ≡ p.job i → t ≤ p.time i e

-- "the least list", as bytes: of a sheet that has a plan, one entry for each wanted job by rising code and no other,
-- each event at its least tick
pub record LeastList (s : Sheet) (l : List ℕ) : Type 0 where
  pub exists : (p : Plan) × IsPlan s p
  pub bytes : (i : ℕ) → byte l i < 256
  pub formed : list_ok s l ≡ true
  pub rising : (i k : ℕ) → i < k → k < (plan_of s l).count → s.code ((plan_of s l).job i) < s.code ((plan_of s l).job k)
  pub wanted : (i : ℕ) → i < (plan_of s l).count → WantedJob s ((plan_of s l).job i)
  pub whole : (j : ℕ) → WantedJob s j → (i : ℕ) × (i < (plan_of s l).count) × ((plan_of s l).job i ≡ j)
  pub ticks : (i e : ℕ) → i < (plan_of s l).count → e < s.events → (s.event e).job ≡ (plan_of s l).job i → LeastTick s e ((plan_of s l).time i e)
