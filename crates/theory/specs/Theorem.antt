-- That it holds: demand 3, for every well-formed sheet inside the class, and the answers, for all bytes.
use Rattle.std.specs.Prelude.{ℕ, ◌+◌, ◌<◌, ◌≡◌, true, List}
use Rattle.std.proofs.Math.Path.{refl}
use Rattle.std.proofs.Common.{sym, arith}
use Rattle.rules.specs.Count.{two}
use Rattle.rules.specs.Sheet.{Sheet, max_horizon, job_at, sheet_of, well_formed}
use Rattle.rules.specs.RunList.{Plan}
use Rattle.rules.specs.Plan.{IsPlan, latest}
use Rattle.rules.specs.Wanted.{WantedJob, LeastTick, LeastList}
use Rattle.rules.specs.Class.{Inside}
use Rattle.laws.specs.Limits.{AllBytes}
use Rattle.laws.specs.Formed.{Formed, formed}
use Rattle.theory.specs.Statements.{Present, Solution, LeastSolution, OfPlan, OfLeastList, pair_values, CodesFit, Demand, Answers}
use Rattle.theory.specs.Why.Places.{PlacesOf, list}
use Rattle.theory.specs.Why.Sound.{SetsFirst, ClearsFirst, cleared_last, cleared_first}
use Rattle.theory.specs.Why.Present.{job_present}
use Rattle.theory.specs.Why.Necessary.{least_in, least_ticks_lem, least_meets, source, goal_kept}
use Rattle.theory.specs.Why.Sufficient.{sufficient, plan_at, one_each}
use Rattle.theory.specs.Why.Least.{solution_of, least_tick_lem}
use Rattle.theory.specs.Why.Entries.{least_list_plan, none_lacks_lem, none_earlier_lem}
use Rattle.theory.specs.Why.Bytes.{least_list_unique}
use Rattle.laws.specs.Faults.{well_formed_lem}
use Rattle.theory.specs.Why.Answers.{judge_accepts}
use Rattle.theory.specs.Why.Unique.{judged_unique, planned_unique}
use Rattle.theory.specs.Computed.Decided.{job_decided}
use Rattle.theory.specs.Computed.Orders.{cleared_last_decided, cleared_first_decided}
use Rattle.theory.specs.Computed.Pairs.{least_exists}
use Rattle.theory.specs.Computed.Written.{written_least_list}
use Rattle.theory.specs.Computed.Built.{built, built_written}

module _ {s : Sheet} (ok : Formed s) (inside : Inside s) where
  of_plan_lem : (p : Plan) → IsPlan s p → OfPlan s p
  unfolding SetsFirst ClearsFirst
  of_plan_lem p plan =
      record {
        sets_first = λ f c. cleared_last ok plan c;
        clears_first = cleared_first ok plan;
        present = λ j w. job_present ok inside.one_setter plan w;
        least_ticks = λ t least.
            record {
              rules = least_meets ok inside.one_setter plan least;
              sources = source ok inside.one_setter plan;
              goals = goal_kept ok inside.one_setter plan;
            };
        exist = (least_in s p, least_ticks_lem ok inside.one_setter plan);
      }

  wanted_list : PlacesOf (WantedJob s) s.jobs
  wanted_list = list (job_decided ok) s.jobs

  plan_of : (t : ℕ → ℕ) → Solution s t → IsPlan s (plan_at wanted_list t)
  plan_of t solved = sufficient ok inside solved (one_each ok wanted_list t)

  least_of_all : (t : ℕ → ℕ) → LeastSolution s t → (e : ℕ) → e < s.events → WantedJob s (s.event e).job → LeastTick s e (t e)
  unfolding plan_at Present
  least_of_all t best e eIn w =
      let (i, iIn, q) = (one_each ok wanted_list t).whole (s.event e).job w in
      least_tick_lem ok inside best (one_each ok wanted_list t) i e iIn eIn (sym q)

  least_solution_lem : (u : ℕ → ℕ) → Solution s u → (t : ℕ → ℕ) × LeastSolution s t
  least_solution_lem = least_exists ok (cleared_last_decided ok) (cleared_first_decided ok)

  -- a tick fits its two bytes: the one law of theory that opens the window
  latest_fits : (j : ℕ) → latest s j < pair_values
  unfolding latest max_horizon
  latest_fits j = omega (arith, ok.horizon)

  least_list_exists : CodesFit s → (p : Plan) → IsPlan s p → (l : List ℕ) × LeastList s l
  unfolding CodesFit
  least_list_exists codes p plan =
      let (t, best) = least_solution_lem (least_in s p) (solution_of ok inside plan) in
      let ticks : (e : ℕ) → e < s.events → WantedJob s (s.event e).job → t e < pair_values =
      λ e eIn w. omega (arith, (best.solution.rules.own _ w).late e eIn refl, latest_fits (s.event e).job)
      in
      (built wanted_list t, written_least_list ok wanted_list (built_written wanted_list t ok codes ticks) inside best)

  of_least_list_lem : (l : List ℕ) → LeastList s l → (p : Plan) → IsPlan s p → OfLeastList s l p
  of_least_list_lem l least p plan =
      record {
        is_plan = least_list_plan ok inside least;
        none_lacks = none_lacks_lem ok inside least plan;
        none_earlier = none_earlier_lem least plan;
      }

-- whatever the gap and the releases
pub demand_formed : {s : Sheet} → Formed s → Inside s → Demand s
demand_formed {s} ok inside =
    record {
      of_plan = of_plan_lem ok inside;
      is_plan = λ t p solved each. sufficient ok inside solved each;
      exactly = (
        λ r. (least_in s r.0, solution_of ok inside r.1),
        λ r. (plan_at (wanted_list ok inside) r.0, plan_of ok inside r.0 r.1),
      );
      least_solution = least_solution_lem ok inside;
      least_tick = least_of_all ok inside;
      exists = least_list_exists ok inside;
      of_least_list = of_least_list_lem ok inside;
      unique = λ l m a b. least_list_unique a b;
    }

pub demand : {s : Sheet} → well_formed s ≡ true → Inside s → Demand s
demand {s} form inside = demand_formed (formed s form) inside

-- a code read from bytes fits two of them
pub codes_fit : (b : List ℕ) → AllBytes b → CodesFit (sheet_of b)
unfolding CodesFit sheet_of two
codes_fit b small j h = omega (arith, small (job_at b j), small (job_at b j + 1))

pub answers : (b : List ℕ) → Answers b
answers b =
    record {
      exists = λ small able. (demand (well_formed_lem b able.formed) able.inside).exists (codes_fit b small);
      accepted = λ l. judge_accepts;
      judged = λ l n d n' d'. judged_unique;
      planned = λ w n d n' d' o o'. planned_unique;
    }
