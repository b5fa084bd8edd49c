-- Why the ticks found are the least that meet the list rules, and why there is no plan where none are found.
use Rattle.std.specs.Prelude.{ℕ, ◌≤◌, ◌<◌, ◌≡◌, Bool, true, false, List, length, get_or, Option, Some, None, IsSome, Ok, Err}
use Rattle.std.proofs.Common.{arith, refl, ap, ◌∙◌, take}
use Rattle.std.proofs.lemmas.List.{length-take-le, get_or-take}
use Rattle.rules.specs.Sheet as rules
use Rattle.rules.specs.Sheet.{well_formed}
use Rattle.rules.specs.Class.{Inside, NoSource, ClearedGoal}
use Rattle.laws.specs.Test.{Says, said}
use Rattle.sheet.specs.View.{meaning, IsFormed}
use Rattle.sheet.specs.declared.Sheet.{Sheet}
use Rattle.sheet.specs.declared.formed.WellFormed.{WellFormed}
use Rattle.sheet.specs.WellFormed.{said_by, formed_by}
use Rattle.marks.specs.View.{MarkedSheet}
use Rattle.marks.specs.Laws.{job_decided}
use Rattle.kernel_least.specs.Rows.{Row, rows_of, Outcome, OutcomeIs, at}
use Rattle.own_times.specs.View.{LeastOwns}
use Rattle.list_rules.specs.View as constraints
use Rattle.list_rules.specs.View.{ListRows}
use Rattle.kernel_least.specs.declared.Impossible.{Impossible}
use Rattle.own_times.specs.Times.{own_same}
use Rattle.list_rules.specs.Laws.{floor_of_lem, least_ticks_lem, no_ticks, sources, goals, no_plan_lem, no_source, cleared_goal}
use Rattle.least_ticks.specs.View.{Bar, lacking, spoilt, LeastCopied, TicksAre, TriedIs, SolvedIs, rows_most}
use Rattle.laws.specs.Limits.{most_events}

-- ---- the other reasons for no plan

bar_none
    : {s : rules.Sheet}
    → ((f : ℕ) → NoSource s f → ⊥)
    → ((f : ℕ) → ClearedGoal s f → ⊥)
    → Bar s
    → ⊥
bar_none p q (lacking f h) = p f h
bar_none p q (spoilt f h) = q f h

module _ {v : Sheet} {b : List ℕ} (formed : IsFormed v b) where
  abbrev s : rules.Sheet
  s = meaning v b

  pub bar_source : (r : Bool) → Says (constraints.Some (NoSource s) s.facts) r → r ≡ true → Says (Bar s) r
  bar_source r h q = rw q (let x = said r h q in lacking x.fact x.has)

  pub bar_says
      : (r : Bool)
      → (constraints.Some (NoSource s) s.facts → ⊥)
      → Says (constraints.Some (ClearedGoal s) s.facts) r
      → Says (Bar s) r
  bar_says true p h = spoilt h.fact h.has
  bar_says false p h = bar_none (sources formed.formed p) (goals formed.formed h)

-- ---- the least own times, copied

pub least_copied
    : {v : Sheet} {b : List ℕ} (l x : List ℕ) → IsFormed v b → LeastOwns (meaning v b) l → LeastCopied l most_events x → LeastOwns (meaning v b) x
least_copied {v} {b} l x formed p q =
    let s = meaning v b in
    let n = formed.few.events in
    record {
      own =
          λ j k here.
          let own = p.own j k here in
          record {
            own = own_same s formed.formed j (at l) (at x) (λ e h o. q.same e (omega (arith, h, n))) own.own;
            least = λ y o e h g. omega (arith, q.same e (omega (arith, h, n)), own.least y o e h g);
          };
      cleared = λ e h gone. q.same e (omega (arith, h, n)) ∙ p.cleared e h gone;
    }

-- ---- the list rules

module _ {sheet : WellFormed} {c : List (List ℕ)} {m : List (List Bool)} (g : MarkedSheet sheet c m) where
  -- what was raised from the least own times
  pub ticks_are
      : (first to weight x₀ x : List ℕ) (o : Outcome)
      → ListRows (said_by sheet) first to weight
      → LeastOwns (said_by sheet) x₀
      → OutcomeIs (rows_of first to weight 0 (said_by sheet).events (said_by sheet).horizon) (at x₀) (at x) o
      → TicksAre (said_by sheet) x o
  ticks_are first to weight x₀ x (Ok _) rows least a =
      λ unbar.
      least_ticks_lem (said_by sheet) (formed_by sheet).formed (Row first to weight 0 (said_by sheet).events) rows.has
      (job_decided (formed_by sheet).formed g.marks.jobs)
      (at x₀)
      (floor_of_lem x₀ (formed_by sheet).formed least)
      (at x)
      a
      (λ f h. unbar (lacking f h))
      (λ f h. unbar (spoilt f h))
  ticks_are first to weight x₀ x (Err _) rows least a =
      no_ticks (said_by sheet) (formed_by sheet).formed (Row first to weight 0 (said_by sheet).events) rows.has
      (job_decided (formed_by sheet).formed g.marks.jobs)
      (at x₀)
      (floor_of_lem x₀ (formed_by sheet).formed least)
      a

-- columns that hold all rows there can be are not too short
pub long_enough
    : (s : rules.Sheet) (n : ℕ) (x₀ x : List ℕ) (r : Option Outcome) → rows_most ≤ n → TriedIs s n n x₀ x r → IsSome r
long_enough s n x₀ x (Some o) l h = refl
long_enough s n x₀ x None l h = absurd (h.1 l l)

-- a copy of the first ticks, also where it is written another way
pub copied_from
    : (l y x : List ℕ)
    → most_events ≤ length l
    → y ≡ take most_events l
    → length x ≡ length y
    → ((e : ℕ) → e < most_events → get_or x e 0 ≡ get_or y e 0)
    → LeastCopied l most_events x
copied_from l y x long q n same =
    record {
      long = n ∙ ap length q ∙ length-take-le most_events l long;
      same = λ e h. same e h ∙ ap (λ (z : List ℕ). get_or z e 0) q ∙ get_or-take most_events l e 0 h;
    }

-- ---- no plan

module _ {s : rules.Sheet} (well : well_formed s ≡ true) (inside : Inside s) where
  -- what the list rules and the other reasons say together
  pub solve_barred : (x : List ℕ) {e : Impossible} → Bar s → SolvedIs s x (Err e)
  solve_barred x (lacking f h) = no_source well inside f h
  solve_barred x (spoilt f h) = cleared_goal well inside f h

  pub solve_ticks : (x : List ℕ) (r : Outcome) → (Bar s → ⊥) → TicksAre s x r → SolvedIs s x r
  solve_ticks x (Ok _) unbar h = h unbar
  solve_ticks x (Err _) unbar h = no_plan_lem well inside h
