-- From the rows of all jobs to one job's own times: least ticks are the least own times, and no ticks mean an absent job.
use Prim.Native.Nat.{ℕ, ◌+◌, ◌-◌, ◌≤◌, ◌<◌}
use native.Mathlib.Omega.{arith}
use mathlib.Core.Path.{refl, sym, ◌∙◌}
use mathlib.Core.Logic.{inl, inr, ⊎_elim}
use mathlib.Core.List.{List}
use lib.ListN.{get_or}
use Rattle.rules.specs.Sheet as rules
use Rattle.rules.specs.Plan.{OwnTimes, earliest}
use Rattle.rules.specs.Wanted.{RunsAlone, Absent}
use Rattle.laws.specs.Limits.{most_events}
use Rattle.sheet.specs.declared.formed.WellFormed.{WellFormed}
use Rattle.sheet.specs.WellFormed.{said_by, formed_by}
use Rattle.index.specs.View.{ByJobOf}
use Rattle.kernel_least.specs.System.{System, Between, Solves, Least, Unsolvable}
use Rattle.kernel_least.specs.Rows.{Row, rows_of, Shaped, at}
use Rattle.own_times.specs.Rules.{Rules, OwnRule, Idle, Has}
use Rattle.own_times.specs.Times.{JobPart, JobSpan, same_job_lem, own_solves, solves_own}
use Rattle.own_times.specs.View.{RowsAre, RowsAsk, LeastOwn}
use Rattle.own_times.specs.Lists.{InSheet}

-- ---- rules that always hold, left out

abbrev system : (lo hi h : ℕ) (R : Rules) → System
system lo hi h R = record { lo = lo; hi = hi; ceiling = h; rule = R }

module _ (lo hi h : ℕ) (P R : Rules) (has : Has h P R) (within : (a b w : ℕ) → P a b w → Between lo hi a) where
  pub solves_all : {f t : ℕ → ℕ} → Solves (system lo hi h R) f t → Solves (system lo hi h P) f t
  solves_all {f} {t} p =
      record {
        above = p.above;
        below = p.below;
        kept =
            λ a b w r.
            ⊎_elim
            (λ (i : Idle h w). omega (arith, p.below a (within a b w r)))
            (p.kept a b w)
            (has.whole a b w r);
      }

  pub solves_some : {f t : ℕ → ℕ} → Solves (system lo hi h P) f t → Solves (system lo hi h R) f t
  solves_some p = record { above = p.above; below = p.below; kept = λ a b w r. p.kept a b w (has.sound a b w r) }

  least_all : {f t : ℕ → ℕ} → Least (system lo hi h R) f t → Least (system lo hi h P) f t
  least_all p = record { solves = solves_all p.solves; least = λ y q. p.least y (solves_some q) }

  none_all : {f : ℕ → ℕ} → Unsolvable (system lo hi h R) f → Unsolvable (system lo hi h P) f
  none_all p y q = p y (solves_some q)

-- ---- one job's rows

module _ (s : rules.Sheet) (P : Rules) (in_sheet : InSheet s P) {first to weight : List ℕ} (rows : RowsAre s P first to weight)
    (few : s.events ≤ most_events) {j lo hi : ℕ} (span : JobSpan s j lo hi) where
  wide_row : (a b w : ℕ) → Row first to weight lo hi a b w → Row first to weight 0 s.events a b w
  wide_row a b w r =
      record {
        place = r.place;
        stands =
            record {
              of = record { from = omega arith; below = span.in_sheet a r.stands.of };
              from = r.stands.from;
              below = r.stands.below;
            };
        target = r.target;
        weighs = r.weighs;
      }

  pub part_has : Has s.horizon (JobPart s P j) (Row first to weight lo hi)
  part_has =
      record {
        sound =
            λ a b w r.
            record { of_job = span.of_job a r.stands.of; rule = rows.has.sound a b w (wide_row a b w r) };
        whole =
            λ a b w p.
            ⊎_elim
            inl
            (λ r.
            inr
            (record {
              place = r.place;
              stands =
                  record {
                    of = span.holds a (in_sheet a b w p.rule).0 p.of_job;
                    from = r.stands.from;
                    below = r.stands.below;
                  };
              target = r.target;
              weighs = r.weighs;
            }))
            (rows.has.whole a b w p.rule);
      }

  pub rows_shaped : lo < hi → Shaped first to weight lo hi
  rows_shaped l =
      let last : hi - 1 < s.events = span.in_sheet (hi - 1) (record { from = omega arith; below = omega arith }) in
      record {
        order = omega arith;
        small = omega arith;
        rows = omega (arith, rows.rows);
        targets = λ a o. rows.targets (a + 1) (omega (arith, o.below));
        weights = λ a o. rows.weights (a + 1) (omega (arith, o.below));
        inside =
            λ a r i.
            let q
            : Row first to weight lo hi a (get_or to r 0) (get_or weight r 0)
            = record { place = r; stands = i; target = refl; weighs = refl }
            in
            let p = in_sheet _ _ _ (rows.has.sound _ _ _ (wide_row _ _ _ q)) in
            span.holds _ p.1 (sym p.2 ∙ span.of_job a i.of);
      }

  part_within : (a b w : ℕ) → JobPart s P j a b w → Between lo hi a
  part_within a b w p = span.holds a (in_sheet a b w p.rule).0 p.of_job

  part_least : {f t : ℕ → ℕ} → Least (rows_of first to weight lo hi s.horizon) f t → Least (system lo hi s.horizon (JobPart s P j)) f t
  part_least p = least_all lo hi s.horizon (JobPart s P j) (Row first to weight lo hi) part_has part_within p

  part_none : {f : ℕ → ℕ} → Unsolvable (rows_of first to weight lo hi s.horizon) f → Unsolvable (system lo hi s.horizon (JobPart s P j)) f
  part_none p = none_all lo hi s.horizon (JobPart s P j) (Row first to weight lo hi) part_has part_within p

-- ---- all jobs

pub Span-of
    : (s : rules.Sheet) (jobs : List ℕ)
    → ByJobOf s jobs
    → (j : ℕ)
    → j < s.jobs
    → JobSpan s j (get_or jobs j 0) (get_or jobs (j + 1) 0)
Span-of s jobs p j l =
    record {
      holds = λ e k q. record { from = p.from e j k l q; below = p.to e j k l q };
      of_job = λ e o. p.of_job e j l o.from o.below;
      in_sheet = λ e o. omega (arith, o.below, p.within (j + 1) (omega arith));
    }

module _ {sheet : WellFormed} {jobs first to weight : List ℕ} (asks : RowsAsk sheet jobs first to weight) where
  abbrev s : rules.Sheet
  s = said_by sheet

  own_in : InSheet s (OwnRule s)
  own_in = same_job_lem s (formed_by sheet).formed

  pub job_shaped : (j : ℕ) → j < s.jobs → get_or jobs j 0 < get_or jobs (j + 1) 0 → Shaped first to weight (get_or jobs j 0) (get_or jobs (j + 1) 0)
  job_shaped j l = rows_shaped s (OwnRule s) own_in asks.rows (formed_by sheet).few.events (Span-of _ _ asks.by_job j l)

  abbrev rows_for : ℕ → System
  rows_for j = rows_of first to weight (get_or jobs j 0) (get_or jobs (j + 1) 0) s.horizon

  pub own_least : (x : List ℕ) (j : ℕ) → j < s.jobs → Least (rows_for j) (λ u. earliest s j) (at x) → LeastOwn s j (at x)
  own_least x j l p =
      let span = Span-of _ _ asks.by_job j l in
      let q = part_least s (OwnRule s) own_in asks.rows (formed_by sheet).few.events span p in
      record {
        own = solves_own s (formed_by sheet).formed j _ _ span q.solves;
        least = λ y o e k h. q.least y (own_solves s (formed_by sheet).formed j _ _ span o) e (span.holds e k h);
      }

  pub own_absent : (j : ℕ) → j < s.jobs → Unsolvable (rows_for j) (λ u. earliest s j) → Absent s j
  unfolding Absent RunsAlone
  own_absent j l p r =
      let span = Span-of _ _ asks.by_job j l in
      part_none s (OwnRule s) own_in asks.rows (formed_by sheet).few.events span p r.0
      (own_solves s (formed_by sheet).formed j _ _ span r.1)

-- own times make a job present
pub own_present : {s : rules.Sheet} {t : ℕ → ℕ} (j : ℕ) → OwnTimes s j t → RunsAlone s j
unfolding RunsAlone
own_present {s} {t} j p = (t, p)

-- and no job is both
pub not_both : (s : rules.Sheet) (j : ℕ) → Absent s j → RunsAlone s j → ⊥
unfolding Absent
not_both s j gone here = gone here
