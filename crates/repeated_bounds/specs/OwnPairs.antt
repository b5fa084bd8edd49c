-- Own times by pairs: ticks are a job's own times exactly if they meet the tightest of each pair of its events.
use Rattle.std.specs.Prelude.{ℕ, ◌≤◌, ◌<◌, ◌≡◌, ◌↔◌}
use Rattle.std.proofs.Common.{arith, sym, ap, ◌∙◌}
use Rattle.rules.specs.Sheet.{Sheet, begins, ends, origin, max_horizon, tightest}
use Rattle.rules.specs.Plan.{Is, Meets, OwnTimes, earliest, latest}
use Rattle.laws.specs.Formed.{Formed}
use Rattle.laws.specs.Tightest.{meets_row, meets_all}
use Rattle.laws.specs.Pairs.{row_itself}

-- OwnTimes, with the tightest of every two events of the job in the place of the bounds
pub record OwnPairs (s : Sheet) (j : ℕ) (t : ℕ → ℕ) : Type 0 where
  pub early : (e : ℕ) → e < s.events → (s.event e).job ≡ j → earliest s j ≤ t e
  pub late : (e : ℕ) → e < s.events → (s.event e).job ≡ j → t e ≤ latest s j
  pub pairs : (e d : ℕ) → e < s.events → d < s.events → (s.event e).job ≡ j → (s.event d).job ≡ j → Meets (tightest s e d) t
  pub needs : (b e f : ℕ) → Is s b j begins f → Is s e j ends f → t b ≤ t e

module _ (s : Sheet) (f : Formed s) (j : ℕ) (t : ℕ → ℕ) where
  by_pairs : OwnTimes s j t → OwnPairs s j t
  unfolding latest origin max_horizon
  by_pairs o =
      record {
        early = o.early;
        late = o.late;
        pairs =
            λ e d x y p q.
            meets_all s e d t
            (omega (arith, o.late d y q, f.horizon), omega (arith, o.late e x p, f.horizon))
            (λ i r. o.bounds i r.in_sheet (ap (λ k. (s.event k).job) r.later ∙ p));
        needs = o.needs;
      }

  by_rows : OwnPairs s j t → OwnTimes s j t
  by_rows o =
      record {
        early = o.early;
        late = o.late;
        bounds =
            λ i l q.
            let c = f.bound i l in
            meets_row s (s.bound i).later (s.bound i).earlier t i (row_itself s i l)
            (o.pairs _ _ c.later c.earlier q (sym c.same_job ∙ q));
        needs = o.needs;
      }

  pub own_tightest : OwnTimes s j t ↔ OwnPairs s j t
  own_tightest = (by_pairs, by_rows)
