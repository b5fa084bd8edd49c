-- What delays can break of point 1: no release, no bound and no order of a need's ends; only "up to H".
use Rattle.std.specs.Prelude.{ℕ, ◌+◌, ◌≤◌, ◌<◌, ◌≡◌, ◌↔◌, List, get_or}
use Rattle.std.proofs.Common.{arith}
use Rattle.rules.specs.Sheet.{Sheet, begins, ends}
use Rattle.rules.specs.RunList.{Plan}
use Rattle.rules.specs.Plan.{Is, Meets, OwnTimes, IsPlan, earliest, latest}
use Rattle.rules.specs.Late.{delayed}

-- "own times" but for "up to H"
pub record OwnButLate (s : Sheet) (j : ℕ) (t : ℕ → ℕ) : Type 0 where
  pub early : (e : ℕ) → e < s.events → (s.event e).job ≡ j → earliest s j ≤ t e
  pub bounds : (i : ℕ) → i < s.bounds → (s.event (s.bound i).later).job ≡ j → Meets (s.bound i) t
  pub needs : (b e f : ℕ) → Is s b j begins f → Is s e j ends f → t b ≤ t e

-- every event lies at H or before
pub record InTime (s : Sheet) (p : Plan) : Type 0 where
  pub in_time : (i e : ℕ) → i < p.count → e < s.events → (s.event e).job ≡ p.job i → p.time i e ≤ latest s (p.job i)

-- point 1 of a plan but for "up to H"
pub record ButLate (s : Sheet) (p : Plan) : Type 0 where
  pub jobs : (i : ℕ) → i < p.count → p.job i < s.jobs
  pub own : (i : ℕ) → i < p.count → OwnButLate s (p.job i) (p.time i)

-- a delay breaks no release, no bound, no order of a need's ends
pub own_delayed : (s : Sheet) (j : ℕ) (t : ℕ → ℕ) (n : ℕ) → OwnTimes s j t → OwnButLate s j (λ e. t e + n)
own_delayed s j t n own =
    record {
      early = λ e l q. omega (arith, own.early e l q);
      bounds = λ i l q.
          let m = own.bounds i l q in
          record { low = omega (arith, m.low); high = omega (arith, m.high) };
      needs = λ b e f p q. omega (arith, own.needs b e f p q);
    }

-- so of point 1 only "up to H" can fail
pub own_iff
    : (s : Sheet) (j : ℕ) (t : ℕ → ℕ)
    → OwnTimes s j t
    ↔ (OwnButLate s j t × ((e : ℕ) → e < s.events → (s.event e).job ≡ j → t e ≤ latest s j))
own_iff s j t = (
  λ own. (record { early = own.early; bounds = own.bounds; needs = own.needs }, own.late),
  λ r. record { early = r.0.early; late = r.1; bounds = r.0.bounds; needs = r.0.needs },
)

pub delayed_but_late : {s : Sheet} {p : Plan} → IsPlan s p → (d : List ℕ) → ButLate s (delayed p d)
unfolding delayed
delayed_but_late {s} {p} plan d =
    record {
      jobs = plan.jobs;
      own = λ i l. own_delayed s (p.job i) (p.time i) (get_or d i 0) (plan.own i l);
    }
