-- Own times survive a pointwise minimum: the one reason why least ticks exist.
use Rattle.std.specs.Prelude.{ℕ, ◌≤◌, ◌<◌, ◌≡◌}
use Rattle.std.proofs.Common.{sym, ◌∙◌, arith}
use Rattle.rules.specs.Sheet.{Sheet}
use Rattle.rules.specs.Plan.{OwnTimes, Meets}
use Rattle.laws.specs.Formed.{Formed}

-- own times u of job j that t is nowhere after, and not before at event e
pub record OwnNear (s : Sheet) (j : ℕ) (t : ℕ → ℕ) (e : ℕ) : Type 0 where
  pub ticks : ℕ → ℕ
  pub own : OwnTimes s j ticks
  pub here : ticks e ≤ t e
  pub above : (d : ℕ) → d < s.events → (s.event d).job ≡ j → t d ≤ ticks d

pub own_least
    : {s : Sheet} {j : ℕ} {t : ℕ → ℕ}
    → Formed s
    → ((e : ℕ) → e < s.events → (s.event e).job ≡ j → OwnNear s j t e)
    → OwnTimes s j t
own_least {s} {j} {t} ok near =
    record {
      early = λ e l q. let u = near e l q in omega (arith, u.own.early e l q);
      late = λ e l q. let u = near e l q in omega (arith, u.own.late e l q, u.above e l q);
      bounds = bound;
      needs = λ b e f begin end.
          let u = near e end.in_sheet end.of_job in
          omega (arith, u.own.needs b e f begin end, u.above b begin.in_sheet begin.of_job);
    }
  where
    bound : (b : ℕ) → b < s.bounds → (s.event (s.bound b).later).job ≡ j → Meets (s.bound b) t
    bound b l q =
        let x = (s.bound b).later in
        let y = (s.bound b).earlier in
        let q' : (s.event y).job ≡ j = sym (ok.bound b l).same_job ∙ q in
        record {
          low = let u = near x (ok.bound b l).later q in omega (arith, (u.own.bounds b l q).low, u.above y (ok.bound b l).earlier q');
          high = let u = near y (ok.bound b l).earlier q' in omega (arith, (u.own.bounds b l q).high, u.above x (ok.bound b l).later q);
        }

-- own times of a job are its events' ticks alone
pub own_same
    : {s : Sheet} {j : ℕ} {t u : ℕ → ℕ}
    → Formed s
    → ((e : ℕ) → e < s.events → (s.event e).job ≡ j → u e ≡ t e)
    → OwnTimes s j t
    → OwnTimes s j u
own_same {s} {j} {t} ok same own =
    own_least ok
    (λ e l q. record { ticks = t; own = own; here = omega (arith, same e l q); above = λ d m r. omega (arith, same d m r) })
