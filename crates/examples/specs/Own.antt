-- Events, own times and chains of rules, as tests.
use Rattle.std.specs.Prelude.{ℕ, ◌+◌, ◌≤◌, ◌<◌, ◌≡◌, refl, true, false, List, [], ◌∷◌, get_or}
use Rattle.std.proofs.Common.{◌∙◌, arith}
use Rattle.rules.specs.Sheet.{Sheet, origin, begins, ends}
use Rattle.rules.specs.Plan.{Is, OwnTimes, earliest, latest}
use Rattle.rules.specs.Wanted.{RunsAlone}
use Rattle.theory.specs.Computed.Raise.{Rule, rule_of, Keeps}
use Rattle.theory.specs.Computed.Pairs.{low_of, high_of, apart}
use Rattle.examples.specs.Test.{Test, eq, le, lt, on, ◌&◌, when, each, Passes}

-- a row of numbers, 0 past its end
unfoldable pub at : List ℕ → ℕ → ℕ
at l i = get_or l i 0

-- ---- events

unfoldable pub is : Sheet → (e j kind f : ℕ) → Test
is s e j kind f = eq (s.event e).job j & eq (s.event e).kind kind & eq (s.event e).fact f

pub is_put : {s : Sheet} {e j kind f : ℕ} → Is s e j kind f → Passes (is s e j kind f)
unfolding is
is_put i = (i.of_job, (i.of_kind, i.of_fact))

pub is_get : {s : Sheet} {e j kind f : ℕ} → e < s.events → Passes (is s e j kind f) → Is s e j kind f
unfolding is
is_get l h = record { in_sheet = l; of_job = h.0; of_kind = h.1.0; of_fact = h.1.1 }

-- as an event of its own job
pub is_own_lem : {s : Sheet} {e j kind f g : ℕ} → Is s e j kind f → f ≡ g → Passes (is s e (s.event e).job kind g)
unfolding is
is_own_lem i q = (refl, (i.of_kind, i.of_fact ∙ q))

-- ---- own times

unfoldable pub own : Sheet → ℕ → (ℕ → ℕ) → Test
own s j t =
    each s.events (λ e. when (eq (s.event e).job j) (le (earliest s j) (t e) & le (t e) (latest s j)))
    & each s.bounds (λ i.
    when (eq (s.event (s.bound i).later).job j)
    (le (t (s.bound i).earlier + (s.bound i).low) (t (s.bound i).later + origin)
    & le (t (s.bound i).later + origin) (t (s.bound i).earlier + (s.bound i).high)))
    & each s.events (λ b. each s.events (λ e.
    when (is s b j begins (s.event b).fact & is s e j ends (s.event b).fact) (le (t b) (t e))))

pub own_times : {s : Sheet} {j : ℕ} {t : ℕ → ℕ} → Passes (own s j t) → OwnTimes s j t
unfolding own
own_times (window, (bounds, needs)) =
    record {
      early = λ e l q. (window e l q).0;
      late = λ e l q. (window e l q).1;
      bounds = λ i l q. record { low = (bounds i l q).0; high = (bounds i l q).1 };
      needs = λ b e f p q.
          needs b p.in_sheet e q.in_sheet (is_put (rw p.of_fact p), is_put (rw p.of_fact q));
    }

-- every job could run alone, at these ticks
unfoldable pub alone : Sheet → (ℕ → ℕ) → Test
alone s t = each s.jobs (λ j. own s j t)

pub all_present : (s : Sheet) (t : ℕ → ℕ) → Passes (alone s t) → (j : ℕ) → j < s.jobs → RunsAlone s j
unfolding RunsAlone alone
all_present s t h j l = (t, own_times (h j l))

-- ---- chains

-- one rule: a bound's low, a bound's high, or event e before event d, in one job not after
pub data Step : Type 0 where
  low : ℕ → Step
  high : ℕ → Step
  link : ℕ → ℕ → Step

unfoldable pub rule_at : Sheet → Step → Rule
rule_at s (low i) = low_of s i
rule_at s (high i) = high_of s i
rule_at s (link e d) = apart s e d

-- what rules tell one after the other, from event x on
unfoldable pub along : Sheet → ℕ → List Step → Rule
along s x [] = rule_of x 0 x 0
along s x (a ∷ r) =
    let q = along s (rule_at s a).to r in
    rule_of x ((rule_at s a).plus + q.plus) q.to ((rule_at s a).minus + q.minus)

-- each rule starts where the last ends, and may be used
unfoldable pub chain : Sheet → (Step → Test) → ℕ → List Step → Test
chain s may x [] = on true
chain s may x (a ∷ r) = eq (rule_at s a).from x & may a & chain s may (rule_at s a).to r

pub chain_keeps
    : (s : Sheet) (may : Step → Test) (t : ℕ → ℕ)
    → ((a : Step) → Passes (may a) → Keeps (rule_at s a) t)
    → (x : ℕ) (r : List Step)
    → Passes (chain s may x r)
    → t x + (along s x r).plus ≤ t (along s x r).to + (along s x r).minus
unfolding along chain Keeps
chain_keeps s may t keeps x [] h = omega arith
chain_keeps s may t keeps x (a ∷ r) (q, (m, rest)) =
    let here : t x + (rule_at s a).plus ≤ t (rule_at s a).to + (rule_at s a).minus = rw q at (keeps a m) in
    omega (arith, chain_keeps s may t keeps (rule_at s a).to r rest)

-- the rules of one job's own times
unfoldable pub of_job : Sheet → ℕ → Step → Test
of_job s j (low i) = lt i s.bounds & eq (s.event (s.bound i).later).job j
of_job s j (high i) = lt i s.bounds & eq (s.event (s.bound i).later).job j
of_job s j (link e d) = on false

pub own_step : {s : Sheet} {j : ℕ} {t : ℕ → ℕ} → OwnTimes s j t → (a : Step) → Passes (of_job s j a) → Keeps (rule_at s a) t
unfolding of_job rule_at Keeps
own_step own (low i) h = (own.bounds i h.0 h.1).low
own_step own (high i) h = (own.bounds i h.0 h.1).high
own_step own (link e d) h = absurd (let z : ◌≡◌ {A = ℕ} 0 1 = cc in omega arith)
