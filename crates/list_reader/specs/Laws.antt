-- What holds of entries and well-formed lists: the laws that the readers' callers cite.
use Prim.Native.Nat.{ℕ, zero, suc, ◌+◌, ◌-◌, ◌*◌, ◌≤◌, ◌<◌}
use native.Mathlib.Omega.{arith}
use Rattle.std.proofs.Math.Decide.{dec_lt}
use Rattle.std.proofs.Math.Numerals.{add-one}
use Rattle.std.specs.Prelude.{◌≡◌, Bool, true, ◌&&◌, List, length, get_or, ltb, leb, eqb}
use Rattle.std.proofs.Math.Path.{refl, ap}
use borrow.Author.Tests.{ltb-true, leb-true, eqb-true}
use Rattle.rules.specs.Count.{every, byte, two}
use Rattle.rules.specs.Sheet.{Sheet}
use Rattle.rules.specs.RunList.{instances, events_of, place_of, job_of, body_of, entry_fits, list_ok, plan_of, max_instances, max_times}
use Rattle.laws.specs.Bools.{and_get}
use Rattle.laws.specs.Places.{every_get}
use Rattle.laws.specs.Limits.{most_instances, most_times}
use Rattle.index.specs.Laws.{span_rank, span_events}
use Rattle.index.specs.View.{ByJobOf}
use Rattle.list_reader.specs.View.{ListIs, InBody, times_of}
use Rattle.list_reader.specs.declared.RunList.{RunList}

-- ---- times

module _ (s : Sheet) (l : List ℕ) where
  pub body_start : body_of s l 0 ≡ 4 + 4 * instances l
  unfolding body_of
  body_start = refl

  pub body_step : (k : ℕ) → body_of s l (k + 1) ≡ body_of s l k + 2 * events_of s (job_of s l k)
  unfolding body_of
  body_step k = rw add-one refl

  pub times_start : times_of s l 0 ≡ 0
  unfolding times_of
  times_start = refl

  pub times_step : (k : ℕ) → times_of s l (k + 1) ≡ times_of s l k + events_of s (job_of s l k)
  unfolding times_of
  times_step k = rw add-one refl

  -- where body k starts
  pub body_times : (k : ℕ) → body_of s l k ≡ 4 + 4 * instances l + 2 * times_of s l k
  unfolding body_of times_of
  body_times zero = omega arith
  body_times (suc k) = omega (arith, body_times k)

  pub times_rise : (i k : ℕ) → i ≤ k → times_of s l i ≤ times_of s l k
  unfolding times_of
  times_rise i zero h = rw (let z : i ≡ 0 = omega arith in z) (omega arith)
  times_rise i (suc k) h =
      elim (dec_lt k i) [
        | yes m ↦ rw (let z : i ≡ suc k = omega arith in z) (omega arith)
        | no m ↦ omega (arith, times_rise i k (omega arith))
      ]

  pub body_rise : (i k : ℕ) → i ≤ k → body_of s l i ≤ body_of s l k
  body_rise i k h = omega (arith, body_times i, body_times k, times_rise i k h)

-- ---- well-formed lists

-- the rules of "The list", one by one
pub record ListKeeps (s : Sheet) (l : List ℕ) : Type 0 where
  pub edition : byte l 0 ≡ 1
  pub zero_byte : byte l 1 ≡ 0
  pub few : instances l ≤ most_instances
  pub fits : (i : ℕ) → i < instances l → entry_fits s l i ≡ true
  pub times : body_of s l (instances l) ≤ body_of s l 0 + 2 * most_times
  pub end : body_of s l (instances l) ≡ length l

pub list_rules : (s : Sheet) (l : List ℕ) → list_ok s l ≡ true → ListKeeps s l
unfolding list_ok max_instances max_times
list_rules s l ok =
    let a : Bool = eqb (byte l 0) 1 in
    let b : Bool = a && eqb (byte l 1) 0 in
    let c : Bool = b && leb (instances l) most_instances in
    let d : Bool = c && every (entry_fits s l) (instances l) in
    let e : Bool = d && leb (body_of s l (instances l)) (body_of s l 0 + 2 * most_times) in
    let end = and_get e (eqb (body_of s l (instances l)) (length l)) ok in
    let times = and_get d (leb (body_of s l (instances l)) (body_of s l 0 + 2 * most_times)) end.0 in
    let fits = and_get c (every (entry_fits s l) (instances l)) times.0 in
    let few = and_get b (leb (instances l) most_instances) fits.0 in
    let head = and_get a (eqb (byte l 1) 0) few.0 in
    record {
      edition = eqb-true _ _ head.0;
      zero_byte = eqb-true _ _ head.1;
      few = leb-true _ _ few.1;
      fits = every_get (entry_fits s l) (instances l) fits.1;
      times = leb-true _ _ times.1;
      end = eqb-true _ _ end.1;
    }

module _ (s : Sheet) (l : List ℕ) (ok : list_ok s l ≡ true) where
  pub list_job : (i : ℕ) → i < instances l → job_of s l i < s.jobs
  unfolding entry_fits
  list_job i h =
      ltb-true _ _ (and_get (ltb (job_of s l i) s.jobs) (eqb (place_of l i) (body_of s l i)) ((list_rules s l ok).fits i h)).0

  -- the most times in all
  pub list_times : times_of s l (instances l) ≤ most_times
  list_times =
      omega
      (arith, (list_rules s l ok).times, body_times s l 0, body_times s l (instances l), times_start s l)

-- ---- the plan that a list says

module _ (s : Sheet) (l : List ℕ) where
  pub plan_count : (plan_of s l).count ≡ instances l
  unfolding plan_of
  plan_count = refl

  pub plan_job : (i : ℕ) → (plan_of s l).job i ≡ job_of s l i
  unfolding plan_of
  plan_job i = refl

-- the time of event e, of job j, in an entry of that job: read where the list and the spans say
module _ {s : Sheet} {l : List ℕ} {w : RunList} {jobs places first : List ℕ} (p : ListIs s l w jobs places) (q : ByJobOf s first) where
  pub plan_time
      : (i e j : ℕ)
      → i < w.instances
      → e < s.events
      → (s.event e).job ≡ j
      → j < s.jobs
      → (plan_of s l).time i e ≡ two l (get_or places i 0 + 2 * (e - get_or first j 0))
  unfolding plan_of
  plan_time i e j h k m o =
      rw (p.place i h, span_rank q j o e k m) refl

  -- and that place is in the list
  pub plan_inside
      : (i e j : ℕ)
      → i < w.instances
      → e < s.events
      → (s.event e).job ≡ j
      → j < s.jobs
      → j ≡ job_of s l i
      → InBody l (get_or places i 0) (get_or first j 0) e
  unfolding max_instances
  plan_inside i e j h k m o n =
      let rules = list_rules s l p.ok in
      record {
        own = q.from e j k o m;
        inside =
            omega (
              arith,
              p.place i h,
              p.count,
              q.from e j k o m,
              q.to e j k o m,
              span_events q j o,
              ap (events_of s) n,
              body_step s l i,
              body_rise s l (i + 1) (instances l) (omega (arith, p.count)),
              rules.end,
            );
        short = omega (arith, rules.end, rules.times, rules.few, body_start s l);
      }
