-- How it is computed: a list whose bytes say the entries of the wanted jobs and the ticks of a least solution is the least list.
use Rattle.std.specs.Prelude.{ℕ, zero, suc, ◌+◌, ◌*◌, ◌≤◌, ◌<◌, ◌≡◌, cond, List, ltb, eqb, length}
use Rattle.std.proofs.Common.{sym, ◌∙◌, ap, lt-ltb, le-ltb, eq-eqb, ne_eqb}
use Rattle.std.proofs.Math.Logic.{dite}
use native.Mathlib.Omega.{arith}
use Rattle.std.proofs.Math.Decide.{dec_lt, ℕ_discrete}
use Rattle.rules.specs.Count.{count, byte, two}
use Rattle.rules.specs.Sheet.{Sheet, max_jobs, max_events}
use Rattle.rules.specs.RunList.{max_instances, max_times, events_of, rank, instances, code_of, place_of, job_of, body_of, plan_of}
use Rattle.rules.specs.Wanted.{WantedJob, LeastList}
use Rattle.rules.specs.Class.{Inside}
use Rattle.laws.specs.Limits.{AllBytes}
use Rattle.laws.specs.Rise.{Up, up_size}
use Rattle.laws.specs.Counts.{count_add, count_le}
use Rattle.laws.specs.Formed.{Formed}
use Rattle.laws.specs.Events.{wanted_job_in}
use Rattle.theory.specs.Statements.{LeastSolution}
use Rattle.theory.specs.Why.Places.{PlacesOf}
use Rattle.theory.specs.Why.Entries.{Entries, least_list}
use Rattle.theory.specs.Why.Bytes.{ListFormed, list_ok_lem, job_of_lem}

-- ---- the events of some jobs are no more than the sheet's

pub events_below : Sheet → ℕ → ℕ
events_below s j = count (λ e. ltb (s.event e).job j) s.events

-- those of job i and of all jobs below i are events of jobs below j
pub events_below_lem : (s : Sheet) (i j : ℕ) → i < j → events_of s i + events_below s i ≤ events_below s j
unfolding events_of events_below
events_below_lem s i j l =
    count_add (λ e. eqb (s.event e).job i) (λ e. ltb (s.event e).job i) (λ e. ltb (s.event e).job j) s.events
    (λ e. each (s.event e).job)
  where
    each : (x : ℕ) → cond (eqb x i) 1 0 + cond (ltb x i) 1 0 ≤ cond (ltb x j) 1 0
    each x =
        dite (ℕ_discrete x i)
        (λ q. rw (eq-eqb x i q, le-ltb x i (omega arith), lt-ltb x j (omega arith)) (omega arith))
        (λ g.
        dite (dec_lt x i) (λ h. rw (ne_eqb x i g, lt-ltb x i h, lt-ltb x j (omega arith)) (omega arith))
        (λ h. rw (ne_eqb x i g, le-ltb x i (omega arith)) (omega arith)))

pub events_below_few : (s : Sheet) (j : ℕ) → events_below s j ≤ s.events
unfolding events_below
events_below_few s j = count_le (λ e. ltb (s.event e).job j) s.events

bodies_fit
    : (s : Sheet) (l : List ℕ) (n : ℕ) (job : ℕ → ℕ)
    → Up job n
    → ((k : ℕ) → k < n → job_of s l k ≡ job k)
    → (k j : ℕ)
    → k ≤ n
    → ((i : ℕ) → i < k → job i < j)
    → body_of s l k ≤ body_of s l 0 + 2 * events_below s j
unfolding body_of
bodies_fit s l n job rise jobs zero j h under = omega arith
bodies_fit s l n job rise jobs (suc k) j h under =
    let before = bodies_fit s l n job rise jobs k (job k) (omega arith) (λ i iIn. rise i k iIn h) in
    let here = events_below_lem s (job k) j (under k (omega arith)) in
    omega (arith, ap (events_of s) (jobs k h))

-- the bodies of rising jobs of the sheet have no more times than the sheet has events
pub few_times
    : (s : Sheet) (l : List ℕ) (n : ℕ) (job : ℕ → ℕ)
    → Up job n
    → ((k : ℕ) → k < n → job k < s.jobs)
    → ((k : ℕ) → k < n → job_of s l k ≡ job k)
    → (k : ℕ)
    → k ≤ n
    → body_of s l k ≤ body_of s l 0 + 2 * s.events
unfolding events_below
few_times s l n job rise inside jobs k h =
    omega (
      arith,
      bodies_fit s l n job rise jobs k s.jobs h (λ i iIn. inside i (omega arith)),
      count_le (λ e. ltb (s.event e).job s.jobs) s.events,
    )

-- ---- what a writer has done

-- the bytes of one entry for each of the listed jobs, each event at its tick
pub record Written (s : Sheet) (n : ℕ) (job t : ℕ → ℕ) (l : List ℕ) : Type 0 where
  pub bytes : AllBytes l
  pub edition : byte l 0 ≡ 1
  pub reserved : byte l 1 ≡ 0
  pub count : instances l ≡ n
  pub codes : (k : ℕ) → k < n → code_of l k ≡ s.code (job k)
  pub places : (k : ℕ) → k < n → place_of l k ≡ body_of s l k
  pub ticks
      : (k e : ℕ) → k < n → e < s.events → (s.event e).job ≡ job k → two l (body_of s l k + 2 * rank s e) ≡ t e
  pub ends : length l ≡ body_of s l n

module _ {s : Sheet} (ok : Formed s) (list : PlacesOf (WantedJob s) s.jobs) {t : ℕ → ℕ} {l : List ℕ}
    (written : Written s list.count list.at t l) where
  written_job : (k : ℕ) → k < list.count → job_of s l k ≡ list.at k
  written_job k h = job_of_lem s l ok k (list.at k) (list.inside k h) (written.codes k h)

  written_in : {k : ℕ} → k < instances l → k < list.count
  written_in h = omega (arith, written.count)

  written_formed : ListFormed s l
  unfolding max_instances max_jobs max_times max_events
  written_formed =
      record {
        edition = written.edition;
        reserved = written.reserved;
        few =
            let fits = up_size list.at list.count list.rising s.jobs list.inside in
            omega (arith, written.count, ok.jobs);
        job_in = λ k h. let h' = written_in h in omega (arith, written_job k h', list.inside k h');
        place = λ k h. written.places k (written_in h);
        times =
            rw written.count
            (omega (
              arith,
              few_times s l list.count list.at list.rising list.inside written_job list.count (omega arith),
              ok.events,
            ));
        ends = rw written.count (sym written.ends);
      }

  written_entries : Entries s (plan_of s l)
  unfolding plan_of
  written_entries =
      record {
        rising = λ i k r h.
            let h' = written_in h in
            rw (written_job i (omega arith), written_job k h')
            (ok.codes (list.at i) (list.at k) (list.rising i k r h') (list.inside k h'));
        wanted = λ i h. rw (written_job i (written_in h)) (list.has i (written_in h));
        whole = λ j w.
            let (k, h, q) = list.whole j (wanted_job_in ok w) w in
            (k, omega (arith, written.count), written_job k h ∙ q);
      }

  pub written_least_list : Inside s → LeastSolution s t → LeastList s l
  unfolding plan_of
  written_least_list inside best =
      least_list ok inside best written.bytes (list_ok_lem s l written_formed) written_entries
      (λ i e h eIn q. written.ticks i e (written_in h) eIn (q ∙ written_job i (written_in h)))
