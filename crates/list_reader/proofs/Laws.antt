-- The loops' steps: the search for a code, and the scan of the entries.
use Prim.Native.Nat.{ℕ, ◌+◌, ◌-◌, ◌*◌, ◌≤◌, ◌<◌}
use native.Mathlib.Omega.{arith}
use native.Mathlib.Nat.{eq-or-lt_of_le}
use native.Mathlib.Decide.{dec_lt}
use borrow.Author.Tests.{eq-eqb, ne_eqb, eqb-true, lt-ltb, le-ltb, le-leb, leb-true}
use Rattle.std.proofs.lemmas.Bool.{false_from_ne_true}
use borrow.Author.Count.{below_more}
use mathlib.Core.Path.{◌≡◌, refl, sym, ap, ◌∙◌}
use mathlib.Core.Logic.{⊎_elim}
use mathlib.Core.Bool.{true, false, ◌&&◌, and-false}
use mathlib.Core.List.{List}
use lib.ListN.{length, get_or, set, length-set}
use lib.Dec.{eqb, leb}
use lib.Seq.{get_or-set_same, get_or-set_other}
use Rattle.rules.specs.Count.{every, byte, two}
use Rattle.rules.specs.Sheet as rules
use Rattle.rules.specs.Sheet.{max_events}
use Rattle.rules.specs.RunList.{max_instances, max_times, instances, code_of, place_of, job_of, events_of, body_of, entry_fits, list_ok}
use Rattle.laws.specs.Bools.{and_get, and_put, clash}
use Rattle.laws.specs.Places.{every_get, every_more}
use Rattle.laws.specs.First.{first_none, first_at}
use Rattle.sheet.specs.declared.formed.WellFormed.{WellFormed}
use Rattle.sheet.specs.WellFormed.{said_by, formed_by}
use Rattle.laws.specs.Rise.{Up}
use Rattle.index.specs.Laws.{span_events}
use Rattle.list_reader.specs.declared.Entry.{Entry}
use Rattle.list_reader.specs.declared.Entries.{Entries}
use Rattle.std.specs.Prelude.{Some, None}
use Rattle.list_reader.specs.View.{
  WithSpans,
  Finds,
  job_with,
  near_body,
  AtEntry,
  EntryIs,
  EntryOf,
  FewEntries,
  Columns,
  EntriesAre,
  head_ok,
  list_fault,
  FormOf,
}
use Rattle.list_reader.specs.Laws.{body_start, body_step}

-- after a store at k, what held below k and holds of the value holds below k + 1
set_below
    : (P : ℕ → ℕ → Type 0) (xs : List ℕ) (k x : ℕ)
    → k < length xs
    → ((i : ℕ) → i < k → P i (get_or xs i 0))
    → P k x
    → (i : ℕ)
    → i < k + 1
    → P i (get_or (set xs k x) i 0)
set_below P xs k x h all here =
    below_more (λ i. P i (get_or (set xs k x) i 0)) k
    (λ i l. rw (get_or-set_other xs k i x 0 (omega arith)) (all i l))
    (rw (get_or-set_same xs k x 0 h) here)

-- ---- the search for a code

-- jobs below low have lower codes, jobs from high on have none
pub record Finding (s : rules.Sheet) (code low high : ℕ) : Type 0 where
  pub rises : low ≤ high
  pub within : high ≤ s.jobs
  pub below : (i : ℕ) → i < low → s.code i < code
  pub above : (i : ℕ) → high ≤ i → i < s.jobs → code ≤ s.code i

module _ {s : rules.Sheet} {code low high : ℕ} (p : Finding s code low high) (up : Up s.code s.jobs) where
  upto : (i j : ℕ) → i ≤ j → j < s.jobs → s.code i ≤ s.code j
  upto i j l m = ⊎_elim (λ e. rw e (omega arith)) (λ k. omega (arith, up i j k m)) (eq-or-lt_of_le l)

  pub finding_up : {m : ℕ} → low ≤ m → m < high → s.code m < code → Finding s code (m + 1) high
  finding_up {m} l h c =
      record {
        rises = omega arith;
        within = p.within;
        below = λ i z. omega (arith, upto i m (omega arith) (omega (arith, p.within)));
        above = p.above;
      }

  pub finding_down : {m : ℕ} → low ≤ m → m < high → code ≤ s.code m → Finding s code low m
  finding_down {m} l h c =
      record {
        rises = l;
        within = omega (arith, p.within);
        below = p.below;
        above = λ i z k. omega (arith, upto m i z k);
      }

  -- where nothing is left between
  module _ (done : high ≤ low) where
    passed : (i : ℕ) → i < low → eqb (s.code i) code ≡ false
    passed i l = ne_eqb (s.code i) code (λ e. omega (arith, p.below i l))

    pub finding_found : low < s.jobs → s.code low ≡ code → Finds s code (Some low)
    unfolding job_with
    finding_found h k = (sym (first_at (λ i. eqb (s.code i) code) s.jobs low passed h (eq-eqb _ _ k)), h)

    none_from : ((i : ℕ) → low ≤ i → i < s.jobs → s.code i ≡ code → ⊥) → Finds s code None
    unfolding job_with
    none_from none = first_none (λ i. eqb (s.code i) code) s.jobs (λ i l. missed i l (dec_lt i low))
      where
        missed : (i : ℕ) → i < s.jobs → Dec (i < low) → eqb (s.code i) code ≡ false
        missed i l (yes k) = passed i k
        missed i l (no k) = ne_eqb (s.code i) code (none i (omega arith) l)

    -- the code of the first job that is not below is another one
    pub finding_other : (s.code low ≡ code → ⊥) → Finds s code None
    finding_other d =
        none_from
        (λ i l m e.
        d
        (omega (arith, upto low i l m, p.above low (omega (arith, p.rises)) (omega arith))))

    pub finding_none : s.jobs ≤ low → Finds s code None
    finding_none h = none_from (λ i l m e. omega arith)

-- ---- the list's head

pub head_at
    : (l : List ℕ) (x y n : ℕ) → x ≡ byte l 0 → y ≡ byte l 1 → n ≡ two l 2 → (eqb x 1 && eqb y 0 && leb n max_instances) ≡ head_ok l
unfolding head_ok instances
head_at l x y n p q r = rw (p, q, r) refl

-- ---- one entry

module _ {l : List ℕ} {sheet : WellFormed} {spans : List ℕ} {k at : ℕ} (p : AtEntry sheet spans l k at) where
  -- a job's events: the places rise, and no more than a sheet has
  pub size_rise : (j : ℕ) → j < (said_by sheet).jobs → get_or spans j 0 ≤ get_or spans (j + 1) 0
  size_rise j h = p.spanned.spans.rises j h

  pub size_near : (j : ℕ) → j < (said_by sheet).jobs → get_or spans (j + 1) 0 ≤ max_events
  unfolding max_events
  size_near j h = omega (arith, p.spanned.spans.within (j + 1) (omega arith), (formed_by sheet).few.events)

  pub entry_unknown : (code : ℕ) → code ≡ two l (4 + 4 * k) → Finds (said_by sheet) code None → EntryOf (said_by sheet) l k None
  unfolding entry_fits job_of code_of job_with
  entry_unknown code h f = rw (le-ltb (job_of (said_by sheet) l k) (said_by sheet).jobs (omega (arith, ap (job_with (said_by sheet)) h))) refl

  pub entry_elsewhere : (x : ℕ) → x ≡ two l (6 + 4 * k) → (x ≡ at → ⊥) → EntryOf (said_by sheet) l k None
  unfolding entry_fits place_of
  entry_elsewhere x y d =
      rw (ne_eqb (two l (6 + 4 * k)) (body_of (said_by sheet) l k) (λ e. d (omega (arith, p.body))), and-false) refl

  pub entry_known
      : (code job x size : ℕ)
      → code ≡ two l (4 + 4 * k)
      → Finds (said_by sheet) code (Some job)
      → x ≡ two l (6 + 4 * k)
      → x ≡ at
      → size ≡ get_or spans (job + 1) 0 - get_or spans job 0
      → EntryOf (said_by sheet) l k (Some (record { job = job; next = at + 2 * size }))
  unfolding entry_fits place_of job_of code_of job_with max_events
  entry_known code job x size h f y e z =
      let q : job ≡ job_of (said_by sheet) l k = f.0 ∙ ap (job_with (said_by sheet)) h in
      record {
        fits = rw (lt-ltb (job_of (said_by sheet) l k) (said_by sheet).jobs (omega (arith, f.1)), eq-eqb (two l (6 + 4 * k)) (body_of (said_by sheet) l k) (omega (arith, p.body))) refl;
        job = q;
        within = f.1;
        next =
            omega
            (arith, body_step (said_by sheet) l k, p.body, ap (events_of (said_by sheet)) (sym q) ∙ span_events p.spanned.spans job f.1);
        near = omega (arith, p.near, size_near job f.1);
      }

-- ---- all entries

-- the first k entries are read, and body k starts at `at`
pub record Scanning (sheet : WellFormed) (spans : List ℕ) (l : List ℕ) (n : ℕ) (jobs places : List ℕ)
    (at k : ℕ) : Type 0 where
  pub spanned : WithSpans sheet spans
  pub count : n ≡ instances l
  pub few : n ≤ max_instances
  pub within : k ≤ n
  pub room : Columns jobs places
  pub fits : every (entry_fits (said_by sheet) l) k ≡ true
  pub body : at ≡ body_of (said_by sheet) l k
  pub near : at ≤ near_body k
  pub job : (i : ℕ) → i < k → get_or jobs i 0 ≡ job_of (said_by sheet) l i
  pub place : (i : ℕ) → i < k → get_or places i 0 ≡ body_of (said_by sheet) l i

pub scanning_start
    : {l : List ℕ} {sheet : WellFormed} {spans : List ℕ} (n : ℕ) (jobs places : List ℕ)
    → FewEntries sheet spans l
    → n ≡ two l 2
    → Columns jobs places
    → Scanning sheet spans l n jobs places (4 + 4 * n) 0
unfolding every instances max_instances
scanning_start {l} {sheet} n jobs places p h q =
    record {
      spanned = p.spanned;
      count = h;
      few = omega (arith, p.few);
      within = omega arith;
      room = q;
      fits = refl;
      body = omega (arith, body_start (said_by sheet) l);
      near = omega (arith, p.few);
      job = λ i m. absurd (omega arith);
      place = λ i m. absurd (omega arith);
    }

module _ {l jobs places : List ℕ} {sheet : WellFormed} {spans : List ℕ} {n at k : ℕ}
    (p : Scanning sheet spans l n jobs places at k) where
  pub scanning_near : k < n → at < 65536
  unfolding max_instances
  scanning_near h = omega (arith, p.near, p.few)

  pub scanning_step
      : {r : Entry}
      → k < n
      → EntryIs (said_by sheet) l k r
      → Scanning sheet spans l n (set jobs k r.job) (set places k at) r.next (k + 1)
  unfolding max_instances
  scanning_step {r} h q =
      record {
        spanned = p.spanned;
        count = p.count;
        few = p.few;
        within = omega arith;
        room = record { job_room = simp length-set p.room.job_room; place_room = simp length-set p.room.place_room };
        fits = rw (every_more, p.fits, q.fits) refl;
        body = q.next;
        near = q.near;
        job = set_below (λ i x. x ≡ job_of (said_by sheet) l i) jobs k r.job (omega (arith, p.few, p.room.job_room)) p.job q.job;
        place = set_below (λ i x. x ≡ body_of (said_by sheet) l i) places k at (omega (arith, p.few, p.room.place_room)) p.place p.body;
      }

  -- an entry that does not fit
  pub scanning_stop : k < n → entry_fits (said_by sheet) l k ≡ false → every (entry_fits (said_by sheet) l) (instances l) ≡ false
  scanning_stop h e =
      false_from_ne_true _ (λ z. let y = every_get (entry_fits (said_by sheet) l) (instances l) z k (omega (arith, p.count)) in clash y e)

  pub scanning_end : n ≤ k → EntriesAre (said_by sheet) l jobs places (record { count = n; end = at })
  unfolding max_instances
  scanning_end h =
      let e : k ≡ instances l = omega (arith, p.within, p.count) in
      record {
        count = p.count;
        few = p.few;
        room = p.room;
        job = λ i m. p.job i (omega arith);
        place = λ i m. p.place i (omega arith);
        fits = rw e at p.fits;
        end = rw e at p.body;
        near_end = omega (arith, p.near, p.few, p.within);
      }

-- ---- the answer

pub head_broken : (s : rules.Sheet) (l : List ℕ) → head_ok l ≡ false → list_ok s l ≡ false
unfolding list_ok head_ok
head_broken s l h = rw h refl

pub entries_broken : (s : rules.Sheet) (l : List ℕ) → every (entry_fits s l) (instances l) ≡ false → list_ok s l ≡ false
unfolding list_ok
entries_broken s l h =
    rw (h, and-false) refl

list_is
    : {s : rules.Sheet} {l : List ℕ} {r : Entries} {jobs places : List ℕ}
    → head_ok l ≡ true
    → EntriesAre s l jobs places r
    → list_ok s l ≡ (leb r.end (4 + 4 * r.count + 2 * max_times) && eqb r.end (length l))
unfolding list_ok head_ok
list_is {s} {l} h p = rw (h, p.fits, p.end, p.count, body_start s l) refl

module _ {s : rules.Sheet} {l : List ℕ} {r : Entries} {jobs places : List ℕ} (head : head_ok l ≡ true) (p : EntriesAre s l jobs places r) where
  pub list_good : r.end ≤ 4 + 4 * r.count + 2 * max_times → r.end ≡ length l → list_ok s l ≡ true
  list_good few end = list_is head p ∙ and_put (le-leb _ _ few) (eq-eqb _ _ end)

  pub list_bad : (r.end ≤ 4 + 4 * r.count + 2 * max_times → r.end ≡ length l → ⊥) → list_ok s l ≡ false
  list_bad not =
      false_from_ne_true _
      (λ e.
      let q = and_get (leb r.end (4 + 4 * r.count + 2 * max_times)) (eqb r.end (length l)) (sym (list_is head p) ∙ e) in
      not (leb-true _ _ q.0) (eqb-true _ _ q.1))

pub head_few : (l : List ℕ) → head_ok l ≡ true → instances l ≤ max_instances
unfolding head_ok
head_few l h = leb-true _ _ (and_get (eqb (byte l 0) 1 && eqb (byte l 1) 0) (leb (instances l) max_instances) h).1

pub form_broken : {s : rules.Sheet} {l jobs places : List ℕ} → list_ok s l ≡ false → FormOf s l None jobs places
unfolding list_fault
form_broken h = record { number = rw h refl; values = h }

pub form_formed
    : {s : rules.Sheet} {l jobs places : List ℕ} {r : Entries}
    → list_ok s l ≡ true
    → EntriesAre s l jobs places r
    → FormOf s l (Some (record { instances = r.count })) jobs places
unfolding list_fault
form_formed h p =
    record {
      number = rw h refl;
      values = record { ok = h; count = p.count; few = p.few; room = p.room; job = p.job; place = p.place };
    }
