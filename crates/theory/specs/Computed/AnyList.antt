-- How it is computed: the list of any instances, each with its own ticks, as two-byte words; and that it is written.
use Prim.Native.Nat.{ℕ, zero, suc, ◌+◌, ◌-◌, ◌*◌, ◌/◌, ◌%◌, ◌≤◌, ◌<◌}
use Rattle.std.specs.Prelude.{◌≡◌, ◌⊎◌, List, length}
use Rattle.std.proofs.Math.Path.{refl, sym, ap}
use Rattle.std.proofs.Common.{◌∙◌, inl, inr, eq-eqb}
use Rattle.std.proofs.Math.Logic.{⊎_elim, dite, if_pos, if_neg}
use Rattle.std.proofs.Math.Logic.Dec.{and as dec_and}
use native.Mathlib.Omega.{arith}
use Rattle.std.proofs.Math.Decide.{dec_lt, ℕ_discrete}
use Rattle.std.proofs.Math.Dec.{eqb}
use Rattle.rules.specs.Count.{None, byte, two}
use Rattle.rules.specs.Sheet.{Sheet}
use Rattle.rules.specs.RunList.{events_of, rank, instances, code_of, place_of, job_of, body_of}
use Rattle.laws.specs.Limits.{AllBytes}
use Rattle.laws.specs.Rise.{Up}
use Rattle.laws.specs.Counts.{count_at}
use Rattle.laws.specs.Formed.{Formed}
use Rattle.theory.specs.Statements.{pair_values}
use Rattle.theory.specs.Why.Places.{find, some_dec}
use Rattle.theory.specs.Why.Bytes.{job_of_lem}
use Rattle.theory.specs.Computed.Written.{events_below, events_below_lem, events_below_few, Written}
use Rattle.theory.specs.Computed.Built.{words, words_length, words_bytes, words_low, words_high, words_two}

-- ---- where the bodies start

-- the word at which body k starts in a list of n entries of these jobs
pub start : Sheet → (n : ℕ) → (job : ℕ → ℕ) → ℕ → ℕ
start s n job zero = 2 + 2 * n
start s n job (suc k) = start s n job k + events_of s (job k)

pub start_front : (s : Sheet) (n : ℕ) (job : ℕ → ℕ) → start s n job 0 ≡ 2 + 2 * n
unfolding start
start_front s n job = refl

pub start_next : (s : Sheet) (n : ℕ) (job : ℕ → ℕ) (k : ℕ) → start s n job (suc k) ≡ start s n job k + events_of s (job k)
unfolding start
start_next s n job k = refl

-- in bytes, of a list of these entries
pub start_of_lem
    : (s : Sheet) (l : List ℕ) (n : ℕ) (job : ℕ → ℕ)
    → instances l ≡ n
    → ((k : ℕ) → k < n → job_of s l k ≡ job k)
    → (k : ℕ)
    → k ≤ n
    → body_of s l k ≡ 2 * start s n job k
unfolding body_of start
start_of_lem s l n job many jobs zero h = omega arith
start_of_lem s l n job many jobs (suc k) h = omega (arith, start_of_lem s l n job many jobs k (omega arith), ap (events_of s) (jobs k h))

starts_fit
    : (s : Sheet) (n : ℕ) (job : ℕ → ℕ)
    → Up job n
    → (k j : ℕ)
    → k ≤ n
    → ((i : ℕ) → i < k → job i < j)
    → start s n job k ≤ start s n job 0 + events_below s j
unfolding start
starts_fit s n job rise zero j h under = omega arith
starts_fit s n job rise (suc k) j h under =
    let before = starts_fit s n job rise k (job k) (omega arith) (λ i iIn. rise i k iIn h) in
    omega (arith, events_below_lem s (job k) j (under k (omega arith)))

-- the bodies of rising jobs of the sheet have no more times than the sheet has events
pub few_starts
    : (s : Sheet) (n : ℕ) (job : ℕ → ℕ)
    → Up job n
    → ((k : ℕ) → k < n → job k < s.jobs)
    → (k : ℕ)
    → k ≤ n
    → start s n job k ≤ start s n job 0 + s.events
few_starts s n job rise inside k h =
    omega (arith, starts_fit s n job rise k s.jobs h (λ i iIn. inside i (omega arith)), events_below_few s s.jobs)

-- ---- what a writer has done

-- the bytes of n entries of the jobs listed, each event at the tick of its entry
pub record WrittenEach (s : Sheet) (n : ℕ) (job : ℕ → ℕ) (t : ℕ → ℕ → ℕ) (l : List ℕ) : Type 0 where
  pub bytes : AllBytes l
  pub edition : byte l 0 ≡ 1
  pub reserved : byte l 1 ≡ 0
  pub count : instances l ≡ n
  pub codes : (k : ℕ) → k < n → code_of l k ≡ s.code (job k)
  pub places : (k : ℕ) → k < n → place_of l k ≡ body_of s l k
  pub ticks
      : (k e : ℕ) → k < n → e < s.events → (s.event e).job ≡ job k → two l (body_of s l k + 2 * rank s e) ≡ t k e
  pub ends : length l ≡ body_of s l n

-- where all entries have the same ticks, it is what the planner writes
pub written_alike : {s : Sheet} {n : ℕ} {job t : ℕ → ℕ} {l : List ℕ} → WrittenEach s n job (λ k. t) l → Written s n job t l
written_alike written =
    record {
      bytes = written.bytes;
      edition = written.edition;
      reserved = written.reserved;
      count = written.count;
      codes = written.codes;
      places = written.places;
      ticks = written.ticks;
      ends = written.ends;
    }

-- ---- the words of the list

-- n entries, of the jobs at, each with its own ticks t
module _ (s : Sheet) (n : ℕ) (at : ℕ → ℕ) (t : ℕ → ℕ → ℕ) where
  abbrev from : ℕ → ℕ
  from = start s n at

  -- event e is of entry k's job, and its tick is word q
  Stands : (q k e : ℕ) → Type 0
  Stands q k e = ((s.event e).job ≡ at k) × (q ≡ from k + rank s e)

  Standing : (q k : ℕ) → Type 0
  Standing q k = (e : ℕ) × (e < s.events) × Stands q k e

  stood : (q : ℕ) → ((k : ℕ) × (k < n) × Standing q k) ⊎ None (Standing q) n
  unfolding Standing Stands
  stood q =
      find (λ k. some_dec (λ e. dec_and (ℕ_discrete (s.event e).job (at k)) (ℕ_discrete q (from k + rank s e))) s.events) n

  tick_word : ℕ → ℕ
  unfolding Standing
  tick_word q = ⊎_elim (λ r. t r.0 r.2.0) (λ g. 0) (stood q)

  -- of an entry the code, then the place of its body
  entry_word : ℕ → ℕ
  entry_word r = dite (ℕ_discrete (r % 2) 0) (λ q. s.code (at (r / 2))) (λ g. 2 * from (r / 2))

  head_word : ℕ → ℕ
  head_word zero = 1
  head_word (suc q) = n

  word : ℕ → ℕ
  word q = dite (dec_lt q 2) (λ h. head_word q) (λ g. dite (dec_lt q (from 0)) (λ h. entry_word (q - 2)) (λ g. tick_word q))

  pub built_each : List ℕ
  built_each = words word (from n)

  -- ---- each word by its place

  front_is : from 0 ≡ 2 + 2 * n
  front_is = start_front s n at

  next_is : (k : ℕ) → from (suc k) ≡ from k + events_of s (at k)
  next_is = start_next s n at

  start_up : (i k : ℕ) → i ≤ k → from i ≤ from k
  start_up i zero h = let e : i ≡ 0 = omega arith in rw e (omega arith)
  start_up i (suc k) h =
      dite (dec_lt k i) (λ l. let e : i ≡ suc k = omega arith in rw e (omega arith))
      (λ g. omega (arith, start_up i k (omega arith), next_is k))

  rank_below : (k e : ℕ) → e < s.events → (s.event e).job ≡ at k → rank s e < events_of s (at k)
  unfolding rank events_of
  rank_below k e eIn q = rw q (count_at (λ d. eqb (s.event d).job (at k)) e s.events eIn (eq-eqb _ _ q))

  -- of one job, one event has a rank
  one_rank : (e d : ℕ) → (s.event e).job ≡ (s.event d).job → rank s e ≡ rank s d → e ≡ d
  unfolding rank
  one_rank e d q h =
      dite (dec_lt e d)
      (λ l. absurd (omega (arith, rw q at h, count_at (λ i. eqb (s.event i).job (s.event d).job) e d l (eq-eqb _ _ q))))
      (λ g.
      dite (dec_lt d e)
      (λ l. absurd (omega (arith, rw q at h, count_at (λ i. eqb (s.event i).job (s.event d).job) d e l (eq-eqb (s.event d).job _ refl))))
      (λ g'. omega arith))

  -- one event of one entry stands at a word
  stands_once
      : (q k e i d : ℕ) → e < s.events → Stands q k e → d < s.events → Stands q i d → (k ≡ i) × (e ≡ d)
  unfolding Stands
  stands_once q k e i d eIn (job, here) dIn (job', there) =
      let r = rank_below k e eIn job in
      let r' = rank_below i d dIn job' in
      dite (dec_lt k i) (λ l. absurd (omega (arith, next_is k, start_up (suc k) i l)))
      (λ g.
      dite (dec_lt i k) (λ l. absurd (omega (arith, next_is i, start_up (suc i) k l)))
      (λ g'.
      let same : k ≡ i = omega arith in
      (same, one_rank e d (job ∙ ap at same ∙ sym job') (omega (arith, ap from same)))))

  tick_word_lem : (k e : ℕ) → k < n → e < s.events → (s.event e).job ≡ at k → tick_word (from k + rank s e) ≡ t k e
  unfolding tick_word Standing Stands None
  tick_word_lem k e kIn eIn job = go (stood (from k + rank s e))
    where
      go
          : (r : ((i : ℕ) × (i < n) × Standing (from k + rank s e) i) ⊎ None (Standing (from k + rank s e)) n)
          → ⊎_elim (λ r. t r.0 r.2.0) (λ g. 0) r ≡ t k e
      go (inl (i, iIn, (d, dIn, there))) =
          let (same, one) = stands_once (from k + rank s e) i d k e dIn there eIn (job, refl) in
          ap (λ (x : ℕ). t x d) same ∙ ap (t k) one
      go (inr g) = absurd (g k kIn (e, eIn, (job, refl)))

  word_head : (q : ℕ) → q < 2 → word q ≡ head_word q
  unfolding word
  word_head q h = if_pos (dec_lt q 2) h _ _

  word_entry : (r : ℕ) → r < 2 * n → word (2 + r) ≡ entry_word r
  unfolding word
  word_entry r h =
      let back : 2 + r - 2 ≡ r = omega arith in
      if_neg (dec_lt (2 + r) 2) (λ l. omega arith) _ _
      ∙ if_pos (dec_lt (2 + r) (from 0)) (omega (arith, front_is)) _ _
      ∙ ap entry_word back

  word_tick : (q : ℕ) → from 0 ≤ q → word q ≡ tick_word q
  unfolding word
  word_tick q h =
      if_neg (dec_lt q 2) (λ l. omega (arith, front_is)) _ _ ∙ if_neg (dec_lt q (from 0)) (λ l. omega arith) _ _

  word_code : (k : ℕ) → k < n → word (2 + 2 * k) ≡ s.code (at k)
  unfolding entry_word
  word_code k h =
      let half : 2 * k / 2 ≡ k = omega arith in
      word_entry (2 * k) (omega arith)
      ∙ if_pos (ℕ_discrete (2 * k % 2) 0) (omega arith) _ _
      ∙ ap (λ i. s.code (at i)) half

  word_place : (k : ℕ) → k < n → word (3 + 2 * k) ≡ 2 * from k
  unfolding entry_word
  word_place k h =
      let after : 3 + 2 * k ≡ 2 + (2 * k + 1) = omega arith in
      let half : (2 * k + 1) / 2 ≡ k = omega arith in
      ap word after
      ∙ word_entry (2 * k + 1) (omega arith)
      ∙ if_neg (ℕ_discrete ((2 * k + 1) % 2) 0) (λ q. omega arith) _ _
      ∙ ap (λ i. 2 * from i) half

  -- ---- the list

  module _
      (ok : Formed s)
      (inside : (k : ℕ) → k < n → at k < s.jobs)
      (codes : (j : ℕ) → j < s.jobs → s.code j < pair_values)
      (ticks : (k e : ℕ) → k < n → e < s.events → (s.event e).job ≡ at k → t k e < pair_values)
      (short : 2 * from n < pair_values)
    where
      read : (q v : ℕ) → q < from n → word q ≡ v → v < pair_values → two built_each (2 * q) ≡ v
      unfolding built_each
      read q v h e small = words_two word (from n) q h (omega arith) ∙ e

      front : from 0 ≤ from n
      front = start_up 0 n (omega arith)

      built_count : instances built_each ≡ n
      unfolding instances head_word
      built_count = read 1 n (omega (arith, front, front_is)) (word_head 1 (omega arith)) (omega (arith, front, front_is))

      built_code : (k : ℕ) → k < n → code_of built_each k ≡ s.code (at k)
      unfolding code_of
      built_code k h =
          let place : 4 + 4 * k ≡ 2 * (2 + 2 * k) = omega arith in
          ap (two built_each) place
          ∙ read (2 + 2 * k) (s.code (at k)) (omega (arith, front, front_is)) (word_code k h) (codes (at k) (inside k h))

      built_job : (k : ℕ) → k < n → job_of s built_each k ≡ at k
      built_job k h = job_of_lem s built_each ok k (at k) (inside k h) (built_code k h)

      built_body : (k : ℕ) → k ≤ n → body_of s built_each k ≡ 2 * from k
      built_body = start_of_lem s built_each n at built_count built_job

      built_place : (k : ℕ) → k < n → place_of built_each k ≡ body_of s built_each k
      unfolding place_of
      built_place k h =
          let place : 6 + 4 * k ≡ 2 * (3 + 2 * k) = omega arith in
          ap (two built_each) place
          ∙ read (3 + 2 * k) (2 * from k) (omega (arith, front, front_is)) (word_place k h) (omega (arith, start_up k n (omega arith)))
          ∙ sym (built_body k (omega arith))

      built_tick
          : (k e : ℕ)
          → k < n
          → e < s.events
          → (s.event e).job ≡ at k
          → two built_each (body_of s built_each k + 2 * rank s e) ≡ t k e
      built_tick k e h eIn job =
          let place : body_of s built_each k + 2 * rank s e ≡ 2 * (from k + rank s e) = omega (arith, built_body k (omega arith)) in
          let within : from k + rank s e < from n = omega (arith, rank_below k e eIn job, next_is k, start_up (suc k) n h) in
          ap (two built_each) place
          ∙ read (from k + rank s e) (t k e) within
          (word_tick (from k + rank s e) (omega (arith, start_up 0 k (omega arith))) ∙ tick_word_lem k e h eIn job)
          (ticks k e h eIn job)

      pub built_each_written : WrittenEach s n at t built_each
      unfolding built_each head_word
      built_each_written =
          let edition : word 0 ≡ 1 = word_head 0 (omega arith) in
          let some : 0 < from n = omega (arith, front, front_is) in
          record {
            bytes = words_bytes word (from n);
            edition = omega (arith, words_low word (from n) 0 some);
            reserved = omega (arith, words_high word (from n) 0 some);
            count = built_count;
            codes = built_code;
            places = built_place;
            ticks = built_tick;
            ends = words_length word (from n) ∙ sym (built_body n (omega arith));
          }
