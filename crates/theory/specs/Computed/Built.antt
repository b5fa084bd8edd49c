-- How it is computed: the list of some jobs at given ticks, as two-byte words, each by its place; and that it is written.
use Prim.Native.Nat.{ℕ, zero, suc, ◌+◌, ◌-◌, ◌*◌, ◌/◌, ◌%◌, ◌≤◌, ◌<◌}
use Rattle.std.specs.Prelude.{◌≡◌, ◌⊎◌, List, [], ◌∷◌, length}
use Rattle.std.proofs.Math.Path.{refl, sym, ap}
use Rattle.std.proofs.Common.{◌∙◌, inl, inr, eq-eqb}
use Rattle.std.proofs.Math.Logic.{⊎_elim, dite, if_pos, if_neg}
use Rattle.std.proofs.Math.Logic.Dec.{and as dec_and}
use native.Mathlib.Omega.{arith}
use Rattle.std.proofs.Math.Decide.{dec_lt, ℕ_discrete}
use Rattle.std.proofs.Math.Dec.{eqb}
use Rattle.rules.specs.Count.{None, byte, two}
use Rattle.rules.specs.Sheet.{Sheet, max_jobs, max_events}
use Rattle.rules.specs.RunList.{events_of, rank, instances, code_of, place_of, job_of, body_of}
use Rattle.rules.specs.Wanted.{WantedJob}
use Rattle.laws.specs.Limits.{byte_values, AllBytes}
use Rattle.laws.specs.Rise.{up_size}
use Rattle.laws.specs.Counts.{count_at}
use Rattle.laws.specs.Formed.{Formed}
use Rattle.theory.specs.Statements.{pair_values}
use Rattle.theory.specs.Why.Places.{find, some_dec, PlacesOf}
use Rattle.theory.specs.Why.Bytes.{job_of_lem}
use Rattle.theory.specs.Computed.Written.{few_times, Written}

-- ---- words

-- n words, each in two bytes
pub words : (ℕ → ℕ) → ℕ → List ℕ
words w zero = []
words w (suc n) = w 0 % byte_values ∷ w 0 / byte_values % byte_values ∷ words (λ q. w (suc q)) n

pub words_length : (w : ℕ → ℕ) (n : ℕ) → length (words w n) ≡ 2 * n
unfolding words
words_length w zero = omega arith
words_length w (suc n) = omega (arith, words_length (λ q. w (suc q)) n)

pub words_bytes : (w : ℕ → ℕ) (n : ℕ) → AllBytes (words w n)
unfolding words byte
words_bytes w zero i = omega arith
words_bytes w (suc n) zero = omega arith
words_bytes w (suc n) (suc zero) = omega arith
words_bytes w (suc n) (suc (suc i)) = words_bytes (λ q. w (suc q)) n i

pub words_low : (w : ℕ → ℕ) (n q : ℕ) → q < n → byte (words w n) (2 * q) ≡ w q % byte_values
unfolding words byte
words_low w zero q h = absurd (omega arith)
words_low w (suc n) zero h = refl
words_low w (suc n) (suc q) h =
    let place : 2 * suc q ≡ suc (suc (2 * q)) = omega arith in
    ap (byte (words w (suc n))) place ∙ words_low (λ q. w (suc q)) n q (omega arith)

pub words_high : (w : ℕ → ℕ) (n q : ℕ) → q < n → byte (words w n) (2 * q + 1) ≡ w q / byte_values % byte_values
unfolding words byte
words_high w zero q h = absurd (omega arith)
words_high w (suc n) zero h = refl
words_high w (suc n) (suc q) h =
    let place : 2 * suc q + 1 ≡ suc (suc (2 * q + 1)) = omega arith in
    ap (byte (words w (suc n))) place ∙ words_high (λ q. w (suc q)) n q (omega arith)

pub words_two : (w : ℕ → ℕ) (n q : ℕ) → q < n → w q < pair_values → two (words w n) (2 * q) ≡ w q
unfolding two
words_two w n q h small = omega (arith, words_low w n q h, words_high w n q h)

-- ---- the words of the list

module _ {s : Sheet} (list : PlacesOf (WantedJob s) s.jobs) (t : ℕ → ℕ) where
  -- the word at which body k starts
  start : ℕ → ℕ
  start zero = 2 + 2 * list.count
  start (suc k) = start k + events_of s (list.at k)

  -- event e is of entry k's job, and its tick is word q
  Stands : (q k e : ℕ) → Type 0
  Stands q k e = ((s.event e).job ≡ list.at k) × (q ≡ start k + rank s e)

  Standing : (q k : ℕ) → Type 0
  Standing q k = (e : ℕ) × (e < s.events) × Stands q k e

  stood : (q : ℕ) → ((k : ℕ) × (k < list.count) × Standing q k) ⊎ None (Standing q) list.count
  unfolding Standing Stands
  stood q =
      find
      (λ k. some_dec (λ e. dec_and (ℕ_discrete (s.event e).job (list.at k)) (ℕ_discrete q (start k + rank s e))) s.events)
      list.count

  tick_word : ℕ → ℕ
  unfolding Standing
  tick_word q = ⊎_elim (λ r. t r.2.0) (λ g. 0) (stood q)

  -- of an entry the code, then the place of its body
  entry_word : ℕ → ℕ
  entry_word r = dite (ℕ_discrete (r % 2) 0) (λ q. s.code (list.at (r / 2))) (λ g. 2 * start (r / 2))

  head_word : ℕ → ℕ
  head_word zero = 1
  head_word (suc q) = list.count

  word : ℕ → ℕ
  word q = dite (dec_lt q 2) (λ h. head_word q) (λ g. dite (dec_lt q (start 0)) (λ h. entry_word (q - 2)) (λ g. tick_word q))

  pub built : List ℕ
  built = words word (start list.count)

  -- ---- each word by its place

  start_up : (i k : ℕ) → i ≤ k → start i ≤ start k
  unfolding start
  start_up i zero h = let e : i ≡ 0 = omega arith in rw e (omega arith)
  start_up i (suc k) h =
      dite (dec_lt k i) (λ l. let e : i ≡ suc k = omega arith in rw e (omega arith))
      (λ g. omega (arith, start_up i k (omega arith)))

  start_front : start 0 ≡ 2 + 2 * list.count
  unfolding start
  start_front = refl

  start_next : (k : ℕ) → start (suc k) ≡ start k + events_of s (list.at k)
  unfolding start
  start_next k = refl

  rank_below : (k e : ℕ) → e < s.events → (s.event e).job ≡ list.at k → rank s e < events_of s (list.at k)
  unfolding rank events_of
  rank_below k e eIn q =
      rw q (count_at (λ d. eqb (s.event d).job (list.at k)) e s.events eIn (eq-eqb _ _ q))

  -- of one job, one event has a rank
  one_rank : (e d : ℕ) → (s.event e).job ≡ (s.event d).job → rank s e ≡ rank s d → e ≡ d
  unfolding rank
  one_rank e d q h =
      dite (dec_lt e d)
      (λ l. absurd (omega (arith, rw q at h, count_at (λ i. eqb (s.event i).job (s.event d).job) e d l (eq-eqb _ _ q))))
      (λ g.
      dite (dec_lt d e)
      (λ l. absurd (omega (arith, rw q at h, count_at (λ i. eqb (s.event i).job (s.event d).job) d e l (eq-eqb (s.event d).job _ refl))))
      (λ g'. omega arith))

  -- one event stands at a word
  stands_once
      : (q k e i d : ℕ) → e < s.events → Stands q k e → d < s.events → Stands q i d → e ≡ d
  unfolding Stands
  stands_once q k e i d eIn (job, at) dIn (job', at') =
      let r = rank_below k e eIn job in
      let r' = rank_below i d dIn job' in
      dite (dec_lt k i) (λ l. absurd (omega (arith, start_next k, start_up (suc k) i l)))
      (λ g.
      dite (dec_lt i k) (λ l. absurd (omega (arith, start_next i, start_up (suc i) k l)))
      (λ g'.
      let same : k ≡ i = omega arith in
      one_rank e d (job ∙ ap list.at same ∙ sym job') (omega (arith, ap start same))))

  tick_word_lem : (k e : ℕ) → k < list.count → e < s.events → (s.event e).job ≡ list.at k → tick_word (start k + rank s e) ≡ t e
  unfolding tick_word Standing Stands None
  tick_word_lem k e kIn eIn job = go (stood (start k + rank s e))
    where
      go
          : (r : ((i : ℕ) × (i < list.count) × Standing (start k + rank s e) i) ⊎ None (Standing (start k + rank s e)) list.count)
          → ⊎_elim (λ r. t r.2.0) (λ g. 0) r ≡ t e
      go (inl (i, iIn, (d, dIn, there))) =
          ap t (stands_once (start k + rank s e) i d k e dIn there eIn (job, refl))
      go (inr g) = absurd (g k kIn (e, eIn, (job, refl)))

  word_head : (q : ℕ) → q < 2 → word q ≡ head_word q
  unfolding word
  word_head q h = if_pos (dec_lt q 2) h _ _

  word_entry : (r : ℕ) → r < 2 * list.count → word (2 + r) ≡ entry_word r
  unfolding word
  word_entry r h =
      let back : 2 + r - 2 ≡ r = omega arith in
      if_neg (dec_lt (2 + r) 2) (λ l. omega arith) _ _
      ∙ if_pos (dec_lt (2 + r) (start 0)) (omega (arith, start_front)) _ _
      ∙ ap entry_word back

  word_tick : (q : ℕ) → start 0 ≤ q → word q ≡ tick_word q
  unfolding word
  word_tick q h =
      if_neg (dec_lt q 2) (λ l. omega (arith, start_front)) _ _ ∙ if_neg (dec_lt q (start 0)) (λ l. omega arith) _ _

  word_code : (k : ℕ) → k < list.count → word (2 + 2 * k) ≡ s.code (list.at k)
  unfolding entry_word
  word_code k h =
      let half : 2 * k / 2 ≡ k = omega arith in
      word_entry (2 * k) (omega arith)
      ∙ if_pos (ℕ_discrete (2 * k % 2) 0) (omega arith) _ _
      ∙ ap (λ i. s.code (list.at i)) half

  word_place : (k : ℕ) → k < list.count → word (3 + 2 * k) ≡ 2 * start k
  unfolding entry_word
  word_place k h =
      let after : 3 + 2 * k ≡ 2 + (2 * k + 1) = omega arith in
      let half : (2 * k + 1) / 2 ≡ k = omega arith in
      ap word after
      ∙ word_entry (2 * k + 1) (omega arith)
      ∙ if_neg (ℕ_discrete ((2 * k + 1) % 2) 0) (λ q. omega arith) _ _
      ∙ ap (λ i. 2 * start i) half

  -- ---- the list

  module _
      (ok : Formed s)
      (codes : (j : ℕ) → j < s.jobs → s.code j < pair_values)
      (ticks : (e : ℕ) → e < s.events → WantedJob s (s.event e).job → t e < pair_values)
    where
      read : (q v : ℕ) → q < start list.count → word q ≡ v → v < pair_values → two built (2 * q) ≡ v
      unfolding built
      read q v h e small = words_two word (start list.count) q h (omega arith) ∙ e

      front : start 0 ≤ start list.count
      front = start_up 0 list.count (omega arith)

      few : list.count ≤ s.jobs
      few = up_size list.at list.count list.rising s.jobs list.inside

      built_count : instances built ≡ list.count
      unfolding instances max_jobs head_word
      built_count =
          read 1 list.count (omega (arith, front, start_front)) (word_head 1 (omega arith)) (omega (arith, few, ok.jobs))

      built_code : (k : ℕ) → k < list.count → code_of built k ≡ s.code (list.at k)
      unfolding code_of
      built_code k h =
          let place : 4 + 4 * k ≡ 2 * (2 + 2 * k) = omega arith in
          ap (two built) place
          ∙ read (2 + 2 * k) (s.code (list.at k)) (omega (arith, front, start_front)) (word_code k h)
          (codes (list.at k) (list.inside k h))

      built_job : (k : ℕ) → k < list.count → job_of s built k ≡ list.at k
      built_job k h = job_of_lem s built ok k (list.at k) (list.inside k h) (built_code k h)

      built_body : (k : ℕ) → k ≤ list.count → body_of s built k ≡ 2 * start k
      unfolding body_of
      built_body zero h = omega (arith, built_count, start_front)
      built_body (suc k) h =
          omega (arith, built_body k (omega arith), start_next k, ap (events_of s) (built_job k (omega arith)))

      start_few : (k : ℕ) → k ≤ list.count → 2 * start k < pair_values
      unfolding max_jobs max_events
      start_few k h =
          omega (
            arith,
            few_times s built list.count list.at list.rising list.inside built_job k h,
            built_body k h,
            built_body 0 (omega arith),
            start_front,
            few,
            ok.jobs,
            ok.events,
          )

      built_place : (k : ℕ) → k < list.count → place_of built k ≡ body_of s built k
      unfolding place_of
      built_place k h =
          let place : 6 + 4 * k ≡ 2 * (3 + 2 * k) = omega arith in
          ap (two built) place
          ∙ read (3 + 2 * k) (2 * start k) (omega (arith, front, start_front)) (word_place k h) (start_few k (omega arith))
          ∙ sym (built_body k (omega arith))

      built_tick
          : (k e : ℕ)
          → k < list.count
          → e < s.events
          → (s.event e).job ≡ list.at k
          → two built (body_of s built k + 2 * rank s e) ≡ t e
      built_tick k e h eIn job =
          let place : body_of s built k + 2 * rank s e ≡ 2 * (start k + rank s e) = omega (arith, built_body k (omega arith)) in
          let inside : start k + rank s e < start list.count =
          omega (arith, rank_below k e eIn job, start_next k, start_up (suc k) list.count h)
          in
          ap (two built) place
          ∙ read (start k + rank s e) (t e) inside
          (word_tick (start k + rank s e) (omega (arith, start_up 0 k (omega arith))) ∙ tick_word_lem k e h eIn job)
          (ticks e eIn (rw job (list.has k h)))

      pub built_written : Written s list.count list.at t built
      unfolding built head_word
      built_written =
          let edition : word 0 ≡ 1 = word_head 0 (omega arith) in
          let size = start list.count in
          let some : 0 < size = omega (arith, front, start_front) in
          record {
            bytes = words_bytes word size;
            edition = omega (arith, words_low word size 0 some);
            reserved = omega (arith, words_high word size 0 some);
            count = built_count;
            codes = built_code;
            places = built_place;
            ticks = built_tick;
            ends = words_length word size ∙ sym (built_body list.count (omega arith));
          }
