-- The list's bytes are what theory calls written: of the wanted jobs and a least solution, they are the least list.
use Prim.Native.Nat.{ℕ, zero, suc, ◌+◌, ◌*◌, ◌≤◌, ◌<◌}
use native.Mathlib.Omega.{arith}
use Rattle.std.specs.Prelude.{◌≡◌, true, length}
use Rattle.std.proofs.Math.Path.{refl, ap}
use Rattle.std.proofs.Common.{sym, ◌∙◌, length-append, eq-eqb}
use Rattle.std.proofs.Math.Logic.{⊎_elim}
use Rattle.std.proofs.Math.Bool.{Bool}
use mathlib.Core.List.{List, [], ◌∷◌, ◌++◌}
use Rattle.std.proofs.Math.Dec.{eqb}
use Rattle.rules.specs.Count.{count, byte, two}
use Rattle.rules.specs.Sheet.{Sheet, max_jobs, max_events, max_horizon, well_formed}
use Rattle.rules.specs.RunList.{events_of, rank, instances, code_of, place_of, body_of}
use Rattle.rules.specs.Plan.{latest}
use Rattle.rules.specs.Wanted.{WantedJob, LeastList}
use Rattle.rules.specs.Class.{Inside}
use Rattle.laws.specs.Bools.{decided}
use Rattle.laws.specs.Counts.{count_at, count_le, count_yes, count_no}
use Rattle.laws.specs.Formed.{Formed, formed}
use Rattle.laws.specs.Limits.{AllBytes}
use Rattle.theory.specs.Statements.{LeastSolution}
use Rattle.theory.specs.Why.Bytes.{job_of_lem}
use Rattle.theory.specs.Computed.Written.{Written, written_least_list}
use Rattle.sheet.specs.View.{meaning}
use Rattle.sheet.specs.declared.Sheet as view
use Rattle.byte_writer.specs.Bytes.{pair_limit, pair, joined}
use Rattle.list_writer.specs.ListBytes.{head_size, entry_size, time_size, times_to, body_at}
use Rattle.list_writer.specs.ListBytes.{head_bytes, entry_bytes, tick_bytes, body_bytes, entries_of, bodies_of, list_bytes}
use Rattle.byte_writer.specs.Joined.{bytes_pair, bytes_append, bytes_when, bytes_joined}
use Rattle.byte_writer.specs.Joined.{pair_length, when_yes, two_pair, two_left, two_right, two_joined}
use Rattle.list_writer.specs.Places.{nth, place, listed}
use Rattle.list_writer.specs.Sizes.{head_length, times_none, times_yes, times_no, times_few, entries_length}
use Rattle.list_writer.specs.Sizes.{ticks_length, body_length, bodies_length, front_length, list_length}

module _ (s : Sheet) (m : ℕ → Bool) (t : ℕ → ℕ) where
  -- ---- each is a byte

  list_bytes_lem : AllBytes (list_bytes s m t)
  unfolding list_bytes head_bytes entry_bytes body_bytes tick_bytes byte
  list_bytes_lem =
      bytes_append (head_bytes (count m s.jobs) ++ entries_of s m) (bodies_of s m t)
      (bytes_append (head_bytes (count m s.jobs)) (entries_of s m) head
      (bytes_joined (entry_bytes s m) s.jobs
      (λ j. bytes_when (m j) (pair (s.code j) ++ pair (body_at s m j))
      (bytes_append (pair (s.code j)) (pair (body_at s m j)) (bytes_pair (s.code j)) (bytes_pair (body_at s m j))))))
      (bytes_joined (body_bytes s m t) s.jobs
      (λ j. bytes_when (m j) (joined (tick_bytes s t j) s.events)
      (bytes_joined (tick_bytes s t j) s.events (λ e. bytes_when (eqb (s.event e).job j) (pair (t e)) (bytes_pair (t e))))))
    where
      head : AllBytes (head_bytes (count m s.jobs))
      head zero = omega arith
      head (suc zero) = omega arith
      head (suc (suc i)) = bytes_pair (count m s.jobs) i

  -- ---- what is read back

  edition : byte (list_bytes s m t) 0 ≡ 1
  unfolding list_bytes head_bytes byte
  edition = refl

  reserved : byte (list_bytes s m t) 1 ≡ 0
  unfolding list_bytes head_bytes byte
  reserved = refl

  -- the bytes of entry j
  entry_at
      : (j i : ℕ)
      → j < s.jobs
      → m j ≡ true
      → i + 1 < entry_size
      → two (list_bytes s m t) (head_size + entry_size * count m j + i) ≡ two (pair (s.code j) ++ pair (body_at s m j)) i
  unfolding list_bytes entry_bytes
  entry_at j i h q l =
      let k = count m s.jobs in
      let e = entries_of s m in
      let up = count_at m j s.jobs h q in
      two_left (head_bytes k ++ e) (bodies_of s m t) (head_size + entry_size * count m j + i) (omega (arith, front_length s m t))
      ∙ ap (two (head_bytes k ++ e)) (omega arith)
      ∙ two_right (head_bytes k) e head_size (entry_size * count m j + i) (head_length k)
      ∙ two_joined (entry_bytes s m) s.jobs j (entry_size * count m j) i h (entries_length s m j) (rw own (omega (arith, size)))
      ∙ ap (λ (w : List ℕ). two w i) own
    where
      own : entry_bytes s m j ≡ pair (s.code j) ++ pair (body_at s m j)
      own = when_yes (m j) (pair (s.code j) ++ pair (body_at s m j)) q

      size : length (pair (s.code j) ++ pair (body_at s m j)) ≡ entry_size
      size = omega (arith, length-append (pair (s.code j)) (pair (body_at s m j)), pair_length (s.code j), pair_length (body_at s m j))

  -- the tick of event e of job j
  tick_at_lem
      : (j e : ℕ)
      → j < s.jobs
      → m j ≡ true
      → e < s.events
      → (s.event e).job ≡ j
      → two (list_bytes s m t) (body_at s m j + time_size * rank s e) ≡ two (pair (t e)) 0
  unfolding list_bytes body_at rank events_of body_bytes tick_bytes
  tick_at_lem j e h q l o =
      let k = count m s.jobs in
      let p : ℕ → Bool = λ d. eqb (s.event d).job j in
      rw o
      (ap (two (list_bytes s m t)) (omega arith)
      ∙ two_right (head_bytes k ++ entries_of s m) (bodies_of s m t) (head_size + entry_size * k)
      (time_size * times_to s m j + time_size * count p e) (front_length s m t)
      ∙ two_joined (body_bytes s m t) s.jobs j (time_size * times_to s m j) (time_size * count p e) h (bodies_length s m t j)
      (omega (arith, body_length s m t j q, below))
      ∙ ap (λ (w : List ℕ). two w (time_size * count p e)) body
      ∙ ap (two (joined (tick_bytes s t j) s.events)) (omega arith)
      ∙ two_joined (tick_bytes s t j) s.events e (time_size * count p e) 0 l (ticks_length s m t j e) (rw tick (omega (arith, pair_length (t e))))
      ∙ ap (λ (w : List ℕ). two w 0) tick)
    where
      body : body_bytes s m t j ≡ joined (tick_bytes s t j) s.events
      body = when_yes (m j) (joined (tick_bytes s t j) s.events) q

      tick : tick_bytes s t j e ≡ pair (t e)
      tick = when_yes (eqb (s.event e).job j) (pair (t e)) (eq-eqb _ _ o)

      below : count (λ d. eqb (s.event d).job j) e < events_of s j
      below = count_at (λ d. eqb (s.event d).job j) e s.events l (eq-eqb _ _ o)

  list_count : count m s.jobs < pair_limit → instances (list_bytes s m t) ≡ count m s.jobs
  unfolding instances list_bytes head_bytes
  list_count small =
      let k = count m s.jobs in
      two_left (head_bytes k ++ entries_of s m) (bodies_of s m t) 2 (omega (arith, front_length s m t))
      ∙ two_left (head_bytes k) (entries_of s m) 2 (omega (arith, head_length k))
      ∙ two_right (1 ∷ 0 ∷ []) (pair k) 2 0 refl
      ∙ two_pair k small

-- what reading back asks: what stands in two bytes fits them
pub record PairsHold (s : Sheet) (m : ℕ → Bool) (t : ℕ → ℕ) : Type 0 where
  pub codes : (j : ℕ) → j < s.jobs → s.code j < pair_limit
  pub ticks : (e : ℕ) → e < s.events → m (s.event e).job ≡ true → t e < pair_limit

module _ (s : Sheet) (m : ℕ → Bool) (t : ℕ → ℕ) (ok : Formed s) (small : PairsHold s m t) where
  few_jobs : count m s.jobs ≤ max_jobs
  few_jobs = omega (arith, count_le m s.jobs, ok.jobs)

  near_count : count m s.jobs < pair_limit
  unfolding max_jobs
  near_count = omega (arith, few_jobs)

  near : (j : ℕ) → body_at s m j < pair_limit
  unfolding body_at max_jobs max_events
  near j = omega (arith, few_jobs, ok.events, times_few s m j)

  entry_code : (j : ℕ) → j < s.jobs → m j ≡ true → code_of (list_bytes s m t) (count m j) ≡ s.code j
  unfolding code_of
  entry_code j h q =
      ap (two (list_bytes s m t)) (omega arith)
      ∙ entry_at s m t j 0 h q (omega arith)
      ∙ two_left (pair (s.code j)) (pair (body_at s m j)) 0 (omega (arith, pair_length (s.code j)))
      ∙ two_pair (s.code j) (small.codes j h)

  entry_place : (j : ℕ) → j < s.jobs → m j ≡ true → place_of (list_bytes s m t) (count m j) ≡ body_at s m j
  unfolding place_of
  entry_place j h q =
      ap (two (list_bytes s m t)) (omega arith)
      ∙ entry_at s m t j 2 h q (omega arith)
      ∙ two_right (pair (s.code j)) (pair (body_at s m j)) 2 0 (pair_length (s.code j))
      ∙ two_pair (body_at s m j) (near j)

  -- the body of the marked job j stands where its entry says
  body_of_lem : (j : ℕ) → j ≤ s.jobs → body_of s (list_bytes s m t) (count m j) ≡ body_at s m j
  unfolding body_of body_at count
  body_of_lem zero h = omega (arith, list_count s m t near_count, times_none s m)
  body_of_lem (suc j) h =
      let l = list_bytes s m t in
      let before = body_of_lem j (omega arith) in
      ⊎_elim
      (λ q.
      let job = job_of_lem s l ok (count m j) j h (entry_code j h q) in
      ap (body_of s l) (count_yes m j q) ∙ omega (arith, ap (events_of s) job, times_yes s m j q))
      (λ q. ap (body_of s l) (count_no m j q) ∙ omega (arith, times_no s m j q)) (decided (m j))

  written : Written s (count m s.jobs) (nth m s.jobs) t (list_bytes s m t)
  written =
      let n = s.jobs in
      record {
        bytes = list_bytes_lem s m t;
        edition = edition s m t;
        reserved = reserved s m t;
        count = list_count s m t near_count;
        codes = λ k h.
            let p = place m n k h in
            ap (code_of (list_bytes s m t)) (sym p.number) ∙ entry_code p.job p.inside p.has ∙ ap s.code (sym p.at);
        places = λ k h.
            let p = place m n k h in
            ap (place_of (list_bytes s m t)) (sym p.number)
            ∙ entry_place p.job p.inside p.has
            ∙ sym (body_of_lem p.job (omega (arith, p.inside)))
            ∙ ap (body_of s (list_bytes s m t)) p.number;
        ticks = λ k e h l o.
            let p = place m n k h in
            let q : (s.event e).job ≡ p.job = o ∙ p.at in
            ap (λ (i : ℕ). two (list_bytes s m t) (body_of s (list_bytes s m t) i + time_size * rank s e)) (sym p.number)
            ∙ ap (λ (i : ℕ). two (list_bytes s m t) (i + time_size * rank s e)) (body_of_lem p.job (omega (arith, p.inside)))
            ∙ tick_at_lem s m t p.job e p.inside p.has l q
            ∙ two_pair (t e) (small.ticks e l (ap m q ∙ p.has));
        ends = list_length s m t ∙ sym (body_of_lem n (omega arith));
      }

-- the marked jobs are the wanted ones, and t is a least solution: the bytes are the least list
pub least_list
    : {s : Sheet} {m : ℕ → Bool} {t : ℕ → ℕ}
    → well_formed s ≡ true
    → ((j : ℕ) → s.code j < pair_limit)
    → ((j : ℕ) → m j ≡ true → WantedJob s j)
    → ((j : ℕ) → WantedJob s j → m j ≡ true)
    → Inside s
    → LeastSolution s t
    → LeastList s (list_bytes s m t)
unfolding max_horizon latest listed
least_list {s} {m} {t} ok codes to from inside best =
    let small : PairsHold s m t = record {
      codes = λ j h. codes j;
      ticks = λ e h q.
          omega (arith, (best.solution.rules.own (s.event e).job (to (s.event e).job q)).late e h refl, (formed s ok).horizon);
    } in
    written_least_list (formed s ok) (listed m s.jobs to from) (written s m t (formed s ok) small) inside best

-- a sheet's codes stand in two bytes
pub sheet_codes : (v : view.Sheet) (b : List ℕ) → AllBytes b → (j : ℕ) → (meaning v b).code j < pair_limit
unfolding meaning two
sheet_codes v b h j = omega (arith, h (v.jobs_at + v.job_row * j), h (v.jobs_at + v.job_row * j + 1))
