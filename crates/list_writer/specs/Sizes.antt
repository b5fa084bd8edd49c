-- How many bytes the parts of the list have: 4, 4 for each entry, 2 for each event of a marked job.
use Prim.Native.Nat.{ℕ, zero, suc, ◌+◌, ◌*◌, ◌≤◌}
use native.Mathlib.Omega.{arith}
use Rattle.std.specs.Prelude.{◌≡◌, Bool, true, ◌++◌}
use Rattle.std.proofs.Math.Path.{refl, ap}
use Rattle.std.proofs.Common.{◌∙◌}
use Rattle.std.proofs.Math.Decide.{dec_lt, ℕ_discrete}
use Rattle.std.proofs.Math.Logic.{⊎_elim, dite}
use Rattle.std.proofs.Math.Bool.{false, cond}
use Rattle.std.proofs.Math.ListN.{length, length-append}
use Rattle.std.proofs.Math.Dec.{eqb, ltb}
use borrow.Author.Tests.{eq-eqb, ne_eqb, lt-ltb, le-ltb}
use Rattle.rules.specs.Count.{count, sum}
use Rattle.rules.specs.Sheet.{Sheet}
use Rattle.rules.specs.RunList.{events_of}
use Rattle.laws.specs.Bools.{decided}
use Rattle.laws.specs.Counts.{count_le, count_add}
use Rattle.byte_writer.specs.Bytes.{pair, joined}
use Rattle.list_writer.specs.ListBytes.{head_size, entry_size, time_size, times_to, body_at}
use Rattle.list_writer.specs.ListBytes.{head_bytes, entry_bytes, tick_bytes, body_bytes, entries_of, bodies_of, list_bytes}
use Rattle.byte_writer.specs.Joined.{pair_length, when_length, when_yes, when_no, joined_length, sum_count, sum_up}

pub head_length : (n : ℕ) → length (head_bytes n) ≡ head_size
unfolding head_bytes pair
head_length n = refl

module _ (s : Sheet) (m : ℕ → Bool) where
  pub times_none : times_to s m 0 ≡ 0
  unfolding times_to sum
  times_none = refl

  pub times_yes : (j : ℕ) → m j ≡ true → times_to s m (suc j) ≡ times_to s m j + events_of s j
  unfolding times_to sum
  times_yes j h = rw h refl

  pub times_no : (j : ℕ) → m j ≡ false → times_to s m (suc j) ≡ times_to s m j
  unfolding times_to sum
  times_no j h = rw h (omega arith)

  pub times_up : (i j : ℕ) → i ≤ j → times_to s m i ≤ times_to s m j
  unfolding times_to
  times_up i j h = sum_up (λ k. cond (m k) (events_of s k) 0) i j h

  -- the events of the jobs below j are no more than the sheet's
  times_below : (j : ℕ) → times_to s m j ≤ count (λ e. ltb (s.event e).job j) s.events
  unfolding events_of
  times_below zero = omega (arith, times_none)
  times_below (suc j) =
      let before = times_below j in
      let here =
      count_add (λ e. eqb (s.event e).job j) (λ e. ltb (s.event e).job j) (λ e. ltb (s.event e).job (suc j)) s.events
      (λ e. each (s.event e).job) in
      ⊎_elim (λ h. omega (arith, times_yes j h)) (λ h. omega (arith, times_no j h)) (decided (m j))
    where
      each : (x : ℕ) → cond (eqb x j) 1 0 + cond (ltb x j) 1 0 ≤ cond (ltb x (suc j)) 1 0
      each x =
          dite (ℕ_discrete x j)
          (λ q. rw (eq-eqb x j q, le-ltb x j (omega arith), lt-ltb x (suc j) (omega arith)) (omega arith))
          (λ g.
          dite (dec_lt x j) (λ h. rw (ne_eqb x j g, lt-ltb x j h, lt-ltb x (suc j) (omega arith)) (omega arith))
          (λ h. rw (ne_eqb x j g, le-ltb x j (omega arith)) (omega arith)))

  pub times_few : (j : ℕ) → times_to s m j ≤ s.events
  times_few j = omega (arith, times_below j, count_le (λ e. ltb (s.event e).job j) s.events)

  pub entries_length : (n : ℕ) → length (joined (entry_bytes s m) n) ≡ entry_size * count m n
  unfolding entry_bytes
  entries_length n = joined_length (entry_bytes s m) (λ i. cond (m i) entry_size 0) n each ∙ sum_count m entry_size n
    where
      each : (i : ℕ) → length (entry_bytes s m i) ≡ cond (m i) entry_size 0
      each i =
          let a = pair (s.code i) in
          let c = pair (body_at s m i) in
          let four : length (a ++ c) ≡ entry_size =
          omega (arith, length-append a c, pair_length (s.code i), pair_length (body_at s m i)) in
          when_length (m i) (a ++ c) ∙ ap (λ k. cond (m i) k 0) four

  module _ (t : ℕ → ℕ) where
    pub ticks_length : (j n : ℕ) → length (joined (tick_bytes s t j) n) ≡ time_size * count (λ e. eqb (s.event e).job j) n
    unfolding tick_bytes
    ticks_length j n =
        joined_length (tick_bytes s t j) (λ e. cond (eqb (s.event e).job j) 2 0) n
        (λ e. when_length (eqb (s.event e).job j) (pair (t e)) ∙ ap (λ k. cond (eqb (s.event e).job j) k 0) (pair_length (t e)))
        ∙ sum_count (λ e. eqb (s.event e).job j) 2 n

    pub body_length : (j : ℕ) → m j ≡ true → length (body_bytes s m t j) ≡ time_size * events_of s j
    unfolding body_bytes events_of
    body_length j h = rw (when_yes (m j) (joined (tick_bytes s t j) s.events) h) (ticks_length j s.events)

    pub bodies_length : (n : ℕ) → length (joined (body_bytes s m t) n) ≡ time_size * times_to s m n
    unfolding joined body_bytes
    bodies_length zero = omega (arith, times_none)
    bodies_length (suc n) =
        let before = bodies_length n in
        let here = length-append (joined (body_bytes s m t) n) (body_bytes s m t n) in
        ⊎_elim (λ h. omega (arith, times_yes n h, body_length n h))
        (λ h. omega (arith, times_no n h, none n h)) (decided (m n))
      where
        none : (j : ℕ) → m j ≡ false → length (body_bytes s m t j) ≡ 0
        none j h = rw (when_no (m j) (joined (tick_bytes s t j) s.events) h) refl

    pub front_length : length (head_bytes (count m s.jobs) ++ entries_of s m) ≡ head_size + entry_size * count m s.jobs
    front_length =
        omega (
          arith,
          length-append (head_bytes (count m s.jobs)) (entries_of s m),
          head_length (count m s.jobs),
          entries_length s.jobs,
        )

    pub list_length : length (list_bytes s m t) ≡ body_at s m s.jobs
    unfolding list_bytes body_at
    list_length =
        omega (
          arith,
          length-append (head_bytes (count m s.jobs) ++ entries_of s m) (bodies_of s m t),
          front_length,
          bodies_length s.jobs,
        )
