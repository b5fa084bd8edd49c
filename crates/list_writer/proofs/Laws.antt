-- Laws of the writer's functions: the events of a job in its span, and start, step and end of each loop's invariant.
use Prim.Native.Nat.{ℕ, zero, suc, ◌+◌, ◌-◌, ◌*◌, ◌≤◌, ◌<◌}
use native.Mathlib.Omega.{arith}
use native.Mathlib.Numerals.{add-one}
use native.Mathlib.Nat.{add-zero, add-suc, zero-add}
use native.Mathlib.Decide.{dec_lt}
use mathlib.Core.Path.{◌≡◌, refl, sym, ap, ap₂, ◌∙◌}
use mathlib.Core.Logic.{dite, ⊎_elim}
use Rattle.std.specs.List.{count_by}
use Rattle.std.proofs.lemmas.List.Sums.{count_by_more_yes, count_by_more_no}
use Rattle.laws.specs.Bools.{decided}
use mathlib.Core.Bool.{Bool, true, false}
use mathlib.Core.List.{List, [], ◌++◌, append-nil}
use lib.ListN.{length, get_or, take}
use lib.Dec.{eqb}
use borrow.Author.Tests.{eq-eqb, ne_eqb}
use Rattle.rules.specs.Count.{count}
use Rattle.rules.specs.Sheet.{Sheet, max_jobs, max_events}
use Rattle.rules.specs.RunList.{events_of}
use Rattle.laws.specs.Counts.{count_le, count_zero, count_at, count_yes, count_no}
use Rattle.index.specs.Laws.{span_events}
use Rattle.index.specs.View.{ByJobOf}
use Rattle.byte_writer.specs.Bytes.{pair, joined}
use Rattle.list_writer.specs.ListBytes.{times_to, body_at, head_bytes, entry_bytes, tick_bytes, body_bytes, marked}
use Rattle.byte_writer.specs.Bytes.{pair_limit}
use Rattle.list_writer.specs.ListBytes.{head_size, entry_size, time_size, entries_of, bodies_of, ticks_from, list_bytes, max_length}
use Rattle.byte_writer.specs.Fill.{laid, Laid-then, laid_length, laid_front}
use Rattle.byte_writer.specs.Fill.{Filling, filling_start, Filling-step, filling_skip, filling_end}
use Rattle.byte_writer.specs.Joined.{when_yes, when_no, joined_none}
use Rattle.list_writer.specs.Sizes.{head_length, front_length, times_none, times_yes, times_no, times_up, times_few}
use Rattle.list_writer.specs.Sizes.{entries_length, bodies_length, list_length}
use Rattle.list_writer.specs.View.{JobsCounted, TimesCounted, EntriesFit, BodiesFit, TicksFit, Wrote}
use Rattle.list_writer.specs.Answers.{filled_fits, filled_short}

-- places with no bytes
joined_skip
    : (f : ℕ → List ℕ) (m n : ℕ) → m ≤ n → ((i : ℕ) → m ≤ i → i < n → f i ≡ []) → joined f n ≡ joined f m
unfolding joined
joined_skip f m zero h none = let e : m ≡ 0 = omega arith in rw e refl
joined_skip f m (suc n) h none =
    dite (dec_lt n m) (λ l. let e : m ≡ suc n = omega arith in rw e refl)
    (λ l.
    ap₂ ◌++◌ (joined_skip f m n (omega arith) (λ i a c. none i a (omega arith))) (none n (omega arith) (omega arith))
    ∙ append-nil (joined f m))

-- ---- the events of a job

module _ (s : Sheet) (span : List ℕ) (spans : ByJobOf s span) (j : ℕ) (inside : j < s.jobs) where
  before_span : (e : ℕ) → e < get_or span j 0 → eqb (s.event e).job j ≡ false
  before_span e h =
      ne_eqb _ _
      (λ (q : (s.event e).job ≡ j). omega (arith, spans.from e j (omega (arith, spans.within j (omega arith))) inside q))

  after_span : (e : ℕ) → get_or span (j + 1) 0 ≤ e → e < s.events → eqb (s.event e).job j ≡ false
  after_span e h l = ne_eqb _ _ (λ (q : (s.event e).job ≡ j). omega (arith, spans.to e j l inside q))

  in_span : (e : ℕ) → get_or span j 0 ≤ e → e < get_or span (j + 1) 0 → eqb (s.event e).job j ≡ true
  in_span e h l = eq-eqb _ _ (spans.of_job e j inside h l)

  pub span_small : s.events ≤ max_events → get_or span (j + 1) 0 - get_or span j 0 ≤ max_events
  span_small h = omega (arith, spans.within (j + 1) (omega arith))

  -- they stand there in sheet order
  ticks_none : (t : ℕ → ℕ) → joined (tick_bytes s t j) (get_or span j 0) ≡ []
  unfolding tick_bytes
  ticks_none t =
      joined_skip (tick_bytes s t j) 0 (get_or span j 0) (omega arith) (λ e h l. when_no _ (pair (t e)) (before_span e l))
      ∙ joined_none (tick_bytes s t j)

  ticks_some
      : (t : ℕ → ℕ) (n : ℕ)
      → get_or span j 0 + n ≤ get_or span (j + 1) 0
      → joined (tick_bytes s t j) (get_or span j 0 + n) ≡ joined (ticks_from t (get_or span j 0)) n
  unfolding joined tick_bytes ticks_from
  ticks_some t zero h = rw add-zero (ticks_none t)
  ticks_some t (suc n) h =
      let a = get_or span j 0 in
      rw add-suc
      (ap₂ ◌++◌ (ticks_some t n (omega arith)) (when_yes _ (pair (t (a + n))) (in_span (a + n) (omega arith) (omega arith))))

  span_ticks
      : (t : ℕ → ℕ) (n : ℕ) → n ≡ events_of s j → joined (ticks_from t (get_or span j 0)) n ≡ joined (tick_bytes s t j) s.events
  unfolding tick_bytes
  span_ticks t n q =
      let up = spans.rises j inside in
      let e : get_or span j 0 + n ≡ get_or span (j + 1) 0 = omega (arith, span_events spans j inside) in
      sym (ticks_some t n (omega arith))
      ∙ ap (joined (tick_bytes s t j)) e
      ∙ sym (joined_skip (tick_bytes s t j) (get_or span (j + 1) 0) s.events (spans.within (j + 1) (omega arith))
      (λ d h l. when_no _ (pair (t d)) (after_span d h l)))

-- ---- how many jobs are marked, and how many events they have

-- those that stand for jobs below n
pub counted_to : (marks : List Bool) (n : ℕ) → n ≤ length marks → count_by (λ x. x) (take n marks) ≡ count (marked marks) n
unfolding marked
counted_to marks zero h = sym (count_zero (marked marks))
counted_to marks (suc n) h =
    let before = counted_to marks n (omega arith) in
    ⊎_elim
    (λ (q : get_or marks n false ≡ true). rw add-one at (count_by_more_yes (λ x. x) marks n false (omega arith) q) ∙ omega (arith, before, count_yes (marked marks) n q))
    (λ (q : get_or marks n false ≡ false). rw add-one at (count_by_more_no (λ x. x) marks n false (omega arith) q) ∙ before ∙ sym (count_no (marked marks) n q))
    (decided (get_or marks n false))

pub record Timing (s : Sheet) (m : ℕ → Bool) (n j : ℕ) : Type 0 where
  pub within : j ≤ s.jobs
  pub times : n ≡ times_to s m j
  pub few : n ≤ max_events

module _ {s : Sheet} {m : ℕ → Bool} where
  pub timing_start : Timing s m 0 0
  timing_start = record { within = omega arith; times = omega (arith, times_none s m); few = omega arith }

  module _ {n j : ℕ} (small : s.events ≤ max_events) (h : Timing s m n j) where
    pub timing_yes : (r : ℕ) → j < s.jobs → m j ≡ true → r ≡ events_of s j → Timing s m (n + r) (j + 1)
    timing_yes r l q e =
        let next : n + r ≡ times_to s m (j + 1) = omega (arith, ap (times_to s m) (add-one j), times_yes s m j q, h.times) in
        record { within = omega arith; times = next; few = omega (arith, times_few s m (j + 1)) }

    pub timing_no : j < s.jobs → m j ≡ false → Timing s m n (j + 1)
    timing_no l q =
        record {
          within = omega arith;
          times = omega (arith, ap (times_to s m) (add-one j), times_no s m j q, h.times);
          few = h.few;
        }

    pub timing_end : s.jobs ≤ j → TimesCounted s m n
    timing_end l =
        let e : j ≡ s.jobs = omega (arith, h.within) in record { times = h.times ∙ ap (times_to s m) e; few = h.few }

pub size_is
    : {s : Sheet} {m : ℕ → Bool} {k n : ℕ}
    → JobsCounted s m k
    → TimesCounted s m n
    → (t : ℕ → ℕ)
    → head_size + entry_size * k + time_size * n ≡ length (list_bytes s m t)
unfolding body_at
size_is {s} {m} p q t = omega (arith, list_length s m t, p.number, q.times)

-- ---- the entries

-- no body stands past the longest list
bodies_near
    : (s : Sheet) (m : ℕ → Bool)
    → s.jobs ≤ max_jobs
    → s.events ≤ max_events
    → (j : ℕ) {at : ℕ}
    → at ≡ body_at s m j
    → at ≤ max_length
unfolding body_at
bodies_near s m jobs events j q = omega (arith, q, count_le m s.jobs, times_few s m j)

pub record Entering (s : Sheet) (m : ℕ → Bool) (d out : List ℕ) (at place j : ℕ) : Type 0 where
  pub within : j ≤ s.jobs
  pub here : at ≡ head_size + entry_size * count m j
  pub offset : place ≡ body_at s m j
  pub near_here : at ≤ head_size + entry_size * j
  pub near_offset : place ≤ max_length
  pub filling : Filling d 4 (entry_bytes s m) j out

module _ {s : Sheet} {m : ℕ → Bool} where
  pub entering_start
      : (d : List ℕ) (n : ℕ) → s.jobs ≤ max_jobs → n ≡ count m s.jobs → Entering s m d d head_size (head_size + entry_size * n) 0
  unfolding body_at
  entering_start d n few q =
      record {
        within = omega arith;
        here = omega (arith, count_zero m);
        offset = omega (arith, times_none s m);
        near_here = omega arith;
        near_offset = omega (arith, count_le m s.jobs);
        filling = filling_start d 4 (entry_bytes s m);
      }

  module _ (d : List ℕ) {out : List ℕ} {at place j : ℕ} (h : Entering s m d out at place j) where
    pub entering_room : j < s.jobs → m j ≡ true → head_size + entry_size * count m s.jobs ≤ length d → at + entry_size ≤ length out
    entering_room l q room = omega (arith, h.here, h.filling.long, count_at m j s.jobs l q)

    pub entering_yes
        : {new : List ℕ} {code n : ℕ}
        → j < s.jobs
        → m j ≡ true
        → code ≡ s.code j
        → new ≡ laid out at (pair code ++ pair place)
        → n ≡ events_of s j
        → s.jobs ≤ max_jobs
        → s.events ≤ max_events
        → Entering s m d new (at + entry_size) (place + time_size * n) (j + 1)
    unfolding body_at entry_bytes
    entering_yes {new} {code} {n} l q e next k jobs events =
        let own : entry_bytes s m j ≡ pair code ++ pair place =
        when_yes (m j) (pair (s.code j) ++ pair (body_at s m j)) q
        ∙ ap₂ (λ (a c : ℕ). pair a ++ pair c) (sym e) (sym h.offset) in
        let offset : place + time_size * n ≡ body_at s m (j + 1) = omega (arith, h.offset, ap (times_to s m) (add-one j), times_yes s m j q) in
        record {
          within = omega arith;
          here = omega (arith, h.here, ap (count m) (add-one j), count_yes m j q);
          offset = offset;
          near_here = omega (arith, h.near_here);
          near_offset = bodies_near s m jobs events (j + 1) offset;
          filling =
              Filling-step d head_size (entry_bytes s m) h.filling (entry_size * count m j) (entries_length s m j) own
              (next ∙ ap (λ (i : ℕ). laid out i (pair code ++ pair place)) h.here);
        }

    pub entering_no : j < s.jobs → m j ≡ false → Entering s m d out at place (j + 1)
    unfolding body_at entry_bytes
    entering_no l q =
        record {
          within = omega arith;
          here = omega (arith, h.here, ap (count m) (add-one j), count_no m j q);
          offset = omega (arith, h.offset, ap (times_to s m) (add-one j), times_no s m j q);
          near_here = omega (arith, h.near_here);
          near_offset = omega (arith, h.near_offset);
          filling =
              filling_skip d 4 (entry_bytes s m) h.filling (when_no (m j) (pair (s.code j) ++ pair (body_at s m j)) q);
        }

    pub entering_end : s.jobs ≤ j → out ≡ laid d 4 (entries_of s m)
    entering_end l = filling_end d 4 (entry_bytes s m) h.filling s.jobs (omega (arith, h.within))

-- ---- the bodies

pub record Bodying (s : Sheet) (m : ℕ → Bool) (t : ℕ → ℕ) (d out : List ℕ) (at j : ℕ) : Type 0 where
  pub within : j ≤ s.jobs
  pub here : at ≡ body_at s m j
  pub near : at ≤ max_length
  pub filling : Filling d (body_at s m 0) (body_bytes s m t) j out

module _ {s : Sheet} {m : ℕ → Bool} {t : ℕ → ℕ} where
  pub bodying_start : (d : List ℕ) (at : ℕ) → s.jobs ≤ max_jobs → at ≡ body_at s m 0 → Bodying s m t d d at 0
  unfolding body_at
  bodying_start d at few q =
      record {
        within = omega arith;
        here = q;
        near = omega (arith, count_le m s.jobs, times_none s m);
        filling = filling_start d (body_at s m 0) (body_bytes s m t);
      }

  module _ (d : List ℕ) {out : List ℕ} {at j : ℕ} (h : Bodying s m t d out at j) where
    next : j < s.jobs → m j ≡ true → {n : ℕ} → n ≡ events_of s j → at + time_size * n ≡ body_at s m (j + 1)
    unfolding body_at
    next l q k = omega (arith, h.here, ap (times_to s m) (add-one j), times_yes s m j q)

    -- the body of job j lies in the span, and there is room for it
    pub bodying_room
        : (span : List ℕ) {from n : ℕ}
        → ByJobOf s span
        → from ≡ get_or span j 0
        → s.events ≤ max_events
        → body_at s m s.jobs ≤ length d
        → j < s.jobs
        → m j ≡ true
        → n ≡ events_of s j
        → TicksFit from n at out
    unfolding body_at
    bodying_room span spans first few room l q k =
        record {
          inside = omega (arith, span_events spans j l, spans.rises j l, spans.within (j + 1) (omega arith));
          room = omega (arith, next l q k, h.filling.long, times_up s m (j + 1) s.jobs (omega arith));
        }

    pub bodying_yes
        : (span : List ℕ) {new : List ℕ} {from n : ℕ}
        → ByJobOf s span
        → from ≡ get_or span j 0
        → j < s.jobs
        → m j ≡ true
        → n ≡ events_of s j
        → s.jobs ≤ max_jobs
        → s.events ≤ max_events
        → new ≡ laid out at (joined (ticks_from t from) n)
        → Bodying s m t d new (at + time_size * n) (j + 1)
    unfolding body_at body_bytes
    bodying_yes span {new} {from} {n} spans first l q k jobs events e =
        let w = joined (ticks_from t (get_or span j 0)) n in
        let own : body_bytes s m t j ≡ w =
        when_yes (m j) (joined (tick_bytes s t j) s.events) q ∙ sym (span_ticks s span spans j l t n k) in
        let place : at ≡ body_at s m 0 + time_size * times_to s m j = omega (arith, h.here, times_none s m) in
        record {
          within = omega arith;
          here = next l q k;
          near = bodies_near s m jobs events (j + 1) (next l q k);
          filling =
              Filling-step d (body_at s m 0) (body_bytes s m t) h.filling (time_size * times_to s m j) (bodies_length s m t j) own
              (e ∙ ap₂ (λ (i a : ℕ). laid out i (joined (ticks_from t a) n)) place first);
        }

    pub bodying_no : j < s.jobs → m j ≡ false → Bodying s m t d out at (j + 1)
    unfolding body_at body_bytes
    bodying_no l q =
        record {
          within = omega arith;
          here = omega (arith, h.here, ap (times_to s m) (add-one j), times_no s m j q);
          near = omega (arith, h.near);
          filling =
              filling_skip d (body_at s m 0) (body_bytes s m t) h.filling
              (when_no (m j) (joined (tick_bytes s t j) s.events) q);
        }

    pub bodying_end : {start : ℕ} → start ≡ body_at s m 0 → s.jobs ≤ j → out ≡ laid d start (bodies_of s m t)
    bodying_end q l =
        filling_end d (body_at s m 0) (body_bytes s m t) h.filling s.jobs (omega (arith, h.within))
        ∙ ap (λ (i : ℕ). laid d i (bodies_of s m t)) (sym q)

-- ---- the whole list

-- room for each part in a buffer of k bytes that has room for the list
pub record Room (s : Sheet) (m : ℕ → Bool) (k : ℕ) : Type 0 where
  pub head : head_size ≤ k
  pub entries : head_size + entry_size * count m s.jobs ≤ k
  pub bodies : body_at s m s.jobs ≤ k

pub room : {s : Sheet} {m : ℕ → Bool} {n k : ℕ} → ((t : ℕ → ℕ) → n ≡ length (list_bytes s m t)) → n ≤ k → Room s m k
unfolding body_at
room {s} {m} size fits =
    let e = list_length s m (λ e. 0) in
    let q = size (λ e. 0) in
    record { head = omega arith; entries = omega arith; bodies = omega arith }

-- a buffer into which something was laid has as much room
laid_room
    : {s : Sheet} {m : ℕ → Bool} (d : List ℕ) (i : ℕ) (w : List ℕ) {new : List ℕ}
    → Room s m (length d)
    → new ≡ laid d i w
    → Room s m (length new)
laid_room d i w h e = rw (ap length e, laid_length d i w) h

module _ {s : Sheet} {m : ℕ → Bool} {n : ℕ} (all : JobsCounted s m n) (d : List ℕ)
    (enough : Room s m (length d)) {one : List ℕ} (first : one ≡ laid d 0 (head_bytes n)) where
  pub entries_fit : EntriesFit s m n one
  entries_fit = record { number = all.number; room = (laid_room d 0 (head_bytes n) enough first).entries }

  module _ {two : List ℕ} (second : two ≡ laid one 4 (entries_of s m)) where
    pub bodies_fit : BodiesFit s m (head_size + entry_size * n) two
    unfolding body_at
    bodies_fit =
        record {
          start = omega (arith, all.number, times_none s m);
          room = (laid_room one 4 (entries_of s m) (laid_room d 0 (head_bytes n) enough first) second).bodies;
        }

    -- head, entries and bodies are the list
    pub wrote_list
        : {t : ℕ → ℕ} {new : List ℕ} {size : ℕ}
        → new ≡ laid two (head_size + entry_size * n) (bodies_of s m t)
        → ((u : ℕ → ℕ) → size ≡ length (list_bytes s m u))
        → size ≤ length d
        → ((j : ℕ) → s.code j < pair_limit)
        → Wrote s m t d new size
    unfolding list_bytes
    wrote_list {t} {new} {size} third long fits codes =
        let head = head_bytes (count m s.jobs) in
        let entries = entries_of s m in
        let bodies = bodies_of s m t in
        let first' : one ≡ laid d 0 head = first ∙ ap (λ (k : ℕ). laid d 0 (head_bytes k)) all.number in
        let second' : two ≡ laid d 0 (head ++ entries) =
        Laid-then d head entries 0 4 (head_length (count m s.jobs)) first' second in
        let third' : new ≡ laid d 0 (head ++ entries ++ bodies) =
        Laid-then d (head ++ entries) bodies 0 (head_size + entry_size * n)
        (front_length s m t ∙ ap (λ (k : ℕ). head_size + entry_size * k) (sym all.number))
        second'
        (third ∙ ap (λ (k : ℕ). laid two k bodies) (sym (zero-add (head_size + entry_size * n)))) in
        let less : length (head ++ entries ++ bodies) ≤ length d = omega (arith, long t) in
        record {
          size = long t;
          buffer = third' ∙ laid_front d (head ++ entries ++ bodies) less ∙ sym (filled_fits (head ++ entries ++ bodies) d less);
          codes = codes;
        }

pub Wrote-none
    : (s : Sheet) (m : ℕ → Bool) (t : ℕ → ℕ) (d : List ℕ) {size : ℕ}
    → ((u : ℕ → ℕ) → size ≡ length (list_bytes s m u))
    → length d < size
    → ((j : ℕ) → s.code j < pair_limit)
    → Wrote s m t d d size
Wrote-none s m t d long short codes =
    record {
      size = long t;
      buffer = sym (filled_short (list_bytes s m t) d (omega (arith, long t)));
      codes = codes;
    }
