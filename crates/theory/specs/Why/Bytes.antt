-- The bytes of a well-formed list as facts, and that a sheet has one least list at most.
use Prim.Native.Nat.{ℕ, zero, suc, ◌+◌, ◌-◌, ◌*◌, ◌/◌, ◌≤◌, ◌<◌}
use Rattle.std.specs.Prelude.{◌≡◌, ◌⊎◌, ◌&&◌, List, ltb, length, get_or}
use Rattle.std.proofs.Math.Path.{sym, ap}
use Rattle.std.proofs.Common.{◌∙◌, inl, inr, ⊎_elim, ext_get_or}
use Rattle.std.proofs.Math.Logic.{dite}
use Rattle.std.proofs.Math.Bool.{true}
use native.Mathlib.Omega.{arith}
use Rattle.std.proofs.Math.Decide.{dec_le, dec_lt, ℕ_discrete}
use Rattle.std.proofs.Math.Dec.{leb, eqb}
use borrow.Author.Tests.{leb-true, ltb-true, eqb-true, eq-eqb, le-leb, lt-ltb}
use Rattle.rules.specs.Count.{every, byte, two}
use Rattle.rules.specs.Sheet.{Sheet}
use Rattle.rules.specs.RunList.{max_instances, max_times, events_of, rank, instances, code_of, place_of, job_of, body_of, entry_fits, list_ok, plan_of}
use Rattle.rules.specs.Wanted.{LeastList}
use Rattle.laws.specs.Limits.{AllBytes}
use Rattle.laws.specs.Bools.{and_get, and_put}
use Rattle.laws.specs.Places.{every_get, every_put}
use Rattle.laws.specs.Rise.{up_same, up_equal}
use Rattle.laws.specs.Counts.{count_find}
use Rattle.laws.specs.First.{first_get, first_of}
use Rattle.laws.specs.Formed.{Formed}
use Rattle.theory.specs.Why.Least.{least_tick_unique}

-- ---- the form of a list

pub record ListFormed (s : Sheet) (l : List ℕ) : Type 0 where
  pub edition : byte l 0 ≡ 1
  pub reserved : byte l 1 ≡ 0
  pub few : instances l ≤ max_instances
  pub job_in : (k : ℕ) → k < instances l → job_of s l k < s.jobs
  pub place : (k : ℕ) → k < instances l → place_of l k ≡ body_of s l k
  pub times : body_of s l (instances l) ≤ body_of s l 0 + 2 * max_times
  pub ends : body_of s l (instances l) ≡ length l

module _ (s : Sheet) (l : List ℕ) where
  pub list_formed : list_ok s l ≡ true → ListFormed s l
  unfolding list_ok entry_fits
  list_formed ok =
      let a = eqb (byte l 0) 1 in
      let b = eqb (byte l 1) 0 in
      let c = leb (instances l) max_instances in
      let d = every (entry_fits s l) (instances l) in
      let e = leb (body_of s l (instances l)) (body_of s l 0 + 2 * max_times) in
      let f = eqb (body_of s l (instances l)) (length l) in
      let h₅ = and_get (a && b && c && d && e) f ok in
      let h₄ = and_get (a && b && c && d) e h₅.0 in
      let h₃ = and_get (a && b && c) d h₄.0 in
      let h₂ = and_get (a && b) c h₃.0 in
      let h₁ = and_get a b h₂.0 in
      record {
        edition = eqb-true _ _ h₁.0;
        reserved = eqb-true _ _ h₁.1;
        few = leb-true _ _ h₂.1;
        job_in = λ k kIn. (fits k (every_get (entry_fits s l) (instances l) h₃.1 k kIn)).0;
        place = λ k kIn. (fits k (every_get (entry_fits s l) (instances l) h₃.1 k kIn)).1;
        times = leb-true _ _ h₄.1;
        ends = eqb-true _ _ h₅.1;
      }
    where
      fits : (k : ℕ) → entry_fits s l k ≡ true → (job_of s l k < s.jobs) × (place_of l k ≡ body_of s l k)
      fits k q = let h = and_get (ltb (job_of s l k) s.jobs) _ q in (ltb-true _ _ h.0, eqb-true _ _ h.1)

  pub list_ok_lem : ListFormed s l → list_ok s l ≡ true
  unfolding list_ok entry_fits
  list_ok_lem h =
      and_put
      (and_put
      (and_put
      (and_put (and_put (eq-eqb _ _ h.edition) (eq-eqb _ _ h.reserved)) (le-leb _ _ h.few))
      (every_put (entry_fits s l) (instances l) (λ k kIn. and_put (lt-ltb _ _ (h.job_in k kIn)) (eq-eqb _ _ (h.place k kIn)))))
      (le-leb _ _ h.times))
      (eq-eqb _ _ h.ends)

  -- an entry's code is its job's
  code_of_lem : (k : ℕ) → job_of s l k < s.jobs → code_of l k ≡ s.code (job_of s l k)
  unfolding job_of
  code_of_lem k h = sym (eqb-true _ _ (first_get (λ j. eqb (s.code j) (code_of l k)) s.jobs h))

  -- and its job is the one with its code
  pub job_of_lem : Formed s → (k j : ℕ) → j < s.jobs → code_of l k ≡ s.code j → job_of s l k ≡ j
  unfolding job_of
  job_of_lem ok k j h q =
      first_of (λ i. eqb (s.code i) (code_of l k)) s.jobs j h (eq-eqb _ _ (sym q))
      (λ i iIn e. up_same s.code s.jobs ok.codes i j iIn h (eqb-true _ _ e ∙ q))

-- ---- one least list

-- a two-byte number has its bytes
two_bytes
    : (l m : List ℕ) (a : ℕ)
    → AllBytes l
    → AllBytes m
    → two l a ≡ two m a
    → (byte l a ≡ byte m a) × (byte l (a + 1) ≡ byte m (a + 1))
unfolding two
two_bytes l m a small small' q =
    let b = small a in
    let c = small' a in
    (omega arith, omega arith)

two_same : (l m : List ℕ) (a : ℕ) → byte l a ≡ byte m a → byte l (a + 1) ≡ byte m (a + 1) → two l a ≡ two m a
unfolding two
two_same l m a p q = omega arith

-- two lists of bytes with the same two-byte numbers at the even places are equal
same_words
    : (l m : List ℕ)
    → AllBytes l
    → AllBytes m
    → length l ≡ length m
    → ((q : ℕ) → 2 * q < length l → two l (2 * q) ≡ two m (2 * q))
    → l ≡ m
unfolding byte
same_words l m small small' same words = ext_get_or 0 l m same place
  where
    place : (i : ℕ) → i < length l → get_or l i 0 ≡ get_or m i 0
    place i iIn =
        let h = two_bytes l m (2 * (i / 2)) small small' (words (i / 2) (omega arith)) in
        ⊎_elim (λ e. rw e h.0) (λ o. rw o h.1) (parity i)
      where
        parity : (i : ℕ) → (i ≡ 2 * (i / 2)) ⊎ (i ≡ 2 * (i / 2) + 1)
        parity i = dite (ℕ_discrete i (2 * (i / 2))) (λ e. inl e) (λ g. inr (omega arith))

-- an event of job j that has r events of its job before it
rank_find : (s : Sheet) (j r : ℕ) → r < events_of s j → (e : ℕ) × (e < s.events) × ((s.event e).job ≡ j) × (rank s e ≡ r)
unfolding events_of rank
rank_find s j r h =
    let (e, eIn, q, c) = count_find (λ d. eqb (s.event d).job j) s.events r h in
    let job : (s.event e).job ≡ j = eqb-true _ _ q in
    (e, eIn, job, rw job c)

-- which tick of which body stands at an even place
body_find
    : (s : Sheet) (l : List ℕ) (n q : ℕ)
    → body_of s l 0 ≤ 2 * q
    → 2 * q < body_of s l n
    → (k : ℕ) × (k < n) × (e : ℕ) × (e < s.events) × ((s.event e).job ≡ job_of s l k) × (2 * q ≡ body_of s l k + 2 * rank s e)
unfolding body_of
body_find s l zero q from to = absurd (omega arith)
body_find s l (suc n) q from to =
    dite (dec_lt (2 * q) (body_of s l n))
    (λ h. let (k, kIn, e, eIn, job, at) = body_find s l n q from h in (k, omega arith, e, eIn, job, at))
    (λ g.
    let (h, half) = halved n in
    let (e, eIn, job, at) = rank_find s (job_of s l n) (q - h) (omega arith) in
    (n, omega arith, e, eIn, job, omega arith))
  where
    halved : (n : ℕ) → (h : ℕ) × (body_of s l n ≡ 2 * h)
    halved zero = (2 + 2 * instances l, omega arith)
    halved (suc n) = let (h, q) = halved n in (h + events_of s (job_of s l n), omega arith)

module _ {s : Sheet} {l m : List ℕ} (a : LeastList s l) (b : LeastList s m) where
  same_entry : (i : ℕ) → i < instances l → (i < instances m) × (job_of s m i ≡ job_of s l i)
  unfolding plan_of
  same_entry i iIn =
      let (k, kIn, q) = b.whole (job_of s l i) (a.wanted i iIn) in
      let same : i ≡ k =
      up_equal (λ i. s.code (job_of s l i)) (λ k. s.code (job_of s m k)) (instances l) (instances m) a.rising b.rising
      (λ i iIn. let (k, kIn, q) = b.whole (job_of s l i) (a.wanted i iIn) in (k, kIn, ap s.code q))
      (λ k kIn. let (i, iIn, q) = a.whole (job_of s m k) (b.wanted k kIn) in (i, iIn, ap s.code q))
      i k iIn kIn (ap s.code q)
      in
      (omega arith, ap (job_of s m) same ∙ q)

  no_more : instances l ≤ instances m
  no_more = dite (dec_le (instances l) (instances m)) (λ h. h) (λ g. absurd (omega (arith, (same_entry (instances m) (omega arith)).0)))

module _ {s : Sheet} {l m : List ℕ} (a : LeastList s l) (b : LeastList s m) where
  same_count : instances l ≡ instances m
  same_count = omega (arith, no_more a b, no_more b a)

  same_body : (k : ℕ) → k ≤ instances l → body_of s l k ≡ body_of s m k
  unfolding body_of
  same_body zero h = omega (arith, same_count)
  same_body (suc k) h = rw (same_body k (omega arith), (same_entry a b k h).1)

  form : ListFormed s l
  form = list_formed s l a.formed

  form' : ListFormed s m
  form' = list_formed s m b.formed

  same_code : (k : ℕ) → k < instances l → code_of l k ≡ code_of m k
  same_code k h =
      let (h', job) = same_entry a b k h in
      code_of_lem s l k (form.job_in k h) ∙ ap s.code (sym job) ∙ sym (code_of_lem s m k (form'.job_in k h'))

  same_place : (k : ℕ) → k < instances l → place_of l k ≡ place_of m k
  same_place k h = form.place k h ∙ same_body k (omega arith) ∙ sym (form'.place k (same_entry a b k h).0)

  same_tick
      : (k e : ℕ) → k < instances l → e < s.events → (s.event e).job ≡ job_of s l k
      → two l (body_of s l k + 2 * rank s e) ≡ two m (body_of s m k + 2 * rank s e)
  unfolding plan_of
  same_tick k e h eIn q =
      let (h', job) = same_entry a b k h in
      least_tick_unique (a.ticks k e h eIn q) (b.ticks k e h' eIn (q ∙ sym job))

  same_length : length l ≡ length m
  same_length = sym form.ends ∙ same_body (instances l) (omega arith) ∙ ap (body_of s m) same_count ∙ form'.ends

  -- the same number stands at place x of both
  there : (q x : ℕ) → 2 * q ≡ x → two l x ≡ two m x → two l (2 * q) ≡ two m (2 * q)
  there q x e h = rw e h

  header : (q : ℕ) → q < 2 → two l (2 * q) ≡ two m (2 * q)
  unfolding instances
  header zero h = two_same l m 0 (form.edition ∙ sym form'.edition) (form.reserved ∙ sym form'.reserved)
  header (suc zero) h = same_count
  header (suc (suc q)) h = absurd (omega arith)

  entry : (q : ℕ) → 2 ≤ q → 2 * q < 4 + 4 * instances l → two l (2 * q) ≡ two m (2 * q)
  unfolding code_of place_of
  entry q from to =
      let k = (q - 2) / 2 in
      dite (ℕ_discrete q (2 + 2 * k)) (λ e. there q (4 + 4 * k) (omega arith) (same_code k (omega arith)))
      (λ g. there q (6 + 4 * k) (omega arith) (same_place k (omega arith)))

  body : (q : ℕ) → 4 + 4 * instances l ≤ 2 * q → 2 * q < length l → two l (2 * q) ≡ two m (2 * q)
  unfolding body_of
  body q from to =
      let (k, kIn, e, eIn, job, at) = body_find s l (instances l) q from (omega (arith, form.ends)) in
      ap (two l) at ∙ same_tick k e kIn eIn job ∙ ap (two m) (omega (arith, same_body k (omega arith)))

  words : (q : ℕ) → 2 * q < length l → two l (2 * q) ≡ two m (2 * q)
  words q h =
      dite (dec_lt q 2) (header q)
      (λ g. dite (dec_lt (2 * q) (4 + 4 * instances l)) (entry q (omega arith)) (λ c. body q (omega arith) h))

  pub least_list_unique : l ≡ m
  least_list_unique = same_words l m a.bytes b.bytes same_length words
