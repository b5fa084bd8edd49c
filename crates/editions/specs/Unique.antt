-- Rewriting leaves no choice: at most one string of bytes is the sheet of the other edition, and each way has one number, detail and buffer.
use Rattle.std.specs.Prelude.{ℕ, ◌≤◌, ◌<◌, ◌≡◌, refl, ◌≢◌, true, false, cond, List, ◌++◌, length, drop, leb}
use Rattle.std.proofs.Common.{arith, sym, ap, ◌∙◌, inl, inr, le-leb}
use Rattle.std.proofs.lemmas.Bool.{lt-leb}
use Rattle.rules.specs.Sheet.{Sheet, sheet_of, gap_byte, fault_in}
use Rattle.rules.specs.Rewrite.{SaysSame, Edition2Of, Edition1Of, goes_back, ToEdition2, ToEdition1}
use Rattle.laws.specs.Bools.{clash}
use Rattle.sheet_bytes.specs.WrittenBack.{written_back}
use Rattle.sheet_bytes.specs.SameBytes.{same_sheet_bytes, no_gap_byte}

-- ---- the bytes

-- two that say what a third says
pub says_both : {s t u : Sheet} → SaysSame s t → SaysSame s u → SaysSame t u
says_both p q =
    record {
      facts = sym p.facts ∙ q.facts;
      horizon = sym p.horizon ∙ q.horizon;
      marks = λ f l. sym (p.marks f (omega arith)) ∙ q.marks f (omega arith);
      jobs = sym p.jobs ∙ q.jobs;
      codes = λ j l. sym (p.codes j (omega arith)) ∙ q.codes j (omega arith);
      events = sym p.events ∙ q.events;
      event_rows = λ e l. sym (p.event_rows e (omega arith)) ∙ q.event_rows e (omega arith);
      bounds = sym p.bounds ∙ q.bounds;
      bound_rows = λ i l. sym (p.bound_rows i (omega arith)) ∙ q.bound_rows i (omega arith);
    }

pub says_flip : {s t : Sheet} → SaysSame s t → SaysSame t s
says_flip p = says_both p (record {
  facts = refl;
  horizon = refl;
  marks = λ f l. refl;
  jobs = refl;
  codes = λ j l. refl;
  events = refl;
  event_rows = λ e l. refl;
  bounds = refl;
  bound_rows = λ i l. refl;
})

pub edition2_unique : {b c d : List ℕ} → Edition2Of b c → Edition2Of b d → c ≡ d
edition2_unique {b} {c} {d} p q =
    let same = says_both p.rewritten.same q.rewritten.same in
    written_back (inr refl) p.rewritten.bytes p.rewritten.formed
    ∙ rw (p.gap, ← q.gap)
    (same_sheet_bytes 2 (gap_byte d) same (λ e. p.revision ∙ sym q.revision)
    (λ e j l. p.releases j l ∙ sym (q.releases j (omega (arith, same.jobs)))))
    ∙ sym (written_back (inr refl) q.rewritten.bytes q.rewritten.formed)

pub edition1_unique : {b c d : List ℕ} → Edition1Of b c → Edition1Of b d → c ≡ d
edition1_unique {b} {c} {d} p q =
    written_back (inl refl) p.bytes p.formed
    ∙ no_gap_byte (gap_byte c) (gap_byte d) (sheet_of c)
    ∙ same_sheet_bytes 1 (gap_byte d) (says_both p.same q.same) (λ e. absurd (omega arith)) (λ e. absurd (omega arith))
    ∙ sym (written_back (inl refl) q.bytes q.formed)

-- ---- the answers

-- number, detail and buffer
abbrev Out : Type 0
Out = ℕ × ℕ × List ℕ

abbrev Same : (x y : Out) → Type 0
Same x y = x ≡ y

-- the bytes c asked for, and the buffer w: 30 if it is shorter
abbrev room : (c w : List ℕ) → Out
room c w = cond (leb (length c) (length w)) (0, length c, c ++ drop (length c) w) (30, length c, w)

room_short : (c w : List ℕ) → length w < length c → Same (30, length c, w) (room c w)
room_short c w l = rw (lt-leb (length c) (length w) l)

room_enough : (c w : List ℕ) → length c ≤ length w → Same (0, length c, c ++ drop (length c) w) (room c w)
room_enough c w l = rw (le-leb (length c) (length w) l)

module _ {b w : List ℕ} where
  bad_2 : {n d : ℕ} {w' : List ℕ} → fault_in 1 b ≢ 0 → ToEdition2 b w n d w' → Same (n, d, w') (fault_in 1 b, 0, w)
  bad_2 bad (ToEdition2.bad_sheet h) = refl
  bad_2 bad (ToEdition2.short c fine e l) = absurd (bad fine)
  bad_2 bad (ToEdition2.written c fine e l) = absurd (bad fine)

  fine_2 : {n d : ℕ} {w' : List ℕ} (c : List ℕ) → fault_in 1 b ≡ 0 → Edition2Of b c → ToEdition2 b w n d w' → Same (n, d, w') (room c w)
  fine_2 c fine e (ToEdition2.bad_sheet bad) = absurd (bad fine)
  fine_2 c fine e (ToEdition2.short x z y l) = rw (edition2_unique e y) (room_short x w l)
  fine_2 c fine e (ToEdition2.written x z y l) = rw (edition2_unique e y) (room_enough x w l)

  one_2 : {n d n' d' : ℕ} {o o' : List ℕ} → ToEdition2 b w n d o → ToEdition2 b w n' d' o' → Same (n, d, o) (n', d', o')
  one_2 (ToEdition2.bad_sheet bad) q = sym (bad_2 bad q)
  one_2 (ToEdition2.short c fine e l) q = room_short c w l ∙ sym (fine_2 c fine e q)
  one_2 (ToEdition2.written c fine e l) q = room_enough c w l ∙ sym (fine_2 c fine e q)

pub to_edition2_unique
    : {b w : List ℕ} {n d n' d' : ℕ} {o o' : List ℕ}
    → ToEdition2 b w n d o
    → ToEdition2 b w n' d' o'
    → (n ≡ n') × (d ≡ d') × (o ≡ o')
to_edition2_unique p q = let same = one_2 p q in (ap (λ x. x.0) same, ap (λ x. x.1) same, ap (λ x. x.2) same)

module _ {b w : List ℕ} where
  bad_1 : {n d : ℕ} {w' : List ℕ} → fault_in 2 b ≢ 0 → ToEdition1 b w n d w' → Same (n, d, w') (fault_in 2 b, 0, w)
  bad_1 bad (ToEdition1.bad_sheet h) = refl
  bad_1 bad (ToEdition1.no_way_back fine g) = absurd (bad fine)
  bad_1 bad (ToEdition1.short c fine g e l) = absurd (bad fine)
  bad_1 bad (ToEdition1.written c fine g e l) = absurd (bad fine)

  stays_1 : {n d : ℕ} {w' : List ℕ} → fault_in 2 b ≡ 0 → goes_back b ≡ false → ToEdition1 b w n d w' → Same (n, d, w') (50, 0, w)
  stays_1 fine stays (ToEdition1.bad_sheet bad) = absurd (bad fine)
  stays_1 fine stays (ToEdition1.no_way_back x g) = refl
  stays_1 fine stays (ToEdition1.short c x g e l) = absurd (clash g stays)
  stays_1 fine stays (ToEdition1.written c x g e l) = absurd (clash g stays)

  fine_1
      : {n d : ℕ} {w' : List ℕ} (c : List ℕ)
      → fault_in 2 b ≡ 0
      → goes_back b ≡ true
      → Edition1Of b c
      → ToEdition1 b w n d w'
      → Same (n, d, w') (room c w)
  fine_1 c fine goes e (ToEdition1.bad_sheet bad) = absurd (bad fine)
  fine_1 c fine goes e (ToEdition1.no_way_back x g) = absurd (clash goes g)
  fine_1 c fine goes e (ToEdition1.short x z g y l) = rw (edition1_unique e y) (room_short x w l)
  fine_1 c fine goes e (ToEdition1.written x z g y l) = rw (edition1_unique e y) (room_enough x w l)

  one_1 : {n d n' d' : ℕ} {o o' : List ℕ} → ToEdition1 b w n d o → ToEdition1 b w n' d' o' → Same (n, d, o) (n', d', o')
  one_1 (ToEdition1.bad_sheet bad) q = sym (bad_1 bad q)
  one_1 (ToEdition1.no_way_back fine stays) q = sym (stays_1 fine stays q)
  one_1 (ToEdition1.short c fine goes e l) q = room_short c w l ∙ sym (fine_1 c fine goes e q)
  one_1 (ToEdition1.written c fine goes e l) q = room_enough c w l ∙ sym (fine_1 c fine goes e q)

pub to_edition1_unique
    : {b w : List ℕ} {n d n' d' : ℕ} {o o' : List ℕ}
    → ToEdition1 b w n d o
    → ToEdition1 b w n' d' o'
    → (n ≡ n') × (d ≡ d') × (o ≡ o')
to_edition1_unique p q = let same = one_1 p q in (ap (λ x. x.0) same, ap (λ x. x.1) same, ap (λ x. x.2) same)
