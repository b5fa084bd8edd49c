-- A run state moved on n times from a fresh one: the tick that the next move runs, and the facts that it holds.
use Rattle.std.specs.Prelude.{ℕ, ◌+◌, ◌≤◌, ◌<◌, ◌≡◌, refl, ◌↔◌, List}
use Rattle.std.proofs.Common.{arith, sym, subst, ap, ◌∙◌, inl, inr, ⊎_elim}
use Rattle.std.proofs.Math.Decide.{dec_lt}
use Rattle.std.proofs.Math.Logic.{dite}
use Rattle.rules.specs.Sheet.{Sheet, sheet_of, sets, clears}
use Rattle.rules.specs.RunList.{Plan}
use Rattle.rules.specs.Late.{
  delayed_of,
  Run,
  On,
  Bits,
  ChangesAt,
  IsInitial,
  HeldAfter,
  Fresh,
  Moved,
  MovedOn,
  start,
  again,
  HeldBefore,
}
use Rattle.late_starts.specs.Answers.{Step, over, moving, refusal_number, moved_cases}

-- the same bits
bits_map : {h : ℕ} {P Q : ℕ → Type 0} → ((f : ℕ) → f < 64 → P f ↔ Q f) → Bits h P → Bits h Q
bits_map same x =
    record {
      fits = x.fits;
      bits = λ f l. (λ on. (same f l).0 ((x.bits f l).0 on), λ q. (x.bits f l).1 ((same f l).1 q));
    }

module _ {s : Sheet} {p : Plan} where
  -- before tick 0 the initial facts are held
  held_first : (f : ℕ) → IsInitial s f ↔ HeldBefore s p 0 f
  held_first f = (λ h. HeldBefore.by_initial h (λ t l c. omega arith), was)
    where
      was : HeldBefore s p 0 f → IsInitial s f
      was (HeldBefore.by_initial h g) = h
      was (HeldBefore.by_set u l c g) = absurd (omega arith)

  -- not cleared before tick n, nor at it
  uncleared_more
      : (n a f : ℕ)
      → ((t : ℕ) → a ≤ t → t < n → ChangesAt s p clears f t → ⊥)
      → (ChangesAt s p clears f n → ⊥)
      → (t : ℕ)
      → a ≤ t
      → t < n + 1
      → ChangesAt s p clears f t
      → ⊥
  uncleared_more n a f before here t l m c =
      dite (dec_lt t n) (λ lt. before t l lt c) (λ g. here (subst (λ (x : ℕ). ChangesAt s p clears f x) (omega arith) c))

  held_on : (n f : ℕ) → (ChangesAt s p clears f n → ⊥) → HeldBefore s p n f → HeldBefore s p (n + 1) f
  held_on n f g (HeldBefore.by_initial h clear) =
      HeldBefore.by_initial h (λ t l c. uncleared_more n 0 f (λ t a l c. clear t l c) g t (omega arith) l c)
  held_on n f g (HeldBefore.by_set u l c clear) = HeldBefore.by_set u (omega arith) c (uncleared_more n u f clear g)

  -- before tick n + 1: what is held before tick n or set at it, and not cleared at it
  held_next
      : (n held f : ℕ) → On held f ↔ HeldBefore s p n f → HeldAfter s p n held f ↔ HeldBefore s p (n + 1) f
  held_next n held f on = (to, from)
    where
      to : HeldAfter s p n held f → HeldBefore s p (n + 1) f
      to h =
          ⊎_elim (λ q. held_on n f h.not_cleared (on.0 q))
          (λ c. HeldBefore.by_set n (omega arith) c (uncleared_more n n f (λ t l m. absurd (omega arith)) h.not_cleared)) h.source

      from : HeldBefore s p (n + 1) f → HeldAfter s p n held f
      from (HeldBefore.by_initial h clear) =
          record {
            source = inl (on.1 (HeldBefore.by_initial h (λ t l. clear t (omega arith))));
            not_cleared = clear n (omega arith);
          }
      from (HeldBefore.by_set u l c clear) =
          record {
            source = dite (dec_lt u n)
                (λ lt. inl (on.1 (HeldBefore.by_set u lt c (λ t a m. clear t a (omega arith)))))
                (λ g. inr (subst (λ (x : ℕ). ChangesAt s p sets f x) (omega arith) c));
            not_cleared = clear n (omega arith) (omega arith);
          }

fresh_bits : {b : List ℕ} {old n h : ℕ} → Fresh b old n h → n ≡ 0 → Bits h (IsInitial (sheet_of b))
fresh_bits (Fresh.bad_sheet g) q = absurd (g q)
fresh_bits (Fresh.fresh h q bits) z = bits

-- next is n, and the state holds exactly the facts initial or set before tick n and not cleared since
abbrev pub Stands : (b l d : List ℕ) → ℕ → Run → Type 0
Stands b l d n r = (r.next ≡ n) × Bits r.held (HeldBefore (sheet_of b) (delayed_of b l d) n)

module _ {b l d : List ℕ} where
  step : {r x : Run} → Moved b l d r 0 x → Step b l d r x
  step m = ⊎_elim (λ p. absurd (refusal_number p.0 refl)) (λ p. p.2) (moved_cases m)

  stands_next : {n : ℕ} {r x : Run} → n ≤ (sheet_of b).horizon → Stands b l d n r → Step b l d r x → Stands b l d (n + 1) x
  stands_next le (q, held) (over lt z) = absurd (omega arith)
  stands_next {n} {r} {x} le (q, held) (moving h le₂ bits z) = (
    ap (λ (y : Run). y.next) z ∙ omega arith,
    subst (λ (y : Run). Bits y.held (HeldBefore (sheet_of b) (delayed_of b l d) (n + 1))) (sym z)
        (bits_map (λ f m. held_next n r.held f (held.bits f m))
        (subst (λ (k : ℕ). Bits h (HeldAfter (sheet_of b) (delayed_of b l d) k r.held)) q bits)),
  )

  -- moved on n times from a fresh state, n up to H + 1
  pub moved_on : {n : ℕ} {r : Run} → MovedOn b l d n r → n ≤ (sheet_of b).horizon + 1 → Stands b l d n r
  moved_on (start old h x) le = (refl, bits_map (λ f m. held_first f) (fresh_bits x refl))
  moved_on (again m x) le = stands_next (omega arith) (moved_on m (omega arith)) (step x)

  over_next : {r x : Run} → (sheet_of b).horizon < r.next → Step b l d r x → x ≡ r
  over_next lt (over l z) = z
  over_next lt (moving h le bits z) = absurd (omega arith)

  -- after H + 1 moves or more the next tick lies above H
  past : {n : ℕ} {r : Run} → MovedOn b l d n r → (sheet_of b).horizon + 1 ≤ n → (sheet_of b).horizon < r.next
  past (start old h x) le = absurd (omega arith)
  past (again {n} {r} {after} m x) le =
      dite (dec_lt (sheet_of b).horizon n)
      (λ lt. let before = past m (omega arith) in omega (arith, before, ap (λ (z : Run). z.next) (over_next before (step x))))
      (λ g. omega (arith, (moved_on (again m x) (omega arith)).0))

  -- from H + 1 on it stays
  pub stays_on : {n : ℕ} {r x : Run} → MovedOn b l d n r → (sheet_of b).horizon + 1 ≤ n → Moved b l d r 0 x → x ≡ r
  stays_on m le x = over_next (past m le) (step x)
