-- Whether a job is present is decided, for every well-formed sheet, by trying all ticks that own times can have. Code does it faster; this shows
-- that it can be done.
use Rattle.std.specs.Prelude.{ℕ, zero, suc, ◌+◌, ◌≤◌, ◌<◌, min, ◌≡◌, refl}
use Rattle.std.proofs.Math.Path.{sym, ap}
use Rattle.std.proofs.Common.{◌∙◌, ⊎_elim}
use Rattle.std.proofs.Math.Logic.{dite, if_pos, if_neg}
use Rattle.std.proofs.Math.Logic.Dec.{and as dec_and}
use native.Mathlib.Omega.{arith}
use Rattle.std.proofs.Math.Decide.{dec_le, dec_lt, ℕ_discrete, map_dec}
use Rattle.rules.specs.Sheet.{Sheet, origin, begins, ends}
use Rattle.rules.specs.Plan.{Is, OwnTimes, earliest, latest}
use Rattle.rules.specs.Wanted.{RunsAlone, OfPresent}
use Rattle.laws.specs.Places.{below}
use Rattle.laws.specs.Formed.{Formed}
use Rattle.theory.specs.Why.Places.{some_dec, all_dec}
use Rattle.theory.specs.Why.Own.{own_same}

-- where A is decided, and B given A
pub if_dec : {A B : Type 0} → Dec A → (A → Dec B) → Dec (A → B)
if_dec (no g) b = yes (λ a. absurd (g a))
if_dec (yes a) b = map_dec (λ h a. h) (λ r. r a) (b a)

-- ---- all numbers for the places below n, each up to its limit

abbrev pub Same : ℕ → (ℕ → ℕ) → (ℕ → ℕ) → Type 0
Same n u v = (i : ℕ) → i < n → u i ≡ v i

abbrev pub Within : (limit : ℕ → ℕ) → ℕ → (ℕ → ℕ) → Type 0
Within limit n u = (i : ℕ) → i < n → u i ≤ limit i

-- u, with a at place n
put : ℕ → ℕ → (ℕ → ℕ) → ℕ → ℕ
put n a u i = dite (ℕ_discrete i n) (λ q. a) (λ g. u i)

put_here : (n a : ℕ) (u : ℕ → ℕ) (i : ℕ) → i ≡ n → put n a u i ≡ a
unfolding put
put_here n a u i q = if_pos (ℕ_discrete i n) q _ _

put_other : (n a : ℕ) (u : ℕ → ℕ) (i : ℕ) → i < n → put n a u i ≡ u i
unfolding put
put_other n a u i l = if_neg (ℕ_discrete i n) (λ q. omega arith) _ _

-- numbers that have P, or none have it, where P looks at the places below n only
pub tried
    : (limit : ℕ → ℕ) (n : ℕ) (P : (ℕ → ℕ) → Type 0)
    → ((u v : ℕ → ℕ) → Same n u v → P u → P v)
    → ((u : ℕ → ℕ) → Dec (P u))
    → Dec ((u : ℕ → ℕ) × Within limit n u × P u)
tried limit zero P same dec =
    map_dec (λ p. (λ i. 0, λ i l. absurd (omega arith), p))
    (λ r. same r.0 (λ i. 0) (λ i l. absurd (omega arith)) r.2) (dec (λ i. 0))
tried limit (suc n) P same dec =
    map_dec
    (λ r.
    let (a, aIn, (u, within, p)) = r in (
      put n a u,
      λ i l.
          ⊎_elim (λ b. omega (arith, put_other n a u i b, within i b)) (λ q. omega (arith, put_here n a u i q, ap limit q))
          (below i n l),
      p,
    ))
    (λ r.
    let (u, within, p) = r in (
      u n,
      omega (arith, within n (omega arith)),
      (
        u,
        λ i l. within i (omega arith),
        same u (put n (u n) u)
            (λ i l. ⊎_elim (λ b. sym (put_other n (u n) u i b)) (λ q. ap u q ∙ sym (put_here n (u n) u i q)) (below i n l)) p,
      ),
    ))
    (some_dec
    (λ a.
    tried limit n (λ u. P (put n a u))
    (λ u v e. same (put n a u) (put n a v)
    (λ i l.
    ⊎_elim (λ b. put_other n a u i b ∙ e i b ∙ sym (put_other n a v i b))
    (λ q. put_here n a u i q ∙ sym (put_here n a v i q)) (below i n l)))
    (λ u. dec (put n a u)))
    (suc (limit n)))

-- ---- an event of a present job

module _ {s : Sheet} where
  pub is_own_lem : {e j k f : ℕ} → Is s e j k f → Is s e (s.event e).job k f
  is_own_lem is = record { in_sheet = is.in_sheet; of_job = refl; of_kind = is.of_kind; of_fact = is.of_fact }

  pub present_own : {e j k f : ℕ} → OfPresent s e j k f → OfPresent s e (s.event e).job k f
  present_own p = record { is = is_own_lem p.is; alone = rw p.is.of_job p.alone }

-- ---- own times

module _ {s : Sheet} (ok : Formed s) where
  pub is_dec : (e j k f : ℕ) → Dec (Is s e j k f)
  is_dec e j k f =
      map_dec (λ h. record { in_sheet = h.0.0; of_job = h.0.1; of_kind = h.1.0; of_fact = h.1.1 })
      (λ i. ((i.in_sheet, i.of_job), (i.of_kind, i.of_fact)))
      (dec_and (dec_and (dec_lt e s.events) (ℕ_discrete (s.event e).job j))
      (dec_and (ℕ_discrete (s.event e).kind k) (ℕ_discrete (s.event e).fact f)))

  pub own_dec : (j : ℕ) (t : ℕ → ℕ) → Dec (OwnTimes s j t)
  own_dec j t =
      map_dec
      (λ h.
      record {
        early = λ e l q. (h.0 e l q).0;
        late = λ e l q. (h.0 e l q).1;
        bounds = λ i l q. record { low = (h.1.0 i l q).0; high = (h.1.0 i l q).1 };
        needs = λ b e f p q. h.1.1 b p.in_sheet e q.in_sheet (rw p.of_fact (p, q));
      })
      (λ own. (
        λ e l q. (own.early e l q, own.late e l q),
        (
          λ i l q. ((own.bounds i l q).low, (own.bounds i l q).high),
          λ b bIn e eIn is. own.needs b e (s.event b).fact is.0 is.1,
        ),
      ))
      (dec_and
      (all_dec (λ e. if_dec (ℕ_discrete (s.event e).job j) (λ q. dec_and (dec_le (earliest s j) (t e)) (dec_le (t e) (latest s j)))) s.events)
      (dec_and
      (all_dec
      (λ i.
      let c = s.bound i in
      if_dec (ℕ_discrete (s.event c.later).job j)
      (λ q.
      dec_and (dec_le (t c.earlier + c.low) (t c.later + origin)) (dec_le (t c.later + origin) (t c.earlier + c.high))))
      s.bounds)
      (all_dec
      (λ b.
      all_dec
      (λ e.
      if_dec (dec_and (is_dec b j begins (s.event b).fact) (is_dec e j ends (s.event b).fact)) (λ is. dec_le (t b) (t e)))
      s.events)
      s.events)))

  -- the last tick that an event can have in own times; ticks up to it
  pub limit : ℕ → ℕ
  limit e = latest s (s.event e).job

  pub clipped : (ℕ → ℕ) → ℕ → ℕ
  clipped t e = min (t e) (limit e)

  pub clipped_same : {j : ℕ} {t : ℕ → ℕ} → OwnTimes s j t → (e : ℕ) → e < s.events → (s.event e).job ≡ j → t e ≡ clipped t e
  unfolding clipped limit
  clipped_same own e l q = omega (arith, own.late e l q, ap (latest s) q)

  pub clipped_within : (t : ℕ → ℕ) → Within limit s.events (clipped t)
  unfolding clipped
  clipped_within t e l = omega arith

  pub alone_decided : (j : ℕ) → Dec (RunsAlone s j)
  unfolding RunsAlone
  alone_decided j =
      map_dec (λ r. (r.0, r.2)) (λ r. (clipped r.0, clipped_within r.0, own_same ok (λ e l q. sym (clipped_same r.1 e l q)) r.1))
      (tried limit s.events (OwnTimes s j) (λ t u same. own_same ok (λ e l q. sym (same e l))) (own_dec j))

  pub present_dec : (e j k f : ℕ) → Dec (OfPresent s e j k f)
  present_dec e j k f =
      map_dec (λ h. record { is = h.0; alone = h.1 }) (λ p. (p.is, p.alone)) (dec_and (is_dec e j k f) (alone_decided j))
