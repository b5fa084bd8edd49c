-- Of alike sheets the same facts are shown cleared last, and cleared first.
use Rattle.std.specs.Prelude.{ℕ}
use Rattle.rules.specs.Sheet.{Sheet, ends, sets, clears}
use Rattle.rules.specs.Plan.{Is}
use Rattle.rules.specs.Wanted.{OfPresent, WantedJob}
use Rattle.rules.specs.Order.{AtMost, ClearedLast, shown, Guard, guard, ClearedFirst}
use Rattle.theory.specs.Why.Sound.{last_ind, guard_ind}
use Rattle.agree.specs.Agree.{is_agree}
use Rattle.agree.specs.Formed.{Alike, flip}
use Rattle.agree.specs.Plan.{own_agree}
use Rattle.agree.specs.Wanted.{present_agree, wanted_job_lem}

module _ {s t : Sheet} (h : Alike s t) where
  at_most_lem : (a x y i u v : ℕ) → AtMost s a x y i u v → AtMost t a x y i u v
  unfolding AtMost
  at_most_lem a x y i u v m τ σ p q = m τ σ (own_agree (flip h) p) (own_agree (flip h) q)

  shows : (f : ℕ) → ((i v a y : ℕ) → OfPresent s v i sets f → Is s y a clears f → WantedJob s a → Guard t i v a y) → ClearedLast t f
  shows f all =
      shown (λ i v a y p q w. all i v a y (present_agree (flip h) p) (is_agree (flip h).agree q) (wanted_job_lem (flip h) w))

  guards
      : (i v a y p u x : ℕ)
      → ClearedLast t p
      → Is s u i ends p
      → Is s x a clears p
      → AtMost s a x y i u v
      → Guard t i v a y
  guards i v a y p u x last e c m = guard p u x last (is_agree h.agree e) (is_agree h.agree c) (at_most_lem a x y i u v m)

  pub cleared_last : {f : ℕ} → ClearedLast s f → ClearedLast t f
  cleared_last c = last_ind (ClearedLast t) (Guard t) shows guards c

  guard_agree : {i v a y : ℕ} → Guard s i v a y → Guard t i v a y
  guard_agree g = guard_ind (ClearedLast t) (Guard t) shows guards g

  pub cleared_first : (f : ℕ) → ClearedFirst s f → ClearedFirst t f
  unfolding ClearedFirst
  cleared_first f c i v a y p w q z =
      guard_agree
      (c i v a y (is_agree (flip h).agree p) (wanted_job_lem (flip h) w) (is_agree (flip h).agree q) (wanted_job_lem (flip h) z))
