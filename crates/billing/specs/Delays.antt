-- Delays do not move the sum: all times of an instance move alike.
use Rattle.std.specs.Prelude.{ℕ, ◌*◌, ◌≡◌, List}
use Rattle.std.proofs.Common.{arith}
use Rattle.std.proofs.Math.Path.{ap}
use Rattle.std.proofs.Math.ListN.{get_or}
use Rattle.rules.specs.Sheet.{Sheet}
use Rattle.rules.specs.RunList.{Plan}
use Rattle.rules.specs.Late.{delayed}
use Rattle.rules.specs.Cost.{minutes, sum_of}
use Rattle.laws.specs.Sums.{sum_below}
use Rattle.billing.specs.Minutes.{Own, Lasts, no_event, from_to, lasts_one, minutes_lasts}

module _ (s : Sheet) (p : Plan) (d : List ℕ) where
  late : {i e : ℕ} → Own s p i e → Own s (delayed p d) i e
  unfolding delayed
  late x = record { in_sheet = x.in_sheet; of_job = x.of_job }

  given : {i e : ℕ} → Own s (delayed p d) i e → Own s p i e
  unfolding delayed
  given x = record { in_sheet = x.in_sheet; of_job = x.of_job }

  lasts_late : {i m : ℕ} → Lasts s p i m → Lasts s (delayed p d) i m
  unfolding delayed
  lasts_late (no_event g) = no_event (λ e x. g e (given x))
  lasts_late (from_to a e m x y low high q) =
      from_to a e m (late x) (late y) (λ c z. omega (arith, low c (given z))) (λ c z. omega (arith, high c (given z))) (omega (arith, q))

  pub minutes_delayed : (i : ℕ) → minutes s (delayed p d) i ≡ minutes s p i
  minutes_delayed i = lasts_one (minutes_lasts s (delayed p d) i) (lasts_late (minutes_lasts s p i))

  pub delay_free : (r : List ℕ) → sum_of s (delayed p d) r ≡ sum_of s p r
  unfolding sum_of delayed
  delay_free r = sum_below _ _ p.count (λ i l. ap (λ (m : ℕ). m * get_or r (p.job i) 0) (minutes_delayed i))
