-- Laws of solutions: the minimum of two, that one is least, and the mirror, by which greatest ticks are least ones.
use Rattle.std.specs.Prelude.{ℕ, ◌-◌, ◌≤◌, min, ◌≡◌}
use Rattle.std.proofs.Common.{arith}
use Rattle.kernel_least.specs.System.{System, Of, Solves, Least, Unsolvable, Closed, mirror}

-- the pointwise minimum of two solutions is a solution
pub meet : {s : System} {f x y : ℕ → ℕ} → Solves s f x → Solves s f y → Solves s f (λ v. min (x v) (y v))
meet p q =
    record {
      above = λ v o. omega (arith, p.above v o, q.above v o);
      below = λ v o. omega (arith, p.below v o);
      kept = λ a b w r. omega (arith, p.kept a b w r, q.kept a b w r);
    }

-- there is one least solution
pub unique : {s : System} {f x y : ℕ → ℕ} → Least s f x → Least s f y → (v : ℕ) → Of s v → x v ≡ y v
unique {x = x} {y = y} p q v o = omega (arith, p.least y q.solves v o, q.least x p.solves v o)

-- the mirror: y solves within 0 to the ceiling exactly where the mirrored ticks solve the mirrored rules
module _ {s : System} (closed : Closed s) where
  to_mirror : {y : ℕ → ℕ} → Solves s (λ v. 0) y → Solves (mirror s) (λ v. 0) (λ v. s.ceiling - y v)
  to_mirror {y} p =
      record {
        above = λ v o. omega arith;
        below = λ v o. omega arith;
        kept =
            λ a b w r. let (ob, oa) = closed b a w r in
            omega (arith, p.kept b a w r, p.below a oa, p.below b ob);
      }

  pub from_mirror
      : {y : ℕ → ℕ}
      → ((v : ℕ) → Of s v → y v ≤ s.ceiling)
      → Solves (mirror s) (λ v. 0) (λ v. s.ceiling - y v)
      → Solves s (λ v. 0) y
  from_mirror {y} h p =
      record {
        above = λ v o. omega arith;
        below = h;
        kept =
            λ a b w r. let (oa, ob) = closed a b w r in
            omega (arith, p.kept b a w r, h a oa, h b ob);
      }

  -- the mirrored least solution is the greatest one
  pub greatest
      : {z : ℕ → ℕ}
      → Least (mirror s) (λ v. 0) z
      → (y : ℕ → ℕ)
      → Solves s (λ v. 0) y
      → (v : ℕ)
      → Of s v
      → y v ≤ s.ceiling - z v
  greatest {z} p y q v o = omega (arith, p.least (λ u. s.ceiling - y u) (to_mirror q) v o, q.below v o)

  pub greatest_solves : {z : ℕ → ℕ} → Least (mirror s) (λ v. 0) z → Solves s (λ v. 0) (λ v. s.ceiling - z v)
  greatest_solves {z} p =
      record {
        above = λ v o. omega arith;
        below = λ v o. omega arith;
        kept =
            λ a b w r. let (oa, ob) = closed a b w r in
            omega (arith, p.solves.kept b a w r, p.solves.below a oa, p.solves.below b ob);
      }

  pub mirror_none : Unsolvable (mirror s) (λ v. 0) → Unsolvable s (λ v. 0)
  mirror_none h y p = h (λ v. s.ceiling - y v) (to_mirror p)
