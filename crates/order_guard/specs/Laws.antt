-- Marks past the end and of a new array, an event's row, and the fact that guards a pair.
use Rattle.std.specs.Prelude.{ℕ, ◌≤◌, ◌≡◌, Bool, false, List, length, replicate}
use Rattle.std.proofs.Common.{arith, sym, ◌∙◌, true≢false}
use Rattle.std.proofs.Math.Decide.{dec_lt}
use Rattle.std.proofs.Math.Logic.{dite}
use Rattle.std.proofs.lemmas.List.{length-replicate, get_or-replicate}
use Rattle.std.proofs.Math.ListN.{get_or-eq_default}
use Rattle.rules.specs.Sheet as rules
use Rattle.theory.specs.Computed.Mark.{marked}
use Rattle.order_guard.specs.Pair.{mark_of, In, GuardBy, Guarded}

pub mark_past : (m : List Bool) (k : ℕ) → length m ≤ k → false ≡ mark_of m k
unfolding mark_of
mark_past m k h = sym (get_or-eq_default m false h)

pub mark_none : (n k : ℕ) → In (replicate n false) k → ⊥
unfolding mark_of
mark_none n k h =
    dite (dec_lt k n)
    (λ l. true≢false (sym h ∙ get_or-replicate {A = Bool} n k false false l))
    (λ g. true≢false (sym h ∙ get_or-eq_default (replicate n false) false (omega (arith, length-replicate {A = Bool} n false, g))))

pub guarded_by : {s : rules.Sheet} (m : List Bool) {p row col : ℕ} → In m p → GuardBy s p row col → Guarded s m row col
guarded_by m {p = p} h g = marked p g.until g.at h g.needs g.clear g.wide

-- the marked fact that guards a pair
pub record By (s : rules.Sheet) (m : List Bool) (row col : ℕ) : Type 0 where
  pub fact : ℕ
  pub is_marked : In m fact
  pub guards : GuardBy s fact row col

pub by : {s : rules.Sheet} (m : List Bool) {row col : ℕ} → Guarded s m row col → By s m row col
by m (marked p u x h e c w) = record { fact = p; is_marked = h; guards = record { until = u; at = x; needs = e; clear = c; wide = w } }
