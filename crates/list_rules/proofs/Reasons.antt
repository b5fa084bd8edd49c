-- The two other reasons for no plan: searches over facts.
use Prim.Native.Nat.{ℕ, ◌+◌, ◌≤◌, ◌<◌}
use native.Mathlib.Omega.{arith}
use Rattle.std.proofs.Common.{◌≡◌, sym, subst, ◌∙◌, zero-add}
use Rattle.std.proofs.lemmas.List.FromFn.{length-range_with_len, get_or-range_with_len}
use Rattle.std.specs.Bool.{MatchBool}
use Rattle.std.specs.List.{range_with_len, AllWithin, HoldsAt}
use mathlib.Core.Bool.{Bool, true, false}
use mathlib.Core.List.{List}
use lib.ListN.{length, get_or}
use Rattle.rules.specs.Sheet.{Sheet}
use Rattle.rules.specs.Class.{NoSource}
use Rattle.laws.specs.Test.{Says}
use Rattle.index.specs.View.{IndexOf, set_starts}
use Rattle.list_rules.specs.View.{SetSourced, Some}

-- ---- a search

-- what `any` found among the places below n
pub any_says
    : (P : ℕ → Type 0) (n m : ℕ) (r : Bool)
    → n ≡ m
    → MatchBool r
    ((k : ℕ) × (k < length (range_with_len 0 n)) × HoldsAt P (range_with_len 0 n) k)
    (AllWithin (λ i. P i → ⊥) (range_with_len 0 n) 0 (length (range_with_len 0 n)))
    → Says (Some P m) r
any_says P n m true q h =
    let l : h.0 < n = omega (arith, length-range_with_len 0 n, h.1) in
    record { fact = h.0; exists = omega arith; has = subst P (get_or-range_with_len 0 n h.0 0 l ∙ zero-add h.0) (h.2 0) }
any_says P n m false q h =
    λ x.
    let l : x.fact < n = omega (arith, x.exists) in
    h x.fact 0 (omega arith) (omega (arith, length-range_with_len 0 n))
    (subst P (sym (get_or-range_with_len 0 n x.fact 0 l ∙ zero-add x.fact)) x.has)

-- ---- a fact without a source

module _ {s : Sheet} {f : ℕ} {c : List (List ℕ)} (index : IndexOf s c) (l : f < s.facts) where
  pub set_there : get_or (set_starts c) f 0 < get_or (set_starts c) (f + 1) 0 → NoSource s f → ⊥
  set_there h p = p.not_set _ _ (index.sets.sound f (get_or (set_starts c) f 0) l (omega arith) h)

  pub source_lacks
      : (t : Bool) → get_or (set_starts c) (f + 1) 0 ≤ get_or (set_starts c) f 0 → Says (SetSourced s f) t → Says (NoSource s f) t
  source_lacks true h p =
      record {
        is_wanted = p.is_wanted;
        not_initial = p.not_initial;
        not_set = λ e j is. let r = index.sets.whole e j f l is in omega (arith, r.1, r.2);
      }
  source_lacks false h p = λ q. p (record { is_wanted = q.is_wanted; not_initial = q.not_initial })
