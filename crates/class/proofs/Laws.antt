-- What the parts of the class test have passed, and what follows for a fact and for a rule.
use Prim.Native.Nat.{ℕ, ◌+◌, ◌≤◌, ◌<◌}
use native.Mathlib.Omega.{arith}
use mathlib.Core.Path.{◌≡◌, sym, ap, subst, ◌∙◌}
use mathlib.Core.Logic.{inr, ⊎_elim}
use mathlib.Core.Bool.{Bool, true, false}
use mathlib.Core.List.{List}
use lib.ListN.{length, get_or}
use Rattle.rules.specs.Sheet as rules
use Rattle.rules.specs.Sheet.{initial, sets, clears}
use Rattle.rules.specs.Wanted.{WantedFact}
use Rattle.rules.specs.Order.{ClearedLast, ClearedFirst}
use Rattle.rules.specs.Class.{ByWanted, Unordered, TwoSetters, WantedUnordered, UnwantedUnordered}
use Rattle.laws.specs.Test.{Says}
use Rattle.laws.specs.Bools.{clash}
use Rattle.index.specs.View.{IndexOf, set_starts, events_in}
use Rattle.marks.specs.Sweep as sweep
use Rattle.std.specs.Bool.{MatchBool}
use Rattle.class.specs.declared.Rule.{Rule}
use Rattle.class.specs.declared.Rule.TheVariants.{Setters, Wanted, Unwanted}
use Rattle.rules.specs.Count.{None, Lowest}
use Rattle.std.specs.Prelude.{Option, MatchOption}
use Rattle.std.specs.Prelude as option
use Rattle.std.specs.Prelude.{Result, Ok, Err, MatchResult}
use Rattle.class.specs.declared.Outside.{Outside}
use Rattle.class.specs.Answer.{number_of, Breaks, Kept, FirstBroken, ClassOf}
use Rattle.class.specs.View.{Several, Found}

-- ---- two setters

-- the events at two places are of one job
abbrev pub AlikeAt : rules.Sheet → List ℕ → (place other : ℕ) → Type 0
AlikeAt s event place other = (s.event (get_or event place 0)).job ≡ (s.event (get_or event other 0)).job

module _ {s : rules.Sheet} {c : List (List ℕ)} {f : ℕ} (h : IndexOf s c) (exists : f < s.facts) where
  -- the starts of f and of the next fact are in the column
  pub long : f + 1 < length (set_starts c)
  long = omega (arith, h.sets.long)

  pub near : get_or (set_starts c) (f + 1) 0 ≤ length (events_in c)
  near = omega (arith, sweep.near h.sets exists, h.long)

  pub in_sheet_lem : (r : ℕ) → get_or (set_starts c) f 0 ≤ r → r < get_or (set_starts c) (f + 1) 0 → get_or (events_in c) r 0 < s.events
  in_sheet_lem r from to = (h.sets.sound f r exists from to).is.in_sheet

  -- in the places of f's sets one is of another job than the first, or none is
  pub several_says
      : (start end : ℕ)
      → start ≡ get_or (set_starts c) f 0
      → end ≡ get_or (set_starts c) (f + 1) 0
      → (r : Bool)
      → MatchBool r
      ((i : ℕ) × (start ≤ i) × (i < end) × (AlikeAt s (events_in c) i start → ⊥))
      ((i : ℕ) → start ≤ i → i < end → AlikeAt s (events_in c) i start)
      → Says (Several s f) r
  several_says start end p q true (i, from, to, ne) =
      let at = λ (r : ℕ). get_or (events_in c) r 0 in
      let here = h.sets.sound f i exists (omega arith) (omega arith) in
      let first = h.sets.sound f start exists (omega arith) (omega arith) in
      (at i, _, at start, _, here, first, ne)
  several_says start end p q false all = λ (e, i, d, j, a, b, ne).
      let (r, low, high, is) = h.sets.whole e i f exists a in
      let (t, from, to, it) = h.sets.whole d j f exists b in
      let job = λ (x : ℕ). (s.event x).job in
      ne
      (sym a.is.of_job
      ∙ ap job (sym is)
      ∙ all r (omega arith) (omega arith)
      ∙ sym (all t (omega arith) (omega arith))
      ∙ ap job it
      ∙ b.is.of_job)

-- ---- the rules

module _ {s : rules.Sheet} {f : ℕ} where
  pub unordered : (ClearedLast s f → ⊥) → (ClearedFirst s f → ⊥) → Unordered s f
  unfolding Unordered
  unordered l n = (l, n)

  -- 20: a wanted fact, not initial
  pub setters_says : WantedFact s f → initial s f ≡ false → (r : Bool) → Says (Several s f) r → Says (TwoSetters s f) r
  setters_says a n true h = record { is_wanted = a; not_initial = n; setters = h }
  setters_says a n false h = λ t. h t.setters

  -- 21: a wanted fact, shown cleared first and not cleared last
  pub wanted_says
      : WantedFact s f → (ClearedLast s f → ⊥) → ClearedFirst s f → (r : Bool) → r ≡ initial s f → Says (WantedUnordered s f) r
  unfolding Unordered
  wanted_says a n h true e = record { is_wanted = a; unshown = inr (sym e, n) }
  wanted_says a n h false e = λ t. ⊎_elim (λ u. u.1 h) (λ u. clash u.0 (sym e)) t.unshown

  -- one that is shown cleared last
  pub wanted_last : ClearedLast s f → WantedUnordered s f → ⊥
  unfolding Unordered
  wanted_last h t = ⊎_elim (λ u. u.0 h) (λ u. u.1 h) t.unshown

  -- 22: a fact not wanted, set by a wanted job and shown in neither order
  pub unwanted_says
      : (WantedFact s f → ⊥)
      → ByWanted s sets f
      → Unordered s f
      → (r : Bool)
      → Says (ByWanted s clears f) r
      → Says (UnwantedUnordered s f) r
  unwanted_says n i u true h = record { not_wanted = n; is_set = i; is_cleared = h; unshown = u }
  unwanted_says n i u false h = λ t. h t.is_cleared

  -- one that is shown in an order
  pub unwanted_last : ClearedLast s f → UnwantedUnordered s f → ⊥
  unfolding Unordered
  unwanted_last h t = t.unshown.0 h

  pub unwanted_first : ClearedFirst s f → UnwantedUnordered s f → ⊥
  unfolding Unordered
  unwanted_first h t = t.unshown.1 h

-- ---- the lowest fact

pub lowest_found
    : (P : ℕ → Type 0) (m n : ℕ)
    → m ≡ n
    → (r : Option ℕ)
    → MatchOption r ((i : ℕ) → 0 ≤ i → i < m → P i → ⊥)
    (λ x. (0 ≤ x) × (x < m) × P x × ((i : ℕ) → 0 ≤ i → i < x → P i → ⊥))
    → Found P n r
unfolding None
lowest_found P m n e option.None h = λ i l. h i (omega arith) (omega arith)
lowest_found P m n e (option.Some x) (low, l, has, h) = record { below = omega arith; has = has; lower = λ i k. h i (omega arith) k }

-- ---- the rules before each rule

pub before_wanted : (s : rules.Sheet) → Kept Setters s → (q : Rule) → number_of q < number_of Wanted → Kept q s
before_wanted s h Setters l = h
before_wanted s h Wanted l = absurd (omega arith)
before_wanted s h Unwanted l = absurd (omega arith)

before_unwanted : (s : rules.Sheet) → Kept Setters s → Kept Wanted s → (q : Rule) → number_of q < number_of Unwanted → Kept q s
before_unwanted s h k Setters l = h
before_unwanted s h k Wanted l = k
before_unwanted s h k Unwanted l = absurd (omega arith)

-- where the first two rules are kept, the third decides
pub third_decides
    : (s : rules.Sheet) (r : Result Unit Outside)
    → Kept Setters s
    → Kept Wanted s
    → MatchResult r (λ _. Kept Unwanted s) (λ o. (o.rule ≡ Unwanted) × Lowest (Breaks Unwanted s) s.facts o.fact)
    → ClassOf s r
third_decides s (Ok _) h k l = record { one_setter = h; ordered = k; unwanted_ordered = l }
third_decides s (Err o) h k (e, l) =
    subst (λ x. FirstBroken s x o.fact) (sym e) (record { earlier = before_unwanted s h k; lowest = l })
