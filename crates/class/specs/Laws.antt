-- The class test's answer leaves no choice, and gives what the planner's answer asks for; and the first rule's part of it.
use Rattle.std.specs.Prelude.{ℕ, ◌<◌, ◌≡◌, refl, List, Result, Ok, Err, Some}
use Rattle.std.specs.Prelude as std
use Rattle.std.proofs.Common.{arith, ap, subst}
use Rattle.std.proofs.Math.Decide.{dec_lt}
use Rattle.rules.specs.Count.{None}
use Rattle.rules.specs.Sheet.{Sheet}
use Rattle.rules.specs.Class as rules
use Rattle.laws.specs.Places.{lowest_one}
use Rattle.laws.specs.Planned.{PlannedFor, rule1, rule2, rule3}
use Rattle.class.specs.declared.Rule.{Rule}
use Rattle.class.specs.declared.Rule.TheVariants.{Setters, Wanted, Unwanted}
use Rattle.class.specs.declared.Outside.{Outside}
use Rattle.class.specs.Answer.{number_of, Kept, FirstBroken, ClassOf}
use Rattle.class.specs.View.{Found}

-- ---- one answer

-- a rule that is kept is not broken
kept_unbroken : (s : Sheet) (q : Rule) {f : ℕ} → Kept q s → FirstBroken s q f → ⊥
unfolding None
kept_unbroken s q {f} h k = h f k.lowest.below k.lowest.has

inside_kept : {s : Sheet} → rules.Inside s → (q : Rule) → Kept q s
inside_kept h Setters = h.one_setter
inside_kept h Wanted = h.ordered
inside_kept h Unwanted = h.unwanted_ordered

same_number : (q r : Rule) → number_of q ≡ number_of r → q ≡ r
same_number Setters Setters e = refl
same_number Setters Wanted e = absurd (omega arith)
same_number Setters Unwanted e = absurd (omega arith)
same_number Wanted Setters e = absurd (omega arith)
same_number Wanted Wanted e = refl
same_number Wanted Unwanted e = absurd (omega arith)
same_number Unwanted Setters e = absurd (omega arith)
same_number Unwanted Wanted e = absurd (omega arith)
same_number Unwanted Unwanted e = refl

-- the first broken rule is one
rule_one : {s : Sheet} {q r : Rule} {f g : ℕ} → FirstBroken s q f → FirstBroken s r g → q ≡ r
rule_one {s} {q} {r} h k = go (dec_lt (number_of q) (number_of r)) (dec_lt (number_of r) (number_of q))
  where
    go : Dec (number_of q < number_of r) → Dec (number_of r < number_of q) → q ≡ r
    go (yes l) m = absurd (kept_unbroken s q (k.earlier q l) h)
    go (no l) (yes m) = absurd (kept_unbroken s r (h.earlier r m) k)
    go (no l) (no m) = same_number q r (omega arith)

abbrev outside : Rule → ℕ → Outside
outside rule f = record { rule = rule; fact = f }

same_outside : {s : Sheet} {q r : Rule} {f g : ℕ} → q ≡ r → FirstBroken s q f → FirstBroken s r g → outside q f ≡ outside r g
same_outside {s} {q} {r} {f} {g} e h k =
    let p = lowest_one (subst (λ x. FirstBroken s x f) e h).lowest k.lowest in cc

-- two answers for one sheet are equal
pub class_one : (s : Sheet) (x y : Result Unit Outside) → ClassOf s x → ClassOf s y → x ≡ y
class_one s (Ok _) (Ok _) h k = refl
class_one s (Ok _) (Err p) h k = absurd (kept_unbroken s p.rule (inside_kept h p.rule) k)
class_one s (Err o) (Ok _) h k = absurd (kept_unbroken s o.rule (inside_kept k o.rule) h)
class_one s (Err o) (Err p) h k = ap Err (same_outside (rule_one h k) h k)

-- ---- the planner's answer

broken : {s : Sheet} {f : ℕ} (w : List ℕ) (rule : Rule) → FirstBroken s rule f → PlannedFor s w (number_of rule) f w
broken {s} {f} w Setters h = rule1 f h.lowest
broken {s} {f} w Wanted h = rule2 f (h.earlier Setters (omega arith)) h.lowest
broken {s} {f} w Unwanted h = rule3 f (h.earlier Setters (omega arith)) (h.earlier Wanted (omega arith)) h.lowest

pub refused : {s : Sheet} (w : List ℕ) (o : Outside) → ClassOf s (Err o) → PlannedFor s w (number_of o.rule) o.fact w
refused {s} w o h = broken w o.rule h

-- ---- the first rule, by the lowest fact that breaks it

before_setters : (s : Sheet) (q : Rule) → number_of q < number_of Setters → Kept q s
before_setters s Setters l = absurd (omega arith)
before_setters s Wanted l = absurd (omega arith)
before_setters s Unwanted l = absurd (omega arith)

pub setters_broken
    : {s : Sheet} {f : ℕ} → Found (rules.TwoSetters s) s.facts (Some f) → ClassOf s (Err (record { rule = Setters; fact = f }))
setters_broken {s} h = record { earlier = before_setters s; lowest = h }

pub setters_kept : (s : Sheet) → Found (rules.TwoSetters s) s.facts std.None → Kept Setters s
setters_kept s h = h
