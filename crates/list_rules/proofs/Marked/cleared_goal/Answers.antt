use Rattle.std.proofs.Common.{ℕ, rules, arith, refl}
use Rattle.std.proofs.lemmas.Iterator.{cases_from_any, YieldsList-from_range}
use Rattle.rules.specs.Class.{ClearedGoal}
use Rattle.list_rules.specs.View.{sheet_of}
use Rattle.list_rules.proofs.Reasons.{any_says}
use Rattle.list_rules.proofs.Marked.cleared_goal.Goals as goal

pub returns : goal.returns
returns c =
    let P : ℕ → Type 0 = ClearedGoal (sheet_of c.args.self.now) in
    any_says P c.args.self.now.sheet.view.facts _ _ c.args.self.now.sheet.counted.facts
    (cases_from_any _ _ _ P (λ f. P f → ⊥) c.any.ensures.ran (YieldsList-from_range 0 _ c.args.self.now.sheet.view.facts refl (omega arith))
    (λ x q k. search rules)
    (λ x q k. search rules))
