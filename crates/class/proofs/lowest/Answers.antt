use Rattle.std.proofs.Common.{ℕ, refl, arith, rules}
use Rattle.std.proofs.lemmas.Iterator.{first_from_find, YieldsList-from_range}
use Rattle.sheet.specs.WellFormed.{said_by}
use Rattle.index.specs.Between.{first_between}
use Rattle.class.specs.Answer.{Breaks}
use Rattle.class.proofs.Laws.{lowest_found}
use Rattle.class.proofs.lowest.Goals as goal

pub returns : goal.returns
returns c =
    let p = c.requires in
    let Yes = Breaks c.args.rule (said_by c.args.sheet.now) in
    let No = λ (f : ℕ). Yes f → ⊥ in
    let found =
    first_from_find _ _ _ Yes No c.find.ensures.ran (YieldsList-from_range 0 c.args.sheet.now.view.facts _ refl refl)
    (λ x q k. search rules)
    (λ x q k. search rules) in
    lowest_found Yes _ _ (omega arith) _ (first_between Yes No _ _ _ found)
