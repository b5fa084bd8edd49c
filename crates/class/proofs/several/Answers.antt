use Rattle.std.proofs.Common.{ℕ, map, refl, rules, tests}
use Rattle.std.proofs.lemmas.Iterator.{cases_from_any, YieldsList-from_range}
use Rattle.sheet.specs.WellFormed.{said_by}
use Rattle.index.specs.View.{events_in}
use Rattle.index.specs.Between.{any_between}
use Rattle.class.proofs.Laws.{AlikeAt, several_says}
use Rattle.class.proofs.several.Goals as goal

pub returns : goal.returns
returns c =
    let p = c.requires in
    let start = c.at-start.result in
    let No = λ (r : ℕ). AlikeAt (said_by c.args.sheet.now) (events_in (map (λ x. x.now) c.args.columns)) r start in
    let Yes = λ (r : ℕ). No r → ⊥ in
    let found =
    cases_from_any _ _ _ Yes No c.any.ensures.ran (YieldsList-from_range start c.at-end.result _ refl refl)
    (λ x q k. search (rules, tests))
    (λ x q k. search (rules, tests)) in
    several_says p.index p.f_bound _ _ c.at-start.ensures.0 c.at-end.ensures.0 _ (any_between Yes No _ _ _ found)
