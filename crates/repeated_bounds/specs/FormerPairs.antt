-- The rule on pairs before one could stand several times: they rise strictly. All else is today's text.
use Rattle.std.specs.Prelude.{ℕ, ◌*◌, Bool, cond, not, ◌&&◌, List, leb, eqb}
use Rattle.rules.specs.Count.{every, rises}
use Rattle.rules.specs.Sheet.{
  Sheet,
  sheet_of,
  length_of,
  max_bounds,
  contents_ok,
  facts_body_ok,
  jobs_body_ok,
  events_body_ok,
  bound_key,
  bound_ok,
}

-- the pairs rise strictly
unfoldable pub pairs_rise : Sheet → Bool
pairs_rise s = rises (λ i. bound_key (s.bound i)) s.bounds

-- kind 4
unfoldable pub strict_bounds_ok : Sheet → Bool
strict_bounds_ok s = leb s.bounds max_bounds && every (λ i. bound_ok s (s.bound i)) s.bounds && pairs_rise s

unfoldable pub strict_body_ok : List ℕ → Bool
strict_body_ok b = eqb (length_of b 3) (6 * (sheet_of b).bounds) && strict_bounds_ok (sheet_of b)

-- the number of the first broken rule, 0 if the sheet was well formed
unfoldable pub strict_fault : List ℕ → ℕ
strict_fault b =
    cond (not (contents_ok b)) 10
    (cond (not (facts_body_ok b)) 11
    (cond (not (jobs_body_ok b)) 12
    (cond (not (events_body_ok b)) 13
    (cond (not (strict_body_ok b)) 14 0))))
