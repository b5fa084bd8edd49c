use Rattle.std.proofs.Common.{ℕ, List, [], length, take, get_or, ◌≤◌, arith, sym, ap, subst, map, ◌∙◌, rules, Bor}
use Rattle.std.proofs.lemmas.List.{length-take-le}
use Rattle.std.proofs.lemmas.Grind.{common_steps}
use Rattle.laws.specs.Columns.{col, get_d_map}
use Rattle.least_ticks.specs.Laws.{copied_from}
use Rattle.least_ticks.proofs.copied.Goals as goal

-- the column of least own times is long enough
long
    : (own : List (Bor (List ℕ)))
    → 256 ≤ length (col (map (λ x. x.now) own) 3)
    → 256 ≤ length (get_or own 3 (record { ref_ptr = (0, 0); now = [] })).now
long own h =
    subst (λ (l : List ℕ). 256 ≤ length l) (get_d_map (λ x. x.now) own 3 (record { ref_ptr = (0, 0); now = [] })) h

pub slice_bounds-copy_from_slice-end-2 : goal.slice_bounds-copy_from_slice-end-2
slice_bounds-copy_from_slice-end-2 c =
    let h = long c.args.own c.requires in
    search (rules, h)

pub copy_from_slice-requires : goal.copy_from_slice-requires
copy_from_slice-requires c =
    sym (length-take-le 256 _ (long c.args.own c.requires))

pub returns : goal.returns
returns c =
    copied_from _ c.copy_from_slice.new.self _ c.requires
    (c.copy_from_slice.ensures.after ∙ ap (λ (l : List ℕ). take 256 l) (sym (get_d_map (λ x. x.now) c.args.own 3 _)))
    (grind (arith, common_steps))
    (λ e l. grind (arith, common_steps))
