use mathlib.Core.Path.{refl}
use Rattle.byte_writer.specs.Fill.{rows_start, rows_room, rows_step, rows_end}
use Rattle.sheet_bytes.specs.SheetBytes.{bound_size, bounds_size, bounds_bytes}
use Rattle.sheet_bytes.specs.Sizes.{bound_length}
use Rattle.std.proofs.Common.{rules}
use Rattle.sheet_writer.proofs.bounds.Goals as goal

pub loop-i-init : goal.loop-i-init
loop-i-init c =
    rows_start _ _ _ _

pub bound-requires : goal.bound-requires
unfolding bounds_size
bound-requires c =
    (search rules, rows_room _ _ _ _ c.loop-i.invariant bound_size c.requires (search rules))

pub loop-i-preserved : goal.loop-i-preserved
loop-i-preserved c =
    rows_step _ _ _ _ c.loop-i.invariant bound_size (λ i. bound_length _) (search rules) refl c.bound.ensures

pub returns : goal.returns
unfolding bounds_bytes
returns c =
    rows_end _ _ _ _ c.loop-i.invariant (search rules)
