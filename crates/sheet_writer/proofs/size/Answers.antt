use Rattle.sheet.specs.View.{meaning}
use Rattle.sheet_bytes.specs.SheetBytes.{bounds_size, sheet_size}
use Rattle.std.proofs.Common.{rules}
use Rattle.sheet_writer.proofs.size.Goals as goal

pub overflow_add-result : goal.overflow_add-result
unfolding sheet_size bounds_size
overflow_add-result c =
    search rules

pub returns : goal.returns
unfolding meaning sheet_size bounds_size
returns c =
    search rules
