use Rattle.rules.specs.Sheet.{gap_byte, start_of}
use Rattle.sheet.proofs.Sheet.gap_byte.Goals as goal

pub returns : goal.returns
unfolding gap_byte start_of
returns c =
    c.byte_at.ensures
