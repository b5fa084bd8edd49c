use Rattle.rules.specs.Sheet.{origin}
use Rattle.sheet_bytes.specs.SheetBytes.{signed_pair}
use Rattle.sheet_writer.proofs.put_signed.Goals as goal

pub returns : goal.returns
unfolding origin signed_pair
returns c =
    c.put.ensures
