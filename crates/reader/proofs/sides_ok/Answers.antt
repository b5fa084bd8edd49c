use Rattle.reader.proofs.Sides.{sides_are}
use Rattle.reader.proofs.sides_ok.Goals as goal

pub returns : goal.returns
returns c =
    rw (c.side_or-least.ensures, c.side_or-most.ensures) (sides_are _ _)
