use Rattle.byte_writer.specs.Fill.{laid_pair}
use Rattle.byte_writer.proofs.put.Goals as goal

pub returns : goal.returns
returns c =
    let a = c.args in
    laid_pair a.out.now a.at a.x
