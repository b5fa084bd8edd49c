use Rattle.byte_writer.specs.Fill.{laid_byte}
use Rattle.byte_writer.proofs.put_byte.Goals as goal

pub returns : goal.returns
returns c =
    let a = c.args in
    laid_byte a.out.now a.at a.x
