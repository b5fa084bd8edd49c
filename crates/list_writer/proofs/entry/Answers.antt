use Rattle.byte_writer.specs.Bytes.{pair}
use Rattle.byte_writer.specs.Fill.{Laid-then}
use Rattle.byte_writer.specs.Joined.{pair_length}
use Rattle.list_writer.proofs.entry.Goals as goal

pub returns : goal.returns
returns c =
    let a = c.args in
    Laid-then a.out.now (pair a.code) (pair a.place) a.at 2 (pair_length a.code)
    c.put.ensures
    c.put-2.ensures
