use Rattle.byte_writer.specs.Bytes.{pair}
use Rattle.list_writer.specs.ListBytes.{head_bytes}
use Rattle.byte_writer.specs.Fill.{Laid-then}
use Rattle.byte_writer.specs.Joined.{pair_length}
use Rattle.list_writer.proofs.head.Goals as goal

pub returns : goal.returns
unfolding head_bytes pair
returns c =
    let a = c.args in
    Laid-then a.out.now (pair 1) (pair a.count) 0 2 (pair_length 1)
    c.put.ensures
    c.put-2.ensures
