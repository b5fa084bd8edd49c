use Rattle.rules.specs.Count.{byte}
use Rattle.list_writer.proofs.bytes_fit.Goals as goal

pub returns : goal.returns
unfolding byte
returns c = λ i. (c.type_inv.bytes i).fits
