use Rattle.list_reader.proofs.Laws.{Scanning}
use Rattle.list_reader.proofs.Entries.read.Given as goal

abbrev pub invariant-loop-k : goal.invariant-loop-k
invariant-loop-k l =
    Scanning l.sheet l.spans l.l l.count l.job l.place l.at l.k
