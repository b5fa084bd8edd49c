use Rattle.sheet.proofs.Laws.{places_are}
use Rattle.sheet.proofs.Places.new.Goals as goal

pub returns : goal.returns
returns c =
    places_are
    c.args.b.now
    _
    _
    _
    c.length_of-jobs.ensures
    c.length_of.ensures
    c.length_of-2.ensures
