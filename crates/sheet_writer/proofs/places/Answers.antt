use Rattle.sheet.specs.View.{meaning}
use Rattle.sheet_writer.proofs.Laws.{places_for}
use Rattle.sheet_writer.proofs.places.Goals as goal

pub returns : goal.returns
unfolding meaning
returns c =
    places_for c.args.sheet.now.few c.facts_head.ensures c.job_row.ensures
