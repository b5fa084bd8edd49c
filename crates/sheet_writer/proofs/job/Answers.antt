use Rattle.sheet_writer.proofs.Laws.{row_least, row_whole, job_laid_1, job_laid_2}
use Rattle.std.proofs.Common.{rules}
use Rattle.sheet_writer.proofs.job.Goals as goal

pub put-requires : goal.put-requires
put-requires c =
    let r = row_least c.args.edition in search rules

pub put-requires-then-edition-eq-EDITION_2 : goal.put-requires-then-edition-eq-EDITION_2
put-requires-then-edition-eq-EDITION_2 c =
    let r = row_whole c.args.edition c.if-edition-eq-EDITION_2.true in search rules

pub returns-then-edition-eq-EDITION_2 : goal.returns-then-edition-eq-EDITION_2
returns-then-edition-eq-EDITION_2 c =
    job_laid_2 _ _ _ _ _ c.code.ensures.0 c.put.ensures c.if-edition-eq-EDITION_2.true
    c.release.ensures.0
    c.put-then-edition-eq-EDITION_2.ensures

pub returns-else-edition-eq-EDITION_2 : goal.returns-else-edition-eq-EDITION_2
returns-else-edition-eq-EDITION_2 c =
    job_laid_1 _ _ _ _ _ c.code.ensures.0 c.put.ensures c.if-edition-eq-EDITION_2.false
