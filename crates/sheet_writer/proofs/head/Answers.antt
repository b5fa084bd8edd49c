use Rattle.sheet.specs.View.{meaning}
use Rattle.sheet.specs.WellFormed.{said_by}
use Rattle.sheet_writer.proofs.Laws.{head_least, head_whole, head_laid_1, head_laid_2}
use Rattle.std.proofs.Common.{rules}
use Rattle.sheet_writer.proofs.head.Goals as goal

pub put_byte-requires : goal.put_byte-requires
put_byte-requires c =
    let r = head_least c.args.edition in search rules

pub put-requires : goal.put-requires
put-requires c =
    let r = head_least c.args.edition in search rules

pub put_byte-requires-then-edition-eq-EDITION_2 : goal.put_byte-requires-then-edition-eq-EDITION_2
put_byte-requires-then-edition-eq-EDITION_2 c =
    let r = head_whole c.args.edition c.if-edition-eq-EDITION_2.true in search rules

pub put-requires-then-edition-eq-EDITION_2 : goal.put-requires-then-edition-eq-EDITION_2
put-requires-then-edition-eq-EDITION_2 c =
    let r = head_whole c.args.edition c.if-edition-eq-EDITION_2.true in search rules

pub returns-then-edition-eq-EDITION_2 : goal.returns-then-edition-eq-EDITION_2
unfolding meaning
returns-then-edition-eq-EDITION_2 c =
    let a = c.args in
    head_laid_2 _ _ (said_by a.sheet.now) _ c.put_byte.ensures c.put.ensures c.if-edition-eq-EDITION_2.true
    c.revision.ensures.0
    c.put_byte-then-edition-eq-EDITION_2.ensures
    c.put-then-edition-eq-EDITION_2.ensures

pub returns-else-edition-eq-EDITION_2 : goal.returns-else-edition-eq-EDITION_2
unfolding meaning
returns-else-edition-eq-EDITION_2 c =
    let a = c.args in
    head_laid_1 _ _ (said_by a.sheet.now) _ c.put_byte.ensures c.put.ensures c.if-edition-eq-EDITION_2.false
