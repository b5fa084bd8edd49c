use Rattle.sheet_writer.proofs.Laws.{fits, fits_after, marks_room, sheet_laid}
use Rattle.sheet_writer.proofs.write.Goals as goal

pub contents-requires : goal.contents-requires
contents-requires c =
    let p = c.requires in
    let f0 = fits c.places-at.ensures p.2 in
    (p.0, c.places-at.ensures, f0.contents)

pub head-requires : goal.head-requires
head-requires c =
    let p = c.requires in
    let f0 = fits c.places-at.ensures p.2 in
    let f1 = fits_after _ _ _ f0 c.contents.ensures in
    (p.1, f1.head)

pub marks-requires : goal.marks-requires
marks-requires c =
    let p = c.requires in
    let f0 = fits c.places-at.ensures p.2 in
    let f1 = fits_after _ _ _ f0 c.contents.ensures in
    let f2 = fits_after _ _ _ f1 c.head.ensures in
    marks_room f2 c.facts_head.ensures.0

pub jobs-requires : goal.jobs-requires
jobs-requires c =
    let p = c.requires in
    let f0 = fits c.places-at.ensures p.2 in
    let f1 = fits_after _ _ _ f0 c.contents.ensures in
    let f2 = fits_after _ _ _ f1 c.head.ensures in
    let f3 = fits_after _ _ _ f2 c.marks.ensures in
    f3.jobs

pub events-requires : goal.events-requires
events-requires c =
    let p = c.requires in
    let f0 = fits c.places-at.ensures p.2 in
    let f1 = fits_after _ _ _ f0 c.contents.ensures in
    let f2 = fits_after _ _ _ f1 c.head.ensures in
    let f3 = fits_after _ _ _ f2 c.marks.ensures in
    let f4 = fits_after _ _ _ f3 c.jobs.ensures in
    f4.events

pub bounds-requires : goal.bounds-requires
bounds-requires c =
    let p = c.requires in
    let f0 = fits c.places-at.ensures p.2 in
    let f1 = fits_after _ _ _ f0 c.contents.ensures in
    let f2 = fits_after _ _ _ f1 c.head.ensures in
    let f3 = fits_after _ _ _ f2 c.marks.ensures in
    let f4 = fits_after _ _ _ f3 c.jobs.ensures in
    let f5 = fits_after _ _ _ f4 c.events.ensures in
    f5.bounds

pub returns : goal.returns
returns c =
    sheet_laid _ _ _ c.places-at.ensures _ c.facts_head.ensures.0
    c.contents.ensures
    c.head.ensures
    c.marks.ensures
    c.jobs.ensures
    c.events.ensures
    c.bounds.ensures
