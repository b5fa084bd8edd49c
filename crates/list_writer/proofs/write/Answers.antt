use lib.ListN.{length}
use Rattle.list_writer.specs.Least.{sheet_codes}
use Rattle.list_writer.proofs.Laws.{room, entries_fit, bodies_fit, wrote_list, Wrote-none}
use Rattle.std.proofs.Common.{rules}
use Rattle.list_writer.proofs.write.Goals as goal

pub head-requires : goal.head-requires
head-requires c =
    let k = length c.args.out.now in
    (room {k = k} c.length-size.ensures (search rules)).head

pub entries-requires : goal.entries-requires
entries-requires c =
    let enough = room {k = length c.args.out.now} c.length-size.ensures (search rules) in
    (c.requires, entries_fit c.count-n.ensures c.args.out.now enough c.head.ensures)

pub bodies-requires : goal.bodies-requires
bodies-requires c =
    let enough = room {k = length c.args.out.now} c.length-size.ensures (search rules) in
    let fit = bodies_fit c.count-n.ensures c.args.out.now enough c.head.ensures c.entries.ensures in
    (c.requires, fit)

pub returns-then-size-out : goal.returns-then-size-out
returns-then-size-out c =
    let a = c.args in
    let size = c.length-size.ensures in
    let enough = room {k = length a.out.now} size (search rules) in
    let codes = sheet_codes a.sheet.now.view a.sheet.now.bytes.now c.bytes_fit.ensures in
    let third = c.bodies.ensures in
    wrote_list c.count-n.ensures a.out.now enough c.head.ensures c.entries.ensures third
    size
    (search rules)
    codes

pub returns-else-size-out : goal.returns-else-size-out
returns-else-size-out c =
    let codes = sheet_codes c.args.sheet.now.view c.args.sheet.now.bytes.now c.bytes_fit.ensures in
    Wrote-none _ _ _ c.args.out.now c.length-size.ensures (search rules) codes
