use Rattle.std.proofs.Common.{◌<◌, ◌^◌, length, arith}
use Rattle.std.proofs.lemmas.Bool.Decides.{nat_tests}
use Rattle.page_model.specs.Paged.{items}
use Rattle.txn_space.specs.declared.entry.Entry.{Entry}
use Rattle.txn_space.proofs.RoomLemmas.{copied_entry, put_in}
use Rattle.txn_space.proofs.put.put_one.Goals as goal

pub returns : goal.returns
returns c =
    let entry : Entry = record { key = c.in_ok-key.key; row = c.in_ok-row.row } in
    let same = copied_entry c.args.change.now c.in_ok-key.key c.in_ok-row.row c.in_ok-key.ensures c.in_ok-row.ensures in
    let some : length (items c.index_mut-entries.result.now) < 2 ^ 62 = grind (arith, nat_tests) in
    put_in c.args.change.now entry c.args.tables.now.items c.grow.new.tables.items c.index_mut-entries.result.now c.change.new.self c.in_ok-grow.ensures c.index_mut-entries.ensures.value c.in_ok-change.ensures.items same (omega arith) some
