use Rattle.txn_space.proofs.RoomLemmas.{none_put, put_more}
use Rattle.txn_space.proofs.put.put_all.Goals as goal

pub loop-change-init : goal.loop-change-init
loop-change-init c = none_put c.args.tables.now.items

pub loop-change-preserved : goal.loop-change-preserved
loop-change-preserved c =
    put_more c.args.changes.now c.loop-change.change-index c.change-item.result c.args.tables.now.items c.loop-change.tables.items c.put_one.new.tables.items
    c.loop-change-test.true c.change-item.is c.loop-change.invariant c.in_ok-put_one.ensures
