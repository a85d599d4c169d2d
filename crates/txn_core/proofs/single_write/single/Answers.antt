use Rattle.std.proofs.Common.{sym, ◌∙◌}
use Rattle.txn_core.proofs.NetTo.{writes_net, writes_read}
use Rattle.txn_core.proofs.single_write.single.Goals as goal

-- the changes without those after which a row is as it was are the net of the write
pub returns-clause-ok : goal.returns-clause-ok
returns-clause-ok g c =
    let db = g.V.StoreView.db c.args.view.now in
    let written = c.in_ok-written.written in
    writes_net db c.args.bound.now c.requires.tables.rising c.requires.write written c.in_ok-written.ensures.ok c.net_of_write.result
    (c.net_of_write.ensures ∙ sym (writes_read db c.args.bound.now c.requires.tables.rising c.requires.write written c.in_ok-written.ensures.ok))
