use Rattle.txn_core.proofs.ItemsThere.{write_items_there}
use Rattle.txn_core.proofs.txns.Txns.single.Goals as goal

-- the footprint is of tables that are there
pub conflict_with-requires : goal.conflict_with-requires
conflict_with-requires g c =
    record {
      there = rw c.schema.ensures (write_items_there (g.V.StoreView.db c.args.version.now).schema c.args.bound.now c.requires.write);
    }
