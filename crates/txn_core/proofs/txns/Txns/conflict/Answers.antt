use Rattle.std.proofs.Common.{◌∙◌, ◌<◌, ap, length, option_map, sym}
use Rattle.row_locks.specs.SessionItems.{items_by as held_by}
use Rattle.row_locks.specs.RepresentsItems.{holder_among, told}
use Rattle.row_locks.proofs.Holders.{stand-same}
use Rattle.txn_core.specs.Transactions.{Transactions, conflict_of}
use Rattle.txn_core.proofs.ItemsThere.{held_item}
use Rattle.txn_core.proofs.txns.Txns.conflict.Goals as goal

-- the item is one of the footprint
pub conflict-requires : goal.conflict-requires
conflict-requires c =
    let held = held_by c.self.inside.locks in
    held_item (λ item. item.table.0 < length c.args.schema.now.tables) held c.args.footprint.now c.requires.there (told c.in-Some.held) c.args.session.0
    (sym (c.first_holder.ensures held (λ session. stand-same (held session))) ∙ ap (option_map told) c.in-Some.is)

pub returns-in-None : goal.returns-in-None
returns-in-None c =
    let held = held_by c.self.inside.locks in
    let why = conflict_of c.args.schema.now in
    ap (λ found. option_map why (option_map told found)) (sym c.in-None.is)
    ∙ (ap (option_map why) (c.first_holder.ensures held (λ session. stand-same (held session)))
    ∙ ap (λ (txns : Transactions). option_map why (holder_among (held_by txns.held) c.args.session.0 c.args.footprint.now)) c.self.view_is)
