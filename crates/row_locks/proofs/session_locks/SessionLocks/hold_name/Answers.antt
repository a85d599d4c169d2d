use Rattle.std.proofs.Common.{Some, false, true, sym, ap, ◌∙◌}
use Rattle.std.specs.Option.{option_map_or}
use Rattle.row_locks.specs.declared.table_locks.TableLocks.{TableLocks}
use Rattle.row_locks.specs.Locks.{meet}
use Rattle.row_locks.proofs.TableItems.{lies_any, named, tables_any}
use Rattle.row_locks.specs.SessionItems.{items_from}
use Rattle.row_locks.proofs.session_locks.SessionLocks.hold_name.Goals as goal

pub returns-in-None : goal.returns-in-None
returns-in-None c =
    ap (λ found. option_map_or (λ (locks : TableLocks). meet locks.whole locks.rows.entries (Some c.args.name.now.key) true) found false) c.in-None.ensures
    ∙ sym (lies_any c.args.name.now (items_from 0 c.args.self.now.tables.items) ∙ tables_any (named c.args.name.now) c.args.self.now.tables.items)

pub returns-in-Some : goal.returns-in-Some
returns-in-Some c =
    c.block_row.ensures
    ∙ (ap (λ found. option_map_or (λ (locks : TableLocks). meet locks.whole locks.rows.entries (Some c.args.name.now.key) true) found false) c.in-Some.ensures
    ∙ sym (lies_any c.args.name.now (items_from 0 c.args.self.now.tables.items) ∙ tables_any (named c.args.name.now) c.args.self.now.tables.items))
