use Rattle.std.proofs.Common.{false, sym, ap, ◌∙◌}
use Rattle.std.specs.Option.{option_map_or}
use Rattle.row_locks.specs.declared.table_locks.TableLocks.{TableLocks}
use Rattle.row_locks.specs.Locks.{meet}
use Rattle.row_locks.proofs.TableItems.{tables_any}
use Rattle.row_locks.proofs.session_locks.SessionLocks.overlap.Goals as goal

pub returns-in-None : goal.returns-in-None
returns-in-None c =
    ap (λ found. option_map_or (λ (locks : TableLocks). meet locks.whole locks.rows.entries c.args.item.now.key c.args.item.now.write) found false) c.in-None.ensures
    ∙ sym (tables_any c.args.item.now c.args.self.now.tables.items)

pub returns-in-Some : goal.returns-in-Some
returns-in-Some c =
    c.block.ensures
    ∙ (ap (λ found. option_map_or (λ (locks : TableLocks). meet locks.whole locks.rows.entries c.args.item.now.key c.args.item.now.write) found false) c.in-Some.ensures
    ∙ sym (tables_any c.args.item.now c.args.self.now.tables.items))
