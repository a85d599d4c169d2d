use Rattle.std.proofs.Common.{None, Some, sym, ◌∙◌}
use Rattle.row_locks.proofs.RowLemmas.{looked_up}
use Rattle.row_locks.proofs.row_holds.blocks_row.Goals as goal

pub returns-in-None : goal.returns-in-None
returns-in-None c = sym (looked_up c.args.rows.now.entries c.args.key.now c.args.write None c.requires c.in-None.ensures.value)

pub returns-in-Some : goal.returns-in-Some
returns-in-Some c = c.blocks-in-Some.ensures ∙ sym (looked_up c.args.rows.now.entries c.args.key.now c.args.write (Some c.in-Some.hold.now) c.requires c.in-Some.ensures.value)
