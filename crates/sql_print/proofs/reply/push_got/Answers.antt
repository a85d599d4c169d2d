use Rattle.std.proofs.Common.{append_assoc}
use Rattle.text_model.specs.Lines.{got_line}
use Rattle.sql_print.proofs.Bars.{barred_cells}
use Rattle.sql_print.proofs.reply.push_got.Goals as goal

-- the table, and then the cells
pub returns : goal.returns
unfolding got_line
returns c =
    rw (
      barred_cells c.args.row.now.table c.args.row.now.cells,
      c.in_ok-push-3.ensures,
      c.in_ok-push_more_cells.ensures,
      c.items.ensures,
      c.in_ok-push-2.ensures,
      c.as_str.ensures,
      c.in_ok-push.ensures,
    )
    (simp append_assoc)
