use Rattle.std.proofs.Common.{◌≡◌, List, map, ap, ◌∙◌}
use Rattle.std.specs.Prelude.{not, ◌&&◌}
use Rattle.std.specs.List.{enumerate_from}
use Rattle.std.proofs.lemmas.Result.{IfOk-weaker}
use Rattle.own_base.specs.declared.number.ColumnSet.{ColumnSet}
use Rattle.own_model.specs.declared.reply.Cell.{Cell}
use Rattle.owner_model.specs.RuledColumns.{is_hidden}
use Rattle.subject_model.specs.Get.{shown_cell}
use Rattle.subject_access.specs.Cells.{cell_in}
use Rattle.subject_access.proofs.CellLemmas.{cells-of_row}
use Rattle.subject_access.proofs.cells.shown_cells.Goals as goal

pub returns : goal.returns
returns c =
    let row = c.args.row.now in
    IfOk-weaker c.cells.result (λ (cells : List Cell). cells ≡ map (cell_in c.hidden_columns.result) (enumerate_from 0 row))
    (λ cells. cells ≡ map (shown_cell c.args.edges.now c.args.own c.args.by.now) (enumerate_from 0 row))
    (λ cells is.
    is
    ∙ (ap (λ (hidden : ColumnSet). map (cell_in hidden) (enumerate_from 0 row)) c.hidden_columns.ensures
    ∙ cells-of_row (λ column. not c.args.own && is_hidden c.args.edges.now c.args.by.now column) row c.requires))
    c.cells.ensures
