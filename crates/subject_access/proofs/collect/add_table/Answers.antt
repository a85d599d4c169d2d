use Rattle.std.proofs.Common.{◌<◌, ◌≤◌, length, sym, ◌∙◌, subst, arith}
use Rattle.std.proofs.lemmas.Option.{slice_get_within}
use Rattle.own_model.specs.Stored.{rows_at}
use Rattle.subject_access.proofs.ShownLemmas.{shown-more, shown-start}
use Rattle.subject_access.proofs.collect.add_table.Goals as goal
use Rattle.subject_access.proofs.collect.add_table.Goals.{in-Some+in_ok-add_row, in_default}
use Rattle.subject_model.proofs.TableByTable.{past-none}
use Rattle.state_model.proofs.StoredRows.{row-within}

pub loop-at-init : goal.loop-at-init
loop-at-init g c =
    shown-start (g.V.StoreView.db c.args.access.now.view.now) c.args.access.now.subject.now.0 c.args.table.0 c.args.definition.now c.args.shown.now

pub row_at-requires : goal.row_at-requires
row_at-requires g c = slice_get_within (g.V.StoreView.db c.args.access.now.view.now).schema.tables c.args.table.0 c.args.definition.now c.requires.there

-- a row of the table is no longer than a table may have columns
pub add_row-requires-clause-length : goal.add_row-requires-clause-length
add_row-requires-clause-length g c =
    row-within (g.V.StoreView.db c.args.access.now.view.now).schema (g.V.StoreView.db c.args.access.now.view.now).rows c.args.table.0 c.loop-at.at c.args.definition.now c.in-Some.row.now c.requires.limits c.requires.rows
    c.requires.there (sym c.in-Some.ensures)

-- one row more is shown
pub loop-at-preserved : goal.loop-at-preserved
loop-at-preserved g c =
    let db = g.V.StoreView.db c.args.access.now.view.now in
    let rows = rows_at db.rows c.args.table.0 in
    let before : c.loop-at.at < length rows = subst (λ n. c.loop-at.at < n) c.count-at-end.ensures c.loop-at-test.true in
    elim c.match-row_at.branch [
      | in-Some+in_ok-add_row w ↦
          shown-more db c.args.access.now.subject.now.0 c.args.table.0 c.args.definition.now rows c.loop-at.at w.in-Some.row.now c.args.shown.now c.loop-at.shown c.match-row_at.shown (sym w.in-Some.ensures)
          c.loop-at.invariant (w.shown-is ∙ w.in_ok-add_row.ensures)
      | in_default w ↦ let past : length rows ≤ c.loop-at.at = past-none rows c.loop-at.at (sym w.in_default.ensures) in absurd (omega arith)
    ]
