use Rattle.std.proofs.Common.{◌≡◌, List, ap, sym, ◌∙◌}
use Rattle.std.specs.Prelude.{Some}
use Rattle.std.proofs.lemmas.Result.{IfOk-weaker}
use Rattle.own_base.specs.declared.number.ColumnSet.{ColumnSet}
use Rattle.own_base.specs.declared.number.EdgeNo.{EdgeNo}
use Rattle.own_model.specs.declared.schema.Edge.{Edge}
use Rattle.own_model.specs.declared.schema.Schema.{Schema}
use Rattle.owner_model.specs.ColumnSets.{set_of}
use Rattle.owner_model.specs.RuledColumns.{is_blanked}
use Rattle.shelf_erase.specs.ChangeAt.{as_named}
use Rattle.shelf_erase.specs.Lost.{blanked_by}
use Rattle.shelf_erase.proofs.LostLemmas.{blanked-by}
use Rattle.shelf_erase.proofs.ShelfPlaces.{few-values, removed-change, table-within, untold-stays}
use Rattle.subject_model.specs.Owners.{by}
use Rattle.shelf_erase.proofs.becoming.becomes.Goals as goal

pub definition_of-definition-requires : goal.definition_of-definition-requires
definition_of-definition-requires g c = table-within (g.V.StoreView.db c.args.view.now) c.args.name.now c.args.row.now c.requires.row

pub returns-then-has : goal.returns-then-has
returns-then-has g c = λ subject are by_is.
    let db = g.V.StoreView.db c.args.view.now in
    ap Some c.in_ok-change.ensures ∙ sym (removed-change db subject c.args.removals.now c.args.name.now c.args.row.now are c.requires.row (sym c.has.ensures ∙ c.if-has.true))

pub returns : goal.returns
returns g c =
    let db = g.V.StoreView.db c.args.view.now in
    let name = c.args.name.now in
    let row = c.args.row.now in
    let definition = c.definition_of-definition.result.now in
    let edges_are : c.items.result.now ≡ db.schema.edges = c.items.ensures ∙ ap (λ (s : Schema). s.edges) c.schema.ensures in
    IfOk-weaker c.blanked_row.result _ _
    (λ change is subject are by_is.
    let ruled : c.blanked-ruled.result ≡ set_of (is_blanked db.schema.edges (by db subject name)) =
    c.blanked-ruled.ensures ∙ (ap (λ (edges : List Edge). set_of (is_blanked edges c.args.by.now)) edges_are ∙ ap (λ (numbers : List EdgeNo). set_of (is_blanked db.schema.edges numbers)) by_is) in
    is ∙ (ap (λ (set : ColumnSet). blanked_by c.args.removals.now definition set (as_named name row)) ruled
    ∙ blanked-by db subject c.args.removals.now are definition name row (few-values db name row c.requires.sound c.requires.row) c.definition_of-definition.ensures c.requires.row
    (untold-stays db subject c.args.removals.now name row are c.requires.row (sym c.has.ensures ∙ c.if-has.false))))
    c.blanked_row.ensures
