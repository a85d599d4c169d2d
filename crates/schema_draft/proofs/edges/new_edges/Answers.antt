use Rattle.std.proofs.Common.{◌<◌, ◌+◌, ◌≡◌, [], ◌∷◌, ◌++◌, ap, subst, ◌∙◌, length, get_or, arith}
use Rattle.std.proofs.lemmas.List.{length_push}
use Rattle.schema_model.specs.NewEdges.{new_edge}
use Rattle.schema_draft.specs.EdgeColumn.{edge_column_seen}
use Rattle.schema_draft.proofs.ColumnCounts.{length-columns}
use Rattle.schema_draft.proofs.EdgeLists.{edges_of-none, edges_of-some}
use Rattle.schema_draft.proofs.edges.new_edges.Goals as goal
use Rattle.schema_draft.proofs.edges.new_edges.Goals.{in-Some+in_ok-add, in_default}

pub loop-number-preserved : goal.loop-number-preserved
loop-number-preserved c =
    let edge = new_edge c.args.schema.now c.args.draft.now in
    let from = length c.args.schema.now.edges in
    let columns = c.args.table.now.columns in
    let edges = c.loop-number.edges in
    let number = c.loop-number.number in
    let column = c.column-item.result in
    let same = c.items-column-items.ensures in
    let within : number < length columns = subst (λ columns. number < length columns) same c.loop-number-test.true in
    let is : column ≡ get_or columns number column = c.column-item.is ∙ ap (λ columns. get_or columns number column) same in
    let before = c.loop-number.invariant.made in
    elim c.match-edge_column.branch [
      | in-Some+in_ok-add w ↦
          let at = length c.items-first.result.now + length w.items.result.now in
          let place : at ≡ from + length edges = omega (arith, ap length c.items-first.ensures, ap length w.items.ensures) in
          let added = w.edges-is ∙ w.in_ok-add.ensures.added in
          record {
            made = added ∙ ap (λ made. edges ++ made ∷ []) w.new_edge.ensures
                ∙ edges_of-some edge from columns number column within is edges at (edge_column_seen w.in-Some.column) before place w.in-Some.ensures;
            fewer = omega (arith, ap length added, length_push edges w.new_edge.result);
          }
      | in_default w ↦ record {
        made = w.edges-is ∙ before ∙ edges_of-none edge from columns number column within is w.in_default.ensures;
        fewer = omega (arith, ap length w.edges-is);
      }
    ]

pub edge_column-requires : goal.edge_column-requires
edge_column-requires c =
    omega (arith, ap length c.items-column-items.ensures, length-columns c.args.schema.now c.args.draft.now c.args.table.now c.requires.made)

pub overflow_cast-number : goal.overflow_cast-number
overflow_cast-number c =
    let first = ap length c.items-first.ensures in
    let all = ap length c.items-column-items.ensures in
    let some = ap length c.items.ensures in
    omega (arith, length-columns c.args.schema.now c.args.draft.now c.args.table.now c.requires.made)
