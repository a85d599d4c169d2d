use Rattle.std.proofs.Common.{◌≤◌, ◌∙◌, length, ap, subst}
use Rattle.own_model.specs.declared.schema.Schema.{Schema}
use Rattle.owner_sets.proofs.MarkLemmas.{edges_to-all, edges_to-more, edges_to-none}
use Rattle.owner_sets.proofs.by_edges.ByEdges.of.Goals as goal

pub loop-number-init : goal.loop-number-init
loop-number-init g c = rw (c.new-edges.ensures) (edges_to-none (g.V.StoreView.db c.args.view.now) c.args.subject.now.0)

-- one table more has its edges
pub loop-number-preserved : goal.loop-number-preserved
loop-number-preserved g c =
    let db = g.V.StoreView.db c.args.view.now in
    rw (c.in_ok-add.ensures.added)
    (edges_to-more db c.args.subject.now.0 c.loop-number.number c.loop-number.edges c.in_ok-table_edges.field-0 c.loop-number.invariant c.in_ok-table_edges.ensures)

pub returns : goal.returns
returns g c =
    let db = g.V.StoreView.db c.args.view.now in
    let past : length db.schema.tables ≤ c.loop-number.number =
    subst (λ n. n ≤ c.loop-number.number) (ap length (c.items-number-end.ensures ∙ ap (λ (s : Schema). s.tables) c.schema.ensures)) c.loop-number-test.false in
    edges_to-all db c.args.subject.now.0 c.loop-number.number c.loop-number.edges c.loop-number.invariant past
