use Rattle.std.proofs.Common.{sym, ◌∙◌, ap, subst}
use Rattle.std.specs.Prelude.{IsTrue, map}
use Rattle.own_model.specs.Db.{Db}
use Rattle.own_model.specs.declared.schema.Edge.{Edge}
use Rattle.link_model.specs.Holds.{holders_at}
use Rattle.link_model.specs.Indexed.{is_indexed_at}
use Rattle.link_model.proofs.EdgeColumns.{edges_indexed}
use Rattle.subject_model.proofs.Members.{all_contained}
use Rattle.owner_index.proofs.UpperLemmas.{adds-naming}
use Rattle.owner_index.specs.Referrers.{named}
use Rattle.owner_index.proofs.upper.add_naming.Goals as goal

-- the column of an edge is indexed
pub referrers-requires : goal.referrers-requires
referrers-requires g c =
    subst (λ (db : Db). IsTrue (is_indexed_at db.schema c.args.edge.now.holder.0 c.args.edge.now.column.0)) (sym c.requires.linked)
    (all_contained (λ (edge : Edge). IsTrue (is_indexed_at (g.V.StoreView.db c.args.view.now).schema edge.holder.0 edge.column.0)) (g.V.StoreView.db c.args.view.now).schema.edges c.args.edge.now
    (edges_indexed (g.V.StoreView.db c.args.view.now).schema c.requires.owner) c.requires.among)

pub returns : goal.returns
returns g c =
    adds-naming (g.V.StoreView.db c.args.view.now) c.args.name.now c.args.edge.now c.args.row.now (record { among = c.requires.among; of_lower = c.requires.of_lower; row_is = c.requires.row }) c.requires.held
    c.requires.owner (g.met.V.StoreView.ordered c.args.view.now) c.args.uppers.now c.add_all.new.uppers c.items.result.now
    (c.items.ensures ∙ (c.in_ok-names.ensures ∙ ap (λ (db : Db). map (named c.args.edge.now.holder) (holders_at db c.args.edge.now.holder.0 c.args.edge.now.column.0 c.args.name.now.key)) c.requires.linked))
    c.in_ok-add_all.ensures
