use Rattle.std.proofs.Common.{sym, subst}
use Rattle.owner_sets.specs.ByEdges.{AreEdgesOfTable}
use Rattle.owner_sets.proofs.LeadingLemmas.{edges-leading}
use Rattle.owner_sets.proofs.by_edges.table_edges.Goals as goal

-- the edges that lead on from each row are those by which the subject reaches it
pub returns : goal.returns
returns g c =
    let db = g.V.StoreView.db c.args.view.now in
    subst (AreEdgesOfTable db c.args.subject.now.0 c.args.table.0) (sym c.from_vec.ensures)
    (edges-leading db (g.met.V.StoreView.ordered c.args.view.now) c.requires.owner c.args.sets.now c.requires.reach c.args.subject.now c.args.table c.in_ok-lists.lists.items c.in_ok-lists.ensures.rows c.in_ok-lists.ensures.each)
