use Rattle.std.proofs.Common.{◌≡◌, List, take, subst}
use Rattle.std.specs.List.{list_any}
use Rattle.std.proofs.lemmas.List.{take_all}
use Rattle.own_model.specs.declared.schema.Edge.{Edge}
use Rattle.subject_erase.specs.Marked.{HaveMore, is_marked, over_followed}
use Rattle.subject_erase.proofs.marks.mark.Goals as goal

-- all edges are gone through
pub returns : goal.returns
unfolding is_marked
returns g c =
    let all : take c.loop-edge.edge-index c.args.edges.now ≡ c.args.edges.now = take_all c.loop-edge.edge-index c.args.edges.now c.loop-edge-test.false in
    subst (λ (edges : List Edge). HaveMore (λ place. list_any (over_followed c.args.followed (g.V.StoreView.db c.args.view.now).schema (g.V.StoreView.db c.args.view.now).rows c.args.flags.now place) edges) c.args.marks.now.items c.loop-edge.marks.items)
    all c.loop-edge.invariant
