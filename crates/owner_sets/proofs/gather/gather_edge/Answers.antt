use Rattle.std.proofs.Common.{◌≡◌, List, take, ◌∙◌, subst}
use Rattle.std.specs.List.{flat_map}
use Rattle.std.proofs.lemmas.List.{take_all}
use Rattle.owner_sets.specs.declared.link.Link.{Link}
use Rattle.owner_sets.specs.Gathered.{HasMore, over_edge, over_link}
use Rattle.owner_sets.specs.Links.{links}
use Rattle.owner_sets.proofs.gather.gather_edge.Goals as goal

-- all links are gone through
pub returns : goal.returns
unfolding over_edge
returns g c =
    let schema = (g.V.StoreView.db c.args.view.now).schema in
    let rows = (g.V.StoreView.db c.args.view.now).rows in
    let all : take c.loop-link.link-index c.deref-link-items.result.now ≡ links schema rows c.args.edge.now =
    take_all c.loop-link.link-index c.deref-link-items.result.now c.loop-link-test.false ∙ (c.deref-link-items.ensures.value ∙ c.in_ok-links.ensures) in
    subst (λ (found : List Link). HasMore (λ place. flat_map (over_link schema rows c.args.done.now c.args.edge.now place) found) c.args.gathered.now.items c.loop-link.gathered.items) all
    c.loop-link.invariant
