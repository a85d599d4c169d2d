use Rattle.std.proofs.Common.{◌≡◌, List, [], Bool, take, get_or, ◌∙◌, subst}
use Rattle.std.specs.List.{list_any}
use Rattle.std.proofs.lemmas.List.{take_all}
use Rattle.owner_sets.specs.declared.link.Link.{Link}
use Rattle.owner_sets.specs.Links.{links}
use Rattle.subject_erase.specs.Marked.{HaveMore, over_edge, over_link}
use Rattle.subject_erase.proofs.marks.mark_edge.Goals as goal

-- all links are gone through
pub returns : goal.returns
unfolding over_edge
returns g c =
    let schema = (g.V.StoreView.db c.args.view.now).schema in
    let rows = (g.V.StoreView.db c.args.view.now).rows in
    let upper : c.flags_of-upper.result.now ≡ get_or c.args.flags.now c.args.edge.now.upper.0 [] = c.flags_of-upper.ensures in
    let all : take c.loop-link.link-index c.deref-link-items.result.now ≡ links schema rows c.args.edge.now =
    take_all c.loop-link.link-index c.deref-link-items.result.now c.loop-link-test.false ∙ (c.deref-link-items.ensures.value ∙ c.in_ok-links.ensures) in
    subst (λ (found : List Link). HaveMore (λ place. list_any (over_link (get_or c.args.flags.now c.args.edge.now.upper.0 []) place) found) c.args.marks.now.items c.loop-link.marks.items) all
    (subst (λ (flags : List Bool). HaveMore (λ place. list_any (over_link flags place) (take c.loop-link.link-index c.deref-link-items.result.now)) c.args.marks.now.items c.loop-link.marks.items) upper
    c.loop-link.invariant)
