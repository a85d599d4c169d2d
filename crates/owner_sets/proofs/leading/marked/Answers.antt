use Rattle.std.proofs.Common.{◌≡◌, ◌<◌, ◌||◌, ◌∙◌, List, false, length, take, get_or, ap, arith}
use Rattle.std.specs.Prelude.{replicate}
use Rattle.std.specs.List.{flat_map}
use Rattle.std.proofs.lemmas.List.{get_or-replicate, length-replicate, take_all}
use Rattle.own_base.specs.declared.row_name.Subject.{Subject}
use Rattle.owner_sets.specs.declared.link.Link.{Link}
use Rattle.owner_sets.specs.Gathered.{over_edge, over_link}
use Rattle.owner_sets.specs.Leading.{is_among}
use Rattle.owner_sets.specs.Links.{links}
use Rattle.owner_sets.proofs.leading.marked.Goals as goal

-- all links are gone through, and none was marked before
pub returns-clause-each : goal.returns-clause-each
unfolding over_edge
returns-clause-each g c = λ place within.
    let schema = (g.V.StoreView.db c.args.view.now).schema in
    let rows = (g.V.StoreView.db c.args.view.now).rows in
    let first : c.in_ok-marks.marks.items ≡ replicate c.args.rows false = c.in_ok-marks.ensures.items_if_clones_equal (λ y same. same) in
    let there : place < length c.in_ok-marks.marks.items = omega (arith, ap length first, length-replicate c.args.rows false) in
    let unmarked : get_or c.in_ok-marks.marks.items place false ≡ false = ap (λ marks. get_or marks place false) first ∙ get_or-replicate c.args.rows place false false within in
    let all : take c.loop-link.link-index c.deref-link-items.result.now ≡ links schema rows c.args.edge.now =
    take_all c.loop-link.link-index c.deref-link-items.result.now c.loop-link-test.false ∙ (c.deref-link-items.ensures.value ∙ c.in_ok-links.ensures) in
    let over : Link → List Subject = over_link schema rows c.args.reach.now c.args.edge.now place in
    c.loop-link.invariant.at place there
    ∙ (ap (λ b. b || is_among c.args.subject.now (flat_map over (take c.loop-link.link-index c.deref-link-items.result.now))) unmarked
    ∙ ap (λ (found : List Link). is_among c.args.subject.now (flat_map over found)) all)
