use Rattle.std.proofs.Common.{◌≡◌, ℕ, List, ◌++◌, ap, sym, ◌∙◌, arith}
use Rattle.std.specs.Prelude.{flat_map, length}
use Rattle.std.specs.List.{range_with_len}
use Rattle.std.specs.Option.{option_to_list}
use Rattle.own_model.specs.Stored.{rows_at}
use Rattle.owner_sets.specs.declared.link.Link.{Link}
use Rattle.owner_sets.specs.Links.{link_at, links}
use Rattle.owner_sets.proofs.Ranges.{flat_map_range_more}
use Rattle.owner_sets.proofs.edges.links.Goals as goal

-- what the edge joins to one row more is there
pub loop-at-preserved : goal.loop-at-preserved
loop-at-preserved g c =
    let f : ℕ → List Link = λ place. option_to_list (link_at (g.V.StoreView.db c.args.view.now).schema (g.V.StoreView.db c.args.view.now).rows c.args.edge.now place) in
    c.in_ok-add_link.ensures
    ∙ (ap (λ items. items ++ option_to_list c.link_at-link.result) c.loop-at.invariant
    ∙ (ap (λ more. flat_map f (range_with_len 0 c.loop-at.at) ++ option_to_list more) c.link_at-link.ensures
    ∙ sym (flat_map_range_more f c.loop-at.at)))

pub returns : goal.returns
unfolding links
returns g c =
    let f : ℕ → List Link = λ place. option_to_list (link_at (g.V.StoreView.db c.args.view.now).schema (g.V.StoreView.db c.args.view.now).rows c.args.edge.now place) in
    let all : c.loop-at.at ≡ length (rows_at (g.V.StoreView.db c.args.view.now).rows c.args.edge.now.holder.0) = omega (arith, c.count-at-end.ensures, c.loop-at.auto.at-end) in
    c.loop-at.invariant ∙ ap (λ n. flat_map f (range_with_len 0 n)) all
