use Rattle.std.proofs.Common.{◌≡◌, ◌<◌, [], ◌++◌, length, take, get_or, ap, ◌∙◌, arith, map}
use Rattle.std.specs.List.{flat_map, range_with_len}
use Rattle.std.proofs.lemmas.List.{take_all}
use Rattle.std.proofs.lemmas.List.FromFn.{get_or-map-range_with_len, length-map-range_with_len}
use Rattle.own_model.specs.Stored.{rows_at}
use Rattle.owner_sets.specs.Gathered.{gathered, over_counted, own_set}
use Rattle.owner_sets.proofs.gather.gathered.Goals as goal

-- the lists of the rows' own sets stay as many
pub returns-clause-rows : goal.returns-clause-rows
returns-clause-rows g c =
    let schema = (g.V.StoreView.db c.args.view.now).schema in
    let rows = (g.V.StoreView.db c.args.view.now).rows in
    let count = length (rows_at rows c.args.table.0) in
    let own = own_set schema rows c.args.table.0 in
    c.loop-edge.invariant.same_length ∙ (ap length c.in_ok-lists.ensures ∙ length-map-range_with_len own 0 count)

pub returns-clause-each : goal.returns-clause-each
unfolding gathered
returns-clause-each g c = λ place within.
    let schema = (g.V.StoreView.db c.args.view.now).schema in
    let rows = (g.V.StoreView.db c.args.view.now).rows in
    let count = length (rows_at rows c.args.table.0) in
    let own = own_set schema rows c.args.table.0 in
    let first : c.in_ok-lists.lists.items ≡ map own (range_with_len 0 count) = c.in_ok-lists.ensures in
    let there : place < length c.in_ok-lists.lists.items = omega (arith, ap length first, length-map-range_with_len own 0 count) in
    let all : take c.loop-edge.edge-index c.args.edges.now ≡ c.args.edges.now = take_all c.loop-edge.edge-index c.args.edges.now c.loop-edge-test.false in
    let at_first : get_or c.in_ok-lists.lists.items place [] ≡ own place = ap (λ lists. get_or lists place []) first ∙ get_or-map-range_with_len own 0 count place place [] within (omega arith) in
    c.loop-edge.invariant.at place there
    ∙ (ap (λ list. list ++ flat_map (over_counted c.args.which schema rows c.args.done.now place) (take c.loop-edge.edge-index c.args.edges.now)) at_first
    ∙ ap (λ edges. own place ++ flat_map (over_counted c.args.which schema rows c.args.done.now place) edges) all)
