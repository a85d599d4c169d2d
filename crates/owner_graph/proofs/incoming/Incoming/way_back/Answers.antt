use Rattle.std.proofs.Common.{◌≤◌, ◌∙◌, length, sym}
use Rattle.std.proofs.lemmas.List.{take_all}
use Rattle.owner_graph.proofs.WayBackLemmas.{IsLowest-take_more, IsLowest-take_skip, IsWayBack-lowest}
use Rattle.owner_graph.proofs.incoming.Incoming.way_back.Goals as goal
use Rattle.owner_graph.proofs.incoming.Incoming.way_back.Goals.{then-leads_back, else-leads_back}

pub loop-edge-preserved : goal.loop-edge-preserved
loop-edge-preserved c =
    let answer = rw c.deref.ensures.value at c.leads_back.ensures in
    elim c.if-leads_back.branch [
      | then-leads_back w ↦
          rw w.lowest-is
          (IsLowest-take_more _ c.args.self.now.edges.now c.loop-edge.edge-index _ c.loop-edge-test.true c.loop-edge.lowest c.loop-edge.invariant w.lower_of.result (sym answer ∙ w.if-leads_back.true) w.lower_of.ensures)
      | else-leads_back w ↦
          rw w.lowest-is (IsLowest-take_skip _ c.args.self.now.edges.now c.loop-edge.edge-index _ c.loop-edge-test.true c.loop-edge.lowest c.loop-edge.invariant (sym answer ∙ w.if-leads_back.false))
    ]

pub returns : goal.returns
returns c =
    let edges = c.args.self.now.edges.now in
    let past : length edges ≤ c.loop-edge.edge-index = c.loop-edge-test.false in
    let whole = rw (take_all c.loop-edge.edge-index edges past) at c.loop-edge.invariant in
    IsWayBack-lowest edges c.args.table.0 c.in_ok-leading.leading.items c.in_ok-leading.ensures.leading c.loop-edge.lowest whole
