use Rattle.std.proofs.Common.{◌-◌, arith}
use Rattle.owner_graph.proofs.LeftLemmas.{IsCycle-way_back, left_on_walk}
use Rattle.owner_graph.proofs.incoming.Incoming.found_cycle.Goals as goal

pub returns-in-Some : goal.returns-in-Some
returns-in-Some c =
    let self = c.args.self.now in
    let back = rw c.in-Some.is at c.in_ok-through.ensures in
    IsCycle-way_back self.tables self.edges.now (c.loop-number.number - 1) c.in-Some.through.0 c.requires.within back (λ other higher inside. c.loop-number.invariant other (omega arith) inside)

pub unreachable-requires : goal.unreachable-requires
unreachable-requires c =
    let self = c.args.self.now in
    let sorting = c.args.sorting.now in
    left_on_walk self.tables self.edges.now sorting.order.items sorting.waiting.items c.requires.within c.requires.all c.requires.tables c.requires.left
    (λ table inside. c.loop-number.invariant table (omega arith) inside)
