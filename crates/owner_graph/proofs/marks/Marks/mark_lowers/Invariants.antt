use Rattle.std.proofs.Common.{take}
use Rattle.owner_graph.specs.Marking.{MarksMore, is_lower}
use Rattle.owner_graph.proofs.marks.Marks.mark_lowers.Given as goal

abbrev pub invariant-loop-edge : goal.invariant-loop-edge
invariant-loop-edge l = MarksMore (is_lower (take l.edge-index l.edges)) l.initial.self l.self
