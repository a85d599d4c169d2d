use Rattle.std.proofs.Common.{◌≡◌, ◌+◌, length, not}
use Rattle.std.specs.Prelude.{count_by}
use Rattle.owner_graph.proofs.WalkedBackLemmas.{WalkedBack}
use Rattle.owner_graph.proofs.incoming.Incoming.leading_to.Given as goal

abbrev pub invariant-loop-reached : goal.invariant-loop-reached
invariant-loop-reached l = WalkedBack l.self.edges.now l.fn.table.0 l.marks × (length l.marks.marked.items ≡ l.self.tables)

abbrev pub decreases-loop-reached : goal.decreases-loop-reached
decreases-loop-reached l = count_by not l.marks.marked.items + length l.marks.pending.items
