use Rattle.std.proofs.Common.{◌≡◌, ℕ, ◌<◌, ◌≤◌, false}
use Rattle.owner_model.specs.Leads.{leads}
use Rattle.owner_graph.proofs.incoming.Incoming.found_cycle.Given as goal

abbrev pub invariant-loop-number : goal.invariant-loop-number
invariant-loop-number l = (table : ℕ) → l.number ≤ table → table < l.self.tables → leads l.self.edges.now table table ≡ false
