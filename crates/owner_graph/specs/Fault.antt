-- What a fault tells.
use Rattle.std.specs.Prelude.{List, ⊤}
use Rattle.own_model.specs.declared.schema.Edge.{Edge}
use Rattle.owner_model.specs.Cycle.{IsCycle}
use Rattle.owner_graph.specs.declared.fault.GraphFault.{GraphFault}
use Rattle.owner_graph.specs.declared.fault.GraphFault.TheVariants.{Cycle, Memory}

-- the cycle that these edges have; being out of memory tells nothing of them
abbrev pub TellsCycle : List Edge → GraphFault → Type 0
TellsCycle edges (Cycle table through) = IsCycle edges table.0 through.0
TellsCycle edges Memory = ⊤
