use Rattle.std.proofs.Common.{◌≡◌}
use Rattle.anon_rules.proofs.SetsOverLists.{some_of_first}
use Rattle.anon_rules.specs.Ruled.{rules_column}
use Rattle.anon_rules.proofs.columns_of.Given as goal

-- the columns that the edges so far rule
abbrev pub invariant-loop-edge : goal.invariant-loop-edge
invariant-loop-edge l = record { 0 = l.ruled } ≡ some_of_first (rules_column l.rule l.number) l.edges l.edge-index
