use Rattle.std.proofs.Common.{◌≡◌}
use Rattle.owner_model.specs.RuledColumns.{blanks}
use Rattle.anon_rules.proofs.SetsOverLists.{some_of_first}
use Rattle.anon_rules.proofs.blanked.Given as goal

-- the columns that one of the numbers so far rules
abbrev pub invariant-loop-number : goal.invariant-loop-number
invariant-loop-number l = record { 0 = l.columns } ≡ some_of_first (λ number column. blanks l.edges column number) l.by l.number-index
