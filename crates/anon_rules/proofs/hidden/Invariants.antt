use Rattle.std.proofs.Common.{◌≡◌}
use Rattle.owner_model.specs.RuledColumns.{hides}
use Rattle.anon_rules.proofs.SetsOverLists.{all_of_first}
use Rattle.anon_rules.proofs.hidden.Given as goal

-- the columns that each of the numbers so far hides
abbrev pub invariant-loop-number : goal.invariant-loop-number
invariant-loop-number l = record { 0 = l.columns } ≡ all_of_first (λ number column. hides l.edges column number) l.by l.number-index
