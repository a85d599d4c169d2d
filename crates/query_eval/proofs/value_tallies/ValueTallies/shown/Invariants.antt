use Rattle.std.proofs.Common.{◌≡◌, ◌++◌, map}
use Rattle.std.specs.List.{AllByRecursion, All}
use Rattle.query_eval.specs.ShownEntry.{shown_entry}
use Rattle.query_eval.specs.Tally.{HasRoom}
use Rattle.query_eval.proofs.value_tallies.ValueTallies.shown.Given as goal

abbrev pub invariant-loop-value : goal.invariant-loop-value
invariant-loop-value l = record {
  rows : l.rows ++ map shown_entry l.value-iterator ≡ map shown_entry l.self.groups.entries;
  few : AllByRecursion (λ entry. All (HasRoom 0) entry.1) l.value-iterator;
}
