use Rattle.std.proofs.Common.{◌≤◌, ◌+◌, ◌*◌, length}
use Rattle.std.specs.List.{flat_map}
use Rattle.made_model.specs.MadeTexts.{erased_people, erasure_texts}
use Rattle.made_script.specs.Asking.{AskMore}
use Rattle.made_script.proofs.made.ask_erasures.Given as goal

abbrev pub invariant-loop-before : goal.invariant-loop-before
invariant-loop-before l = record {
  asked : AskMore l.fn.calls.items (flat_map erasure_texts (erased_people l.before)) l.calls.items;
  longer : length l.calls.items ≤ length l.fn.calls.items + 2 * l.before;
}
