use Rattle.std.proofs.Common.{◌≡◌, ◌+◌, ◌*◌, length, map}
use Rattle.std.specs.List.{range_with_len}
use Rattle.made_model.specs.MadeTexts.{note_text}
use Rattle.made_script.specs.Asking.{AskMore}
use Rattle.made_script.proofs.made.ask_notes.Given as goal

abbrev pub invariant-loop-before : goal.invariant-loop-before
invariant-loop-before l = record {
  asked : AskMore l.fn.calls.items (map (note_text l.people l.fn.draws.seed) (range_with_len 0 l.before)) l.calls.items;
  longer : length l.calls.items ≡ length l.fn.calls.items + l.before;
  seed : l.draws.seed ≡ l.fn.draws.seed;
  drawn : l.draws.drawn ≡ 3 * l.before;
}
