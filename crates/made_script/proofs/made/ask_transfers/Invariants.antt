use Rattle.std.proofs.Common.{◌≡◌, ◌+◌, ◌*◌, length, ℕ}
use Rattle.std.specs.List.{flat_map, range_with_len}
use Rattle.made_model.specs.MadeTexts.{transfer_texts}
use Rattle.made_script.specs.Asking.{AskMore}
use Rattle.made_script.proofs.made.ask_transfers.Given as goal

abbrev pub invariant-loop-before : goal.invariant-loop-before
invariant-loop-before l = record {
  asked : AskMore l.fn.calls.items (flat_map (λ (before : ℕ). transfer_texts l.people l.fn.draws.seed (3 * l.people + 3 * before)) (range_with_len 0 l._before)) l.calls.items;
  longer : length l.calls.items ≡ length l.fn.calls.items + 4 * l._before;
  seed : l.draws.seed ≡ l.fn.draws.seed;
  drawn : l.draws.drawn ≡ 3 * l.people + 3 * l._before;
}
