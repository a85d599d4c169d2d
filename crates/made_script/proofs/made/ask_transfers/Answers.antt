use Rattle.std.proofs.Common.{◌+◌, ◌*◌, ℕ, ◌∙◌, arith, subst}
use Rattle.made_model.specs.MadeTexts.{transfer_texts}
use Rattle.made_script.specs.Asking.{AskMore}
use Rattle.made_script.proofs.AskMore.{more-listed}
use Rattle.made_script.proofs.made.ask_transfers.Goals as goal

pub ask_transfer-requires-clause-room : goal.ask_transfer-requires-clause-room
ask_transfer-requires-clause-room c = omega (arith, c.loop-before.invariant.longer)

pub ask_transfer-requires-clause-drawn : goal.ask_transfer-requires-clause-drawn
ask_transfer-requires-clause-drawn c = omega (arith, c.loop-before.invariant.drawn)

pub loop-before-preserved : goal.loop-before-preserved
loop-before-preserved c =
    let so_far = 3 * c.args.people + 3 * c.loop-before._before in
    record {
      asked = more-listed (λ (before : ℕ). transfer_texts c.args.people c.args.draws.now.seed (3 * c.args.people + 3 * before)) 0 c.loop-before._before c.loop-before._before (omega arith)
          c.loop-before.invariant.asked
          (subst (λ (drawn : ℕ). AskMore c.loop-before.calls.items (transfer_texts c.args.people c.args.draws.now.seed drawn) c.ask_transfer.new.calls.items) c.loop-before.invariant.drawn
          (subst (λ (seed : ℕ). AskMore c.loop-before.calls.items (transfer_texts c.args.people seed c.loop-before.draws.drawn) c.ask_transfer.new.calls.items) c.loop-before.invariant.seed
          c.in_ok-ask_transfer.ensures.asks));
      longer = omega (arith, c.in_ok-ask_transfer.ensures.longer, c.loop-before.invariant.longer);
      seed = c.ask_transfer.ensures.seed ∙ c.loop-before.invariant.seed;
      drawn = omega (arith, c.ask_transfer.ensures.drawn, c.loop-before.invariant.drawn);
    }
