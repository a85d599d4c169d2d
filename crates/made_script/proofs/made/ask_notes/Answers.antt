use Rattle.std.proofs.Common.{ℕ, [], ◌∷◌, arith, subst, ◌∙◌}
use Rattle.made_model.specs.MadeTexts.{note_text}
use Rattle.made_script.specs.Asking.{AskMore}
use Rattle.made_script.proofs.AskMore.{more-mapped}
use Rattle.made_script.proofs.made.ask_notes.Goals as goal

pub ask_note-requires-clause-room : goal.ask_note-requires-clause-room
ask_note-requires-clause-room c = omega (arith, c.loop-before.invariant.longer)

pub ask_note-requires-clause-drawn : goal.ask_note-requires-clause-drawn
ask_note-requires-clause-drawn c = c.loop-before.invariant.drawn

pub loop-before-preserved : goal.loop-before-preserved
loop-before-preserved c = record {
  asked = more-mapped (note_text c.args.people c.args.draws.now.seed) 0 c.loop-before.before c.loop-before.before (omega arith) c.loop-before.invariant.asked
      (subst (λ (seed : ℕ). AskMore c.loop-before.calls.items (note_text c.args.people seed c.loop-before.before ∷ []) c.ask_note.new.calls.items) c.loop-before.invariant.seed c.in_ok-ask_note.ensures.asks);
  longer = omega (arith, c.in_ok-ask_note.ensures.longer);
  seed = c.ask_note.ensures.seed ∙ c.loop-before.invariant.seed;
  drawn = omega (arith, c.ask_note.ensures.drawn);
}
