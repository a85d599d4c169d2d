use Rattle.std.proofs.Common.{◌+◌, ap, ◌∙◌, length, arith}
use Rattle.made_model.proofs.ShortTexts.{short-noted}
use Rattle.made_script.proofs.made.ask_note.Goals as goal

pub ask-requires-clause-short : goal.ask-requires-clause-short
ask-requires-clause-short c =
    let same = ap length (c.deref.ensures ∙ c.in_ok-text.ensures) in
    let fits = short-noted (c.args.before + 1) (1 + c.draw-a.result) (1 + c.draw-b.result) c.draw-n.result
    (omega arith, omega (arith, c.draw-a.ensures.below), omega (arith, c.draw-b.ensures.below), omega (arith, c.draw-n.ensures.below)) in
    omega arith
