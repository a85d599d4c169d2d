use Rattle.std.proofs.Common.{ap, ◌∙◌, length, arith}
use Rattle.made_model.proofs.ShortTexts.{short-erased}
use Rattle.made_script.proofs.made.ask_erased.Goals as goal

pub ask-requires-clause-short : goal.ask-requires-clause-short
ask-requires-clause-short c =
    let same = ap length (c.deref.ensures ∙ c.in_ok-text.ensures) in
    let fits = short-erased c.args.number (omega arith) in
    omega arith
