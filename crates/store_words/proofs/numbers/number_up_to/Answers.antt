use Rattle.std.proofs.Common.{◌∙◌, ap, sym}
use Rattle.store_words.specs.Numbers.{is_numeral}
use Rattle.store_words.proofs.Numerals.{numeral_too_great}
use Rattle.store_words.proofs.numbers.number_up_to.Goals as goal

pub returns-in_err-number : goal.returns-in_err-number
returns-in_err-number c =
    let numeral = ap is_numeral (sym c.as_bytes.ensures.value) ∙ sym c.is_numeral.ensures ∙ c.if-not-is_numeral.false in
    c.from_residual.ensures ∙ numeral_too_great c.args.most c.args.word.now c.parse.result numeral c.ranges.most.fits c.parse.ensures.value.0 (sym c.ok.ensures.value ∙ c.in_err-number.was)
