use Rattle.std.proofs.Common.{rules, tests, ◌∙◌, ap, sym}
use Rattle.std.specs.Option.{option_copied}
use Rattle.std.specs.Char.{is_ascii_digit}
use Rattle.std.proofs.lemmas.Iterator.{YieldsList-from_slice}
use Rattle.std.proofs.lemmas.Iterator.Search.{all_from_yields_List}
use Rattle.store_words.proofs.Numerals.{numeral_is}
use Rattle.store_words.proofs.numbers.is_numeral.Goals as goal

pub returns-then-first-ne48 : goal.returns-then-first-ne48
returns-then-first-ne48 c =
    all_from_yields_List is_ascii_digit _ _ _ c.all.ensures.ran (YieldsList-from_slice c.args.bytes.now cc) (λ x b q k. search (rules, tests))
    ∙ numeral_is c.args.bytes.now c.in-Some.first.now (sym c.first.ensures.value ∙ ap option_copied c.in-Some.is) c.if-first-ne48.true
