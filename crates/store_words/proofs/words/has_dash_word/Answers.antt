use Rattle.std.proofs.Common.{rules, tests, string_bytes, ◌∙◌}
use Rattle.std.proofs.lemmas.Iterator.{YieldsList-from_slice}
use Rattle.std.proofs.lemmas.Iterator.Search.{any_from_yields_List}
use Rattle.clap.proofs.WalkLemmas.{list_any-map}
use Rattle.store_words.specs.Command.{begins_with_dash}
use Rattle.store_words.proofs.words.has_dash_word.Goals as goal

pub returns : goal.returns
returns c =
    any_from_yields_List (λ word. begins_with_dash (string_bytes word)) _ _ _ c.any.ensures.ran (YieldsList-from_slice c.args.words.now cc) (λ x b q k. search (rules, tests))
    ∙ list_any-map begins_with_dash (λ word. string_bytes word) c.args.words.now
