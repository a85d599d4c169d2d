use Rattle.text_model.specs.Canonical.{select_words}
use Rattle.sql_print.proofs.Spaced.{after_spaces-append, spaced-first, three-pieces}
use Rattle.sql_print.proofs.select.push_select.Goals as goal

-- each part goes after those before it
pub returns : goal.returns
unfolding select_words
returns c = rw (spaced-first, after_spaces-append, c.in_ok-push_source.ensures, c.in_ok-push_items.ensures, c.in_ok-push.ensures, three-pieces)
