use Rattle.std.proofs.Common.{append-nil}
use Rattle.text_model.specs.Canonical.{view_words}
use Rattle.sql_print.proofs.Spaced.{after_spaces-select, four-pieces, spaced-first}
use Rattle.sql_print.proofs.create.push_view.Goals as goal

-- each part goes after those before it
pub returns : goal.returns
unfolding view_words
returns c = rw (spaced-first, after_spaces-select c.args.view.now.select, c.in_ok-push_select.ensures, c.in_ok-push-2.ensures, c.in_ok-push_words.ensures, append-nil, c.in_ok-push.ensures, four-pieces)
