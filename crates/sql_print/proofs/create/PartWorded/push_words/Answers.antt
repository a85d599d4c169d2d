use Rattle.std.proofs.Common.{append-nil}
use Rattle.text_model.specs.Canonical.{part_words}
use Rattle.sql_print.proofs.Spaced.{three-pieces}
use Rattle.sql_print.proofs.create.PartWorded.push_words.Goals as goal

pub returns-in_ok-push-in-DelRow-2 : goal.returns-in_ok-push-in-DelRow-2
unfolding part_words
returns-in_ok-push-in-DelRow-2 c = rw (c.in-DelRow.is, c.in_ok-push-in-DelRow-2.ensures, c.in_ok-push_words-in-DelRow.ensures, append-nil, c.in_ok-push-in-DelRow.ensures, three-pieces)
