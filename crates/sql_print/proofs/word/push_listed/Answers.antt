use Rattle.std.proofs.Common.{append_assoc, codes}
use Rattle.std.proofs.lemmas.List.{take_rest}
use Rattle.sql_print.proofs.Spaced.{after_spaces-separated}
use Rattle.sql_print.proofs.word.push_listed.Goals as goal

-- the first part, and then the others
pub returns-in_ok-push_others-in-len1-up : goal.returns-in_ok-push_others-in-len1-up
returns-in_ok-push_others-in-len1-up g c =
    rw (
      after_spaces-separated (codes ",") g.T.Worded.words c.args.parts.now c.first-item.result c.in-len1-up.len_at_least c.first-item.is,
      c.in_ok-push_others-in-len1-up.ensures,
      take_rest c.args.parts.now 1,
      c.in_ok-push_words-in-len1-up.ensures,
    )
    (simp append_assoc)
