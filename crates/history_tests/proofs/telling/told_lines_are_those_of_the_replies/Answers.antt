use Rattle.std.proofs.Common.{◌≡◌, ◌∙◌, [], ◌∷◌, ◌++◌, Some, length, slice_get, ap, refl, sym}
use Rattle.std.specs.Option.{option_map}
use Rattle.std.proofs.Math.Seq.{take-append_seam}
use Rattle.std.proofs.lemmas.Grind.{fold-append}
use Rattle.own_model.specs.declared.history.Entry.{Entry}
use Rattle.own_model.specs.Db.{Db}
use Rattle.text_model.specs.Lines.{reply_lines}
use Rattle.history_model.specs.History.{History, happens, reply, world}
use Rattle.history_model.specs.Reply.{answer}
use Rattle.history_model.specs.World.{start}
use Rattle.history_tests.specs.Told.{told_from}
use Rattle.history_tests.proofs.telling.told_lines_are_those_of_the_replies.Goals as goal

-- the entry behind a list is at its length
at_seam : (before rest : History) (entry : Entry) → slice_get (before ++ entry ∷ rest) (length before) ≡ Some entry
at_seam [] rest entry = refl
at_seam (first ∷ before) rest entry = at_seam before rest entry

tells : (base : Db) (before rest : History) (entry : Entry) → told_from (world base before) (entry ∷ rest)
    ≡ reply_lines (Some (world base before).place) entry.session.0 entry.call (answer (world base before) entry) ++ told_from (world base (before ++ entry ∷ [])) rest
unfolding told_from world
tells base before rest entry =
    ap (λ next. reply_lines (Some (world base before).place) entry.session.0 entry.call (answer (world base before) entry) ++ told_from next rest)
    (sym (fold-append happens (start base) before (entry ∷ [])))

replies : (base : Db) (before rest : History) (entry : Entry) → reply base (before ++ entry ∷ rest) (length before) ≡ Some (answer (world base before) entry)
unfolding reply
replies base before rest entry =
    ap (λ found. option_map (answer (world base found)) (slice_get (before ++ entry ∷ rest) (length before))) (take-append_seam before (entry ∷ rest))
    ∙ ap (option_map (answer (world base before))) (at_seam before rest entry)

pub returns : goal.returns
returns c = record { told = tells; replied = replies }
