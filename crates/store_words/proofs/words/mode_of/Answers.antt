use Rattle.std.proofs.Common.{rules, ◌∙◌, sym, map, string_bytes}
use Rattle.store_words.proofs.Modes.{mode_found, no_mode_refused}
use Rattle.store_words.proofs.words.mode_of.Goals as goal

pub returns-in-Ok : goal.returns-in-Ok
returns-in-Ok c =
    c.mode_matched.ensures
    ∙ mode_found _ (map string_bytes c.args.words.now) c.in-Ok.matches c.in_ok-command.ensures (sym c.has_dash_word.ensures ∙ c.if-has_dash_word.false)
    c.in-Ok.ensures.kinds c.in-Ok.ensures.matches

pub returns-in-Err-2 : goal.returns-in-Err-2
returns-in-Err-2 c =
    sym (no_mode_refused _ (map string_bytes c.args.words.now) _ c.in_ok-command.ensures (sym c.has_dash_word.ensures ∙ c.if-has_dash_word.false) c.in-Err-2.ensures.kinds
    (search rules))
