use Rattle.std.proofs.Common.{◌≡◌, ◌∙◌, Ok, map, ap, sym, subst}
use Rattle.std.specs.Char.{to_ascii_lowercase}
use Rattle.grammar_model.specs.Limits.{store_limits}
use Rattle.grammar_model.specs.Terminal.{Written}
use Rattle.sql_reader.specs.reading.Judges.{folded, name_of}
use Rattle.sql_reader.proofs.HeldNames.{held}
use Rattle.sql_reader.proofs.names.Names.shared.Goals as goal

-- What is spelled as a name is that name.
pub returns-in-Ok : goal.returns-in-Ok
returns-in-Ok c =
    let token = c.args.token.now in
    let found = c.in_ok-name-in-Name.ensures in
    ap (λ kind. name_of store_limits (Written kind token.text.now token.start)) c.in-Name.is
    ∙ (subst (λ text. folded store_limits (map to_ascii_lowercase text) ≡ Ok text) found.same (held c.in_ok-name-in-Name.name.now found.name)
    ∙ ap Ok (sym (c.in-Ok.ensures ∙ found.same)))
