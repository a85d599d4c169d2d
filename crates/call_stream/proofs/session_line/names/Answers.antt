use Rattle.std.proofs.Common.{◌∷◌, [], ◌+◌, ◌∙◌}
use Rattle.std.specs.Prelude.{◌/◌, ◌%◌}
use Rattle.sql_reader.proofs.Scripts.SessionLines.{names_by, one_digit, both_digits}
use Rattle.call_stream.proofs.session_line.names.Goals as goal

pub returns-then-session-lt10 : goal.returns-then-session-lt10
returns-then-session-lt10 c =
    c.is_number.ensures ∙ names_by c.args.line.now ((48 + c.args.session % 10) ∷ []) c.args.session c.requires (one_digit c.args.session c.if-session-lt10.true)

pub returns-else-session-lt10 : goal.returns-else-session-lt10
returns-else-session-lt10 c =
    c.is_number-else-session-lt10.ensures ∙ names_by c.args.line.now ((48 + c.args.session / 10) ∷ (48 + c.args.session % 10) ∷ []) c.args.session c.requires (both_digits c.args.session c.if-session-lt10.false)
