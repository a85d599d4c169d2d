use Rattle.std.proofs.Common.{◌∙◌}
use Rattle.std.proofs.lemmas.Result.{err_from_is_err_and}
use Rattle.std.proofs.lemmas.Str.{utf8_valid_len-IsUtf8}
use Rattle.std.proofs.lemmas.List.Elements.{All-from_recursion}
use Rattle.script_model.specs.Script.{HasCalls}
use Rattle.script_model.specs.Split.{IsOfASession}
use Rattle.script_model.proofs.InputCalls.{calls-sessions}
use Rattle.sql_reader.proofs.Scripts.Ends.{whole_calls, input_fault}
use Rattle.sql_reader.proofs.script.read_script.Goals as goal
use Rattle.sql_reader.proofs.script.read_script.Goals.{After-into_list}

pub returns-in_err-calls-clause-err : goal.returns-in_err-calls-clause-err
returns-in_err-calls-clause-err c =
    let bytes = c.args.bytes.now in
    let failed = err_from_is_err_and c.from_residual.result c.from_residual.ensures.1 in
    let wrong = rw c.in-Ok.ensures.cases.0 at c.in_err-calls.ensures.err in
    rw (failed.1, failed.2) (input_fault bytes c.in_err-calls.field-0.0 (record { short = c.if-bytes-gt-INPUT_BYTES.false; valid = utf8_valid_len-IsUtf8 bytes c.in-Ok.ensures.cases.1 }) wrong)

-- the calls are the input's
has_calls : (c : After-into_list) → HasCalls c.args.bytes.now c.into_list.result
has_calls c =
    let bytes = c.args.bytes.now in
    let calls = rw c.in-Ok.ensures.cases.0 at c.in_ok-calls.ensures.ok in
    whole_calls bytes c.in_ok-calls.calls.list.items c.into_list.result (record { short = c.if-bytes-gt-INPUT_BYTES.false; valid = utf8_valid_len-IsUtf8 bytes c.in-Ok.ensures.cases.1 }) calls (c.into_list.ensures ∙ c.in-Ok-add_ends.ensures)

pub returns-in-Err-add_ends-clause-err : goal.returns-in-Err-add_ends-clause-err
returns-in-Err-add_ends-clause-err c = record { short = c.if-bytes-gt-INPUT_BYTES.false; valid = utf8_valid_len-IsUtf8 c.args.bytes.now c.in-Ok.ensures.cases.1 }

pub returns-in-Ok-add_ends-clause-ok : goal.returns-in-Ok-add_ends-clause-ok
returns-in-Ok-add_ends-clause-ok c = has_calls c

pub returns-in-Ok-add_ends-clause-of_sessions : goal.returns-in-Ok-add_ends-clause-of_sessions
returns-in-Ok-add_ends-clause-of_sessions c =
    All-from_recursion IsOfASession c.into_list.result (calls-sessions c.args.bytes.now c.into_list.result (has_calls c))
