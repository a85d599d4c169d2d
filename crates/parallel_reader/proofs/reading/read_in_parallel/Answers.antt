use Rattle.std.proofs.Common.{arith}
use Rattle.std.proofs.lemmas.Result.{err_from_is_err_and}
use Rattle.std.proofs.lemmas.Str.{utf8_valid_len-IsUtf8}
use Rattle.std.proofs.lemmas.List.Elements.{All-from_recursion}
use Rattle.script_model.specs.Script.{HasCalls}
use Rattle.script_model.specs.Split.{IsOfASession}
use Rattle.script_model.proofs.InputCalls.{calls-sessions}
use Rattle.sql_reader.proofs.Scripts.Ends.{input_fault}
use Rattle.parallel_reader.proofs.ReadTexts.{cut-short, cut-texts, numbered-calls, read-length, read-sessions}
use Rattle.parallel_reader.proofs.reading.read_in_parallel.Goals as goal

pub returns-in_err-unread-clause-err : goal.returns-in_err-unread-clause-err
returns-in_err-unread-clause-err g c =
    let bytes = c.args.bytes.now in
    let failed = err_from_is_err_and c.from_residual.result c.from_residual.ensures.1 in
    let wrong = rw c.in-Ok.ensures.cases.0 at c.in_err-unread.ensures.err in
    rw (failed.1, failed.2) (input_fault bytes c.in_err-unread.field-0.0 (record { short = c.if-bytes-gt-INPUT_BYTES.false; valid = utf8_valid_len-IsUtf8 bytes c.in-Ok.ensures.cases.1 }) wrong)

pub read_all-read-requires-clause-short : goal.read_all-read-requires-clause-short
read_all-read-requires-clause-short g c κs within = cut-short _ c.in_ok-unread.unread.items (cut-texts _ c.in_ok-unread.unread.items c.in_ok-unread.ensures.ok)

pub number_texts-requires-clause-sessions : goal.number_texts-requires-clause-sessions
number_texts-requires-clause-sessions g c =
    read-sessions _ c.in_ok-unread.unread.items c.read_all-read.result.items (cut-texts _ c.in_ok-unread.unread.items c.in_ok-unread.ensures.ok) c.read_all-read.ensures

pub number_texts-requires-clause-few : goal.number_texts-requires-clause-few
number_texts-requires-clause-few g c = omega (arith, read-length c.in_ok-unread.unread.items c.read_all-read.result.items c.read_all-read.ensures, c.in_ok-unread.ensures.ok.few)

pub returns-in-Err-number_texts-clause-err : goal.returns-in-Err-number_texts-clause-err
returns-in-Err-number_texts-clause-err g c = record { short = c.if-bytes-gt-INPUT_BYTES.false; valid = utf8_valid_len-IsUtf8 c.args.bytes.now c.in-Ok.ensures.cases.1 }

pub returns-in-Ok-number_texts-clause-ok : goal.returns-in-Ok-number_texts-clause-ok
returns-in-Ok-number_texts-clause-ok g c =
    let bytes = c.args.bytes.now in
    numbered-calls bytes c.in_ok-unread.unread.items c.read_all-read.result.items c.in-Ok-number_texts.script.calls (record { short = c.if-bytes-gt-INPUT_BYTES.false; valid = utf8_valid_len-IsUtf8 bytes c.in-Ok.ensures.cases.1 })
    (rw c.in-Ok.ensures.cases.0 at c.in_ok-unread.ensures.ok) c.read_all-read.ensures c.in-Ok-number_texts.ensures

pub returns-in-Ok-number_texts-clause-of_sessions : goal.returns-in-Ok-number_texts-clause-of_sessions
returns-in-Ok-number_texts-clause-of_sessions g c =
    let bytes = c.args.bytes.now in
    let calls : HasCalls bytes c.in-Ok-number_texts.script.calls =
    numbered-calls bytes c.in_ok-unread.unread.items c.read_all-read.result.items c.in-Ok-number_texts.script.calls (record { short = c.if-bytes-gt-INPUT_BYTES.false; valid = utf8_valid_len-IsUtf8 bytes c.in-Ok.ensures.cases.1 })
    (rw c.in-Ok.ensures.cases.0 at c.in_ok-unread.ensures.ok) c.read_all-read.ensures c.in-Ok-number_texts.ensures in
    All-from_recursion IsOfASession c.in-Ok-number_texts.script.calls (calls-sessions bytes c.in-Ok-number_texts.script.calls calls)
