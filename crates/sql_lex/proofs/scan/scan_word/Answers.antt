use Rattle.std.proofs.Common.{sym, ◌∙◌}
use Rattle.sql_lex.proofs.Words.{keyword-scans, name-scans}
use Rattle.sql_lex.proofs.scan.scan_word.Goals as goal

pub returns-then-is_keyword : goal.returns-then-is_keyword
returns-then-is_keyword c =
    let run = c.word_len-len.ensures in
    keyword-scans c.args.bytes.now c.word_len-len.result (record { within = run.within; each = run.each; ends = run.ends }) c.requires (sym c.is_keyword.ensures ∙ c.if-is_keyword.true)

pub returns-else-is_keyword : goal.returns-else-is_keyword
returns-else-is_keyword c =
    let run = c.word_len-len.ensures in
    name-scans c.args.bytes.now c.word_len-len.result (record { within = run.within; each = run.each; ends = run.ends }) c.requires (sym c.is_keyword.ensures ∙ c.if-is_keyword.false)
