use Rattle.std.proofs.Common.{sym, ◌∙◌}
use Rattle.sql_lex.proofs.Words.{number-scans}
use Rattle.sql_lex.proofs.FirstByte.{first_passes-index, only-quoted}
use Rattle.sql_lex.proofs.scan.scan.Goals as goal

pub returns-then-is_ascii_digit-clause-found : goal.returns-then-is_ascii_digit-clause-found
returns-then-is_ascii_digit-clause-found c =
    let run = c.number_len.ensures in
    number-scans c.args.bytes.now c.number_len.result (record { within = run.within; each = run.each; ends = run.ends }) (first_passes-index _ c.args.bytes.now c.requires ∙ sym c.is_ascii_digit.ensures.value ∙ c.if-is_ascii_digit.true)

pub returns-in-None-clause-none : goal.returns-in-None-clause-none
returns-in-None-clause-none c = only-quoted c.args.bytes.now c.requires c.if-first-eq39.true c.in-None.ensures.none
