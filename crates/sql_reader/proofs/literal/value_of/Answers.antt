use Rattle.std.proofs.Common.{sym, ap, ◌∙◌, subst}
use Rattle.std.specs.Prelude.{string_bytes}
use Rattle.grammar_model.specs.Limits.{store_limits}
use Rattle.sql_reader.specs.reading.Judges.{short_text, unquoted}
use Rattle.sql_reader.specs.reading.Reader.{Judges}
use Rattle.sql_reader.proofs.Exactly.{unquoted_whole, unquoted-none}
use Rattle.sql_reader.proofs.literal.value_of.Goals as goal

pub returns-in-Some : goal.returns-in-Some
returns-in-Some c =
    let is = rw c.in-Some.is at c.in_ok-value.ensures in
    subst (λ found. Judges (short_text store_limits found) c.short_text.result) (sym (ap unquoted is ∙ unquoted_whole (string_bytes c.in-Some.value))) c.short_text.ensures

pub returns-in-None : goal.returns-in-None
returns-in-None c =
    let none = rw c.in-None.is at c.in_ok-value.ensures in
    ap (short_text store_limits) (unquoted-none c.args.text.now none)
