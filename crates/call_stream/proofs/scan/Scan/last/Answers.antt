use Rattle.std.proofs.Common.{sym, ◌∙◌, subst, ap, drop, length, ◌+◌, ◌-◌, ◌≤◌, ◌≡◌, get_or, All, true}
use Rattle.std.proofs.lemmas.List.{take_rest}
use Rattle.sql_lex.specs.Bytes.{is_space}
use Rattle.call_stream.specs.Stretches.{IsLast, session_open}
use Rattle.call_stream.proofs.Lasting.{between_last, line_last, dash_last, quote_last}
use Rattle.call_stream.proofs.scan.Scan.last.Goals as goal

pub returns-in-Between : goal.returns-in-Between
returns-in-Between c =
    between_last c.args.bytes.now c.args.self.now c.requires.scanned c.requires.end c.in-Between.is

pub returns-in-Line : goal.returns-in-Line
returns-in-Line c =
    line_last c.args.bytes.now c.args.self.now c.requires.scanned c.requires.end c.in-Line.is

pub returns-in-Dash : goal.returns-in-Dash
returns-in-Dash c =
    subst (λ s. IsLast c.args.bytes.now c.args.self.now s (session_open c.args.bytes.now c.args.self.now)) (sym c.hold.ensures) (dash_last c.args.bytes.now c.args.self.now c.requires.scanned c.requires.end c.in-Dash.is)

pub returns-in-Quote : goal.returns-in-Quote
returns-in-Quote c =
    let bytes = c.args.bytes.now in
    let from = c.args.self.now.piece + 1 in
    let rest = take_rest bytes from in
    let len = c.trimmed_len-len.result in
    subst (λ s. IsLast bytes c.args.self.now s (session_open bytes c.args.self.now)) (sym c.hold-in-Quote.ensures)
    (quote_last c.args.bytes.now c.args.self.now c.requires.scanned c.requires.end c.in-Quote.is len (subst (λ l. len ≤ length l) rest c.trimmed_len-len.ensures.within) (subst (λ l. All (λ b. is_space b ≡ true) (drop len l)) rest c.trimmed_len-len.ensures.spaces)
    (λ some. ap (λ l. is_space (get_or l (len - 1) 0)) (sym rest) ∙ c.trimmed_len-len.ensures.last some))
