use Rattle.sql_lex.proofs.Fillers.{range_from_is}
use Rattle.sql_lex.proofs.FirstByte.{quoted-scans, quoted-closes}
use Rattle.sql_lex.proofs.scan.quoted_len.Goals as goal

pub returns-in-Some-clause-found : goal.returns-in-Some-clause-found
returns-in-Some-clause-found c = quoted-scans c.args.bytes.now _ c.in-Some.len c.requires.some c.requires.quote (range_from_is 1 _) c.in-Some.ensures.found

pub returns-in-None-clause-none : goal.returns-in-None-clause-none
returns-in-None-clause-none c = λ token after begins.
    let closed = quoted-closes c.args.bytes.now _ token after (range_from_is 1 _) begins in
    c.in-None.ensures.none closed.0 closed.1
