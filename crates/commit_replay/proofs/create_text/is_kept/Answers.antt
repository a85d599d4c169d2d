use Rattle.std.proofs.Common.{sym}
use Rattle.commit_replay.proofs.OneCreate.{kept-told, other-kind}
use Rattle.commit_replay.proofs.create_text.is_kept.Goals as goal

pub returns-then-not-is_create_of : goal.returns-then-not-is_create_of
returns-then-not-is_create_of c = λ create is. other-kind create _ c.args.statement.now c.requires.read (let t = c.if-not-is_create_of.true in let e = c.if-not-is_create_of.ensures in cc) is

pub returns : goal.returns
returns c =
    kept-told c.args.view c.args.text.now c.in_ok-printed.printed c.args.statement.now c.eq.result c.requires.countable c.requires.utf8 c.requires.read
    (let t = c.if-not-is_create_of.false in let e = c.if-not-is_create_of.ensures in cc) c.in_ok-printed.ensures (sym c.eq.ensures)
