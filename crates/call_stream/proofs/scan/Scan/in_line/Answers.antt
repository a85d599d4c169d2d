use Rattle.std.proofs.Common.{sym, ◌∙◌, subst}
use Rattle.call_stream.specs.Scans.{IsScanned}
use Rattle.call_stream.proofs.Scanning.{goes_on_line, ends_comment}
use Rattle.call_stream.proofs.scan.Scan.in_line.Goals as goal

pub returns-then-bytes-self-ne10-clause-scanned : goal.returns-then-bytes-self-ne10-clause-scanned
returns-then-bytes-self-ne10-clause-scanned c = subst (IsScanned c.args.bytes.now) (sym c.keep.ensures) (goes_on_line c.args.bytes.now c.args.self.now c.requires.scanned c.requires.more c.requires.line c.if-bytes-self-ne10.true)

pub begin-requires-clause-scanned : goal.begin-requires-clause-scanned
begin-requires-clause-scanned c = subst (IsScanned c.args.bytes.now) (sym c.pass.ensures) (ends_comment c.args.bytes.now c.args.self.now c.requires.scanned c.requires.more c.requires.line c.if-bytes-self-ne10.false (sym c.is_session.ensures ∙ c.if-is_session.false))
