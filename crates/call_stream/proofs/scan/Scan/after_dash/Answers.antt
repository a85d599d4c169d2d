use Rattle.std.proofs.Common.{sym, subst}
use Rattle.call_stream.specs.Scans.{IsScanned}
use Rattle.call_stream.proofs.Scanning.{opens_line, puts_dash}
use Rattle.call_stream.proofs.scan.Scan.after_dash.Goals as goal

pub returns-then-bytes-self-eq45-clause-scanned : goal.returns-then-bytes-self-eq45-clause-scanned
returns-then-bytes-self-eq45-clause-scanned c = subst (IsScanned c.args.bytes.now) (sym c.keep.ensures) (opens_line c.args.bytes.now c.args.self.now c.requires.scanned c.requires.more c.requires.dash c.if-bytes-self-eq45.true)

pub begin-requires-clause-scanned : goal.begin-requires-clause-scanned
begin-requires-clause-scanned c = subst (IsScanned c.args.bytes.now) (sym c.hold.ensures) (puts_dash c.args.bytes.now c.args.self.now c.requires.scanned c.requires.more c.requires.dash c.if-bytes-self-eq45.false)
