use Rattle.std.proofs.Common.{sym, subst}
use Rattle.call_stream.specs.Scans.{IsScanned}
use Rattle.call_stream.proofs.Scanning.{goes_on_quote, closes_quote}
use Rattle.call_stream.proofs.scan.Scan.in_quote.Goals as goal

pub returns-then-bytes-self-eq39-clause-scanned : goal.returns-then-bytes-self-eq39-clause-scanned
returns-then-bytes-self-eq39-clause-scanned c = subst (IsScanned c.args.bytes.now) (sym c.hold.ensures) (closes_quote c.args.bytes.now c.args.self.now c.requires.scanned c.requires.more c.requires.quote c.if-bytes-self-eq39.true)

pub returns-else-bytes-self-eq39-clause-scanned : goal.returns-else-bytes-self-eq39-clause-scanned
returns-else-bytes-self-eq39-clause-scanned c = subst (IsScanned c.args.bytes.now) (sym c.keep.ensures) (goes_on_quote c.args.bytes.now c.args.self.now c.requires.scanned c.requires.more c.requires.quote c.if-bytes-self-eq39.false)
