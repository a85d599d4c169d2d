use Rattle.std.proofs.Common.{sym, ◌∙◌, subst}
use Rattle.call_stream.specs.Scans.{IsScanned}
use Rattle.call_stream.proofs.Scanning.{opens_quote, opens_dash, passes_space, holds_byte}
use Rattle.call_stream.proofs.scan.Scan.begin.Goals as goal

pub returns-then-byte-eq39-clause-scanned : goal.returns-then-byte-eq39-clause-scanned
returns-then-byte-eq39-clause-scanned c = subst (IsScanned c.args.bytes.now) (sym c.keep.ensures) (opens_quote c.args.bytes.now c.args.self.now c.requires.scanned c.requires.more c.requires.between c.if-byte-eq39.true)

pub returns-then-byte-eq45-clause-scanned : goal.returns-then-byte-eq45-clause-scanned
returns-then-byte-eq45-clause-scanned c = subst (IsScanned c.args.bytes.now) (sym c.keep-then-byte-eq45.ensures) (opens_dash c.args.bytes.now c.args.self.now c.requires.scanned c.requires.more c.requires.between c.if-byte-eq45.true)

pub returns-then-is_space-clause-scanned : goal.returns-then-is_space-clause-scanned
returns-then-is_space-clause-scanned c = subst (IsScanned c.args.bytes.now) (sym c.pass.ensures) (passes_space c.args.bytes.now c.args.self.now c.requires.scanned c.requires.more c.requires.between (sym c.is_space.ensures ∙ c.if-is_space.true) c.if-byte-eq39.false c.if-byte-eq59.false c.if-byte-eq45.false)

pub returns-else-is_space-clause-scanned : goal.returns-else-is_space-clause-scanned
returns-else-is_space-clause-scanned c = subst (IsScanned c.args.bytes.now) (sym c.hold.ensures) (holds_byte c.args.bytes.now c.args.self.now c.requires.scanned c.requires.more c.requires.between (sym c.is_space.ensures ∙ c.if-is_space.false) c.if-byte-eq39.false c.if-byte-eq59.false c.if-byte-eq45.false)
