use Rattle.std.proofs.Common.{subst}
use Rattle.call_stream.proofs.Closing.{session_line}
use Rattle.call_stream.specs.Scans.{IsMet}
use Rattle.call_stream.specs.Taken.{pending}
use Rattle.call_stream.proofs.stream.CallStream.session_after.Goals as goal

pub line_of-requires-clause-long : goal.line_of-requires-clause-long
line_of-requires-clause-long c =
    let stream = c.args.self.now in
    (session_line (pending stream) stream.scan c.requires.sound.scanned (subst (IsMet (pending stream) stream.scan) c.in-Session.is c.requires.met)).long
