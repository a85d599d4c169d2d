use Rattle.std.proofs.Common.{refl, arith}
use Rattle.call_stream.proofs.Starting.{sound_less, feeds_few}
use Rattle.call_stream.proofs.stream.CallStream.give_up.Goals as goal

pub returns-clause-sound : goal.returns-clause-sound
returns-clause-sound c =
    let old = c.args.self.now in
    sound_less old _ c.args.next c.requires.sound c.requires.within c.requires.some c.requires.session_within refl refl refl (omega (arith, c.line_feeds-feeds.ensures, feeds_few c.deref.result.now old.from c.args.next)) c.new-scan.ensures.scanned
