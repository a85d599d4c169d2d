use Rattle.std.proofs.Common.{arith}
use Rattle.call_stream.specs.Stretches.{closes}
use Rattle.call_stream.specs.Taken.{count_now, pending}
use Rattle.call_stream.proofs.Closing.{closed}
use Rattle.call_stream.proofs.Faults.{fault_met}
use Rattle.call_stream.proofs.Plain.{found_plain}
use Rattle.call_stream.proofs.Starting.{shorter_less}
use Rattle.call_stream.proofs.Taking.{passed}
use Rattle.call_stream.proofs.stream.CallStream.take.Goals as goal

pub returns-in-Err-clause-err : goal.returns-in-Err-clause-err
returns-in-Err-clause-err c =
    λ bytes texts calls taken. (taken, fault_met c.args.self.now bytes texts calls taken c.requires.sound c.args.closing c.requires.met c.in-Err.fault c.in-Err.ensures.err)

pub give_up-requires-clause-within : goal.give_up-requires-clause-within
give_up-requires-clause-within c =
    let is = closed (pending c.args.self.now) c.args.self.now.scan c.args.closing c.requires.sound.scanned c.requires.met in
    omega (arith, c.in-Ok.ensures.ok.next_is, is.within)

pub returns-clause-ok : goal.returns-clause-ok
returns-clause-ok c =
    λ bytes texts calls taken. passed c.args.self.now c.give_up.new.self c.args.closing c.in-Ok.read c.is_some.result c.requires.sound c.requires.met c.in-Ok.ensures.ok c.is_some.ensures c.give_up.ensures.gives_up bytes texts calls taken

pub returns-clause-shorter : goal.returns-clause-shorter
returns-clause-shorter c =
    let is = closed (pending c.args.self.now) c.args.self.now.scan c.args.closing c.requires.sound.scanned c.requires.met in
    shorter_less c.args.self.now c.give_up.new.self c.in-Ok.read.next c.in-Ok.read.session c.is_some.result c.give_up.ensures.gives_up (omega (arith, c.in-Ok.ensures.ok.next_is, is.some)) (omega (arith, c.in-Ok.ensures.ok.next_is, is.within))

pub returns-clause-plain : goal.returns-clause-plain
returns-clause-plain c =
    let stream = c.args.self.now in
    found_plain _ stream.scan.start stream.scan.end stream.lines stream.session (count_now stream) (closes c.args.closing) c.in-Ok.read.call c.requires.sound.some c.requires.sound.within c.in-Ok.ensures.ok.call_is
