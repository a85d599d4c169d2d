use Rattle.std.proofs.Common.{false, ap, ◌∙◌, ◌+◌, ◌-◌}
use Rattle.std.specs.Prelude.{if◌then◌else◌, slice_index, slice_set}
use Rattle.call_stream.proofs.Faults.{ends_fault, last_fault}
use Rattle.call_stream.proofs.Finishing.{ended}
use Rattle.call_stream.specs.Stretches.{session_open}
use Rattle.call_stream.specs.Taken.{count_now, pending}
use Rattle.call_stream.proofs.Plain.{found_plain}
use Rattle.call_stream.proofs.stream.CallStream.finish.Goals as goal

pub returns-in-Err-clause-err : goal.returns-in-Err-clause-err
returns-in-Err-clause-err c = λ bytes texts calls taken. last_fault c.args.self bytes texts calls taken c.requires.sound c.requires.read c.in-Err.fault c.in-Err.ensures.err

pub returns-in-Ok-ends_of-clause-ok : goal.returns-in-Ok-ends_of-clause-ok
returns-in-Ok-ends_of-clause-ok c =
    λ bytes texts calls taken.
    let stream = c.args.self in
    let last = c.in-Ok.ensures.ok in
    let counts_are = c.with_call-counts.ensures ∙ ap (λ b. if b then slice_set stream.counts (stream.session - 1) (slice_index stream.counts (stream.session - 1) + 1) else stream.counts) c.is_some.ensures in
    ended stream bytes texts calls taken c.requires.sound last.last (session_open (pending stream) stream.scan) last.is last.valid last.named c.in-Ok.call last.call_is c.with_call-counts.result counts_are c.in-Ok-ends_of.ends c.in-Ok-ends_of.ensures.ok

pub returns-clause-err : goal.returns-clause-err
returns-clause-err c =
    λ bytes texts calls taken. ends_fault c.args.self bytes texts calls taken c.is_some.result c.with_call-counts.result c.with_call-counts.ensures c.in-Err-ends_of.fault c.in-Err-ends_of.ensures.err

pub returns-in-Ok-ends_of-clause-plain : goal.returns-in-Ok-ends_of-clause-plain
returns-in-Ok-ends_of-clause-plain c =
    let stream = c.args.self in
    let last = c.in-Ok.ensures.ok in
    (found_plain (pending stream) last.last.start last.last.end stream.lines stream.session (count_now stream) false c.in-Ok.call c.requires.sound.some c.requires.sound.within last.call_is, c.in-Ok-ends_of.ensures.plain)
