use Rattle.std.proofs.Common.{refl, arith}
use Rattle.parallel_reader.proofs.ReadTexts.{AskedTo-more, AskedTo-room}
use Rattle.parallel_reader.proofs.reading.asked_by.Goals as goal

pub push_reserved-requires : goal.push_reserved-requires
push_reserved-requires c =
    let room = AskedTo-room c.args.unread.items c.loop-one.yielded _ _ c.loop-one.asked.items c.in-Some.one c.loop-one.invariant.0 c.in-Some.ensures.steps.0 in
    omega (arith, room, c.loop-one.invariant.1, c.loop-one.asked.ok)

pub loop-one-preserved : goal.loop-one-preserved
loop-one-preserved c = (
  AskedTo-more c.args.unread.items c.loop-one.yielded _ _ c.loop-one.asked.items c.push_reserved.new.self.items c.in-Some.one (c.in-Some.one.session, c.in-Some-request.request) c.loop-one.invariant.0 c.in-Some.ensures.steps.0
      (refl, c.in-Some-request.is) c.push_reserved.ensures.items,
  omega (arith, c.loop-one.invariant.1, c.push_reserved.ensures.capacity),
)
