use Rattle.std.proofs.Common.{length, ap, arith}
use Rattle.sql_reader.proofs.Scripts.Dealing.{Dealt-own, Dealt-more, length-lists_of}
use Rattle.sql_reader.proofs.sessions.deal.Goals as goal

pub index_mut-requires : goal.index_mut-requires
index_mut-requires c =
    let own = Dealt-own c.args.calls.items c.loop-call.yielded _ _ c.loop-call.lists.items c.in-Some.call c.requires.sessions c.loop-call.invariant c.in-Some.ensures.steps.0 in
    omega (arith, own.0, own.1, c.loop-call.lists.ok.0, ap length c.loop-call.invariant.are, length-lists_of c.loop-call.yielded)

pub loop-call-preserved : goal.loop-call-preserved
loop-call-preserved c =
    Dealt-more c.args.calls.items c.loop-call.yielded _ _ c.loop-call.lists.items c.in-Some.call c.index_mut.result.now c.add.new.self c.requires.sessions c.loop-call.invariant c.in-Some.ensures.steps.0 c.index_mut.ensures.value c.in_ok-add.ensures.added
