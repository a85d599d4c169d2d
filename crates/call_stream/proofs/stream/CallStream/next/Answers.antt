use Rattle.std.proofs.Common.{length, sym, ap, ◌∙◌, arith}
use Rattle.call_stream.proofs.Taking.{passed_some, passed_none}
use Rattle.call_stream.proofs.stream.CallStream.next.Goals as goal

pub returns-in-Err-clause-err : goal.returns-in-Err-clause-err
returns-in-Err-clause-err c =
    λ bytes texts calls taken. c.in-Err.ensures.err bytes texts calls (c.in-Some.ensures.taken bytes texts calls (c.calls.invariant.taken bytes texts calls taken))

pub returns-then-is_some-clause-ok : goal.returns-then-is_some-clause-ok
returns-then-is_some-clause-ok c =
    λ bytes texts calls taken. passed_some c.take.new.self bytes texts calls c.in-Ok.found (sym c.is_some.ensures ∙ c.if-is_some.true) (c.in-Ok.ensures.ok bytes texts calls (c.in-Some.ensures.taken bytes texts calls (c.calls.invariant.taken bytes texts calls taken)))

pub returns-then-is_some-clause-shorter : goal.returns-then-is_some-clause-shorter
returns-then-is_some-clause-shorter c =
    λ some. omega (arith, c.in-Ok.ensures.shorter, ap length c.in-Some.ensures.same, c.calls.invariant.shorter)

pub calls-smaller : goal.calls-smaller
calls-smaller c =
    omega (arith, c.in-Ok.ensures.shorter, ap length c.in-Some.ensures.same)

pub calls-preserved : goal.calls-preserved
calls-preserved c =
    record {
      sound = c.in-Ok.ensures.sound;
      taken = λ bytes texts calls taken. passed_none c.take.new.self bytes texts calls c.in-Ok.found (sym c.is_some.ensures ∙ c.if-is_some.false) (c.in-Ok.ensures.ok bytes texts calls (c.in-Some.ensures.taken bytes texts calls (c.calls.invariant.taken bytes texts calls taken)));
      shorter = omega (arith, c.in-Ok.ensures.shorter, ap length c.in-Some.ensures.same, c.calls.invariant.shorter);
    }

pub returns-in-None-clause-ok : goal.returns-in-None-clause-ok
returns-in-None-clause-ok c =
    λ bytes texts calls taken. let here = c.calls.invariant.taken bytes texts calls taken in (c.in-None.ensures.taken bytes texts calls here, c.in-None.ensures.all bytes texts calls here)

pub returns-then-is_some-clause-plain : goal.returns-then-is_some-clause-plain
returns-then-is_some-clause-plain c = c.in-Ok.ensures.plain
