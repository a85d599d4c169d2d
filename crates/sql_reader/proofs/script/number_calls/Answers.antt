use Rattle.std.proofs.Common.{◌∙◌, arith}
use Rattle.std.proofs.lemmas.List.{nil_from_length}
use Rattle.sql_reader.proofs.Scripts.Askings.{NumberedTo-all, NumberedTo-length, NumberedTo-more, NumberedTo-own, NumberedTo-start}
use Rattle.sql_reader.proofs.script.number_calls.Goals as goal

pub loop-session-init : goal.loop-session-init
loop-session-init c = rw (c.into_iter-session-iterator.ensures.into_iter_gives.0) (NumberedTo-start c.args.asked.items c.new-calls.result.list.items c.new-calls.ensures)

pub add_request-requires-clause-some : goal.add_request-requires-clause-some
add_request-requires-clause-some c =
    (NumberedTo-own c.args.asked.items c.loop-session.yielded _ _ c.loop-session.calls.list.items (c.in-Some.session, c.in-Some.request) c.requires.sessions c.requires.few c.loop-session.invariant c.in-Some.ensures.steps.0).0.0

pub add_request-requires-clause-within : goal.add_request-requires-clause-within
add_request-requires-clause-within c =
    (NumberedTo-own c.args.asked.items c.loop-session.yielded _ _ c.loop-session.calls.list.items (c.in-Some.session, c.in-Some.request) c.requires.sessions c.requires.few c.loop-session.invariant c.in-Some.ensures.steps.0).0.1

pub add_request-requires-clause-few : goal.add_request-requires-clause-few
add_request-requires-clause-few c =
    let own = NumberedTo-own c.args.asked.items c.loop-session.yielded _ _ c.loop-session.calls.list.items (c.in-Some.session, c.in-Some.request) c.requires.sessions c.requires.few c.loop-session.invariant c.in-Some.ensures.steps.0 in
    omega (arith, own.1)

pub loop-session-preserved : goal.loop-session-preserved
loop-session-preserved c =
    NumberedTo-more c.args.asked.items c.loop-session.yielded _ _ c.loop-session.calls.list.items c.add_request.new.self.list.items (c.in-Some.session, c.in-Some.request) c.loop-session.invariant c.in-Some.ensures.steps.0 c.in_ok-add_request.ensures.added

pub add_ends-requires : goal.add_ends-requires
add_ends-requires c = NumberedTo-length c.args.asked.items c.loop-session.yielded _ c.loop-session.calls.list.items c.requires.few c.loop-session.invariant

pub returns : goal.returns
returns c =
    NumberedTo-all c.args.asked.items c.loop-session.yielded _ c.loop-session.calls.list.items c.into_list.result c.loop-session.invariant
    (nil_from_length c.loop-session.session-iterator.rest.items (omega (arith, c.loop-session.session-iterator.rest.ok.0, c.in-None.ensures.steps.0)))
    (c.into_list.ensures ∙ c.in_ok-add_ends.ensures)
