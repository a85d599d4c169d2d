use Rattle.std.proofs.Common.{length, inl, inr, arith}
use Rattle.std.proofs.lemmas.Bool.{cases_eq}
use Rattle.std.proofs.lemmas.List.{nil_from_length}
use Rattle.sql_reader.proofs.Scripts.Dealing.{Gathered-start, Gathered-none, Gathered-some, Gathered-all}
use Rattle.sql_reader.proofs.sessions.split_calls.Goals as goal

pub loop-calls-init : goal.loop-calls-init
loop-calls-init c =
    rw (c.into_iter-calls-iterator.ensures.into_iter_gives.0, c.new-sessions.ensures) (Gathered-start c.args.calls.items c.deal.new.lists.items (c.in_ok-deal.ensures))

pub loop-calls-preserved : goal.loop-calls-preserved
loop-calls-preserved c =
    elim (cases_eq (length c.in-Some.calls) 0) [
      | inl none ↦ rw (c.in_ok-gather.ensures.none none) (Gathered-none c.args.calls.items c.loop-calls.session _ _ c.in-Some.calls c.loop-calls.sessions c.loop-calls.invariant c.in-Some.ensures.steps.0 none)
      | inr some ↦ Gathered-some c.args.calls.items c.loop-calls.session _ _ c.in-Some.calls c.loop-calls.sessions c.loop-calls.invariant c.in-Some.ensures.steps.0 c.gather.new.sessions (omega (arith, some)) (c.in_ok-gather.ensures.some (omega (arith, some)))
    ]

pub returns : goal.returns
returns c = Gathered-all c.args.calls.items c.loop-calls.session _ c.loop-calls.sessions c.loop-calls.invariant (nil_from_length c.loop-calls.calls-iterator.rest.items (omega (arith, c.loop-calls.calls-iterator.rest.ok.0, c.in-None.ensures.steps.0)))
