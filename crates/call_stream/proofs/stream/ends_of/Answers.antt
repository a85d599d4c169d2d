use Rattle.std.proofs.Common.{◌+◌, ◌-◌, ◌++◌, get_or, sym, subst, arith}
use Rattle.std.specs.List.{AllByRecursion}
use Rattle.std.proofs.lemmas.List.{append-nil}
use Rattle.sql_reader.proofs.Scripts.Ends.{EndsTo, EndsTo-start, EndsTo-all}
use Rattle.sql_reader.proofs.Scripts.Marking.{each_append}
use Rattle.call_stream.specs.Taken.{IsPlainCall, ends_at}
use Rattle.call_stream.proofs.EndsGiven.{ends_step}
use Rattle.call_stream.proofs.Plain.{end_plain}
use Rattle.call_stream.proofs.stream.ends_of.Goals as goal

pub loop-session-init : goal.loop-session-init
loop-session-init c = record {
  numbered = λ calls counted. subst (λ l. EndsTo calls 1 (calls ++ l)) (sym c.new-ends.ensures) (subst (EndsTo calls 1) (sym (append-nil calls)) (EndsTo-start calls));
  plain = subst (AllByRecursion IsPlainCall) (sym c.new-ends.ensures) tt;
}

pub loop-session-preserved : goal.loop-session-preserved
loop-session-preserved c =
    let session = c.loop-session.session in
    let more = ends_at session (get_or c.args.counts.now (session - 1) 0) in
    record {
      numbered = λ calls counted. subst (λ l. EndsTo calls (session + 1) (calls ++ l)) (sym c.in-Ok.ensures.ok)
          (ends_step calls c.args.counts.now session c.loop-session.ends counted (c.loop-session.invariant.numbered calls counted).some (omega arith) (c.loop-session.invariant.numbered calls counted));
      plain = subst (AllByRecursion IsPlainCall) (sym c.in-Ok.ensures.ok) (each_append IsPlainCall c.loop-session.ends more c.loop-session.invariant.plain (end_plain session (get_or c.args.counts.now (session - 1) 0) (omega arith) (omega arith)));
    }

pub returns-clause-ok : goal.returns-clause-ok
returns-clause-ok c = λ calls counted. EndsTo-all calls c.loop-session.session (calls ++ c.loop-session.ends) (omega arith) (c.loop-session.invariant.numbered calls counted)
