use Rattle.std.proofs.Common.{arith}
use Rattle.sql_reader.proofs.Scripts.Ends.{EndsTo-start, EndsTo-none, EndsTo-some, EndsTo-all}
use Rattle.sql_reader.proofs.script.add_ends.Goals as goal
use Rattle.sql_reader.proofs.script.add_ends.Goals.{then-count-gt0+in_ok-add_end, else-count-gt0}

pub loop-session-init : goal.loop-session-init
loop-session-init c = EndsTo-start c.args.calls.now.list.items

pub loop-session-preserved : goal.loop-session-preserved
loop-session-preserved c =
    elim c.if-count-gt0.branch [
      | then-count-gt0+in_ok-add_end w ↦ rw w.calls-is (EndsTo-some c.args.calls.now.list.items c.loop-session.session c.loop-session.calls.list.items w.add_end.new.self.list.items (omega arith) (omega (arith, c.count.ensures, w.if-count-gt0.true)) c.loop-session.invariant w.in_ok-add_end.ensures.added)
      | else-count-gt0 w ↦ rw w.calls-is (EndsTo-none c.args.calls.now.list.items c.loop-session.session c.loop-session.calls.list.items (omega arith) (omega (arith, c.count.ensures, w.if-count-gt0.false)) c.loop-session.invariant)
    ]

pub returns : goal.returns
returns c = EndsTo-all c.args.calls.now.list.items c.loop-session.session c.loop-session.calls.list.items (omega arith) c.loop-session.invariant
