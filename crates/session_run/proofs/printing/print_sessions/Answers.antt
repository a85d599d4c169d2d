use Rattle.std.proofs.Common.{rules, ◌≢◌, Err, subst}
use Rattle.session_run.specs.declared.printing.RunFault.TheVariants.{Write}
use Rattle.session_run.specs.Gathered.{GathersLines}
use Rattle.session_run.specs.Written.{lines_by_session}
use Rattle.session_run.proofs.GatheredLemmas.{gathers-ends_part}
use Rattle.session_run.proofs.printing.print_sessions.Goals as goal

-- the lines are gathered up to their end, or to the first that are missing, and the sink met a fault at the last piece
pub returns-in-Err-clause-written : goal.returns-in-Err-clause-written
returns-in-Err-clause-written g c =
    let start = g.W.Sink.written c.args.sink.now in
    let mid = g.W.Sink.written c.gather_sessions.new.sink in
    let after = c.gather_sessions.new.pending.items in
    let lines = lines_by_session c.args.replies.now in
    let told = c.gather_sessions.result in
    let other : told ≢ Err Write = search rules in
    gathers-ends_part start mid (g.W.Sink.written c.flush.new.sink) after lines told other
    (subst (λ before. GathersLines start mid before after lines told) c.new-pending.ensures c.gather_sessions.ensures.gathered) c.in-Err.ensures.part
