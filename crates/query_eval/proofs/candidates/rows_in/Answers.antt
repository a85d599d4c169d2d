use Rattle.std.proofs.Common.{◌<◌, ◌≤◌, length, subst, sym, arith}
use Rattle.std.proofs.lemmas.Bool.Decides.{nat_tests}
use Rattle.own_model.specs.Stored.{rows_at}
use Rattle.query_eval.proofs.CandidateLemmas.{RowsUpto, upto-end, upto-more, upto-start}
use Rattle.query_eval.proofs.TableRows.{stored_at}
use Rattle.query_eval.proofs.candidates.rows_in.Goals as goal

pub loop-at-init : goal.loop-at-init
loop-at-init g c =
    let all = rows_at (g.V.StoreView.db c.args.view.now).rows c.args.table.0 in
    subst (RowsUpto all c.args.span c.args.span.from) (sym c.new-rows.ensures) (upto-start all c.args.span c.requires.span.begins)

-- The place is one of the table.
pub row_there-requires-clause-within : goal.row_there-requires-clause-within
row_there-requires-clause-within g c =
    let before : c.loop-at.at < c.args.span.upto = grind (arith, nat_tests) in
    let ends = c.requires.span.ends in
    omega arith

pub loop-at-preserved : goal.loop-at-preserved
loop-at-preserved g c =
    let rows = (g.V.StoreView.db c.args.view.now).rows in
    let all = rows_at rows c.args.table.0 in
    let before : c.loop-at.at < c.args.span.upto = grind (arith, nat_tests) in
    let ends = c.requires.span.ends in
    let within : c.loop-at.at < length all = omega arith in
    upto-more all c.args.span c.loop-at.at c.loop-at.rows c.push.new.self c.row_there.result.now c.loop-at.invariant c.row_there.ensures within (stored_at rows c.args.table.0 c.requires.tables.stored) c.in_ok-push.ensures

pub returns-clause-stored : goal.returns-clause-stored
returns-clause-stored g c = c.loop-at.invariant.stored

pub returns-clause-each : goal.returns-clause-each
returns-clause-each g c =
    let past : c.args.span.upto ≤ c.loop-at.at = grind (arith, nat_tests) in
    upto-end (rows_at (g.V.StoreView.db c.args.view.now).rows c.args.table.0) c.args.span c.loop-at.at c.loop-at.rows c.loop-at.invariant past
