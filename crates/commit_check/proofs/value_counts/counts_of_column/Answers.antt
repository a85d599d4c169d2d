use Rattle.std.proofs.Common.{◌<◌, ◌≤◌, ◌-◌, ◌^◌, [], length, take, sym, subst, arith, length-take}
use Rattle.own_model.specs.Stored.{rows_at}
use Rattle.std.proofs.lemmas.List.{take_all}
use Rattle.commit_check.specs.ValueCounts.{CountsRows}
use Rattle.commit_check.proofs.CountLemmas.{counts-few, counts-more, counts-none}
use Rattle.commit_check.proofs.value_counts.counts_of_column.Goals as goal
use Rattle.subject_model.proofs.TableByTable.{past-none}

pub loop-at-init : goal.loop-at-init
loop-at-init g c = rw c.new-counts.ensures.empty (counts-none c.args.column.0 [])

pub count_value-requires : goal.count_value-requires
count_value-requires g c =
    let rows = rows_at (g.V.StoreView.db c.args.view.now).rows c.args.table.0 in
    let some : length (take c.loop-at.at rows) < 2 ^ 64 - 1 = omega (arith, length-take c.loop-at.at rows) in
    counts-few c.args.column.0 (take c.loop-at.at rows) c.loop-at.counts.entries (2 ^ 64 - 1) c.loop-at.invariant some

pub loop-at-preserved : goal.loop-at-preserved
loop-at-preserved g c =
    let rows = rows_at (g.V.StoreView.db c.args.view.now).rows c.args.table.0 in
    counts-more c.args.column.0 rows c.loop-at.at c.in-Some.row.now c.lent_from-value.result c.loop-at.counts.entries _ c.loop-at.invariant (sym c.in-Some.ensures) c.lent_from-value.ensures
    c.in_ok-count_value.ensures

pub returns-in-None : goal.returns-in-None
returns-in-None g c =
    let rows = rows_at (g.V.StoreView.db c.args.view.now).rows c.args.table.0 in
    subst (λ list. CountsRows c.args.column.0 list c.loop-at.counts.entries) (take_all c.loop-at.at rows (past-none rows c.loop-at.at (sym c.in-None.ensures))) c.loop-at.invariant

pub returns : goal.returns
returns g c =
    let rows = rows_at (g.V.StoreView.db c.args.view.now).rows c.args.table.0 in
    let past : length rows ≤ c.loop-at.at = subst (λ n. n ≤ c.loop-at.at) c.count-at-end.ensures c.loop-at-test.false in
    subst (λ list. CountsRows c.args.column.0 list c.loop-at.counts.entries) (take_all c.loop-at.at rows past) c.loop-at.invariant
