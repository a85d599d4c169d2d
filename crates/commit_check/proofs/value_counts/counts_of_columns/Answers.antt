use Rattle.std.proofs.Common.{◌≡◌, length, refl, ap, subst}
use Rattle.std.specs.Prelude.{Some, slice_get}
use Rattle.std.proofs.lemmas.Option.{slice_get_read}
use Rattle.own_model.specs.Stored.{rows_at}
use Rattle.commit_check.proofs.CountLemmas.{columns-next, columns-none}
use Rattle.commit_check.proofs.value_counts.counts_of_columns.Goals as goal

pub loop-at-init : goal.loop-at-init
loop-at-init g c = (rw c.new-counts.ensures.items (columns-none c.args.definition.now.columns (rows_at (g.V.StoreView.db c.args.view.now).rows c.args.table.0)), ap length c.new-counts.ensures.items)

pub loop-at-preserved : goal.loop-at-preserved
loop-at-preserved g c =
    let columns = c.args.definition.now.columns in
    let column = c.column-item.result in
    let is : slice_get columns c.loop-at.at ≡ Some column =
    subst (λ columns. slice_get columns c.loop-at.at ≡ Some column) c.items-column-items.ensures
    (slice_get_read c.items-column-items.result.now _ c.loop-at.at column refl c.loop-at-test.true c.column-item.is) in
    columns-next columns (rows_at (g.V.StoreView.db c.args.view.now).rows c.args.table.0) c.loop-at.counts.items c.push.new.self.items column c.in_ok-counted.counted c.loop-at.at
    c.loop-at.invariant is c.in_ok-counted.ensures c.in_ok-push.ensures.items
