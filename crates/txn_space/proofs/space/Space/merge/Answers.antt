use Rattle.std.proofs.Common.{◌≡◌, ap, sym, ◌∙◌}
use Rattle.own_model.specs.Stored.{rows_at}
use Rattle.state_model.proofs.PutRows.{rising_at}
use Rattle.txn_space.specs.Changed.{changed_rows, rows_with}
use Rattle.txn_space.proofs.MergeLemmas.{merged_table}
use Rattle.txn_space.proofs.OverLemmas.{rows_of_table}
use Rattle.txn_space.proofs.space.Space.merge.Goals as goal

pub merged_rows-requires-clause-rising : goal.merged_rows-requires-clause-rising
merged_rows-requires-clause-rising g c =
    rising_at (g.V.StoreView.db c.args.base.now).schema.tables (g.V.StoreView.db c.args.base.now).rows c.args.item.now.table.0 c.definition_of.result.now c.requires.base.rising c.definition_of.ensures

-- What is merged are the table's rows as changed.
pub returns-in_ok-push-in-Some : goal.returns-in_ok-push-in-Some
returns-in_ok-push-in-Some g c =
    let rows = (g.V.StoreView.db c.args.base.now).rows in
    let tables = (g.V.StoreView.db c.args.base.now).schema.tables in
    let same : c.in_ok-rows-in-Some.rows ≡ rows_at (changed_rows tables rows c.args.self.now) c.args.item.now.table.0 =
    c.in_ok-rows-in-Some.ensures
    ∙ ap (λ entries. rows_with c.definition_of.result.now entries (rows_at rows c.args.item.now.table.0)) c.in-Some.ensures
    ∙ sym (rows_of_table tables rows c.args.self.now c.args.item.now.table.0 c.definition_of.result.now c.requires.base.rising c.definition_of.ensures) in
    λ merged. rw c.in_ok-push-in-Some.ensures.items (merged_table (changed_rows tables rows c.args.self.now) c.args.merged.now.items _ same merged)
