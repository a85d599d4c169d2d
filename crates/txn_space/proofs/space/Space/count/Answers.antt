use Rattle.std.proofs.Common.{length, sym, ◌∙◌, ap}
use Rattle.own_model.specs.Stored.{rows_at}
use Rattle.state_model.proofs.PutRows.{rising_at}
use Rattle.txn_space.specs.Changed.{rows_with}
use Rattle.txn_space.proofs.OverLemmas.{rows_of_other, rows_of_table}
use Rattle.txn_space.proofs.space.Space.count.Goals as goal

pub count_with-requires-clause-rising : goal.count_with-requires-clause-rising
count_with-requires-clause-rising g c =
    rising_at (g.V.StoreView.db c.args.base.now).schema.tables (g.V.StoreView.db c.args.base.now).rows c.args.table.0 c.definition_of.result.now c.requires.base.rising c.definition_of.ensures

pub returns-in-None : goal.returns-in-None
returns-in-None g c =
    c.count.ensures ∙ ap length (sym (rows_of_other (g.V.StoreView.db c.args.base.now).schema.tables (g.V.StoreView.db c.args.base.now).rows c.args.self.now c.args.table.0 c.requires.base.rising c.requires.there c.in-None.ensures))

pub returns-in-Some : goal.returns-in-Some
returns-in-Some g c =
    let rows = (g.V.StoreView.db c.args.base.now).rows in
    c.count_with.ensures
    ∙ ap length (ap (λ entries. rows_with c.definition_of.result.now entries (rows_at rows c.args.table.0)) c.in-Some.ensures
    ∙ sym (rows_of_table (g.V.StoreView.db c.args.base.now).schema.tables rows c.args.self.now c.args.table.0 c.definition_of.result.now c.requires.base.rising c.definition_of.ensures))
