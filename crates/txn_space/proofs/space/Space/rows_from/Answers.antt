use Rattle.std.proofs.Common.{List, sym, ◌∙◌, ap, subst}
use Rattle.own_model.specs.Db.{Row}
use Rattle.own_model.specs.Stored.{IsRunFrom, rows_at}
use Rattle.state_model.proofs.PutRows.{rising_at}
use Rattle.txn_space.specs.Changed.{rows_with}
use Rattle.txn_space.proofs.OverLemmas.{rows_of_other, rows_of_table}
use Rattle.txn_space.proofs.space.Space.rows_from.Goals as goal

pub run_from-requires-clause-rising : goal.run_from-requires-clause-rising
run_from-requires-clause-rising g c =
    rising_at (g.V.StoreView.db c.args.base.now).schema.tables (g.V.StoreView.db c.args.base.now).rows c.args.table.0 c.definition_of.result.now c.requires.base.rising c.definition_of.ensures

pub returns-in-None : goal.returns-in-None
returns-in-None g c =
    subst (λ (rows : List Row). IsRunFrom rows c.args.at c.rows_from.result.now)
    (sym (rows_of_other (g.V.StoreView.db c.args.base.now).schema.tables (g.V.StoreView.db c.args.base.now).rows c.args.self.now c.args.table.0 c.requires.base.rising c.requires.there c.in-None.ensures))
    c.rows_from.ensures

pub returns-in-Some : goal.returns-in-Some
returns-in-Some g c =
    let rows = (g.V.StoreView.db c.args.base.now).rows in
    subst (λ (all : List Row). IsRunFrom all c.args.at c.run_from.result.now)
    (ap (λ entries. rows_with c.definition_of.result.now entries (rows_at rows c.args.table.0)) c.in-Some.ensures
    ∙ sym (rows_of_table (g.V.StoreView.db c.args.base.now).schema.tables rows c.args.self.now c.args.table.0 c.definition_of.result.now c.requires.base.rising c.definition_of.ensures))
    c.run_from.ensures
