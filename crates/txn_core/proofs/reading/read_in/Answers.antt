use Rattle.std.proofs.Common.{List, ◌∙◌, sym, ap}
use Rattle.std.proofs.lemmas.Result.{IfOk-weaker}
use Rattle.own_model.specs.Db.{Row}
use Rattle.query_model.specs.Query.{reply_of}
use Rattle.state_model.proofs.StoredRows.{all_stored}
use Rattle.txn_space.specs.Changed.{changed_rows}
use Rattle.view_select.proofs.WholeRows.{whole_rows}
use Rattle.txn_core.proofs.ViewsLeft.{join_left, query_left, table_left}
use Rattle.txn_core.proofs.reading.read_in.Goals as goal

-- the view shows what it shows without the transaction
pub returns-in-View : goal.returns-in-View
returns-in-View g c =
    let db = g.V.StoreView.db c.args.version.now in
    let same = query_left db.schema (changed_rows db.schema.tables db.rows c.args.space.now) db.rows c.args.query.now c.in-View.number c.in-View.is (c.leaves_view.ensures c.if-leaves_view.true) in
    IfOk-weaker c.view_reply.result _ _ (λ reply is. is ∙ ap (λ (rows : List Row). reply_of rows) (sym same)) c.view_reply.ensures

-- a table that a transaction may stand on is in order, and its rows hold no sums
pub select_linked-requires-clause-tables : goal.select_linked-requires-clause-tables
select_linked-requires-clause-tables g c =
    let db = g.V.StoreView.db c.args.version.now in
    record { rising = c.requires.store.rising; stored = all_stored db.schema.tables db.rows c.requires.views.0.rows }

-- and they have all their values
pub select_linked-requires-clause-whole : goal.select_linked-requires-clause-whole
select_linked-requires-clause-whole g c = whole_rows (g.V.StoreView.db c.args.version.now).schema (g.V.StoreView.db c.args.version.now).rows c.requires.views.0.rows

pub select_linked-requires-in-Pair-clause-tables : goal.select_linked-requires-in-Pair-clause-tables
select_linked-requires-in-Pair-clause-tables g c =
    let db = g.V.StoreView.db c.args.version.now in
    record { rising = c.requires.store.rising; stored = all_stored db.schema.tables db.rows c.requires.views.0.rows }

pub select_linked-requires-in-Pair-clause-whole : goal.select_linked-requires-in-Pair-clause-whole
select_linked-requires-in-Pair-clause-whole g c = whole_rows (g.V.StoreView.db c.args.version.now).schema (g.V.StoreView.db c.args.version.now).rows c.requires.views.0.rows

-- what the transaction left is as it is without it
pub returns-in-Table : goal.returns-in-Table
returns-in-Table g c =
    let db = g.V.StoreView.db c.args.version.now in
    let same = table_left db c.args.space.now c.requires.store c.args.query.now c.requires.there c.in-Table.table c.in-Table.is c.if-leaves.ensures in
    IfOk-weaker c.select_linked.result _ _ (λ reply is. is ∙ ap (λ (rows : List Row). reply_of rows) (sym same)) c.select_linked.ensures

pub returns-in-Pair : goal.returns-in-Pair
returns-in-Pair g c =
    let db = g.V.StoreView.db c.args.version.now in
    let same =
    join_left db c.args.space.now c.requires.store c.args.query.now c.requires.there c.in-Pair.left c.in-Pair.right c.in-Pair.left_column c.in-Pair.right_column c.in-Pair.is c.if-leaves-2.ensures c.if-leaves-3.ensures in
    IfOk-weaker c.select_linked-in-Pair.result _ _ (λ reply is. is ∙ ap (λ (rows : List Row). reply_of rows) (sym same)) c.select_linked-in-Pair.ensures
