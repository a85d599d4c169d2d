use Rattle.std.proofs.Common.{◌≡◌, subst, sym}
use Rattle.std.specs.Prelude.{IfOk}
use Rattle.own_model.specs.Db.{Db}
use Rattle.query_eval.specs.Tables.{AreTables}
use Rattle.query_model.specs.Query.{query_rows, reply_of}
use Rattle.readable_model.specs.Sources.{IsThere}
use Rattle.query_eval.specs.Views.{AreViewsThere}
use Rattle.txn_core.proofs.Runs.{changed_tables}
use Rattle.txn_core.proofs.reading.read_merged.Goals as goal

pub select_reply-requires-clause-tables : goal.select_reply-requires-clause-tables
select_reply-requires-clause-tables g c =
    subst (λ (db : Db). AreTables db.schema db.rows) (sym c.in_ok-merged.ensures)
    (changed_tables (g.V.StoreView.db c.args.version.now) c.args.space.now c.requires.store c.requires.space c.requires.rows)

pub select_reply-requires-clause-views : goal.select_reply-requires-clause-views
select_reply-requires-clause-views g c = subst (λ (db : Db). AreViewsThere db.schema) (sym c.in_ok-merged.ensures) c.requires.store.views

pub select_reply-requires-clause-there : goal.select_reply-requires-clause-there
select_reply-requires-clause-there g c = subst (λ (db : Db). IsThere db.schema c.args.query.now) (sym c.in_ok-merged.ensures) c.requires.there

pub returns : goal.returns
returns g c =
    subst (λ (db : Db). IfOk c.select_reply.result (λ reply. reply ≡ reply_of (query_rows db.schema db.rows c.args.query.now))) c.in_ok-merged.ensures c.select_reply.ensures
