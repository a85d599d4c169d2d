use Rattle.std.proofs.Common.{◌≡◌, ◌≢◌, subst, sym}
use Rattle.std.specs.Prelude.{IfErr, IfOk}
use Rattle.own_model.specs.declared.refusal.Refusal.TheVariants.{Memory}
use Rattle.own_model.specs.declared.reply.Reply.TheVariants.{Refused}
use Rattle.own_model.specs.Db.{Db}
use Rattle.query_eval.specs.Tables.{AreTables}
use Rattle.run_model.specs.Run.{run_bound}
use Rattle.write_eval.specs.Write.{IsWrite}
use Rattle.txn_core.specs.Single.{NetTo}
use Rattle.txn_core.proofs.Runs.{changed_tables}
use Rattle.txn_core.proofs.running.net_over.Goals as goal

pub single-requires-clause-write : goal.single-requires-clause-write
single-requires-clause-write g c = subst (λ (db : Db). IsWrite db.schema c.args.bound.now) (sym c.in-Ok.ensures) c.requires.write

pub single-requires-clause-tables : goal.single-requires-clause-tables
single-requires-clause-tables g c =
    subst (λ (db : Db). AreTables db.schema db.rows) (sym c.in-Ok.ensures)
    (changed_tables (g.V.StoreView.db c.args.version.now) c.args.space.now c.requires.store c.requires.space c.requires.rows)

pub returns-in-Ok-clause-ok : goal.returns-in-Ok-clause-ok
returns-in-Ok-clause-ok g c =
    subst (λ (db : Db). IfOk c.single.result (λ written. NetTo db (run_bound db c.args.bound.now) written.0 written.1)) c.in-Ok.ensures c.single.ensures.ok

pub returns-in-Ok-clause-err : goal.returns-in-Ok-clause-err
returns-in-Ok-clause-err g c =
    subst (λ (db : Db). IfErr c.single.result (λ why. why ≢ Memory → (run_bound db c.args.bound.now).reply ≡ Refused why)) c.in-Ok.ensures c.single.ensures.err
