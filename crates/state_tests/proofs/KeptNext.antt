-- What a CREATE leaves is a database as statements leave it.
use Rattle.std.proofs.Common.{◌≡◌, subst}
use Rattle.own_model.specs.declared.create.CreateTable.{CreateTable as TableCreate}
use Rattle.own_model.specs.declared.create.CreateView.{CreateView as ViewCreate}
use Rattle.own_model.specs.declared.reply.Reply.TheVariants.{Done}
use Rattle.own_model.specs.declared.request.Request.TheVariants.{Run}
use Rattle.own_model.specs.declared.statement.Statement.TheVariants.{CreateTable, CreateView}
use Rattle.own_model.specs.Db.{Db}
use Rattle.grammar_model.specs.Readable.{IsReadable}
use Rattle.state_model.specs.Sound.{IsWellFormed}
use Rattle.run_model.specs.Run.{Outcome, add_view, create_table, run}
use Rattle.run_model.proofs.KeptRuns.{kept-run}

-- a table more
pub kept-table : (db next : Db) (table : TableCreate) → IsWellFormed db → IsReadable (Run (CreateTable table)) → create_table db table ≡ record { db = next; reply = Done } → IsWellFormed next
unfolding run
kept-table db next table kept readable is = subst (λ (o : Outcome). IsWellFormed o.db) is (kept-run db kept (CreateTable table) readable)

-- a view more
pub kept-view : (db next : Db) (view : ViewCreate) → IsWellFormed db → IsReadable (Run (CreateView view)) → add_view db view ≡ record { db = next; reply = Done } → IsWellFormed next
unfolding run
kept-view db next view kept readable is = subst (λ (o : Outcome). IsWellFormed o.db) is (kept-run db kept (CreateView view) readable)
