-- Each statement leaves the keys of each table rising.
use Rattle.std.proofs.Common.{◌≡◌, ℕ, List}
use Rattle.std.specs.Prelude.{Option, Some, None, slice_get}
use Rattle.own_model.specs.declared.bound.BoundCond.{BoundCond}
use Rattle.own_model.specs.declared.condition.Cond.{Cond}
use Rattle.own_model.specs.declared.create.CreateTable.{CreateTable as TableCreate}
use Rattle.own_model.specs.declared.create.CreateView.{CreateView as ViewCreate}
use Rattle.own_model.specs.declared.schema.TableDef.{TableDef}
use Rattle.own_model.specs.declared.statement.Statement.{Statement}
use Rattle.own_model.specs.declared.statement.Statement.TheVariants as statement
use Rattle.own_model.specs.declared.reply.Reply.{Reply}
use Rattle.own_model.specs.Db.{Db, Row, IsOrdered, IsRising}
use Rattle.own_model.specs.Stored.{rows_at}
use Rattle.query_model.specs.BoundStatement.{faults, meaning}
use Rattle.query_model.specs.Refused.{lowest}
use Rattle.query_model.specs.Scope.{NameBytes}
use Rattle.query_model.specs.WriteFaults.{update_faults}
use Rattle.schema_model.specs.NewTable.{new_table}
use Rattle.schema_model.specs.OwnerSchema.{IsOwnerSchema}
use Rattle.schema_model.specs.WithTable.{with_table}
use Rattle.state_model.specs.Create.{create, create_view, with_view}
use Rattle.state_model.proofs.WellFormedLemmas.{rising-append}
use Rattle.state_model.proofs.PutRows.{rising_at}
use Rattle.subject_model.proofs.ForgetOrder.{ordered-forget}
use Rattle.run_model.specs.Insert.{with_tuples}
use Rattle.run_model.specs.Run.{Outcome, answered, delete, insert, run, update}
use Rattle.run_model.specs.Update.{Sets, rows_left}
use Rattle.run_model.proofs.KeylessSets.{Written, keyless-bound_sets, sets_over}
use Rattle.run_model.proofs.Outcomes.{IfBound, IfDeleted, IfPut, IfRuns, IfUpdated, of-delete, of-insert, of-statement, of-update}
use Rattle.run_model.proofs.RisingKeys.{AreKeyless, rising-change, rising-rows_left, rising-set, rising-updated_rows, rising-with_tuples}
use Rattle.run_model.proofs.TableLemmas.{IfRows}

module _ (db : Db) (ordered : IsOrdered db) where
  abbrev Left : Outcome → Type 0
  Left outcome = IsOrdered outcome.db

  same : (reply : Reply) → Left (answered db reply)
  same reply = ordered

  pub ordered-put : (number : ℕ) (tuples : List Row) → IfPut db Left number tuples
  ordered-put number tuples table rows at new =
      let rising : IfRows (IsRising table) (with_tuples table (rows_at db.rows number) tuples) =
      rising-with_tuples table (rows_at db.rows number) tuples (rising_at db.schema.tables db.rows number table ordered.rising at) in
      record { rising = rising-set db.schema.tables db.rows number table rows ordered.rising at (rw new at rising) }

  -- an INSERT does
  pub ordered-insert : (number : ℕ) (tuples : List Row) → IsOrdered (insert db number tuples).db
  ordered-insert number tuples = of-insert db Left same number tuples (ordered-put number tuples)

  pub ordered-updated : (number : ℕ) (sets : Sets) (cond : Option BoundCond) → ((table : TableDef) → slice_get db.schema.tables number ≡ Some table → AreKeyless table sets)
      → IfUpdated db Left number sets cond
  ordered-updated number sets cond keyless table at none =
      record {
        rising = rising-set db.schema.tables db.rows number table _ ordered.rising at
            (rising-updated_rows table sets (keyless table at) cond (rows_at db.rows number) (rising_at db.schema.tables db.rows number table ordered.rising at));
      }

  -- an UPDATE that sets no primary key
  pub ordered-update : (number : ℕ) (sets : Sets) (cond : Option BoundCond) → ((table : TableDef) → slice_get db.schema.tables number ≡ Some table → AreKeyless table sets)
      → IsOrdered (update db number sets cond).db
  ordered-update number sets cond keyless = of-update db Left same number sets cond (ordered-updated number sets cond keyless)

  pub ordered-left : (number : ℕ) (cond : Option BoundCond) → IfDeleted db Left number cond
  ordered-left number cond =
      record { rising = rising-change (rows_left cond) (λ table rows rising. rising-rows_left table cond rows rising) db.schema.tables db.rows number ordered.rising }

  -- a DELETE
  pub ordered-delete : (number : ℕ) (cond : Option BoundCond) → IsOrdered (delete db number cond).db
  ordered-delete number cond = of-delete db Left same number cond (ordered-left number cond)

  -- a CREATE
  pub ordered-create : (table : TableCreate) → IsOrdered (create db table)
  unfolding create with_table
  ordered-create table = record { rising = rising-append db.schema.tables db.rows (new_table db.schema table) ordered.rising }

  pub ordered-create_view : (view : ViewCreate) → IsOrdered (create_view db view)
  unfolding create_view with_view
  ordered-create_view view = record { rising = ordered.rising }

  -- the sets of an UPDATE that binding lets through are of no primary key
  bound_update : (name : NameBytes) (sets : Written) (cond : Option Cond) → lowest (update_faults db.schema name sets cond) ≡ None
      → IfBound db Left (meaning db.schema (statement.Update name sets cond))
  unfolding meaning
  bound_update name sets cond told =
      ordered-updated _ _ _ (λ table at.
      let over = sets_over db.schema name sets cond table told at in
      rw over.bound (keyless-bound_sets table sets over.none))

  runs : IsOwnerSchema db.schema → (found : Statement) → IfRuns db Left found
  unfolding meaning faults
  runs owner (statement.CreateTable table) = λ none. ordered-create table
  runs owner (statement.CreateView view) = λ none. ordered-create_view view
  runs owner (statement.Insert table columns tuples) = λ none. ordered-put _ _
  runs owner (statement.Update table sets cond) = bound_update table sets cond
  runs owner (statement.Delete table cond) = λ none. ordered-left _ _
  runs owner (statement.GdprForget table key) = λ none there. ordered-forget db _ owner ordered
  runs owner _ = tt

  -- any statement, where the schema's edges are an ownership graph
  pub ordered-run : IsOwnerSchema db.schema → (found : Statement) → IsOrdered (run db found).db
  ordered-run owner found = of-statement db Left same found (runs owner found)
