-- A statement that can be read keeps what databases keep.
use Rattle.std.proofs.Common.{◌≡◌, ℕ, List, [], ◌++◌}
use Rattle.std.specs.Prelude.{Option, Some, None, Ok, slice_get, flat_map}
use Rattle.std.specs.List.{AllByRecursion}
use Rattle.own_base.specs.declared.value.Value.{Value}
use Rattle.own_model.specs.declared.bound.Bound.{Bound}
use Rattle.own_model.specs.declared.bound.BoundCond.{BoundCond}
use Rattle.own_model.specs.declared.condition.Cond.{Cond}
use Rattle.own_model.specs.declared.limit.TheConstants.{STATEMENT_BYTES}
use Rattle.own_model.specs.declared.reply.Reply.{Reply}
use Rattle.own_model.specs.declared.request.Request.TheVariants.{Run}
use Rattle.own_model.specs.declared.schema.TableDef.{TableDef}
use Rattle.own_model.specs.declared.statement.Statement.{Statement}
use Rattle.own_model.specs.declared.statement.Statement.TheVariants as statement
use Rattle.own_model.specs.Db.{Db, Row, IsOrdered}
use Rattle.own_model.specs.Stored.{rows_at}
use Rattle.query_model.specs.BoundStatement.{bound_statement, faults, meaning}
use Rattle.query_model.specs.Refused.{lowest}
use Rattle.query_model.specs.Scope.{NameBytes}
use Rattle.query_model.specs.SelectFaults.{no_table}
use Rattle.query_model.specs.WriteFaults.{insert_faults, list_faults, tuple_faults, update_faults}
use Rattle.schema_model.specs.OwnerSchema.{ColumnsDiffer}
use Rattle.schema_model.proofs.Places.{all-at, append-none, flat_map-none}
use Rattle.grammar_model.specs.Readable.{IsReadable}
use Rattle.readable_model.proofs.Literals.{no_sums}
use Rattle.query_model.proofs.NoFaults.{none-lowest}
use Rattle.state_model.specs.Rows.{AreRowsOf, IsRowOf}
use Rattle.state_model.specs.Sound.{IsWellFormed}
use Rattle.state_model.proofs.CreatedLemmas.{created-rows}
use Rattle.state_model.proofs.CreatedSchema.{owner_schema-created, plain-created}
use Rattle.state_model.proofs.ForgetKept.{kept-forget}
use Rattle.state_model.proofs.KeyColumns.{HasKey, keyed-created}
use Rattle.state_model.proofs.WellFormedLemmas.{kept-create, kept-create_view}
use Rattle.state_model.proofs.PlainKinds.{IsPlainTable}
use Rattle.state_model.proofs.StoredRows.{rows-at}
use Rattle.run_model.specs.Insert.{with_tuples}
use Rattle.run_model.specs.Run.{Outcome, answered, run, run_bound}
use Rattle.run_model.specs.Update.{Sets, rows_left}
use Rattle.run_model.proofs.FitSets.{written-fit}
use Rattle.run_model.proofs.KeylessSets.{Written, keyless-bound_sets, sets_over}
use Rattle.run_model.proofs.Numbered.{named-at}
use Rattle.run_model.proofs.OrderedRuns.{ordered-left, ordered-put, ordered-updated}
use Rattle.run_model.proofs.Outcomes.{IfBound, IfDeleted, IfPut, IfRuns, IfUpdated, bound-ok, of-bound, of-statement}
use Rattle.run_model.proofs.PutRows.{rows-put}
use Rattle.run_model.proofs.RightSets.{sets-of}
use Rattle.run_model.proofs.RisingKeys.{AreKeyless}
use Rattle.run_model.proofs.StorableValues.{written-storable}
use Rattle.run_model.proofs.TableLemmas.{AreTogether, IfRows, rows-change, rows-set, together-with_tuples}
use Rattle.run_model.proofs.UpdatedRows.{AreSetsOf, all-rows_left, rows-updated}

module _ (db : Db) (kept : IsWellFormed db) where
  abbrev Left : Outcome → Type 0
  Left outcome = IsWellFormed outcome.db

  same : (reply : Reply) → Left (answered db reply)
  same reply = kept

  abbrev IsLeftOrdered : Outcome → Type 0
  IsLeftOrdered outcome = IsOrdered outcome.db

  -- the rows of a table
  rows-of : (number : ℕ) (table : TableDef) → slice_get db.schema.tables number ≡ Some table → AllByRecursion (IsRowOf table) (rows_at db.rows number)
  rows-of number table at = rows-at db.schema.tables db.rows number table kept.rows at

  -- other rows that rise and may stand there
  kept-stored : (rows : List (List Row)) → IsOrdered (record db { rows = rows }) → AreRowsOf db.schema.tables rows → IsWellFormed (record db { rows = rows })
  kept-stored rows ordered are = record { created = created-rows db rows kept.created; ordered = ordered; rows = are }

  -- tuples that may stand in a table are put
  pub kept-put : (number : ℕ) (tuples : List Row) → ((table : TableDef) → slice_get db.schema.tables number ≡ Some table → AllByRecursion (IsRowOf table) tuples)
      → IfPut db Left number tuples
  kept-put number tuples are table rows at new =
      let together : IfRows (AreTogether (IsRowOf table) (rows_at db.rows number) tuples) (with_tuples table (rows_at db.rows number) tuples) =
      together-with_tuples (IsRowOf table) table (rows_at db.rows number) tuples (rows-of number table at) (are table at) in
      let all : AreTogether (IsRowOf table) (rows_at db.rows number) tuples rows = rw new at together in
      kept-stored _ (ordered-put db kept.ordered number tuples table rows at new) (rows-set db.schema.tables db.rows number table rows kept.rows at all.each)

  -- rows are updated by sets that are of no primary key and give what may stand in their columns
  pub kept-updated : (number : ℕ) (sets : Sets) (cond : Option BoundCond)
      → ((table : TableDef) → slice_get db.schema.tables number ≡ Some table → AreKeyless table sets × AreSetsOf table sets)
      → IfUpdated db Left number sets cond
  kept-updated number sets cond are table at none =
      kept-stored _ (ordered-updated db kept.ordered number sets cond (λ table at. (are table at).0) table at none)
      (rows-set db.schema.tables db.rows number table _ kept.rows at (rows-updated table sets cond (rows_at db.rows number) (are table at).0 (are table at).1 (rows-of number table at)))

  -- rows are deleted
  pub kept-deleted : (number : ℕ) (cond : Option BoundCond) → IfDeleted db Left number cond
  kept-deleted number cond =
      kept-stored _ (ordered-left db kept.ordered number cond)
      (rows-change (rows_left cond) (λ table rows are. all-rows_left (IsRowOf table) cond rows are) db.schema.tables db.rows number kept.rows)

  -- no column of a table is of the kind of sums
  plain-table : (number : ℕ) (table : TableDef) → slice_get db.schema.tables number ≡ Some table → IsPlainTable table
  plain-table number table at = all-at IsPlainTable db.schema.tables (plain-created db kept.created) number table at

  -- each table has its primary key among its columns, whose names differ
  key-table : (number : ℕ) (table : TableDef) → slice_get db.schema.tables number ≡ Some table → HasKey table
  key-table number table at = all-at HasKey db.schema.tables (keyed-created db kept.created) number table at

  names-table : (number : ℕ) (table : TableDef) → slice_get db.schema.tables number ≡ Some table → ColumnsDiffer table
  names-table number table at = all-at ColumnsDiffer db.schema.tables (owner_schema-created db kept.created).names number table at

  -- an INSERT that can be read and has no fault
  kept-insert : (name : NameBytes) (names : Option (List NameBytes)) (tuples : List (List Value)) → IsReadable (Run (statement.Insert name names tuples))
      → lowest (insert_faults db.schema name names tuples) ≡ None → IfBound db Left (meaning db.schema (statement.Insert name names tuples))
  unfolding meaning insert_faults
  kept-insert name names tuples readable told =
      kept-put _ _ (λ table at.
      let parts = append-none (no_table db.schema name) _ (none-lowest _ told) in
      let named = named-at db.schema name table parts.0 at in
      let own : list_faults table names ++ flat_map (tuple_faults table names) tuples ≡ [] = rw named at parts.1 in
      let none = flat_map-none (tuple_faults table names) tuples (append-none (list_faults table names) _ own).1 in
      rw named (rows-put table names tuples (key-table _ table at) (names-table _ table at) (plain-table _ table at) (written-storable STATEMENT_BYTES name names tuples readable) (no_sums name names tuples readable) none))

  -- an UPDATE
  kept-update : (name : NameBytes) (sets : Written) (cond : Option Cond) → IsReadable (Run (statement.Update name sets cond))
      → lowest (update_faults db.schema name sets cond) ≡ None → IfBound db Left (meaning db.schema (statement.Update name sets cond))
  unfolding meaning
  kept-update name sets cond readable told =
      kept-updated _ _ _ (λ table at.
      let over = sets_over db.schema name sets cond table told at in
      let keyless = keyless-bound_sets table sets over.none in
      let are = sets-of table sets (plain-table _ table at) (written-fit STATEMENT_BYTES name sets cond readable) over.none in
      rw over.bound (keyless, are))

  -- what binding gives for a statement that can be read
  pub kept-binds : (found : Statement) → IsReadable (Run found) → lowest (faults db.schema found) ≡ None
      → IfBound db Left (meaning db.schema found)
  unfolding meaning faults
  kept-binds (statement.Insert table columns tuples) readable = kept-insert table columns tuples readable
  kept-binds (statement.Update table sets cond) readable = kept-update table sets cond readable
  kept-binds (statement.Delete table cond) readable = λ none. kept-deleted _ _
  kept-binds (statement.GdprForget table key) readable = λ none there. kept-forget db _ kept
  kept-binds _ readable = λ none. tt

  runs : (found : Statement) → IsReadable (Run found) → IfRuns db Left found
  runs (statement.CreateTable table) readable = kept-create db table kept readable
  runs (statement.CreateView view) readable = kept-create_view db view kept readable
  runs (statement.Insert table columns tuples) readable = kept-binds (statement.Insert table columns tuples) readable
  runs (statement.Update table sets cond) readable = kept-binds (statement.Update table sets cond) readable
  runs (statement.Delete table cond) readable = kept-binds (statement.Delete table cond) readable
  runs (statement.GdprForget table key) readable = kept-binds (statement.GdprForget table key) readable
  runs _ readable = tt

  -- a statement that can be read keeps the database one that is kept
  pub kept-run : (found : Statement) → IsReadable (Run found) → IsWellFormed (run db found).db
  kept-run found readable = of-statement db Left same found (runs found readable)

  -- so does what binding gives for it
  pub kept-run_bound : (found : Statement) (meant : Bound) → IsReadable (Run found) → bound_statement db.schema found ≡ Ok meant → IsWellFormed (run_bound db meant).db
  kept-run_bound found meant readable is =
      let own = bound-ok db.schema found meant is in
      rw (← own.1) (of-bound db Left same (meaning db.schema found) (kept-binds found readable own.0))
