-- What a statement does to a database, and what it answers.
use Rattle.std.specs.Prelude.{ℕ, List, length, Option, None, Some, Result, Ok, Err, filter, slice_get, slice_set, if◌then◌else◌}
use Rattle.own_base.specs.declared.row_name.RowName.{RowName}
use Rattle.own_base.specs.declared.value.Key.{Key}
use Rattle.own_model.specs.declared.bound.Bound.{Bound}
use Rattle.own_model.specs.declared.bound.Bound.TheVariants as bound
use Rattle.own_model.specs.declared.bound.BoundCond.{BoundCond}
use Rattle.own_model.specs.declared.create.CreateTable.{CreateTable as TableCreate}
use Rattle.own_model.specs.declared.create.CreateView.{CreateView as ViewCreate}
use Rattle.own_model.specs.declared.refusal.Refusal.{Refusal}
use Rattle.own_model.specs.declared.refusal.Refusal.TheVariants.{Duplicate, NoSubject}
use Rattle.own_model.specs.declared.reply.Reply.{Reply}
use Rattle.own_model.specs.declared.reply.Reply.TheVariants.{Done, Counted, Forgot, Got, Graph, Refused}
use Rattle.own_model.specs.declared.schema.TableDef.{TableDef}
use Rattle.own_model.specs.declared.statement.Statement.{Statement}
use Rattle.own_model.specs.declared.statement.Statement.TheVariants.{Begin, Checkpoint, Commit, CreateTable, CreateView, Explain, Rollback}
use Rattle.own_model.specs.Db.{Db, Row}
use Rattle.own_model.specs.Stored.{holds_rows, rows_at}
use Rattle.schema_model.specs.Explained.{explained}
use Rattle.schema_model.specs.Refusal.{refusal_of}
use Rattle.query_model.specs.BoundStatement.{bound_statement}
use Rattle.query_model.specs.BoundView.{view_faults}
use Rattle.query_model.specs.Query.{query_rows, reply_of}
use Rattle.query_model.specs.Refused.{lowest}
use Rattle.query_model.specs.Truth.{keeps}
use Rattle.subject_model.specs.Forget.{changed, forget, removed}
use Rattle.subject_model.specs.Get.{get, table_name}
use Rattle.subject_model.specs.Named.{is_there}
use Rattle.state_model.specs.Create.{create, create_view}
use Rattle.state_model.specs.Fault.{first_of}
use Rattle.run_model.specs.Insert.{with_tuples}
use Rattle.run_model.specs.Update.{Sets, rows_left, update_faults, updated_rows}

-- a database and an answer
pub record Outcome : Type 0 where
  pub db : Db
  pub reply : Reply

-- the database as it was, and an answer
abbrev pub answered : Db → Reply → Outcome
answered db reply = record { db = db; reply = reply }

-- other rows in the table of a number, and how many rows were put or met
abbrev pub stored : Db → ℕ → List Row → ℕ → Outcome
stored db number rows count = record { db = record db { rows = slice_set db.rows number rows }; reply = Counted count }

-- the rows of a table are these now, as many as this more; or a tuple's key is there
abbrev pub put : Db → ℕ → TableDef → ℕ → Result (List Row) Key → Outcome
put db number table count (Ok rows) = stored db number rows count
put db number table count (Err key) = answered db (Refused (Duplicate table.name key))

abbrev pub insert_into : Db → ℕ → List Row → Option TableDef → Outcome
insert_into db number tuples None = answered db (Counted 0)
insert_into db number tuples (Some table) = put db number table (length tuples) (with_tuples table (rows_at db.rows number) tuples)

-- INSERT puts its tuples into the table of a number. Where a key is there it is refused, and nothing changes.
unfoldable pub insert : Db → ℕ → List Row → Outcome
insert db number tuples = insert_into db number tuples (slice_get db.schema.tables number)

abbrev pub stored_unless : Db → ℕ → List Row → ℕ → Option Refusal → Outcome
stored_unless db number rows count (Some why) = answered db (Refused why)
stored_unless db number rows count None = stored db number rows count

abbrev pub update_in : Db → ℕ → Sets → Option BoundCond → Option TableDef → Outcome
update_in db number sets cond None = answered db (Counted 0)
update_in db number sets cond (Some table) = stored_unless db number (updated_rows sets cond (rows_at db.rows number))
    (length (filter (keeps cond) (rows_at db.rows number)))
    (first_of (update_faults table sets (filter (keeps cond) (rows_at db.rows number))))

-- UPDATE sets columns of the rows that WHERE keeps, or is refused by its first fault and nothing changes.
unfoldable pub update : Db → ℕ → Sets → Option BoundCond → Outcome
update db number sets cond = update_in db number sets cond (slice_get db.schema.tables number)

-- DELETE leaves the rows that WHERE doesn't keep.
unfoldable pub delete : Db → ℕ → Option BoundCond → Outcome
delete db number cond = stored db number (rows_left cond (rows_at db.rows number)) (length (filter (keeps cond) (rows_at db.rows number)))

-- an answer on a data subject, if there is one of this name
abbrev pub if_there : Db → RowName → Outcome → Outcome
if_there db subject outcome = if is_there db subject then outcome else answered db (Refused (NoSubject (table_name db.schema subject.table.0) subject.key))

-- GDPR GET shows the rows that a subject reaches.
unfoldable pub show_subject : Db → RowName → Outcome
show_subject db subject = if_there db subject (answered db (Got (get db subject)))

-- GDPR FORGET leaves what stays, and counts what it removes and changes.
unfoldable pub forget_subject : Db → RowName → Outcome
forget_subject db subject =
    if_there db subject (record { db = forget db subject; reply = Forgot (length (removed db subject)) (length (changed db subject)) })

-- What a bound statement does. A SELECT shows its rows, where they aren't too many.
unfoldable pub run_bound : Db → Bound → Outcome
run_bound db (bound.Select query) = answered db (reply_of (query_rows db.schema db.rows query))
run_bound db (bound.Insert table tuples) = insert db table.0 tuples
run_bound db (bound.Update table sets cond) = update db table.0 sets cond
run_bound db (bound.Delete table cond) = delete db table.0 cond
run_bound db (bound.Get subject) = show_subject db subject.0
run_bound db (bound.Forget subject) = forget_subject db subject.0
run_bound db bound.Explain = answered db (Graph (explained db.schema))

-- a statement that binding refuses changes nothing
abbrev pub run_unless : Db → Result Bound Refusal → Outcome
run_unless db (Ok statement) = run_bound db statement
run_unless db (Err why) = answered db (Refused why)

abbrev pub create_unless : Db → TableCreate → Option Refusal → Outcome
create_unless db table (Some why) = answered db (Refused why)
create_unless db table None = record { db = create db table; reply = Done }

-- CREATE TABLE adds the table, or is refused by the first cause that there is.
unfoldable pub create_table : Db → TableCreate → Outcome
create_table db table = create_unless db table (refusal_of db.schema (holds_rows db.rows) table)

abbrev pub view_unless : Db → ViewCreate → Option Refusal → Outcome
view_unless db view (Some why) = answered db (Refused why)
view_unless db view None = record { db = create_view db view; reply = Done }

-- CREATE VIEW adds the view, or is refused by the first cause that there is.
unfoldable pub add_view : Db → ViewCreate → Outcome
add_view db view = view_unless db view (lowest (view_faults db.schema view))

-- The database that a statement leaves, and its answer. A statement that is refused leaves the database as it was. BEGIN,
-- COMMIT, ROLLBACK and CHECKPOINT do nothing to it by themselves.
unfoldable pub run : Db → Statement → Outcome
run db (CreateTable table) = create_table db table
run db (CreateView view) = add_view db view
run db Begin = answered db Done
run db Commit = answered db Done
run db Rollback = answered db Done
run db Checkpoint = answered db Done
run db Explain = answered db (Graph (explained db.schema))
run db statement = run_unless db (bound_statement db.schema statement)
