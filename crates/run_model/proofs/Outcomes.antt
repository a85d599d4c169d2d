-- What holds of each outcome that a statement can have.
use Rattle.std.proofs.Common.{◌≡◌, ℕ, List, length, Bool, true, false, refl}
use Rattle.std.specs.Prelude.{Option, None, Some, Result, Ok, Err, filter, slice_get}
use Rattle.own_base.specs.declared.row_name.RowName.{RowName}
use Rattle.own_base.specs.declared.value.Key.{Key}
use Rattle.own_model.specs.declared.bound.Bound.{Bound}
use Rattle.own_model.specs.declared.bound.Bound.TheVariants as bound
use Rattle.own_model.specs.declared.bound.BoundCond.{BoundCond}
use Rattle.own_model.specs.declared.create.CreateTable.{CreateTable as TableCreate}
use Rattle.own_model.specs.declared.create.CreateView.{CreateView as ViewCreate}
use Rattle.own_model.specs.declared.refusal.Refusal.{Refusal}
use Rattle.own_model.specs.declared.reply.Reply.{Reply}
use Rattle.own_model.specs.declared.reply.Reply.TheVariants.{Done, Forgot}
use Rattle.own_model.specs.declared.schema.Schema.{Schema}
use Rattle.own_model.specs.declared.schema.TableDef.{TableDef}
use Rattle.own_model.specs.declared.statement.Statement.{Statement}
use Rattle.own_model.specs.declared.statement.Statement.TheVariants as statement
use Rattle.own_model.specs.Db.{Db, Row}
use Rattle.own_model.specs.Stored.{holds_rows, rows_at}
use Rattle.query_model.specs.BoundStatement.{bound_statement, bound_unless, faults, meaning}
use Rattle.query_model.specs.BoundView.{view_faults}
use Rattle.query_model.specs.Refused.{lowest}
use Rattle.query_model.specs.Truth.{keeps}
use Rattle.schema_model.specs.Refusal.{refusal_of}
use Rattle.state_model.specs.Create.{create, create_view}
use Rattle.state_model.specs.Fault.{first_of}
use Rattle.subject_model.specs.Forget.{changed, forget, removed}
use Rattle.subject_model.specs.Named.{is_there}
use Rattle.run_model.specs.Insert.{with_tuples}
use Rattle.run_model.specs.Run.{Outcome, add_view, answered, create_table, create_unless, delete, forget_subject, if_there, insert, insert_into, put, run, run_bound, run_unless, show_subject, stored, stored_unless, update, update_in, view_unless}
use Rattle.run_model.specs.Update.{Sets, rows_left, update_faults, updated_rows}

-- What has to hold of an outcome where something changes.
module _ (db : Db) (P : Outcome → Type 0) where
  -- tuples are put into a table that there is
  abbrev pub IfPut : ℕ → List Row → Type 0
  IfPut number tuples = (table : TableDef) (rows : List Row) → slice_get db.schema.tables number ≡ Some table
      → with_tuples table (rows_at db.rows number) tuples ≡ Ok rows → P (stored db number rows (length tuples))

  -- rows of a table that there is are updated without a fault
  abbrev pub IfUpdated : ℕ → Sets → Option BoundCond → Type 0
  IfUpdated number sets cond = (table : TableDef) → slice_get db.schema.tables number ≡ Some table
      → first_of (update_faults table sets (filter (keeps cond) (rows_at db.rows number))) ≡ None
      → P (stored db number (updated_rows sets cond (rows_at db.rows number)) (length (filter (keeps cond) (rows_at db.rows number))))

  -- rows of a table are deleted
  abbrev pub IfDeleted : ℕ → Option BoundCond → Type 0
  IfDeleted number cond = P (stored db number (rows_left cond (rows_at db.rows number)) (length (filter (keeps cond) (rows_at db.rows number))))

  -- or forgotten
  abbrev pub IfForgotten : RowName → Type 0
  IfForgotten subject = is_there db subject ≡ true
      → P (record { db = forget db subject; reply = Forgot (length (removed db subject)) (length (changed db subject)) })

  -- a table is added that nothing refuses
  abbrev pub IfCreated : TableCreate → Type 0
  IfCreated table = refusal_of db.schema (holds_rows db.rows) table ≡ None → P (record { db = create db table; reply = Done })

  -- and a view
  abbrev pub IfViewed : ViewCreate → Type 0
  IfViewed view = lowest (view_faults db.schema view) ≡ None → P (record { db = create_view db view; reply = Done })

  -- what a bound statement has to keep to
  abbrev pub IfBound : Bound → Type 0
  IfBound (bound.Insert table tuples) = IfPut table.0 tuples
  IfBound (bound.Update table sets cond) = IfUpdated table.0 sets cond
  IfBound (bound.Delete table cond) = IfDeleted table.0 cond
  IfBound (bound.Forget subject) = IfForgotten subject.0
  IfBound _ = Unit {0}

  -- what a statement has to keep to where binding finds no fault
  abbrev pub IfBinds : Statement → Type 0
  IfBinds found = lowest (faults db.schema found) ≡ None → IfBound (meaning db.schema found)

  -- what each statement has to keep to
  abbrev pub IfRuns : Statement → Type 0
  IfRuns (statement.CreateTable table) = IfCreated table
  IfRuns (statement.CreateView view) = IfViewed view
  IfRuns (statement.Insert table columns tuples) = IfBinds (statement.Insert table columns tuples)
  IfRuns (statement.Update table sets cond) = IfBinds (statement.Update table sets cond)
  IfRuns (statement.Delete table cond) = IfBinds (statement.Delete table cond)
  IfRuns (statement.GdprForget table key) = IfBinds (statement.GdprForget table key)
  IfRuns _ = Unit {0}

-- What holds where the database stays as it was holds of each outcome, if it holds where something changes too.
module _ (db : Db) (P : Outcome → Type 0) (same : (reply : Reply) → P (answered db reply)) where
  put_step : (number : ℕ) (table : TableDef) (count : ℕ) (result : Result (List Row) Key)
      → ((rows : List Row) → result ≡ Ok rows → P (stored db number rows count)) → P (put db number table count result)
  put_step number table count (Ok rows) is = is rows refl
  put_step number table count (Err key) is = same _

  insert_step : (number : ℕ) (tuples : List Row) → IfPut db P number tuples → (found : Option TableDef) → slice_get db.schema.tables number ≡ found
      → P (insert_into db number tuples found)
  insert_step number tuples is None at = same _
  insert_step number tuples is (Some table) at = put_step number table (length tuples) _ (λ rows new. is table rows at new)

  pub of-insert : (number : ℕ) (tuples : List Row) → IfPut db P number tuples → P (insert db number tuples)
  unfolding insert
  of-insert number tuples is = insert_step number tuples is _ refl

  stored_step : (number : ℕ) (rows : List Row) (count : ℕ) (why : Option Refusal) → (why ≡ None → P (stored db number rows count))
      → P (stored_unless db number rows count why)
  stored_step number rows count None is = is refl
  stored_step number rows count (Some why) is = same _

  update_step : (number : ℕ) (sets : Sets) (cond : Option BoundCond) → IfUpdated db P number sets cond
      → (found : Option TableDef) → slice_get db.schema.tables number ≡ found → P (update_in db number sets cond found)
  update_step number sets cond is None at = same _
  update_step number sets cond is (Some table) at = stored_step number _ _ _ (λ none. is table at none)

  pub of-update : (number : ℕ) (sets : Sets) (cond : Option BoundCond) → IfUpdated db P number sets cond → P (update db number sets cond)
  unfolding update
  of-update number sets cond is = update_step number sets cond is _ refl

  pub of-delete : (number : ℕ) (cond : Option BoundCond) → IfDeleted db P number cond → P (delete db number cond)
  unfolding delete
  of-delete number cond is = is

  there_step : (subject : RowName) (outcome : Outcome) → (b : Bool) → is_there db subject ≡ b → (is_there db subject ≡ true → P outcome)
      → P (if_there db subject outcome)
  there_step subject outcome true is there = rw is (there is)
  there_step subject outcome false is there = rw is (same _)

  -- a subject that is there is shown
  pub of-show : (subject : RowName) → P (show_subject db subject)
  unfolding show_subject
  of-show subject = there_step subject _ _ refl (λ there. same _)

  pub of-forget : (subject : RowName) → IfForgotten db P subject → P (forget_subject db subject)
  unfolding forget_subject
  of-forget subject is = there_step subject _ _ refl is

  create_step : (table : TableCreate) (why : Option Refusal) → (why ≡ None → P (record { db = create db table; reply = Done })) → P (create_unless db table why)
  create_step table None is = is refl
  create_step table (Some why) is = same _

  pub of-create : (table : TableCreate) → IfCreated db P table → P (create_table db table)
  unfolding create_table
  of-create table is = create_step table _ is

  view_step : (view : ViewCreate) (why : Option Refusal) → (why ≡ None → P (record { db = create_view db view; reply = Done })) → P (view_unless db view why)
  view_step view None is = is refl
  view_step view (Some why) is = same _

  pub of-view : (view : ViewCreate) → IfViewed db P view → P (add_view db view)
  unfolding add_view
  of-view view is = view_step view _ is

  -- a bound statement puts tuples, updates, deletes or forgets, or leaves the database as it was
  pub of-bound : (meant : Bound) → IfBound db P meant → P (run_bound db meant)
  unfolding run_bound
  of-bound (bound.Select query) is = same _
  of-bound (bound.Insert table tuples) is = of-insert table.0 tuples is
  of-bound (bound.Update table sets cond) is = of-update table.0 sets cond is
  of-bound (bound.Delete table cond) is = of-delete table.0 cond is
  of-bound (bound.Get subject) is = of-show subject.0
  of-bound (bound.Forget subject) is = of-forget subject.0 is
  of-bound bound.Explain is = same _

  answer_step : (answer : Result Bound Refusal) → ((meant : Bound) → answer ≡ Ok meant → P (run_bound db meant)) → P (run_unless db answer)
  answer_step (Ok meant) is = is meant refl
  answer_step (Err why) is = same _

  -- what binding gives for a statement runs, or a CREATE
  pub of-binding : (found : Statement) → ((meant : Bound) → bound_statement db.schema found ≡ Ok meant → P (run_bound db meant))
      → ((table : TableCreate) → P (create_table db table)) → ((view : ViewCreate) → P (add_view db view)) → P (run db found)
  unfolding run
  of-binding (statement.CreateTable table) is created viewed = created table
  of-binding (statement.CreateView view) is created viewed = viewed view
  of-binding (statement.Select query) is created viewed = answer_step _ is
  of-binding (statement.Insert table columns tuples) is created viewed = answer_step _ is
  of-binding (statement.Update table sets cond) is created viewed = answer_step _ is
  of-binding (statement.Delete table cond) is created viewed = answer_step _ is
  of-binding statement.Begin is created viewed = same _
  of-binding statement.Commit is created viewed = same _
  of-binding statement.Rollback is created viewed = same _
  of-binding (statement.GdprGet table key) is created viewed = answer_step _ is
  of-binding (statement.GdprForget table key) is created viewed = answer_step _ is
  of-binding statement.Explain is created viewed = same _
  of-binding statement.Checkpoint is created viewed = same _

  told_step : (meant : Bound) (told : Option Refusal) → (told ≡ None → IfBound db P meant) → P (run_unless db (bound_unless told meant))
  told_step meant None is = of-bound meant (is refl)
  told_step meant (Some why) is = same _

  -- a statement adds a table or a view, puts tuples, updates, deletes or forgets, or leaves the database as it was
  pub of-statement : (found : Statement) → IfRuns db P found → P (run db found)
  unfolding run bound_statement meaning
  of-statement (statement.CreateTable table) is = of-create table is
  of-statement (statement.CreateView view) is = of-view view is
  of-statement (statement.Select query) is = told_step _ _ (λ none. tt)
  of-statement (statement.Insert table columns tuples) is = told_step _ _ is
  of-statement (statement.Update table sets cond) is = told_step _ _ is
  of-statement (statement.Delete table cond) is = told_step _ _ is
  of-statement statement.Begin is = same _
  of-statement statement.Commit is = same _
  of-statement statement.Rollback is = same _
  of-statement (statement.GdprGet table key) is = told_step _ _ (λ none. tt)
  of-statement (statement.GdprForget table key) is = told_step _ _ is
  of-statement statement.Explain is = same _
  of-statement statement.Checkpoint is = same _

-- any statement but a CREATE
abbrev pub AddsNothing : Statement → Type 0
AddsNothing (statement.CreateTable table) = ⊥
AddsNothing (statement.CreateView view) = ⊥
AddsNothing _ = Unit {0}

-- The same where it holds whatever tuples are put, whatever is set, and so on.
module _ (db : Db) (P : Outcome → Type 0) (same : (reply : Reply) → P (answered db reply))
    (inserted : (number : ℕ) (tuples : List Row) → IfPut db P number tuples)
    (updated : (number : ℕ) (sets : Sets) (cond : Option BoundCond) → IfUpdated db P number sets cond)
    (deleted : (number : ℕ) (cond : Option BoundCond) → IfDeleted db P number cond)
    (forgotten : (subject : RowName) → IfForgotten db P subject) where
  any : (meant : Bound) → IfBound db P meant
  any (bound.Select query) = tt
  any (bound.Insert table tuples) = inserted table.0 tuples
  any (bound.Update table sets cond) = updated table.0 sets cond
  any (bound.Delete table cond) = deleted table.0 cond
  any (bound.Get subject) = tt
  any (bound.Forget subject) = forgotten subject.0
  any bound.Explain = tt

  pub of-run_bound : (meant : Bound) → P (run_bound db meant)
  of-run_bound meant = of-bound db P same meant (any meant)

  pub of-run : ((table : TableCreate) → IfCreated db P table) → ((view : ViewCreate) → IfViewed db P view) → (found : Statement) → P (run db found)
  of-run created viewed found =
      of-binding db P same found (λ meant is. of-run_bound meant) (λ table. of-create db P same table (created table)) (λ view. of-view db P same view (viewed view))

  runs : (found : Statement) → AddsNothing found → IfRuns db P found
  runs (statement.CreateTable table) adds = absurd adds
  runs (statement.CreateView view) adds = absurd adds
  runs (statement.Insert table columns tuples) adds = λ none. any _
  runs (statement.Update table sets cond) adds = λ none. any _
  runs (statement.Delete table cond) adds = λ none. any _
  runs (statement.GdprForget table key) adds = λ none. any _
  runs _ adds = tt

  -- where no table or view is added
  pub of-adding_nothing : (found : Statement) → AddsNothing found → P (run db found)
  of-adding_nothing found adds = of-statement db P same found (runs found adds)

-- what binding gives has no fault, and is what the statement means
pub bound_unless-ok : (told : Option Refusal) (meant given : Bound) → bound_unless told meant ≡ Ok given → (told ≡ None) × (meant ≡ given)
bound_unless-ok None meant given is = (refl, cc)
bound_unless-ok (Some why) meant given is = absurd (cc)

pub bound-ok : (schema : Schema) (found : Statement) (meant : Bound) → bound_statement schema found ≡ Ok meant
    → (lowest (faults schema found) ≡ None) × (meaning schema found ≡ meant)
unfolding bound_statement
bound-ok schema found meant is = bound_unless-ok _ _ meant is

-- and what has no fault is given
pub bound-none : (schema : Schema) (found : Statement) → lowest (faults schema found) ≡ None → bound_statement schema found ≡ Ok (meaning schema found)
unfolding bound_statement
bound-none schema found none = rw none refl
