-- What a commit leaves of a database.
use Rattle.std.specs.Prelude.{◌≡◌, ℕ, ◌+◌, List, [], ◌∷◌, Bool, false, true, ◌==◌, None, filter}
use Rattle.std.specs.List.{AllByRecursion}
use Rattle.own_base.specs.Key.{key_cmp}
use Rattle.own_base.specs.declared.row_name.RowName.{RowName}
use Rattle.own_model.specs.declared.create.CreateTable.{CreateTable as TableCreate}
use Rattle.own_model.specs.declared.create.CreateView.{CreateView as ViewCreate}
use Rattle.own_model.specs.declared.schema.TableDef.{TableDef}
use Rattle.own_model.specs.Db.{Db, Row, key_of}
use Rattle.own_model.specs.Stored.{holds_rows}
use Rattle.page_model.specs.Changed.{with_changes}
use Rattle.schema_model.specs.Refusal.{refusal_of}
use Rattle.query_model.specs.BoundView.{view_faults}
use Rattle.query_model.specs.Refused.{lowest}
use Rattle.subject_model.specs.Forget.{forget}
use Rattle.state_model.specs.Create.{create, create_view}
use Rattle.state_model.specs.Created.{OfTable, OfView}
use Rattle.state_model.specs.Fault.{fault}
use Rattle.disk_model.specs.declared.commit.Commit.{Commit}
use Rattle.disk_model.specs.declared.commit.Commit.TheVariants.{CreateTable, CreateView, Changes, Forget}
use Rattle.disk_model.specs.declared.commit.Put.{Put}
use Rattle.disk_model.specs.Lawful.{IsLawfulForget, IsLawfulPut}
use Rattle.disk_model.specs.TextOf.{IsTextOf}

abbrev pub is_of_table : ℕ → Put → Bool
is_of_table number put = put.name.table.0 == number

-- the rows of a table with those that are put, and without those that are taken away
abbrev pub rows_after : ℕ → TableDef → List Put → List Row → List Row
rows_after number table puts rows = with_changes (key_of table) key_cmp (λ put. put.name.key) (λ put. put.after) (filter (is_of_table number) puts) rows

-- those of tables that are numbered from here on
unfoldable pub after_from : ℕ → List TableDef → List Put → List (List Row) → List (List Row)
after_from number (table ∷ tables) puts (rows ∷ rest) = rows_after number table puts rows ∷ after_from (number + 1) tables puts rest
after_from number _ puts _ = []

abbrev pub with_puts : Db → List Put → Db
with_puts db puts = record db { rows = after_from 0 db.schema.tables puts db.rows }

-- the text is that of a CREATE TABLE that nothing refuses, and the table is made
pub record CreatesTable (db : Db) (text : List ℕ) (after : Db) : Type 0 where
  pub table : TableCreate
  pub text_of : IsTextOf (OfTable table) (record { view = false; text = text })
  pub admitted : refusal_of db.schema (holds_rows db.rows) table ≡ None
  pub after_is : after ≡ create db table
  pub faultless : fault after ≡ None

-- the same of a CREATE VIEW
pub record CreatesView (db : Db) (text : List ℕ) (after : Db) : Type 0 where
  pub view : ViewCreate
  pub text_of : IsTextOf (OfView view) (record { view = true; text = text })
  pub admitted : lowest (view_faults db.schema view) ≡ None
  pub after_is : after ≡ create_view db view
  pub faultless : fault after ≡ None

-- each change is lawful, and they are made
pub record Puts (db : Db) (puts : List Put) (after : Db) : Type 0 where
  pub lawful : AllByRecursion (IsLawfulPut db) puts
  pub after_is : after ≡ with_puts db puts
  pub faultless : fault after ≡ None

-- the subject is there, and is forgotten
pub record Forgets (db : Db) (name : RowName) (after : Db) : Type 0 where
  pub lawful : IsLawfulForget db name
  pub after_is : after ≡ forget db name

-- a commit is lawful on a database, and leaves this one
abbrev pub Follows : Db → Commit → Db → Type 0
Follows db (CreateTable text) after = CreatesTable db text after
Follows db (CreateView text) after = CreatesView db text after
Follows db (Changes puts) after = Puts db puts after
Follows db (Forget name) after = Forgets db name after
