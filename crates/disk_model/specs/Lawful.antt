-- What is lawful beyond the bytes: which images may begin a journal, and which commits may follow on a database.
use Rattle.std.specs.Prelude.{◌≡◌, List, [], ◌∷◌, Option, None, Some, IsTrue, slice_get, slice_index_or}
use Rattle.std.specs.List.{AllByRecursion}
use Rattle.own_base.specs.declared.row_name.RowName.{RowName}
use Rattle.own_base.specs.declared.value.Key.{Key}
use Rattle.own_base.specs.declared.value.Value.TheVariants.{Null}
use Rattle.own_model.specs.declared.schema.TableDef.{TableDef}
use Rattle.own_model.specs.Db.{Db, Row}
use Rattle.own_model.specs.Stored.{row_named}
use Rattle.schema_model.specs.Tables.{is_subject}
use Rattle.subject_model.specs.Named.{is_there}
use Rattle.state_model.specs.Created.{Create, schema_after}
use Rattle.state_model.specs.Rows.{IsRowOf}
use Rattle.state_model.specs.Sound.{Sound}
use Rattle.disk_model.specs.declared.commit.Put.{Put}
use Rattle.disk_model.specs.declared.image.Image.{Image}
use Rattle.disk_model.specs.TextOf.{AreTextsOf}
use Rattle.disk_model.specs.Value.{as_value}

-- a row that may stand in a table, with this key in its key column
pub record IsRowUnder (table : TableDef) (key : Key) (row : Row) : Type 0 where
  pub may_stand : IsRowOf table row
  pub has_key : slice_index_or row table.key.0 Null ≡ as_value key

-- with some key, so that NULL is none
abbrev pub IsKeyedRow : TableDef → Row → Type 0
IsKeyedRow table row = (key : Key) × IsRowUnder table key row

-- each table has its list of such rows
abbrev pub AreKeyedRows : List TableDef → List (List Row) → Type 0
AreKeyedRows [] [] = Unit {0}
AreKeyedRows [] (rows ∷ rest) = ⊥
AreKeyedRows (table ∷ tables) [] = ⊥
AreKeyedRows (table ∷ tables) (rows ∷ rest) = AllByRecursion (IsKeyedRow table) rows × AreKeyedRows tables rest

-- An image is of a database that a store may represent: each text is that of a CREATE that is admitted after those before it,
-- these give the schema, the keys rise and aren't NULL, and nothing is wrong with it as a whole.
pub record IsLawfulImage (image : Image) (db : Db) : Type 0 where
  pub made_by : List Create
  pub texts : AreTextsOf made_by image.creates
  pub schema : db.schema ≡ schema_after made_by
  pub creates : db.creates ≡ image.creates
  pub rows : db.rows ≡ image.tables
  pub keyed : AreKeyedRows db.schema.tables db.rows
  pub sound : Sound db

-- what a change leaves of a table's row of this key: none, or one that may stand there
abbrev pub IsLawfulState : TableDef → Key → Option Row → Type 0
IsLawfulState table key None = Unit {0}
IsLawfulState table key (Some row) = IsRowUnder table key row

-- a change of a row of a table that is there, which differs from what is there
pub record IsLawfulPut (db : Db) (put : Put) : Type 0 where
  pub table : TableDef
  pub is_there : slice_get db.schema.tables put.name.table.0 ≡ Some table
  pub after : IsLawfulState table put.name.key put.after
  pub differs : ¬ (row_named db.schema db.rows put.name ≡ put.after)

-- a row that is there, of a table of data subjects
pub record IsLawfulForget (db : Db) (name : RowName) : Type 0 where
  pub subject : IsTrue (is_subject db.schema name.table.0)
  pub row : IsTrue (is_there db name)
