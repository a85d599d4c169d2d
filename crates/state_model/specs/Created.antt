-- Databases whose schema is the one that their creates give.
use Rattle.std.specs.Prelude.{◌≡◌, ◌≤◌, ℕ, List, [], ◌∷◌, length, Bool, false, None, fold, map}
use Rattle.std.specs.List.{AllByRecursion}
use Rattle.own_model.specs.declared.create.CreateTable.{CreateTable}
use Rattle.own_model.specs.declared.create.CreateView.{CreateView}
use Rattle.own_model.specs.declared.schema.CreateText.{CreateText}
use Rattle.own_model.specs.declared.schema.Schema.{Schema}
use Rattle.own_model.specs.declared.statement.Statement.{Statement}
use Rattle.own_model.specs.declared.statement.Statement.TheVariants as statement
use Rattle.own_model.specs.Db.{Db, empty}
use Rattle.schema_model.specs.Refusal.{refusal_of}
use Rattle.schema_model.specs.WithTable.{with_table}
use Rattle.query_model.specs.BoundView.{view_faults}
use Rattle.query_model.specs.Refused.{lowest}
use Rattle.grammar_model.specs.Readable.{IsWritten}
use Rattle.state_model.specs.Create.{kept_text, kept_view_text, with_view}

-- a CREATE of a table or of a view
pub data Create : Type 0 where
  OfTable : CreateTable → Create
  OfView : CreateView → Create

-- the statement, the text by which it is kept, and the schema that it leaves
abbrev pub statement_of : Create → Statement
statement_of (OfTable table) = statement.CreateTable table
statement_of (OfView view) = statement.CreateView view

abbrev pub text_of : Create → CreateText
text_of (OfTable table) = kept_text table
text_of (OfView view) = kept_view_text view

abbrev pub with_create : Schema → Create → Schema
with_create schema (OfTable table) = with_table schema table
with_create schema (OfView view) = with_view schema view

-- no table has a row
abbrev pub without_rows : ℕ → Bool
without_rows table = false

-- A CREATE is admitted where nothing refuses it; rows aside, which stood elsewhere when it came.
abbrev pub IsAdmitted : Schema → Create → Type 0
IsAdmitted schema (OfTable table) = refusal_of schema without_rows table ≡ None
IsAdmitted schema (OfView view) = lowest (view_faults schema view) ≡ None

-- each is admitted over the schema that those before it leave
abbrev pub AreAdmitted : Schema → List Create → Type 0
AreAdmitted schema [] = Unit {0}
AreAdmitted schema (create ∷ creates) = IsAdmitted schema create × AreAdmitted (with_create schema create) creates

-- the schema that creates give, one after another
abbrev pub schema_after : List Create → Schema
schema_after creates = fold with_create empty.schema creates

-- the grammar gives the statement for some text, and 32 bits tell the length of that text and of the canonical one
pub record IsReadableCreate (create : Create) : Type 0 where
  pub written : IsWritten 4294967295 (statement_of create)
  pub short : length (text_of create).text ≤ 4294967295

-- A database keeps the texts of its creates in order, each admitted after those before it, and has the schema that they give.
pub record IsCreated (db : Db) : Type 0 where
  pub creates : List Create
  pub readable : AllByRecursion IsReadableCreate creates
  pub texts : db.creates ≡ map text_of creates
  pub admitted : AreAdmitted empty.schema creates
  pub schema : db.schema ≡ schema_after creates
