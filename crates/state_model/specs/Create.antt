-- What a CREATE adds to a database.
use Rattle.std.specs.Prelude.{[], ◌∷◌, ◌++◌, true, false}
use Rattle.own_model.specs.declared.create.CreateTable.{CreateTable as TableCreate}
use Rattle.own_model.specs.declared.create.CreateView.{CreateView as ViewCreate}
use Rattle.own_model.specs.declared.schema.CreateText.{CreateText}
use Rattle.own_model.specs.declared.schema.Schema.{Schema}
use Rattle.own_model.specs.declared.statement.Statement.TheVariants.{CreateTable, CreateView}
use Rattle.own_model.specs.Db.{Db}
use Rattle.schema_model.specs.WithTable.{with_table}
use Rattle.query_model.specs.BoundView.{new_view}
use Rattle.text_model.specs.Canonical.{canonical}

-- the text by which a CREATE is kept: its canonical one
abbrev pub kept_text : TableCreate → CreateText
kept_text table = record { view = false; text = canonical (CreateTable table) }

abbrev pub kept_view_text : ViewCreate → CreateText
kept_view_text view = record { view = true; text = canonical (CreateView view) }

-- the database with the table and its edges at the end; the table has no rows
unfoldable pub create : Db → TableCreate → Db
create db table = record {
  creates = db.creates ++ kept_text table ∷ [];
  schema = with_table db.schema table;
  rows = db.rows ++ [] ∷ [];
}

-- the schema with the view at the end
unfoldable pub with_view : Schema → ViewCreate → Schema
with_view schema view = record schema { views = schema.views ++ new_view schema view ∷ [] }

-- the database with the view at the end
unfoldable pub create_view : Db → ViewCreate → Db
create_view db view = record {
  creates = db.creates ++ kept_view_text view ∷ [];
  schema = with_view db.schema view;
  rows = db.rows;
}
