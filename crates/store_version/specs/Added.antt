-- A database with a table or a view more.
use Rattle.std.specs.Prelude.{◌≡◌, ℕ, List, [], ◌∷◌, ◌++◌, Ok, false, true}
use Rattle.annot_schema.specs.declared.admitted.Admitted.{Admitted}
use Rattle.annot_schema.specs.Created.{schema_viewed, schema_with}
use Rattle.own_model.specs.declared.create.CreateView.{CreateView}
use Rattle.own_model.specs.declared.schema.Schema.{Schema}
use Rattle.own_model.specs.declared.schema.ViewDef.{ViewDef}
use Rattle.own_model.specs.declared.statement.Statement.TheVariants as statement
use Rattle.own_model.specs.Db.{Db}
use Rattle.grammar_model.specs.Readable.{IsWritten}
use Rattle.query_model.specs.BoundView.{bound_view}

-- the table and the edges of a CREATE TABLE at the end, without rows, and with its text
abbrev pub db_with : Db → Admitted → List ℕ → Db
db_with db admitted text = record {
  creates = db.creates ++ record { view = false; text = text } ∷ [];
  schema = schema_with db.schema admitted;
  rows = db.rows ++ [] ∷ [];
}

-- the view at the end, and with its text
abbrev pub db_viewed : Db → ViewDef → List ℕ → Db
db_viewed db view text = record {
  creates = db.creates ++ record { view = true; text = text } ∷ [];
  schema = schema_viewed db.schema view;
  rows = db.rows;
}

-- a view as binding leaves a CREATE VIEW that the grammar gives for some text
pub record IsBoundView (schema : Schema) (definition : ViewDef) : Type 0 where
  pub create : CreateView
  pub most : ℕ
  pub written : IsWritten most (statement.CreateView create)
  pub bound : bound_view schema create ≡ Ok definition
