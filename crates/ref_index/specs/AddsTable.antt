-- A database with a table more.
use Rattle.std.specs.Prelude.{◌≡◌, [], ◌∷◌, ◌++◌}
use Rattle.own_model.specs.declared.schema.TableDef.{TableDef}
use Rattle.own_model.specs.Db.{Db}

-- the table at the end, without rows
pub record AddsTable (before : Db) (table : TableDef) (after : Db) : Type 0 where
  pub tables : after.schema.tables ≡ before.schema.tables ++ table ∷ []
  pub rows : after.rows ≡ before.rows ++ [] ∷ []
