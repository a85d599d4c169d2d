-- Data subjects that are there.
use Rattle.std.proofs.Common.{Bor, ◌≡◌, ℕ, zero, suc, ◌<◌, List, [], ◌∷◌, true, false, ap, arith, length, sym}
use Rattle.std.specs.Prelude.{Option, None, Some, IsTrue, is_some, slice_get}
use Rattle.std.specs.Option.{option_copied, option_map_or}
use Rattle.own_base.specs.declared.row_name.RowName.{RowName}
use Rattle.own_model.specs.declared.schema.Schema.{Schema}
use Rattle.own_model.specs.declared.schema.TableDef.{TableDef}
use Rattle.own_model.specs.Db.{Db, Row}
use Rattle.owner_model.specs.Joins.{row_of}
use Rattle.schema_model.specs.Tables.{is_subject}
use Rattle.subject_model.specs.Named.{is_there}

there_step : (tables : List TableDef) (number : ℕ) → IsTrue (option_map_or (λ (definition : TableDef). definition.subject) (slice_get tables number) false) → number < length tables
there_step [] number is = let never : false ≡ true = is in absurd (cc)
there_step (table ∷ tables) zero is = omega arith
there_step (table ∷ tables) (suc number) is = let rest = there_step tables number is in omega arith

-- the table of a subject is there
pub subject-within : (schema : Schema) (number : ℕ) → IsTrue (is_subject schema number) → number < length schema.tables
subject-within schema number is = there_step schema.tables number is

-- a row that is lent is there
pub lent-there : (db : Db) (name : RowName) (row : Option (Bor Row)) → option_copied row ≡ row_of db name → is_some row ≡ true → is_there db name ≡ true
lent-there db name None lent some = let never : false ≡ true = some in absurd (cc)
lent-there db name (Some row) lent some = sym (ap is_some lent)
