-- How many subjects are listed for a row.
use Rattle.std.proofs.Common.{◌≡◌, ℕ, zero, suc, ◌<◌, List, true, false, length, ap, ◌∙◌, arith}
use Rattle.std.specs.Prelude.{Some, ◌==◌, slice_get}
use Rattle.std.proofs.lemmas.Bool.{eqb-true}
use Rattle.std.proofs.lemmas.List.{length-map}
use Rattle.own_base.specs.declared.row_name.RowName.{RowName}
use Rattle.own_model.specs.declared.schema.TableDef.{TableDef}
use Rattle.own_model.specs.Db.{Db, Row}
use Rattle.own_model.specs.Stored.{rows_at}
use Rattle.subject_model.specs.Named.{name_of}
use Rattle.owner_sets.specs.Sets.{AreSetsOf, Sets, as_subject, set_at}

-- as many as stand in its set
pub Sets-at : (db : Db) (listed : RowName → List RowName) (sets : Sets) (table place : ℕ) (definition : TableDef) (row : Row) → AreSetsOf db listed sets
    → slice_get db.schema.tables table ≡ Some definition → slice_get (rows_at db.rows table) place ≡ Some row
    → length (set_at sets table place) ≡ length (listed (name_of table definition row))
Sets-at db listed sets table place definition row are there is =
    ap length ((are.each table).at place definition row there is) ∙ length-map (listed (name_of table definition row)) as_subject

-- what a test of a number against 0 says
pub some_from : (n : ℕ) → (n == 0) ≡ false → 0 < n
some_from zero is = let never : true ≡ false = is in cc
some_from (suc n) is = omega arith

pub none_from : (n : ℕ) → (n == 0) ≡ true → n ≡ 0
none_from n is = eqb-true n 0 is
