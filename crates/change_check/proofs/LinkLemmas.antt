-- A reference breaks where it names no row.
use Rattle.std.proofs.Common.{◌≡◌, ℕ, Bool, true, false, not, refl, ap, ◌∙◌}
use Rattle.std.specs.Prelude.{Option, None, Some}
use Rattle.own_base.specs.declared.number.TableNo.{TableNo}
use Rattle.own_base.specs.declared.value.Key.{Key}
use Rattle.own_model.specs.declared.schema.Column.{Column}
use Rattle.own_model.specs.declared.schema.RefKind.{RefKind}
use Rattle.own_model.specs.Db.{Db, Row}
use Rattle.query_model.specs.Footprints.{literal_key}
use Rattle.query_model.specs.Truth.{cell}
use Rattle.subject_model.specs.Named.{is_there}
use Rattle.state_model.specs.Fault.{breaks_reference, names_a_row}
use Rattle.state_model.proofs.FaultLemmas.{column_value}

-- a reference that names no row
pub record NamesNone (db : Db) (row : Row) (number : ℕ) (column : Column) : Type 0 where
  pub link : RefKind × TableNo
  pub refers : column.refers ≡ Some link
  pub key : Key
  pub key_is : literal_key (cell row number) ≡ Some key
  pub gone : is_there db (record { table = link.1; key = key }) ≡ false

not_true : (b : Bool) → not b ≡ true → b ≡ false
not_true true is = let never : false ≡ true = is in cc
not_true false is = refl

pub names_none : (db : Db) (row : Row) (number : ℕ) (column : Column) → breaks_reference db (column_value row number column) ≡ true → NamesNone db row number column
names_none db row number column broke = by column.refers refl
  where
    of : (link : RefKind × TableNo) → column.refers ≡ Some link → (o : Option Key) → literal_key (cell row number) ≡ o → not (names_a_row db link.1 o) ≡ true → NamesNone db row number column
    of link refers None key_is named = let never : false ≡ true = named in cc
    of link refers (Some key) key_is named = record { link = link; refers = refers; key = key; key_is = key_is; gone = not_true _ named }

    by : (o : Option (RefKind × TableNo)) → column.refers ≡ o → NamesNone db row number column
    by None refers = let never : false ≡ true = rw refers at broke in cc
    by (Some link) refers = of link refers _ refl (rw refers at broke)

-- and back
pub none_named : (db : Db) (row : Row) (number : ℕ) (column : Column) (link : RefKind × TableNo) (key : Key) → column.refers ≡ Some link → literal_key (cell row number) ≡ Some key
    → is_there db (record { table = link.1; key = key }) ≡ false → breaks_reference db (column_value row number column) ≡ true
none_named db row number column link key refers key_is gone = rw refers (ap (λ o. not (names_a_row db link.1 o)) key_is ∙ ap not gone)
