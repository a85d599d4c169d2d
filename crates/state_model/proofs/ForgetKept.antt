-- What a FORGET leaves is a database as statements leave it.
use Rattle.std.proofs.Common.{◌≡◌, ℕ, suc, ◌+◌, List, [], ◌∷◌, map, Bool, true, false, cond, refl, ap, sym, ◌∙◌, subst, arith}
use Rattle.std.specs.Prelude.{Some, filter, slice_get}
use Rattle.std.specs.List.{AllByRecursion}
use Rattle.own_base.specs.declared.row_name.RowName.{RowName}
use Rattle.own_base.specs.declared.value.Value.{Value}
use Rattle.own_model.specs.declared.schema.Column.{Column}
use Rattle.own_model.specs.declared.schema.Kind.{Kind}
use Rattle.own_model.specs.declared.schema.TableDef.{TableDef}
use Rattle.own_model.specs.Db.{Db, Row}
use Rattle.query_model.specs.Truth.{cell}
use Rattle.schema_model.specs.OwnerSchema.{IsOwnerSchema}
use Rattle.subject_model.specs.Forget.{forget, left_from, left_in, left_of, loses}
use Rattle.subject_model.specs.Named.{NamedRow}
use Rattle.subject_model.proofs.ForgetKeys.{cell_left, keeps_key, kept_value}
use Rattle.subject_model.proofs.ForgetOrder.{ordered-forget}
use Rattle.subject_model.proofs.ForgetRows.{left_in-images, named_in, row_left, stays_in}
use Rattle.state_model.specs.Created.{IsCreated}
use Rattle.state_model.specs.Rows.{AreOfKinds, AreRowsOf, IsOfKind, IsRowOf, IsStorable}
use Rattle.state_model.specs.Sound.{IsWellFormed}
use Rattle.state_model.proofs.CreatedLemmas.{created-rows}
use Rattle.state_model.proofs.CreatedSchema.{owner_schema-created}
use Rattle.state_model.proofs.ForgetSizes.{or_null, without}

-- NULL is of each kind
kind-or_null : (lost : Bool) (kind : Kind) (value : Value) → IsOfKind kind value → IsOfKind kind (or_null lost value)
kind-or_null true kind value is = tt
kind-or_null false kind value is = is

-- and no long text
storable-or_null : (lost : Bool) (value : Value) → IsStorable value → IsStorable (or_null lost value)
storable-or_null true value is = tt
storable-or_null false value is = is

kinds-without : (lost : ℕ × Value → Bool) (number : ℕ) (columns : List Column) (row : Row) → AreOfKinds columns row → AreOfKinds columns (without lost number row)
kinds-without lost number [] [] are = tt
kinds-without lost number [] (value ∷ row) are = absurd are
kinds-without lost number (column ∷ columns) [] are = absurd are
kinds-without lost number (column ∷ columns) (value ∷ row) are =
    (kind-or_null (lost (number, value)) column.kind value are.0, kinds-without lost (number + 1) columns row are.1)

storable-without : (lost : ℕ × Value → Bool) (number : ℕ) (row : Row) → AllByRecursion IsStorable row → AllByRecursion IsStorable (without lost number row)
storable-without lost number [] are = tt
storable-without lost number (value ∷ row) are = (storable-or_null (lost (number, value)) value are.0, storable-without lost (number + 1) row are.1)

-- what is left of a row may stand in its table
row_of-left : (db : Db) (subject : RowName) (table : TableDef) (named : NamedRow) → IsOwnerSchema db.schema → slice_get db.schema.tables named.name.table.0 ≡ Some table
    → IsRowOf table named.row → IsRowOf table (left_of db subject table named)
row_of-left db subject table named owner at is = record {
  kinds = kinds-without (loses db subject table named.name) 0 table.columns named.row is.kinds;
  storable = storable-without (loses db subject table named.name) 0 named.row is.storable;
  keyed = λ null. is.keyed (sym (cell_left db subject table named table.key.0
      ∙ ap (λ lost. kept_value lost (cell named.row table.key.0)) (keeps_key db subject table named owner at (cell named.row table.key.0))) ∙ null);
}

module _ {X Y : Type 0} (P : X → Type 0) (Q : Y → Type 0) (f : X → Y) (each : (x : X) → P x → Q (f x)) (test : X → Bool) where
  -- what holds of each element holds of the images of those that pass
  all-left : (xs : List X) → AllByRecursion P xs → AllByRecursion Q (map f (filter test xs))
  all-left [] all = tt
  all-left (x ∷ xs) all = by (test x) (all-left xs all.1)
    where
      by : (b : Bool) → AllByRecursion Q (map f (filter test xs)) → AllByRecursion Q (map f (cond b (x ∷ filter test xs) (filter test xs)))
      by true more = (each x all.0, more)
      by false more = more

-- so those of a table may
rows-left_in : (db : Db) (subject : RowName) (number : ℕ) (table : TableDef) (rows : List Row) → IsOwnerSchema db.schema → slice_get db.schema.tables number ≡ Some table
    → AllByRecursion (IsRowOf table) rows → AllByRecursion (IsRowOf table) (left_in db subject number table rows)
rows-left_in db subject number table rows owner at are =
    rw (left_in-images db subject number table rows)
    (all-left (IsRowOf table) (IsRowOf table) (row_left db subject number table) (λ row is. row_of-left db subject table (named_in number table row) owner at is) (stays_in db subject number table) rows are)

-- tables that stand among those of the schema from a number on
abbrev StandFrom : Db → ℕ → List TableDef → Type 0
StandFrom db number tables = (place : ℕ) (table : TableDef) → slice_get tables place ≡ Some table → slice_get db.schema.tables (number + place) ≡ Some table

rows-left_from : (db : Db) (subject : RowName) (number : ℕ) (tables : List TableDef) (rows : List (List Row)) → IsOwnerSchema db.schema → StandFrom db number tables
    → AreRowsOf tables rows → AreRowsOf tables (left_from db subject number tables rows)
unfolding left_from
rows-left_from db subject number [] [] owner stand are = tt
rows-left_from db subject number [] (one ∷ rows) owner stand are = absurd are
rows-left_from db subject number (table ∷ tables) [] owner stand are = absurd are
rows-left_from db subject number (table ∷ tables) (one ∷ rows) owner stand are =
    let n : number + 0 ≡ number = omega arith in
    let own : slice_get db.schema.tables number ≡ Some table = subst (λ n. slice_get db.schema.tables n ≡ Some table) n (stand 0 table refl) in
    (rows-left_in db subject number table one owner own are.0, rows-left_from db subject (number + 1) tables rows owner later are.1)
  where
    later : StandFrom db (number + 1) tables
    later place found is = let n : number + suc place ≡ number + 1 + place = omega arith in subst (λ n. slice_get db.schema.tables n ≡ Some found) n (stand (suc place) found is)

rows-forget : (db : Db) (subject : RowName) → IsOwnerSchema db.schema → AreRowsOf db.schema.tables db.rows → AreRowsOf (forget db subject).schema.tables (forget db subject).rows
unfolding forget
rows-forget db subject owner are =
    rows-left_from db subject 0 db.schema.tables db.rows owner (λ place table is. let n : place ≡ 0 + place = omega arith in subst (λ n. slice_get db.schema.tables n ≡ Some table) n is) are

created-forget : (db : Db) (subject : RowName) → IsCreated db → IsCreated (forget db subject)
unfolding forget
created-forget db subject is = created-rows db _ is

-- what it leaves is kept
pub kept-forget : (db : Db) (subject : RowName) → IsWellFormed db → IsWellFormed (forget db subject)
kept-forget db subject kept = record {
  created = created-forget db subject kept.created;
  ordered = ordered-forget db subject (owner_schema-created db kept.created) kept.ordered;
  rows = rows-forget db subject (owner_schema-created db kept.created) kept.rows;
}
