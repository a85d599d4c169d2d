-- Values that fit columns, one after another, and rows under keys.
use Rattle.std.proofs.Common.{◌≡◌, ◌∙◌, ℕ, zero, suc, List, [], ◌∷◌, length, refl, ap}
use Rattle.std.specs.Prelude.{◌≢◌, true, false, not}
use Rattle.std.specs.List.{AllByRecursion}
use Rattle.own_base.specs.declared.value.Key.{Key}
use Rattle.own_base.specs.declared.value.Value.{Value}
use Rattle.own_base.specs.declared.value.Value.TheVariants.{Null, Int, Text, Sum}
use Rattle.own_model.specs.declared.schema.Column.{Column}
use Rattle.own_model.specs.declared.schema.Kind.{Kind}
use Rattle.own_model.specs.declared.schema.TableDef.{TableDef}
use Rattle.own_model.specs.Db.{Row, as_key, key_of}
use Rattle.own_model.specs.Stored.{has_key}
use Rattle.query_model.specs.Truth.{cell, is_null}
use Rattle.subject_model.proofs.NamedLemmas.{key_is, one_key}
use Rattle.state_model.specs.Rows.{AreOfKinds, IsOfKind, IsRowOf, IsStorable}
use Rattle.disk_model.specs.Lawful.{IsRowUnder}
use Rattle.disk_model.specs.Value.{as_value}
use Rattle.disk_model.proofs.SoundAfter.{key-of_value}
use Rattle.commit_replay.specs.Fitting.{AreFit}

-- they are as many
pub fit-length : (columns : List Column) (row : Row) → AreFit columns row → length columns ≡ length row
fit-length [] [] fit = refl
fit-length [] (value ∷ row) fit = absurd fit
fit-length (column ∷ columns) [] fit = absurd fit
fit-length (column ∷ columns) (value ∷ row) fit = ap suc (fit-length columns row fit.2)

-- that is two lists of facts in one
kinds-fit : (columns : List Column) (row : Row) → AreOfKinds columns row → AllByRecursion IsStorable row → AreFit columns row
kinds-fit [] [] kinds storable = tt
kinds-fit [] (value ∷ row) kinds storable = absurd kinds
kinds-fit (column ∷ columns) [] kinds storable = absurd kinds
kinds-fit (column ∷ columns) (value ∷ row) kinds storable = (kinds.0, storable.0, kinds-fit columns row kinds.1 storable.1)

fit-kinds : (columns : List Column) (row : Row) → AreFit columns row → AreOfKinds columns row × AllByRecursion IsStorable row
fit-kinds [] [] fit = (tt, tt)
fit-kinds [] (value ∷ row) fit = absurd fit
fit-kinds (column ∷ columns) [] fit = absurd fit
fit-kinds (column ∷ columns) (value ∷ row) fit = let more = fit-kinds columns row fit.2 in ((fit.0, more.0), (fit.1, more.1))

-- NULL is told from other values
null-told : (value : Value) → not (is_null value) ≡ true → value ≢ Null
null-told Null is same = let never : false ≡ true = is in cc
null-told (Int number) is same = cc
null-told (Text bytes) is same = cc
null-told (Sum number) is same = cc

told-null : (value : Value) → value ≢ Null → not (is_null value) ≡ true
told-null Null other = absurd (other refl)
told-null (Int number) other = refl
told-null (Text bytes) other = refl
told-null (Sum number) other = refl

pub row-stands : (table : TableDef) (row : Row) → AreFit table.columns row → not (is_null (cell row table.key.0)) ≡ true → IsRowOf table row
row-stands table row fit keyed =
    let both = fit-kinds table.columns row fit in record { kinds = both.0; storable = both.1; keyed = null-told (cell row table.key.0) keyed }

pub stands-fit : (table : TableDef) (row : Row) → IsRowOf table row → AreFit table.columns row
stands-fit table row stands = kinds-fit table.columns row stands.kinds stands.storable

pub stands-keyed : (table : TableDef) (row : Row) → IsRowOf table row → not (is_null (cell row table.key.0)) ≡ true
stands-keyed table row stands = told-null (cell row table.key.0) stands.keyed

-- what stands in a column of a row of a table is NULL, or a key
IsPlain : Value → Type 0
IsPlain Null = Unit {0}
IsPlain (Int number) = Unit {0}
IsPlain (Text bytes) = Unit {0}
IsPlain (Sum number) = ⊥

plain-kind : (kind : Kind) (value : Value) → IsOfKind kind value → IsPlain value
unfolding IsPlain
plain-kind kind Null is = tt
plain-kind kind (Int number) is = tt
plain-kind kind (Text bytes) is = tt
plain-kind kind (Sum number) is = absurd is

plain-cell : (columns : List Column) (row : Row) (n : ℕ) → AreOfKinds columns row → IsPlain (cell row n)
unfolding IsPlain
plain-cell [] [] zero kinds = tt
plain-cell [] [] (suc n) kinds = tt
plain-cell [] (value ∷ row) n kinds = absurd kinds
plain-cell (column ∷ columns) [] n kinds = absurd kinds
plain-cell (column ∷ columns) (value ∷ row) zero kinds = plain-kind column.kind value kinds.0
plain-cell (column ∷ columns) (value ∷ row) (suc n) kinds = plain-cell columns row n kinds.1

value-of_key : (value : Value) → IsPlain value → value ≢ Null → value ≡ as_value (as_key value)
unfolding IsPlain
value-of_key Null plain other = absurd (other refl)
value-of_key (Int number) plain other = refl
value-of_key (Text bytes) plain other = refl
value-of_key (Sum number) plain other = absurd plain

-- so a row that may stand in a table does so under its key
pub own-key : (table : TableDef) (row : Row) → IsRowOf table row → IsRowUnder table (key_of table row) row
unfolding key_of
own-key table row stands = record { may_stand = stands; has_key = value-of_key (cell row table.key.0) (plain-cell table.columns row table.key.0 stands.kinds) stands.keyed }

pub under-key : (table : TableDef) (key : Key) (row : Row) → IsRowUnder table key row → key_of table row ≡ key
unfolding key_of
under-key table key row under = ap as_key under.has_key ∙ key-of_value key

pub row-under : (table : TableDef) (key : Key) (row : Row) → IsRowOf table row → has_key table key row ≡ true → IsRowUnder table key row
row-under table key row stands has = let same = one_key (key_of table row) key has in rw (← same) (own-key table row stands)

pub under-has : (table : TableDef) (key : Key) (row : Row) → IsRowUnder table key row → has_key table key row ≡ true
under-has table key row under = rw (under-key table key row under) (key_is key)
