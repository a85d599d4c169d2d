-- Which rows may stand in a table.
use Rattle.std.specs.Prelude.{◌≡◌, ◌≢◌, ◌≤◌, ◌^◌, ℕ, ℤ, pos, neg_ℤ, ◌≤ℤ◌, ◌<ℤ◌, IsUtf8, List, [], ◌∷◌, length}
use Rattle.std.specs.List.{AllByRecursion}
use Rattle.own_model.specs.declared.limit.TheConstants.{TEXT_BYTES}
use Rattle.own_base.specs.declared.value.Value.{Value}
use Rattle.own_base.specs.declared.value.Value.TheVariants.{Null, Int, Text, Sum}
use Rattle.own_model.specs.declared.schema.Column.{Column}
use Rattle.own_model.specs.declared.schema.Kind.{Kind}
use Rattle.own_model.specs.declared.schema.Kind.TheVariants as kind
use Rattle.own_model.specs.declared.schema.TableDef.{TableDef}
use Rattle.own_model.specs.Db.{Row}
use Rattle.query_model.specs.Truth.{cell}

-- the kind of a value; NULL is of each, and a sum stands in no table
abbrev pub IsOfKind : Kind → Value → Type 0
IsOfKind of Null = Unit {0}
IsOfKind of (Int number) = of ≡ kind.Int
IsOfKind of (Text bytes) = of ≡ kind.Text
IsOfKind of (Sum number) = ⊥

-- a number of 64 bits with its sign
pub record IsOf64Bits (number : ℤ) : Type 0 where
  pub least : neg_ℤ (pos (2 ^ 63)) ≤ℤ number
  pub most : number <ℤ pos (2 ^ 63)

-- a text of at most TEXT_BYTES bytes, which are UTF-8
pub record IsText (bytes : List ℕ) : Type 0 where
  pub short : length bytes ≤ TEXT_BYTES
  pub utf8 : IsUtf8 bytes

-- what a row can hold: such a text, a number of 64 bits, or NULL; the kinds leave out a sum
abbrev pub IsStorable : Value → Type 0
IsStorable (Text bytes) = IsText bytes
IsStorable (Int number) = IsOf64Bits number
IsStorable Null = Unit {0}
IsStorable (Sum number) = Unit {0}

-- one value for each column, of its kind
abbrev pub AreOfKinds : List Column → Row → Type 0
AreOfKinds [] [] = Unit {0}
AreOfKinds [] (value ∷ row) = ⊥
AreOfKinds (column ∷ columns) [] = ⊥
AreOfKinds (column ∷ columns) (value ∷ row) = IsOfKind column.kind value × AreOfKinds columns row

-- a row that may stand in a table
pub record IsRowOf (table : TableDef) (row : Row) : Type 0 where
  pub kinds : AreOfKinds table.columns row
  pub storable : AllByRecursion IsStorable row
  -- its primary key isn't NULL
  pub keyed : cell row table.key.0 ≢ Null

-- each table has its list of rows, which may stand in it
abbrev pub AreRowsOf : List TableDef → List (List Row) → Type 0
AreRowsOf [] [] = Unit {0}
AreRowsOf [] (rows ∷ rest) = ⊥
AreRowsOf (table ∷ tables) [] = ⊥
AreRowsOf (table ∷ tables) (rows ∷ rest) = AllByRecursion (IsRowOf table) rows × AreRowsOf tables rest
