-- What may be written.
use Rattle.std.specs.Prelude.{◌≤◌, ◌<◌, ◌^◌, List, length, Option, None, Some, IsUtf8}
use Rattle.std.specs.Int.{w64}
use Rattle.std.specs.Int.RustNames.{FitsSigned}
use Rattle.std.specs.List.{AllByRecursion}
use Rattle.own_base.specs.declared.row_name.RowName.{RowName}
use Rattle.own_base.specs.declared.value.Value.{Value}
use Rattle.own_base.specs.declared.value.Value.TheVariants.{Null, Int, Text, Sum}
use Rattle.own_model.specs.declared.limit.TheConstants.{TABLE_COLUMNS, TEXT_BYTES}
use Rattle.own_model.specs.Db.{Row}
use Rattle.disk_model.specs.declared.commit.Commit.{Commit}
use Rattle.disk_model.specs.declared.commit.Commit.TheVariants.{CreateTable, CreateView, Changes, Forget}
use Rattle.disk_model.specs.declared.commit.Put.{Put}
use Rattle.disk_model.specs.declared.image.Image.{Image}
use Rattle.disk_model.specs.Image.{IsWithin}
use Rattle.disk_model.specs.Payload.{AreChanges}
use Rattle.disk_model.specs.Value.{as_value}

-- a number of 32 bits tells how many there are
abbrev pub IsCountable : {A : Type 0} → List A → Type 0
IsCountable items = length items < 2 ^ 32

-- ---- what a caller sees to

-- a value of a table's row
abbrev pub IsShortValue : Value → Type 0
IsShortValue Null = Unit {0}
IsShortValue (Int number) = Unit {0}
IsShortValue (Text text) = length text ≤ TEXT_BYTES
IsShortValue (Sum number) = ⊥

abbrev pub IsShortName : RowName → Type 0
IsShortName name = IsShortValue (as_value name.key)

-- as many values as a table may have columns
pub record IsShortRow (row : Row) : Type 0 where
  pub some : 1 ≤ length row
  pub few : length row ≤ TABLE_COLUMNS
  pub values : AllByRecursion IsShortValue row

abbrev pub IsShortState : Option Row → Type 0
IsShortState None = Unit {0}
IsShortState (Some row) = IsShortRow row

pub record IsShortPut (put : Put) : Type 0 where
  pub name : IsShortName put.name
  pub after : IsShortState put.after

-- what a commit must be to have a payload
abbrev pub IsBounded : Commit → Type 0
IsBounded (CreateTable text) = IsCountable text
IsBounded (CreateView text) = IsCountable text
IsBounded (Changes puts) = IsCountable puts × AreChanges puts × AllByRecursion IsShortPut puts
IsBounded (Forget name) = IsShortName name

abbrev pub AreShortRows : List Row → Type 0
AreShortRows rows = IsCountable rows × AllByRecursion IsShortRow rows

-- what an image must be to have bytes
pub record IsBoundedImage (image : Image) : Type 0 where
  pub within : IsWithin image
  pub creates : AllByRecursion (λ create. IsCountable create.text) image.creates
  pub tables : AllByRecursion AreShortRows image.tables

-- ---- what the types see to

-- a number of 64 bits, a text in UTF-8
abbrev pub IsTypedValue : Value → Type 0
IsTypedValue Null = Unit {0}
IsTypedValue (Int number) = FitsSigned w64 number
IsTypedValue (Text text) = IsUtf8 text
IsTypedValue (Sum number) = Unit {0}

abbrev pub IsTypedName : RowName → Type 0
IsTypedName name = (name.table.0 < 2 ^ 32) × IsTypedValue (as_value name.key)

abbrev pub IsTypedRow : Row → Type 0
IsTypedRow row = AllByRecursion IsTypedValue row

abbrev pub IsTypedState : Option Row → Type 0
IsTypedState None = Unit {0}
IsTypedState (Some row) = IsTypedRow row

abbrev pub IsTypedPut : Put → Type 0
IsTypedPut put = IsTypedName put.name × IsTypedState put.after

abbrev pub IsTyped : Commit → Type 0
IsTyped (CreateTable text) = IsUtf8 text
IsTyped (CreateView text) = IsUtf8 text
IsTyped (Changes puts) = AllByRecursion IsTypedPut puts
IsTyped (Forget name) = IsTypedName name

pub record IsTypedImage (image : Image) : Type 0 where
  pub creates : AllByRecursion (λ create. IsUtf8 create.text) image.creates
  pub tables : AllByRecursion (λ rows. AllByRecursion IsTypedRow rows) image.tables
