-- Rows that are given what they are to have.
use Rattle.std.specs.Prelude.{◌≡◌, ◌⊎◌, ◌↔◌, ℕ, ◌<◌, List, Contains, IsFalse, false, None, Some, map, slice_get, take}
use Rattle.std.specs.Ordering.{is_eq}
use Rattle.own_base.specs.declared.number.TableNo.{TableNo}
use Rattle.own_base.specs.declared.row_name.RowName.{RowName}
use Rattle.own_model.specs.declared.schema.Edge.{Edge}
use Rattle.own_model.specs.Db.{Db}
use Rattle.owner_model.specs.Joins.{Joins}
use Rattle.subject_model.specs.NameOrder.{name_cmp}
use Rattle.subject_model.specs.Paths.{is_subject_row}
use Rattle.link_model.specs.Whose.{as_subject}
use Rattle.owner_index.specs.Entry.{Entry}
use Rattle.owner_index.specs.declared.which.Which.{Which}
use Rattle.owner_index.specs.Held.{IsRight, held, listed}
use Rattle.owner_index.specs.UnderWay.{ComesFrom, IsUnderWay}

-- each upper row of a row that is no subject row has what it is to have
abbrev pub IsRightAbove : Db → Which → List Entry → RowName → Type 0
IsRightAbove db which entries name = (edge : Edge) (upper : RowName) → Joins db name edge upper → IsFalse (is_subject_row db upper)
    → held which entries upper ≡ map as_subject (listed which db upper)

-- the rows below a row that is no subject row are among these
abbrev pub HasBelow : Db → RowName → List RowName → Type 0
HasBelow db name names = (lower : RowName) (edge : Edge) → Joins db lower edge name → IsFalse (is_subject_row db name) → Contains names lower

-- One row has what it is to have, if those above it do. Where that is something else than before, the rows below come into
-- the work.
pub record Settles (db : Db) (name : RowName) (old new : List Entry) (work more : List RowName) : Type 0 where
  pub right : (which : Which) → IsRightAbove db which old name → held which new name ≡ map as_subject (listed which db name)
  pub others : (which : Which) (other : RowName) → is_eq (name_cmp name other) ≡ false → held which new other ≡ held which old other
  pub longer : (other : RowName) → Contains work other → Contains more other
  pub below : (which : Which) → (held which new name ≡ held which old name) ⊎ HasBelow db name more

-- the rows of the work that are of a table
pub record AreNamesOf (table : TableNo) (work names : List RowName) : Type 0 where
  pub same : (name : RowName) → Contains names name ↔ ((name.table ≡ table) × Contains work name)

-- each row of the tables to which edges lead up from a table has what it is to have
abbrev pub IsRightAboveTable : Db → TableNo → List Entry → Type 0
IsRightAboveTable db table entries = (edge : Edge) → Contains db.schema.edges edge → edge.lower ≡ table → (upper : RowName) → upper.table ≡ edge.upper → IsRight db entries upper

-- The first of some rows of a table are settled.
pub record SettlesSome (db : Db) (table : TableNo) (names : List RowName) (count : ℕ) (old new : List Entry) (work more : List RowName) : Type 0 where
  pub right : IsRightAboveTable db table old → (name : RowName) → Contains (take count names) name → IsRight db new name
  pub others : (which : Which) (name : RowName) → ¬ (Contains names name) → held which new name ≡ held which old name
  pub longer : (name : RowName) → Contains work name → Contains more name
  pub keeps : (start : List Entry) → IsUnderWay db start old work → IsUnderWay db start new more

-- The rows of the work that are of a table are settled.
pub record SettlesTable (db : Db) (table : TableNo) (old new : List Entry) (work more : List RowName) : Type 0 where
  pub right : IsRightAboveTable db table old → (name : RowName) → name.table ≡ table → Contains work name → IsRight db new name
  pub others : (which : Which) (name : RowName) → ¬ ((name.table ≡ table) × Contains work name) → held which new name ≡ held which old name
  pub longer : (name : RowName) → Contains work name → Contains more name
  pub keeps : (start : List Entry) → IsUnderWay db start old work → IsUnderWay db start new more

-- a row's table stands in an order before a place
pub record IsDone (order : List TableNo) (place : ℕ) (name : RowName) : Type 0 where
  pub at : ℕ
  pub earlier : at < place
  pub stands : slice_get order at ≡ Some name.table

-- The first tables of an order are settled: their rows have what they are to have, and so have names of no table.
pub record SettlesTables (db : Db) (order : List TableNo) (count : ℕ) (old new : List Entry) (work more : List RowName) : Type 0 where
  pub right : (before : Db) → ComesFrom before db old work → (name : RowName) → IsDone order count name ⊎ (slice_get db.schema.tables name.table.0 ≡ None) → IsRight db new name
  pub longer : (name : RowName) → Contains work name → Contains more name
  pub keeps : IsUnderWay db old new more

-- All are: each row has what it is to have, and one that isn't in the work has what it had.
pub record SettlesAll (db : Db) (old new : List Entry) (work more : List RowName) : Type 0 where
  pub right : (before : Db) → ComesFrom before db old work → (name : RowName) → IsRight db new name
  pub rest : (which : Which) (name : RowName) → ¬ (Contains more name) → held which new name ≡ held which old name
