-- Databases that CREATEs made, and in which nothing was put.
use Rattle.std.specs.Prelude.{◌≡◌, List, [], Option, None, Some}
use Rattle.std.specs.List.{AllByRecursion}
use Rattle.own_model.specs.declared.schema.CreateText.{CreateText}
use Rattle.own_model.specs.Db.{Db, Row, empty}
use Rattle.state_model.specs.Created.{AreAdmitted, Create, schema_after}
use Rattle.disk_model.specs.TextOf.{AreTextsOf}

-- no table has a row
abbrev pub AreWithoutRows : List (List Row) → Type 0
AreWithoutRows rows = AllByRecursion (λ rows. rows ≡ []) rows

-- the texts are those of CREATEs, each admitted after those before it
pub record AreLawfulCreates (creates : List CreateText) (made_by : List Create) : Type 0 where
  pub texts : AreTextsOf made_by creates
  pub admitted : AreAdmitted empty.schema made_by

-- what such CREATEs leave of the empty database
pub record IsEmptyStoreOf (creates : List CreateText) (db : Db) : Type 0 where
  pub made_by : List Create
  pub lawful : AreLawfulCreates creates made_by
  pub schema : db.schema ≡ schema_after made_by
  pub creates_are : db.creates ≡ creates
  pub rows : AreWithoutRows db.rows

-- that database; or the texts aren't those of such CREATEs
abbrev pub IsMadeBy : List CreateText → Option Db → Type 0
IsMadeBy creates (Some db) = IsEmptyStoreOf creates db
IsMadeBy creates None = (made_by : List Create) → ¬ AreLawfulCreates creates made_by
