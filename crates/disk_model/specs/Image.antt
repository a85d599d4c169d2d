-- The image of a store: all that a journal area begins with.
use Rattle.std.specs.Prelude.{◌≡◌, ℕ, ◌+◌, ◌≤◌, List, [], ◌∷◌, length, Bool, true, false, not, count_by}
use Rattle.own_model.specs.declared.limit.TheConstants.{JOURNAL_ROOM, TABLES, VIEWS}
use Rattle.own_model.specs.declared.schema.CreateText.{CreateText}
use Rattle.disk_model.specs.declared.image.Image.{Image}
use Rattle.disk_model.specs.Number.{Format, IsNumber}
use Rattle.disk_model.specs.Row.{AreItems, IsList, IsRow}
use Rattle.disk_model.specs.Text.{IsText}

-- a byte for the kind, 1 for a table and 2 for a view, and the text
abbrev pub create_kind : Bool → ℕ
create_kind false = 1
create_kind true = 2

abbrev pub IsCreateText : Format CreateText
IsCreateText create [] rest = ⊥
IsCreateText create (kind ∷ bytes) rest = (kind ≡ create_kind create.view) × IsText create.text bytes rest

-- how many tables the creates make
abbrev pub table_count : List CreateText → ℕ
table_count creates = count_by (λ create. not create.view) creates

-- what the numbers of an image may be: one list of rows for each table
pub record IsWithin (image : Image) : Type 0 where
  pub commits : image.commits ≤ JOURNAL_ROOM
  pub creates : length image.creates ≤ TABLES + VIEWS
  pub tables : length image.tables ≡ table_count image.creates

-- the number of commits, the creates in order, and the rows of each table; nothing follows
pub record HasFields (image : Image) (bytes : List ℕ) : Type 0 where
  pub creates : List ℕ
  pub tables : List ℕ
  pub commits_are : IsNumber 8 image.commits bytes creates
  pub creates_are : IsList IsCreateText image.creates creates tables
  pub tables_are : AreItems (IsList IsRow) image.tables tables []

-- a byte 1 for the version, and behind it all of the image
abbrev pub IsImage : Image → List ℕ → Type 0
IsImage image [] = ⊥
IsImage image (version ∷ bytes) = (version ≡ 1) × IsWithin image × HasFields image bytes
