-- What is read from all of an image's bytes: an image, or nothing.
use Rattle.std.specs.Prelude.{ℕ, zero, suc, List, [], ◌∷◌, Option, Some, None, nat_le, ◌+◌, if◌then◌else◌}
use Rattle.std.specs.Int.{w32, w64}
use Rattle.own_model.specs.declared.limit.TheConstants.{JOURNAL_ROOM, TABLES, VIEWS}
use Rattle.own_model.specs.declared.schema.CreateText.{CreateText}
use Rattle.disk_model.specs.declared.image.Image.{Image}
use Rattle.disk_model.specs.Image.{table_count}
use Rattle.disk_fields.specs.Reading.{◌>>=◌, Found, all_of, create_at, items_at, list_at, number_at, row_at}

-- the creates, where they aren't too many
unfoldable pub creates_at : List ℕ → Found (List CreateText)
creates_at bytes = do
  count ← number_at w32 bytes
  if nat_le count.0 (TABLES + VIEWS) then list_at create_at bytes else None

-- the number of commits, where it isn't too great
unfoldable pub commits_at : List ℕ → Found ℕ
commits_at bytes = do
  commits ← number_at w64 bytes
  if nat_le commits.0 JOURNAL_ROOM then Some (commits.0, commits.1) else None

unfoldable pub fields_of : List ℕ → Option Image
fields_of bytes = do
  commits ← commits_at bytes
  creates ← creates_at commits.1
  tables ← all_of (items_at (list_at row_at) (table_count creates.0) creates.1)
  Some (record { commits = commits.0; creates = creates.0; tables = tables })

unfoldable pub image_of : List ℕ → Option Image
image_of [] = None
image_of (zero ∷ bytes) = None
image_of (suc zero ∷ bytes) = fields_of bytes
image_of (suc (suc version) ∷ bytes) = None
