-- A database as a journal area is filled with it.
use Rattle.std.specs.Prelude.{◌≡◌, ℕ, ◌≤◌, List, [], ◌∷◌, ◌++◌}
use Rattle.own_model.specs.declared.limit.TheConstants.{JOURNAL_ROOM}
use Rattle.own_model.specs.Db.{Db}
use Rattle.disk_model.specs.declared.image.Image.{Image}
use Rattle.disk_model.specs.Image.{IsImage}

-- the image of a database that so many commits made
abbrev pub image_from : Db → ℕ → Image
image_from db commits = record { commits = commits; creates = db.creates; tables = db.rows }

-- its image and a closed gate; what is in front of the gate is an image exactly where the commits aren't too many
pub record IsGatedImage (db : Db) (commits : ℕ) (bytes : List ℕ) : Type 0 where
  pub image : List ℕ
  pub parts : bytes ≡ image ++ 0 ∷ []
  pub is_image : commits ≤ JOURNAL_ROOM → IsImage (image_from db commits) image
  pub only : (other : Image) → IsImage other image → commits ≤ JOURNAL_ROOM
