-- What an image and the commits behind it represent.
use Rattle.std.specs.Prelude.{◌≡◌, ℕ, ◌+◌, List, [], ◌∷◌, length}
use Rattle.own_model.specs.Db.{Db}
use Rattle.disk_model.specs.declared.commit.Commit.{Commit}
use Rattle.disk_model.specs.declared.image.Image.{Image}
use Rattle.disk_model.specs.Area.{Stored}
use Rattle.disk_model.specs.Follows.{Follows}
use Rattle.disk_model.specs.Image.{IsImage}
use Rattle.disk_model.specs.Lawful.{IsLawfulImage}
use Rattle.disk_model.specs.Payload.{IsPayload}

-- commits one after another lead from one database to another
abbrev pub AreFollowed : Db → List Commit → Db → Type 0
AreFollowed db [] after = after ≡ db
AreFollowed db (commit ∷ commits) after = (next : Db) × Follows db commit next × AreFollowed next commits after

-- the database of the image with the commits, and how many commits made it
pub record IsStoreOf (image : Image) (commits : List Commit) (db : Db) (number : ℕ) : Type 0 where
  pub begin : Db
  pub lawful : IsLawfulImage image begin
  pub followed : AreFollowed begin commits db
  pub number_is : number ≡ image.commits + length commits

-- a payload for each commit, in order
abbrev pub ArePayloads : List Commit → List (List ℕ) → Type 0
ArePayloads [] [] = Unit {0}
ArePayloads [] (payload ∷ payloads) = ⊥
ArePayloads (commit ∷ commits) [] = ⊥
ArePayloads (commit ∷ commits) (payload ∷ payloads) = IsPayload commit payload × ArePayloads commits payloads

-- what an area says is this image and these commits
pub record IsStoredAs (stored : Stored) (image : Image) (commits : List Commit) : Type 0 where
  pub is_image : IsImage image stored.image
  pub are_payloads : ArePayloads commits stored.payloads
