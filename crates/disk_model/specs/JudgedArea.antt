-- What the bytes of an opened area are judged to be, by themselves.
use Rattle.std.specs.Prelude.{◌≡◌, ℕ, ◌+◌, ◌≤◌, List, [], ◌∷◌, ◌⊎◌, length}
use Rattle.own_base.specs.declared.number.Area.{Area}
use Rattle.own_model.specs.declared.limit.TheConstants.{JOURNAL_ROOM}
use Rattle.own_model.specs.Db.{Db}
use Rattle.disk_model.specs.declared.commit.Commit.{Commit}
use Rattle.disk_model.specs.declared.image.Image.{Image}
use Rattle.disk_model.specs.Image.{IsImage}
use Rattle.disk_model.specs.JudgedRecords.{AreRecords, Broken, Closed, End, IsMeasured}
use Rattle.disk_model.specs.Lawful.{IsLawfulImage}
use Rattle.disk_model.specs.Number.{IsNumber}

-- no store yet; an image and the commits behind it; or damaged, with the area and the offset in it
pub data Judged : Type 0 where
  Nothing : Judged
  Store : Image → List Commit → Judged
  Damaged : Area → ℕ → Judged

-- what an area is whose image is lawful, and whose records end so
abbrev pub judged_as : Area → Image → List Commit → End → Judged
judged_as area image commits Closed = Store image commits
judged_as area image commits (Broken offset) = Damaged area offset

-- the bytes are a lawful image of the database
pub record IsLawfulBegin (bytes : List ℕ) (image : Image) (db : Db) : Type 0 where
  pub is_image : IsImage image bytes
  pub lawful : IsLawfulImage image db

-- the image, whose bytes lie at 17, and the records behind it
abbrev pub IsImageJudged : Area → List ℕ → List ℕ → Judged → Type 0
IsImageJudged area content rest judged =
    ((image : Image) × (db : Db) × (commits : List Commit) × (end : End)
    × IsLawfulBegin content image db × AreRecords db (17 + length content) rest commits end × (judged ≡ judged_as area image commits end))
    ⊎ (((image : Image) (db : Db) → IsLawfulBegin content image db → ⊥) × (judged ≡ Damaged area 17))

-- from the length of the image on, at 9; the image and its gate are to fit in the area
abbrev pub IsLengthJudged : Area → List ℕ → Judged → Type 0
IsLengthJudged area bytes judged =
    ((content : List ℕ) × (rest : List ℕ) × IsMeasured 8 content bytes rest × IsImageJudged area content rest judged)
    ⊎ (((content rest : List ℕ) → IsMeasured 8 content bytes rest → ⊥) × (judged ≡ Damaged area 9))

-- behind a gate an epoch that is at least 1, and within the room of a journal
abbrev pub HasEpoch : List ℕ → List ℕ → Type 0
HasEpoch [] rest = ⊥
HasEpoch (gate ∷ bytes) rest = (epoch : ℕ) × IsNumber 8 epoch bytes rest × (1 ≤ epoch) × (epoch ≤ JOURNAL_ROOM)

-- from the gate on; the epoch is at 1
abbrev pub IsAreaJudged : Area → List ℕ → Judged → Type 0
IsAreaJudged area bytes judged =
    ((rest : List ℕ) × HasEpoch bytes rest × IsLengthJudged area rest judged)
    ⊎ (((rest : List ℕ) → HasEpoch bytes rest → ⊥) × (judged ≡ Damaged area 1))
