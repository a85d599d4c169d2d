-- What is found in an opened area.
use Rattle.std.specs.Prelude.{◌≡◌, ℕ, ◌+◌, ◌≤◌, List, [], ◌∷◌, length}
use Rattle.own_base.specs.declared.number.Area.{Area}
use Rattle.own_model.specs.declared.limit.TheConstants.{JOURNAL_ROOM}
use Rattle.own_model.specs.Db.{Db}
use Rattle.disk_model.specs.declared.image.Image.{Image}
use Rattle.disk_model.specs.Area.{Says, Stored, in_front}
use Rattle.disk_model.specs.JudgedArea as found
use Rattle.disk_model.specs.JudgedArea.{IsAreaJudged}
use Rattle.disk_model.specs.Number.{IsNumber}
use Rattle.disk_model.specs.StoreOf.{IsStoreOf, IsStoredAs}
use Rattle.crash_recover.specs.declared.judged.Judged.{Judged}
use Rattle.crash_recover.specs.declared.judged.Judged.TheVariants.{Damaged, Empty, Whole}
use Rattle.crash_recover.specs.declared.judged.LaidCommit.{LaidCommit}
use Rattle.crash_recover.specs.Recovered.{AreLaid, commits_of}

-- behind a gate this epoch, which may be one, and behind that the rest
abbrev pub IsEpoch : List ℕ → ℕ → List ℕ → Type 0
IsEpoch [] epoch rest = ⊥
IsEpoch (gate ∷ bytes) epoch rest = IsNumber 8 epoch bytes rest × (1 ≤ epoch) × (epoch ≤ JOURNAL_ROOM)

-- the area says this image and these commits, which are of this database
pub record Holds (bytes : List ℕ) (epoch : ℕ) (image : Image) (laid : List LaidCommit) (end : ℕ) (db : Db) : Type 0 where
  pub stored : Stored
  pub says : Says bytes stored
  pub stored_as : IsStoredAs stored image (commits_of laid)
  pub of_epoch : epoch ≡ stored.epoch
  pub up_to : end ≡ length (in_front stored)
  pub offsets : AreLaid (17 + length stored.image) laid stored.payloads
  pub store : IsStoreOf image (commits_of laid) db (image.commits + length laid)

-- damaged at this offset
abbrev pub IsAreaDamaged : Area → List ℕ → ℕ → Type 0
IsAreaDamaged area bytes offset = IsAreaJudged area bytes (found.Damaged area offset)

-- a store in this area
abbrev pub IsAreaWhole : Area → List ℕ → Judged → Type 0
IsAreaWhole area bytes Empty = ⊥
IsAreaWhole area bytes (Whole its epoch image commits end state) = (its ≡ area) × Holds bytes epoch image commits end state
IsAreaWhole area bytes (Damaged its offset) = ⊥

-- a store in this area, or damaged
abbrev pub IsAreaFound : Area → List ℕ → Judged → Type 0
IsAreaFound area bytes Empty = ⊥
IsAreaFound area bytes (Whole its epoch image commits end state) = (its ≡ area) × Holds bytes epoch image commits end state
IsAreaFound area bytes (Damaged its offset) = (its ≡ area) × IsAreaDamaged area bytes offset
