-- What is found in the bytes of two areas.
use Rattle.std.specs.Prelude.{◌≡◌, ℕ, ◌+◌, List, [], ◌∷◌, length, map}
use Rattle.own_base.specs.declared.number.Area.{Area}
use Rattle.own_model.specs.Db.{Db}
use Rattle.outer_world.specs.OtherArea.{bytes_in, other_of}
use Rattle.disk_model.specs.declared.commit.Commit.{Commit}
use Rattle.disk_model.specs.declared.image.Image.{Image}
use Rattle.disk_model.specs.Area.{IsChosen, Stored, in_front}
use Rattle.disk_model.specs.Judged.{IsJudged}
use Rattle.disk_model.specs.JudgedArea as found
use Rattle.disk_model.specs.StoreOf.{IsStoreOf, IsStoredAs}
use Rattle.crash_recover.specs.declared.judged.Judged.{Judged}
use Rattle.crash_recover.specs.declared.judged.Judged.TheVariants.{Damaged, Empty, Whole}
use Rattle.crash_recover.specs.declared.judged.LaidCommit.{LaidCommit}

abbrev pub commits_of : List LaidCommit → List Commit
commits_of laid = map (λ one. one.commit) laid

-- commits with the offsets of their payloads, one behind another, the first behind a gate at this offset
abbrev pub AreLaid : ℕ → List LaidCommit → List (List ℕ) → Type 0
AreLaid gate [] [] = Unit {0}
AreLaid gate [] (payload ∷ payloads) = ⊥
AreLaid gate (one ∷ laid) [] = ⊥
AreLaid gate (one ∷ laid) (payload ∷ payloads) = (one.offset ≡ gate + 5) × AreLaid (gate + 5 + length payload) laid payloads

-- The area is chosen, and says this image and these commits, which are of this database.
pub record IsWhole (a b : List ℕ) (area : Area) (epoch : ℕ) (image : Image) (laid : List LaidCommit) (end : ℕ) (db : Db) : Type 0 where
  pub stored : Stored
  pub chosen : IsChosen stored (bytes_in area a b) (bytes_in (other_of area) a b)
  pub stored_as : IsStoredAs stored image (commits_of laid)
  pub of_epoch : epoch ≡ stored.epoch
  pub up_to : end ≡ length (in_front stored)
  pub offsets : AreLaid (17 + length stored.image) laid stored.payloads
  pub store : IsStoreOf image (commits_of laid) db (image.commits + length laid)

-- what two areas are judged to be, with what is found in them
abbrev pub IsFound : List ℕ → List ℕ → Judged → Type 0
IsFound a b Empty = IsJudged a b found.Nothing
IsFound a b (Whole area epoch image commits end state) = IsWhole a b area epoch image commits end state
IsFound a b (Damaged area offset) = IsJudged a b (found.Damaged area offset)
