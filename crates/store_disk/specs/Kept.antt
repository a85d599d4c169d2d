-- What a journal keeps, as a database.
use Rattle.std.specs.Prelude.{◌⊎◌, ◌+◌, ◌≤◌, ℕ, List}
use Rattle.own_base.specs.declared.number.Area.{Area}
use Rattle.own_model.specs.Db.{Db}
use Rattle.own_model.specs.declared.limit.TheConstants.{JOURNAL_ROOM}
use Rattle.crash_model.specs.StoreIn.{IsStoreIn}
use Rattle.commit_journal.specs.JournalState.{HasRoom, Rests}
use Rattle.commit_journal.specs.declared.journal.Journal.{Journal}
use Rattle.disk_model.specs.declared.commit.Commit.{Commit}
use Rattle.disk_model.specs.declared.image.Image.{Image}
use Rattle.disk_model.specs.Area.{Stored}
use Rattle.rec_codec.specs.Framed.{IsFramed}
use Rattle.check_image.specs.Gated.{IsGatedImage}
use Rattle.disk_model.specs.StoreOf.{IsStoreOf, IsStoredAs}

-- the journal rests, and what it says is the store of this database, which so many commits made
pub record IsKept {D : Type 0} (holds : D → Area → List ℕ) (leaves : D → Area → List ℕ → Type 0) (journal : Journal D) (db : Db) (commits : ℕ) : Type 0 where
  pub stored : Stored
  pub image : Image
  pub behind : List Commit
  pub rests : Rests holds leaves journal stored
  pub stored_as : IsStoredAs stored image behind
  pub store : IsStoreOf image behind db commits

-- whatever database it is
pub record IsSomeKept {D : Type 0} (holds : D → Area → List ℕ) (leaves : D → Area → List ℕ → Type 0) (journal : Journal D) (commits : ℕ) : Type 0 where
  pub db : Db
  pub kept : IsKept holds leaves journal db commits

-- two areas hold the store of the one database, or that of the other, with the number of its commits
abbrev pub IsEither : Db → ℕ → Db → ℕ → List ℕ → List ℕ → Type 0
IsEither before commits after later a b = IsStoreIn a b before commits ⊎ IsStoreIn a b after later

-- There is room for so many bytes, an epoch and a commit more.
pub record HasRoomFor {D : Type 0} (journal : Journal D) (commits bytes : ℕ) : Type 0 where
  pub room : HasRoom journal bytes
  pub one_more : commits + 1 ≤ JOURNAL_ROOM

-- framed bytes of some commit
pub record IsSomeFramed (framed : List ℕ) : Type 0 where
  pub commit : Commit
  pub is : IsFramed commit framed

-- the image of some database that so many commits made, and a closed gate
pub record IsSomeGated (commits : ℕ) (gated : List ℕ) : Type 0 where
  pub db : Db
  pub is : IsGatedImage db commits gated
