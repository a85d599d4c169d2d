-- What the opening of a store leaves, and what a crash on the way leaves.
use Rattle.std.specs.Prelude.{◌≡◌, ℕ, ◌+◌, ◌⊎◌, List, [], ◌∷◌, length}
use Rattle.own_base.specs.declared.number.Area.{Area}
use Rattle.own_base.specs.declared.number.Area.TheVariants.{A, B}
use Rattle.own_model.specs.Db.{Db}
use Rattle.outer_world.specs.OtherArea.{bytes_in, other_of}
use Rattle.crash_model.specs.StoreIn.{IsStoreIn}
use Rattle.disk_model.specs.declared.commit.Commit.{Commit}
use Rattle.disk_model.specs.declared.image.Image.{Image}
use Rattle.disk_model.specs.Area.{IsChosen, Stored, in_front, laid}
use Rattle.disk_model.specs.Judged.{IsDatabaseOf, IsJudged}
use Rattle.disk_model.specs.JudgedArea.{Damaged, Judged, Nothing, Store}
use Rattle.disk_model.specs.StoreOf.{IsStoredAs}
use Rattle.commit_journal.specs.declared.journal.Journal.{Journal}
use Rattle.commit_journal.specs.JournalState.{IsAt, Rests}
use Rattle.crash_recover.specs.declared.judged.LaidCommit.{LaidCommit}
use Rattle.crash_recover.specs.declared.open.Opened.{Opened}
use Rattle.crash_recover.specs.Recovered.{AreLaid, commits_of}

-- the image of the empty store
abbrev pub empty_image : Image
empty_image = record { commits = 0; creates = []; tables = [] }

-- its 13 bytes, and a closed gate
abbrev pub empty_gated : List ℕ
empty_gated = 1 ∷ 0 ∷ 0 ∷ 0 ∷ 0 ∷ 0 ∷ 0 ∷ 0 ∷ 0 ∷ 0 ∷ 0 ∷ 0 ∷ 0 ∷ 0 ∷ []

-- two areas hold the store that two others hold
pub record AreAlike (a b x y : List ℕ) : Type 0 where
  pub db : Db
  pub number : ℕ
  pub before : IsStoreIn a b db number
  pub after : IsStoreIn x y db number

-- What a crash leaves while the store of a disk is opened: what one might have left before, or the same database.
abbrev pub IsLeft : {D : Type 0} → (D → Area → List ℕ) → (D → Area → List ℕ → Type 0) → D → List ℕ → List ℕ → Type 0
IsLeft holds leaves disk x y = (leaves disk A x × leaves disk B y) ⊎ AreAlike (holds disk A) (holds disk B) x y

-- a journal that begins in A, with the empty store
pub record Begins {D : Type 0} (journal : Journal D) (stored : Stored) (image : Image) (laid_commits : List LaidCommit) : Type 0 where
  pub at : IsAt journal A 1 30
  pub says : stored ≡ laid 1 empty_gated
  pub of_image : image ≡ empty_image
  pub none : laid_commits ≡ []

-- a journal that goes on in the area that is chosen, with what was judged
pub record GoesOn {D : Type 0} (a b : List ℕ) (found : Image) (commits : List Commit) (journal : Journal D) (stored : Stored) (image : Image) (laid_commits : List LaidCommit) : Type 0 where
  pub chosen : IsChosen stored (bytes_in journal.area a b) (bytes_in (other_of journal.area) a b)
  pub at : IsAt journal journal.area stored.epoch (length (in_front stored))
  pub of_image : image ≡ found
  pub of_commits : commits_of laid_commits ≡ commits

-- a journal over two areas that were judged so
abbrev pub IsJournalOf : {D : Type 0} → List ℕ → List ℕ → Judged → Journal D → Stored → Image → List LaidCommit → Type 0
IsJournalOf a b Nothing journal stored image laid_commits = Begins journal stored image laid_commits
IsJournalOf a b (Store found commits) journal stored image laid_commits = GoesOn a b found commits journal stored image laid_commits
IsJournalOf a b (Damaged area offset) journal stored image laid_commits = ⊥

-- The store of a disk, opened: its state is the database of what the areas were judged to be, and the journal rests with
-- the image and the commits, which lie at these offsets.
pub record IsOpenedOf {D : Type 0} (holds : D → Area → List ℕ) (leaves : D → Area → List ℕ → Type 0) (disk : D) (opened : Opened D) : Type 0 where
  pub judged : Judged
  pub is_judged : IsJudged (holds disk A) (holds disk B) judged
  pub database : IsDatabaseOf judged opened.state (opened.image.commits + length opened.commits)
  pub stored : Stored
  pub journal : IsJournalOf (holds disk A) (holds disk B) judged opened.journal stored opened.image opened.commits
  pub rests : Rests holds leaves opened.journal stored
  pub stored_as : IsStoredAs stored opened.image (commits_of opened.commits)
  pub offsets : AreLaid (17 + length stored.image) opened.commits stored.payloads
