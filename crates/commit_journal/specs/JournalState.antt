-- What a journal represents.
use Rattle.std.specs.Prelude.{◌≡◌, ℕ, ◌+◌, ◌≤◌, ◌⊎◌, false, List, [], ◌∷◌, length}
use Rattle.own_model.specs.declared.limit.TheConstants.{JOURNAL_ROOM}
use Rattle.own_base.specs.declared.number.Area.{Area}
use Rattle.outer_world.specs.OtherArea.{other_of}
use Rattle.disk_model.specs.Area.{IsBelow, Says, Represent, RepresentNothing, Stored, in_front}
use Rattle.commit_journal.specs.AreaCalls.{AreSynced}
use Rattle.commit_journal.specs.declared.journal.Journal.{Journal}

-- a journal of this area, this epoch and this end of its records, which hasn't failed
pub record IsAt {D : Type 0} (journal : Journal D) (area : Area) (epoch end : ℕ) : Type 0 where
  pub in_area : journal.area ≡ area
  pub of_epoch : journal.epoch ≡ epoch
  pub up_to : journal.end ≡ end
  pub sound : journal.failed ≡ false

-- the area of a disk says this, up to that end, the other one is of a lower epoch or isn't opened, and nothing can be
-- lost
pub record CanResume {D : Type 0} (holds : D → Area → List ℕ) (leaves : D → Area → List ℕ → Type 0) (disk : D) (area : Area) (epoch end : ℕ) (stored : Stored) : Type 0 where
  pub says : Says (holds disk area) stored
  pub below : IsBelow (holds disk (other_of area)) stored.epoch
  pub of_epoch : epoch ≡ stored.epoch
  pub up_to : end ≡ length (in_front stored)
  pub synced : AreSynced holds leaves disk

-- the journal's area says this, up to the journal's end, the other one is one closed gate, and nothing can be lost
pub record Rests {D : Type 0} (holds : D → Area → List ℕ) (leaves : D → Area → List ℕ → Type 0) (journal : Journal D) (stored : Stored) : Type 0 where
  pub says : Says (holds journal.disk journal.area) stored
  pub epoch : journal.epoch ≡ stored.epoch
  pub end : journal.end ≡ length (in_front stored)
  pub beside : holds journal.disk (other_of journal.area) ≡ 0 ∷ []
  pub synced : AreSynced holds leaves journal.disk

-- whatever its area says
pub record IsAtRest {D : Type 0} (holds : D → Area → List ℕ) (leaves : D → Area → List ℕ → Type 0) (journal : Journal D) : Type 0 where
  pub stored : Stored
  pub rests : Rests holds leaves journal stored

-- one epoch more, and so many bytes more, are within the room of a journal
pub record HasRoom {D : Type 0} (journal : Journal D) (bytes : ℕ) : Type 0 where
  pub epoch : journal.epoch + 1 ≤ JOURNAL_ROOM
  pub end : journal.end + bytes ≤ JOURNAL_ROOM

-- what a crash leaves represents the one or the other
abbrev pub RepresentEither : Stored → Stored → List ℕ → List ℕ → Type 0
RepresentEither old new a b = Represent a b old ⊎ Represent a b new

-- what a crash leaves represents nothing, or this
abbrev pub RepresentAtMost : Stored → List ℕ → List ℕ → Type 0
RepresentAtMost stored a b = RepresentNothing a b ⊎ Represent a b stored
