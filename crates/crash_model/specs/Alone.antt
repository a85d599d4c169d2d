-- Two areas that hold nothing but a database.
use Rattle.std.specs.Prelude.{◌≡◌, ℕ, List, [], ◌∷◌, ◌++◌, Bool, false, if◌then◌else◌}
use Rattle.own_base.specs.declared.number.Area.{Area}
use Rattle.own_base.specs.declared.number.Area.TheVariants.{A, B}
use Rattle.own_model.specs.declared.history.Entry.{Entry}
use Rattle.own_model.specs.declared.history.Verdict.{Verdict}
use Rattle.own_model.specs.declared.history.Verdict.TheVariants.{Took, DiskFault, NoRoom}
use Rattle.own_model.specs.Db.{Db}
use Rattle.outer_world.specs.OtherArea.{bytes_in, other_of}
use Rattle.history_model.specs.AsksDisk.{asks_disk}
use Rattle.history_model.specs.History.{History, happens}
use Rattle.history_model.specs.World.{World, start}
use Rattle.disk_model.specs.Area.{Stored, in_front}
use Rattle.disk_model.specs.Spelling.{image_spelling}
use Rattle.crash_model.specs.Room.{image_after, lays_anew}

-- the image of a database that so many commits made, under an epoch, and no record
abbrev pub stored_alone : Db → ℕ → ℕ → Stored
stored_alone db number epoch = record { epoch = epoch; image = image_spelling (image_after db number); payloads = [] }

-- in the one area lies that image with a closed gate, and nothing behind it; the other is one closed gate
pub record IsAlone (db : Db) (number epoch : ℕ) (area : Area) (a b : List ℕ) : Type 0 where
  pub here : bytes_in area a b ≡ in_front (stored_alone db number epoch) ++ 0 ∷ []
  pub beside : bytes_in (other_of area) a b ≡ 0 ∷ []

-- so it is of what reads of a disk give, and of whatever a crash leaves of it
pub record IsAloneOn {D : Type 0} (holds : D → Area → List ℕ) (leaves : D → Area → List ℕ → Type 0) (disk : D) (db : Db) (number epoch : ℕ) (area : Area) : Type 0 where
  pub reads : IsAlone db number epoch area (holds disk A) (holds disk B)
  pub crashes : (a b : List ℕ) → leaves disk A a → leaves disk B b → IsAlone db number epoch area a b

-- whether a store was laid anew by what the disk was asked for last, where it said this of an entry that asks it
abbrev pub laid_by : Bool → Verdict → Bool → Bool
laid_by was Took lays = lays
laid_by was DiskFault lays = false
laid_by was NoRoom lays = was

-- after an entry
abbrev pub laid_after : Bool → World → Entry → Bool
laid_after was world entry = if asks_disk world entry then laid_by was entry.verdict (lays_anew entry.request) else was

abbrev pub laid_from : Bool → World → History → Bool
laid_from was world [] = was
laid_from was world (entry ∷ history) = laid_from (laid_after was world entry) (happens world entry) history

-- Whether the last entry of a history that wrote to the disk laid the store anew, as a CHECKPOINT and a FORGET do, and none
-- behind it failed to write.
unfoldable pub is_laid_behind : Db → History → Bool
is_laid_behind base history = laid_from false (start base) history
