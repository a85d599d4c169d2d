-- What a call would write to the disk, behind a history over a database that so many commits made, and where the journal
-- stands then.
use Rattle.std.specs.Prelude.{◌≡◌, ◌<◌, ◌↔◌, ◌&&◌, ℕ, ◌+◌, List, [], ◌∷◌, length, max, slice_get, take, Bool, true, false, Some, if◌then◌else◌}
use Rattle.own_model.specs.declared.history.Entry.{Entry}
use Rattle.own_model.specs.declared.history.Verdict.{Verdict}
use Rattle.own_model.specs.declared.history.Verdict.TheVariants.{Took, DiskFault, NoRoom}
use Rattle.own_model.specs.declared.limit.TheConstants.{JOURNAL_ROOM}
use Rattle.own_model.specs.declared.request.Request.{Request}
use Rattle.own_model.specs.declared.request.Request.TheVariants.{Run}
use Rattle.own_model.specs.declared.statement.Statement.TheVariants as statement
use Rattle.own_model.specs.Db.{Db}
use Rattle.state_model.specs.Created.{OfTable, OfView, text_of}
use Rattle.state_model.specs.Net.{net}
use Rattle.history_model.specs.AsksDisk.{asks_disk, under}
use Rattle.history_model.specs.Commits.{commits, is_commit}
use Rattle.history_model.specs.History.{History, flat_after, happens, world as world_of}
use Rattle.history_model.specs.Reply.{answer}
use Rattle.history_model.specs.World.{World, start}
use Rattle.disk_model.specs.declared.commit.Commit.{Commit}
use Rattle.disk_model.specs.declared.commit.Commit.TheVariants.{CreateTable, CreateView, Changes}
use Rattle.disk_model.specs.declared.image.Image.{Image}
use Rattle.disk_model.specs.PutOf.{puts_of}
use Rattle.disk_model.specs.Spelling.{image_spelling, payload_spelling}

-- the flat database after an entry, where the disk takes what it writes
abbrev pub left_where_taken : World → Entry → Db
left_where_taken world entry = flat_after world (under Took entry) (answer world (under Took entry))

-- What a call writes: behind the others the record of a commit, or in the other area the image of what it leaves, with the
-- number of commits that made that.
pub data Written : Type 0 where
  Appended : Commit → Written
  LaidAnew : ℕ → Written

-- what a request writes that leads from this database, which so many commits made, to another: a CREATE its canonical text; a
-- CHECKPOINT and a FORGET lay what they leave anew, and a FORGET is a commit more
abbrev pub written_by : Db → Request → Db → ℕ → Written
written_by before (Run (statement.CreateTable table)) after number = Appended (CreateTable (text_of (OfTable table)).text)
written_by before (Run (statement.CreateView view)) after number = Appended (CreateView (text_of (OfView view)).text)
written_by before (Run statement.Checkpoint) after number = LaidAnew number
written_by before (Run (statement.GdprForget table key)) after number = LaidAnew (number + 1)
written_by before request after number = Appended (Changes (puts_of (net before after)))

-- whether a request lays the store anew
abbrev pub lays_anew : Request → Bool
lays_anew (Run statement.Checkpoint) = true
lays_anew (Run (statement.GdprForget table key)) = true
lays_anew _ = false

-- the image of a database that so many commits made
abbrev pub image_after : Db → ℕ → Image
image_after db number = record { commits = number; creates = db.creates; tables = db.rows }

-- a request for an image
abbrev pub is_checkpoint : Request → Bool
is_checkpoint (Run statement.Checkpoint) = true
is_checkpoint _ = false

-- an image and the gate behind it
abbrev pub image_bytes : Db → ℕ → ℕ
image_bytes db number = length (image_spelling (image_after db number)) + 1

-- a gate, four bytes for the length of a payload, and the payload
abbrev pub record_bytes : Commit → ℕ
record_bytes commit = 5 + length (payload_spelling commit)

-- how many bytes are written to leave a database
abbrev pub written_bytes : Db → Written → ℕ
written_bytes after (Appended commit) = record_bytes commit
written_bytes after (LaidAnew number) = image_bytes after number

-- what an accepted entry writes after so many commits
abbrev pub written_of : World → Entry → ℕ → Written
written_of world entry number = written_by world.flat entry.request (left_where_taken world entry) number

-- How many bytes an entry writes after so many commits: none where the answer isn't the disk's to give.
unfoldable pub bytes_written : World → Entry → ℕ → ℕ
bytes_written world entry number =
    if asks_disk world entry then written_bytes (left_where_taken world entry) (written_of world entry number) else 0

-- how many a call would write that comes behind a history
abbrev pub bytes_behind : Db → ℕ → History → Entry → ℕ
bytes_behind base number history entry = bytes_written (world_of base history) entry (number + length (commits base history))

-- where a journal stands: its epoch, and the end of its records
pub record JournalEnd : Type 0 where
  pub epoch : ℕ
  pub end : ℕ

-- whether the disk took what was written
abbrev pub is_taken : Verdict → Bool
is_taken Took = true
is_taken DiskFault = false
is_taken NoRoom = false

-- where it stands with so many bytes more: those of an image begin the next epoch, behind 16 of its own
abbrev pub journal_with : JournalEnd → Bool → ℕ → JournalEnd
journal_with at true bytes = record { epoch = at.epoch + 1; end = 16 + bytes }
journal_with at false bytes = record { epoch = at.epoch; end = at.end + bytes }

-- where it stands after an entry, over a world that so many commits made
abbrev pub journal_after : JournalEnd → World → ℕ → Entry → JournalEnd
journal_after at world number entry =
    if is_taken entry.verdict && asks_disk world entry then journal_with at (lays_anew entry.request) (bytes_written world entry number) else at

abbrev pub journal_from : JournalEnd → World → ℕ → History → JournalEnd
journal_from at world number [] = at
journal_from at world number (entry ∷ history) =
    journal_from (journal_after at world number entry) (happens world entry) (number + (if is_commit world entry (answer world entry) then 1 else 0)) history

-- where it stands behind a history, over a database that so many commits made
unfoldable pub journal_behind : JournalEnd → Db → ℕ → History → JournalEnd
journal_behind at base number history = journal_from at (start base) number history

-- The least room of a journal in which a call fits that comes behind a history: its number of epochs, of commits and of bytes
-- with one epoch, one commit and what the call would write more.
abbrev pub room : JournalEnd → Db → ℕ → History → Entry → ℕ
room at base number history entry =
    max (max ((journal_behind at base number history).epoch + 1) (number + length (commits base history) + 1))
    ((journal_behind at base number history).end + bytes_behind base number history entry)

-- an entry behind a history found no room just where it asked the disk, and needed more than a journal may have
abbrev pub IsNoRoomExactAt : JournalEnd → Db → ℕ → History → Entry → Type 0
IsNoRoomExactAt at base number history entry =
    (entry.verdict ≡ NoRoom) ↔ ((asks_disk (world_of base history) entry ≡ true) × (JOURNAL_ROOM < room at base number history entry))

-- and so did each entry of a history
abbrev pub IsNoRoomExact : JournalEnd → Db → ℕ → History → Type 0
IsNoRoomExact at base number history =
    (place : ℕ) (entry : Entry) → slice_get history place ≡ Some entry → IsNoRoomExactAt at base number (take place history) entry
