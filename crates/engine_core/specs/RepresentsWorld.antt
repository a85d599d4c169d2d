-- The state that an engine keeps represents the world of its history.
use Rattle.std.specs.Prelude.{◌≡◌, ◌≢◌, ℕ, None, Result, Ok, Err}
use Rattle.own_model.specs.declared.history.Entry.{Entry}
use Rattle.own_model.specs.declared.history.Verdict.{Verdict}
use Rattle.own_model.specs.declared.history.Verdict.TheVariants.{DiskFault}
use Rattle.own_model.specs.declared.reply.Reply.{Reply}
use Rattle.own_model.specs.Db.{Db}
use Rattle.state_model.specs.Sound.{Sound}
use Rattle.state_model.specs.Weight.{weight}
use Rattle.history_model.specs.AsksDisk.{under}
use Rattle.history_model.specs.Held.{held}
use Rattle.history_model.specs.History.{History, happens, is_disk, world}
use Rattle.history_model.specs.MayBeUnmade.{MayBeUnmadeFrom}
use Rattle.history_model.specs.Reply.{answer}
use Rattle.history_model.specs.Serial.{IsEntry, IsHistory}
use Rattle.history_model.specs.World.{World}
use Rattle.row_locks.specs.RepresentsItems.{AreHeld}
use Rattle.txn_core.specs.SessionStates.{RepresentsSession, state_by}
use Rattle.engine_core.specs.Stored.{is_fault}
use Rattle.engine_core.specs.declared.state.State.{State}

-- The state is the world's flat database. The state of each session represents how it stands, and the items of its locks
-- what it holds.
pub record RepresentsWorld (state : State) (world : World) : Type 0 where
  pub flat : state.version ≡ world.flat
  pub weighs : weight state.version ≡ state.weighs
  pub states : (session : ℕ) → RepresentsSession world.flat (state_by state.txns.states session) (world.standing session)
  pub held : AreHeld state.txns.held (held world)

-- An entry may come behind a history for which the state stands, over the database that it was opened with, while the disk
-- hasn't failed: of one of the sessions, of a request that can be read.
pub record IsEvent (state : State) (history : History) (entry : Entry) : Type 0 where
  pub entries : IsHistory history
  pub begun : Sound state.opened
  pub stands : RepresentsWorld state (world state.opened history)
  pub up : (world state.opened history).down ≡ None
  pub is_entry : IsEntry entry

-- memory was refused, as it may be of such an entry, and the state represents the world as it was
abbrev pub IsUnmade : Db → State → History → Entry → Type 0
IsUnmade base after history entry =
    RepresentsWorld after (world base history) × MayBeUnmadeFrom (world base history).flat.schema ((world base history).standing entry.session.0) entry.request

-- What became of an entry, over this database: it was answered as in the world of the history with what the disk said, and the
-- state represents the world with it, unless the disk failed; or memory was refused.
abbrev pub Serves : {E : Type 0} → Db → State → History → Entry → Result (Verdict × Reply) E → Type 0
Serves base after history entry (Ok told) =
    (answer (world base history) (under told.0 entry) ≡ told.1) × (told.0 ≢ DiskFault → RepresentsWorld after (happens (world base history) (under told.0 entry))) × (is_disk told.1 ≡ is_fault told.0)
Serves base after history entry (Err refused) = IsUnmade base after history entry

-- the same of an entry that the disk isn't asked for
abbrev pub ServesAlone : {E : Type 0} → Db → State → History → Entry → Result Reply E → Type 0
ServesAlone base after history entry (Ok reply) = (answer (world base history) entry ≡ reply) × RepresentsWorld after (happens (world base history) entry)
ServesAlone base after history entry (Err refused) = IsUnmade base after history entry
