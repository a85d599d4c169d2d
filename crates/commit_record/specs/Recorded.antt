-- The record of a commit.
use Rattle.std.specs.Prelude.{◌≡◌, ◌≢◌, ◌≤◌, ◌<◌, ℕ, List, [], Bool, true, false, Result, Ok, Err}
use Rattle.own_base.specs.declared.change.Change.{Change}
use Rattle.own_model.specs.declared.limit.TheConstants.{PAYLOAD_BYTES}
use Rattle.own_model.specs.Db.{Db}
use Rattle.state_model.specs.Net.{net}
use Rattle.state_model.specs.Payload.{payload_bytes}
use Rattle.state_model.specs.Sound.{Sound}
use Rattle.disk_model.specs.declared.commit.Commit.{Commit}
use Rattle.disk_model.specs.declared.commit.Commit.TheVariants.{Changes, CreateTable, CreateView}
use Rattle.disk_model.specs.Follows.{Follows}
use Rattle.disk_model.specs.PutOf.{puts_of}
use Rattle.rec_codec.specs.Framed.{IsFramed, payload_length}
use Rattle.rec_codec.specs.declared.fault.EncodeFault.{EncodeFault}
use Rattle.rec_codec.specs.declared.fault.EncodeFault.TheVariants.{TooBig, Memory}

-- framed bytes of a commit that is lawful on a database, and leaves another one
pub record IsRecordOf (before after : Db) (framed : List ℕ) : Type 0 where
  pub commit : Commit
  pub is_framed : IsFramed commit framed
  pub follows : Follows before commit after

-- changes that lead from a sound database to another, and change something
pub record IsNetOf (before after : Db) (changes : List Change) : Type 0 where
  pub sound_before : Sound before
  pub sound_after : Sound after
  pub schema : after.schema ≡ before.schema
  pub creates : after.creates ≡ before.creates
  pub is : changes ≡ net before after
  pub some : changes ≢ []

-- from some database to some other
pub record IsSomeNet (changes : List Change) : Type 0 where
  pub before : Db
  pub after : Db
  pub is : IsNetOf before after changes

-- what comes of recording changes: a record, which is the changes framed, and whose payload is as long as is counted; or that
-- count, which is more than one may have
abbrev pub RecordsChanges : Db → Db → List Change → Result (List ℕ) EncodeFault → Type 0
RecordsChanges before after changes (Ok framed) =
    IsRecordOf before after framed × (payload_bytes changes ≤ PAYLOAD_BYTES) × IsFramed (Changes (puts_of changes)) framed
RecordsChanges before after changes (Err (TooBig count)) = (count ≡ payload_bytes changes) × (PAYLOAD_BYTES < count)
RecordsChanges before after changes (Err Memory) = Unit {0}

-- a CREATE by its text
abbrev pub create_commit : Bool → List ℕ → Commit
create_commit false text = CreateTable text
create_commit true text = CreateView text

-- what comes of recording a commit: its framed bytes, or the length of a payload that is longer than one may be
abbrev pub Frames : Commit → Result (List ℕ) EncodeFault → Type 0
Frames commit (Ok framed) = IsFramed commit framed
Frames commit (Err (TooBig count)) = (count ≡ payload_length commit) × (PAYLOAD_BYTES < count)
Frames commit (Err Memory) = Unit {0}
