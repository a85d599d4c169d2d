-- What is found in the records of an area.
use Rattle.std.specs.Prelude.{◌≡◌, ℕ, ◌+◌, ◌≤◌, List, ◌++◌, All, length, slice_index}
use Rattle.own_model.specs.Db.{Db}
use Rattle.disk_model.specs.declared.commit.Commit.{Commit}
use Rattle.disk_model.specs.Gate.{IsClosedGate}
use Rattle.disk_model.specs.JudgedRecords.{AreRecords, Broken, IsLawful, IsRecord}
use Rattle.disk_model.specs.Records.{IsPayloadSize, records_of}
use Rattle.disk_model.specs.StoreOf.{AreFollowed, ArePayloads}
use Rattle.crash_recover.specs.declared.judged.LaidCommit.{LaidCommit}
use Rattle.crash_recover.specs.Recovered.{AreLaid, commits_of}

-- behind a gate at this offset stands a record of a commit, which is lawful and leads on, and behind that the rest
pub record IsNext (db : Db) (gate : ℕ) (bytes : List ℕ) (laid : LaidCommit) (rest : List ℕ) (after : Db) : Type 0 where
  pub payload : List ℕ
  pub is_record : IsRecord payload bytes rest
  pub lawful : IsLawful db payload laid.commit after
  pub offset : laid.offset ≡ gate + 5

-- from a gate on that lies at this offset, records of lawful commits, up to the rest, which lies at `at`
pub record AreRead (db : Db) (gate : ℕ) (bytes : List ℕ) (laid : List LaidCommit) (at : ℕ) (rest : List ℕ) (after : Db) : Type 0 where
  pub payloads : List (List ℕ)
  pub sizes : All IsPayloadSize payloads
  pub spelled : bytes ≡ records_of payloads ++ rest
  pub up_to : at ≡ gate + length (records_of payloads)
  pub offsets : AreLaid gate laid payloads
  pub are_payloads : ArePayloads (commits_of laid) payloads
  pub followed : AreFollowed db (commits_of laid) after

-- up to a closed gate
pub record AreWhole (db : Db) (gate : ℕ) (bytes : List ℕ) (laid : List LaidCommit) (end : ℕ) (after : Db) : Type 0 where
  pub rest : List ℕ
  pub are_read : AreRead db gate bytes laid end rest after
  pub some : 1 ≤ length rest
  pub closed : IsClosedGate (slice_index rest 0)

-- up to a place that is damaged
abbrev pub IsBrokenBehind : Db → ℕ → List ℕ → ℕ → Type 0
IsBrokenBehind db gate bytes offset = (commits : List Commit) × AreRecords db gate bytes commits (Broken offset)
