-- How far the records of an area are lawful.
use Rattle.std.specs.Prelude.{◌≡◌, ℕ, ◌+◌, ◌≤◌, List, [], ◌∷◌, ◌++◌, ◌⊎◌, length}
use Rattle.own_model.specs.Db.{Db}
use Rattle.disk_model.specs.declared.commit.Commit.{Commit}
use Rattle.disk_model.specs.Follows.{Follows}
use Rattle.disk_model.specs.Gate.{IsClosedGate, IsOpenGate}
use Rattle.disk_model.specs.Number.{Format, IsNumber}
use Rattle.disk_model.specs.Payload.{IsPayload}
use Rattle.disk_model.specs.Records.{IsPayloadSize}

-- so many bytes for a length, that many bytes, and at least a gate behind them
abbrev pub IsMeasured : ℕ → Format (List ℕ)
IsMeasured count content bytes rest = (middle : List ℕ) × IsNumber count (length content) bytes middle × (middle ≡ content ++ rest) × (1 ≤ length rest)

-- a record, behind its gate
abbrev pub IsRecord : Format (List ℕ)
IsRecord payload bytes rest = IsPayloadSize payload × IsMeasured 4 payload bytes rest

-- the payload is that of a commit which is lawful on the database and leaves another one
pub record IsLawful (db : Db) (payload : List ℕ) (commit : Commit) (after : Db) : Type 0 where
  pub is_payload : IsPayload commit payload
  pub follows : Follows db commit after

-- how records end: at a closed gate, or at a damaged place, with its offset in the area
pub data End : Type 0 where
  Closed : End
  Broken : ℕ → End

-- An open gate at this offset with no lawful record behind it, and what is damaged: the record, or its payload.
abbrev pub IsBroken : Db → ℕ → List ℕ → ℕ → Type 0
IsBroken db gate bytes offset =
    (((payload rest : List ℕ) → IsRecord payload bytes rest → ⊥) × (offset ≡ gate + 1))
    ⊎ ((payload : List ℕ) × (rest : List ℕ) × IsRecord payload bytes rest
    × ((commit : Commit) (after : Db) → IsLawful db payload commit after → ⊥) × (offset ≡ gate + 5))

-- from a gate on that lies at this offset, with no record of a commit before the end
abbrev pub IsEnd : Db → ℕ → ℕ → List ℕ → End → Type 0
IsEnd db at gate bytes Closed = IsClosedGate gate
IsEnd db at gate bytes (Broken offset) = IsOpenGate gate × IsBroken db at bytes offset

-- from a gate on that lies at this offset, the records of these commits, each lawful on what those before it leave, and the end
abbrev pub AreRecords : Db → ℕ → List ℕ → List Commit → End → Type 0
AreRecords db at [] commits end = ⊥
AreRecords db at (gate ∷ bytes) [] end = IsEnd db at gate bytes end
AreRecords db at (gate ∷ bytes) (commit ∷ commits) end =
    IsOpenGate gate × (payload : List ℕ) × (rest : List ℕ) × (after : Db)
    × IsRecord payload bytes rest × IsLawful db payload commit after × AreRecords after (at + 5 + length payload) rest commits end
