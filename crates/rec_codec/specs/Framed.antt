-- A commit as the journal appends it.
use Rattle.std.specs.Prelude.{◌≡◌, ℕ, ◌≤◌, ◌<◌, List, [], ◌∷◌, ◌++◌, length, Result, Ok, Err}
use Rattle.own_model.specs.declared.limit.TheConstants.{PAYLOAD_BYTES}
use Rattle.disk_model.specs.declared.commit.Commit.{Commit}
use Rattle.disk_model.specs.Number.{IsNumber}
use Rattle.disk_model.specs.Payload.{IsPayload}
use Rattle.disk_model.specs.Spelling.{payload_spelling}
use Rattle.rec_codec.specs.declared.fault.EncodeFault.{EncodeFault}
use Rattle.rec_codec.specs.declared.fault.EncodeFault.TheVariants.{TooBig, Memory}

-- four bytes for the length of the payload, the payload, and a closed gate
pub record IsFramed (commit : Commit) (bytes : List ℕ) : Type 0 where
  pub payload : List ℕ
  pub is_payload : IsPayload commit payload
  pub few : length payload ≤ PAYLOAD_BYTES
  pub parts : IsNumber 4 (length payload) bytes (payload ++ 0 ∷ [])

-- how many bytes the payload has; the commit's one payload is its spelling
abbrev pub payload_length : Commit → ℕ
payload_length commit = length (payload_spelling commit)

-- Exactly where the payload is too long its length is answered; memory is refused only where it isn't.
abbrev pub Encodes : Commit → Result (List ℕ) EncodeFault → Type 0
Encodes commit (Ok bytes) = IsFramed commit bytes
Encodes commit (Err (TooBig count)) = (count ≡ payload_length commit) × (PAYLOAD_BYTES < count)
Encodes commit (Err Memory) = payload_length commit ≤ PAYLOAD_BYTES
