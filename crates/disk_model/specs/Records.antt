-- The records of a journal area, one behind another.
use Rattle.std.specs.Prelude.{◌≡◌, ℕ, ◌-◌, ◌≤◌, List, [], ◌∷◌, ◌++◌, length, take, drop, flat_map}
use Rattle.std.specs.Int.{bytes_high_first}
use Rattle.own_model.specs.declared.limit.TheConstants.{PAYLOAD_BYTES}

-- the payload behind its length in four bytes, the highest first
abbrev pub measured : List ℕ → List ℕ
measured payload = bytes_high_first 4 (length payload) ++ payload

-- behind an open gate
abbrev pub record_of : List ℕ → List ℕ
record_of payload = 1 ∷ measured payload

-- one record behind another
abbrev pub records_of : List (List ℕ) → List ℕ
records_of payloads = flat_map record_of payloads

-- so long may a payload be
pub record IsPayloadSize (payload : List ℕ) : Type 0 where
  pub some : 1 ≤ length payload
  pub few : length payload ≤ PAYLOAD_BYTES

-- the payload of framed bytes
abbrev pub payload_of : List ℕ → List ℕ
payload_of framed = drop 4 (take (length framed - 1) framed)

-- framed: a payload behind its length, and a closed gate behind it
pub record IsFramed (framed : List ℕ) : Type 0 where
  pub size : IsPayloadSize (payload_of framed)
  pub bytes : framed ≡ measured (payload_of framed) ++ 0 ∷ []
