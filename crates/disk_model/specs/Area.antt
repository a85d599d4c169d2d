-- A journal area, and what two of them represent.
use Rattle.std.specs.Prelude.{◌≡◌, ℕ, ◌-◌, ◌≤◌, ◌<◌, ◌^◌, ◌⊎◌, List, [], ◌∷◌, ◌++◌, All, length, take, drop, slice_index}
use Rattle.std.specs.Int.{w64, bytes_high_first, from_be_bytes}
use Rattle.own_model.specs.declared.limit.TheConstants.{JOURNAL_ROOM}
use Rattle.disk_model.specs.Gate.{IsOpenGate, IsClosedGate}
use Rattle.disk_model.specs.Records.{records_of, IsPayloadSize}

-- what an open area says: its epoch, the bytes of its image and the payloads of its open records, in order
pub record Stored : Type 0 where
  pub epoch : ℕ
  pub image : List ℕ
  pub payloads : List (List ℕ)

-- the image of bytes behind which its closed gate stands
abbrev pub image_of : List ℕ → List ℕ
image_of gated = take (length gated - 1) gated

-- an image, and a closed gate behind it
pub record IsGated (gated : List ℕ) : Type 0 where
  pub bytes : gated ≡ image_of gated ++ 0 ∷ []

-- such an image under an epoch, and no record
abbrev pub laid : ℕ → List ℕ → Stored
laid epoch gated = record { epoch = epoch; image = image_of gated; payloads = [] }

-- with one payload more
abbrev pub with_payload : Stored → List ℕ → Stored
with_payload stored payload = record stored { payloads = stored.payloads ++ payload ∷ [] }

-- an open gate, the epoch, the length of the image, and the image
abbrev pub image_part : Stored → List ℕ
image_part stored = 1 ∷ bytes_high_first 8 stored.epoch ++ bytes_high_first 8 (length stored.image) ++ stored.image

-- and behind them the records
abbrev pub in_front : Stored → List ℕ
in_front stored = image_part stored ++ records_of stored.payloads

-- an epoch is at least 1, and within the room of a journal; an image's length has 64 bits; no payload is too long
pub record IsStorable (stored : Stored) : Type 0 where
  pub first : 1 ≤ stored.epoch
  pub last : stored.epoch ≤ JOURNAL_ROOM
  pub image : length stored.image < 2 ^ 64
  pub payloads : All IsPayloadSize stored.payloads

-- the area says this: all that is in front of a closed gate, which may have anything behind it
pub record Says (bytes : List ℕ) (stored : Stored) : Type 0 where
  pub storable : IsStorable stored
  pub gate : ℕ
  pub behind : List ℕ
  pub closed : IsClosedGate gate
  pub spelled : bytes ≡ in_front stored ++ gate ∷ behind

-- the area is opened: it has room for an image and a gate, and its own gate is open
pub record IsOpened (bytes : List ℕ) : Type 0 where
  pub room : 18 ≤ length bytes
  pub gate : IsOpenGate (slice_index bytes 0)

-- the epoch of an area that is opened
abbrev pub epoch_of : List ℕ → ℕ
epoch_of bytes = from_be_bytes w64 (take 8 (drop 1 bytes))

-- where the area is opened it is of a lower epoch
abbrev pub IsBelow : List ℕ → ℕ → Type 0
IsBelow bytes epoch = IsOpened bytes → epoch_of bytes < epoch

-- the one area says this, and the other is of a lower epoch or isn't opened
pub record IsChosen (stored : Stored) (one other : List ℕ) : Type 0 where
  pub says : Says one stored
  pub below : IsBelow other stored.epoch

-- two areas represent this
abbrev pub Represent : List ℕ → List ℕ → Stored → Type 0
Represent a b stored = IsChosen stored a b ⊎ IsChosen stored b a

-- two areas represent nothing yet: none is opened
pub record RepresentNothing (a b : List ℕ) : Type 0 where
  pub not_a : ¬ IsOpened a
  pub not_b : ¬ IsOpened b
