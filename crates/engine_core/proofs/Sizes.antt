-- How many bytes a call writes.
use Rattle.std.proofs.Common.{◌≡◌, ◌∙◌, ℕ, zero, suc, ◌+◌, ◌*◌, ◌≤◌, List, [], ◌∷◌, ◌++◌, length, Bool, true, false, ap, arith, refl, subst, sym}
use Rattle.std.specs.Prelude.{◌&&◌, None, Option, Some, is_some, not}
use Rattle.std.proofs.lemmas.List.{length-append}
use Rattle.own_model.specs.declared.history.Entry.{Entry}
use Rattle.own_model.specs.declared.limit.TheConstants.{JOURNAL_ROOM}
use Rattle.own_model.specs.Db.{Db}
use Rattle.disk_model.specs.declared.commit.Commit.{Commit}
use Rattle.disk_model.specs.Number.{IsNumberBehind}
use Rattle.disk_model.proofs.Spelled.{image-spelled, payload-spelled}
use Rattle.rec_codec.specs.Framed.{IsFramed}
use Rattle.check_image.specs.Gated.{IsGatedImage, image_from}
use Rattle.history_model.specs.AsksDisk.{asks_disk}
use Rattle.history_model.specs.World.{World}
use Rattle.crash_model.specs.Room.{Appended, LaidAnew, Written, bytes_written, image_bytes, left_where_taken, record_bytes, written_bytes, written_of}
use Rattle.engine_core.specs.Answered.{IsImageWith, IsNumbered, IsWriting, IsWrittenAs, behind_by, is_anew, is_laid, left, size_of, write_size}
use Rattle.engine_core.specs.declared.prepared.NextState.{NextState}
use Rattle.engine_core.specs.declared.prepared.NextState.TheVariants.{Anew, Beside, InPlace}
use Rattle.engine_core.specs.declared.prepared.Prepared.{Prepared}

-- a number of so many bytes stands in front of the rest
number_length : (above count number : ℕ) (bytes rest : List ℕ) → IsNumberBehind above count number bytes rest → length bytes ≡ count + length rest
number_length above zero number bytes rest is = let same = ap length is.1 in omega arith
number_length above (suc count) number [] rest is = absurd is
number_length above (suc count) number (byte ∷ bytes) rest is = let more = number_length (above * 256 + byte) count number bytes rest is.1 in omega arith

-- a framed commit is as long as its record
pub framed-length : (commit : Commit) (framed : List ℕ) → IsFramed commit framed → length framed ≡ record_bytes commit
framed-length commit framed is =
    let whole = number_length 0 4 (length is.payload) framed (is.payload ++ 0 ∷ []) is.parts in
    let gate = length-append is.payload (0 ∷ []) in
    let spelled = ap length (payload-spelled commit is.payload is.is_payload).0 in
    omega arith

-- and an image, with its gate, as long as is told of it
pub gated-length : (db : Db) (number : ℕ) (gated : List ℕ) → IsGatedImage db number gated → number ≤ JOURNAL_ROOM → length gated ≡ image_bytes db number
gated-length db number gated is few =
    let whole = ap length is.parts ∙ length-append is.image (0 ∷ []) in
    let spelled = ap length (image-spelled (image_from db number) is.image (is.is_image few)).0 in
    omega arith

-- ---- what is prepared

-- an image that is to be written has this number of commits
abbrev pub IsOfNumber : ℕ → Written → Type 0
IsOfNumber number (Appended commit) = Unit {0}
IsOfNumber number (LaidAnew given) = given ≡ number

-- whether what is to be written is an image
abbrev pub is_image : Written → Bool
is_image (Appended commit) = false
is_image (LaidAnew number) = true

-- a state writes as many bytes as is told of it
size-is : (number : ℕ) (db : Db) (state : NextState) (bytes : List ℕ) (written : Written) → IsWriting written state bytes → IsOfNumber number written
    → size_of number state bytes ≡ written_bytes (behind_by db state) written
size-is number db (Beside next) bytes (Appended commit) is of = framed-length commit bytes is
size-is number db (InPlace change) bytes (Appended commit) is of = framed-length commit bytes is
size-is number db (Anew next) bytes (Appended commit) is of = absurd is
size-is number db (Beside next) bytes (LaidAnew given) is of = absurd is
size-is number db (InPlace change) bytes (LaidAnew given) is of = absurd is
size-is number db (Anew next) bytes (LaidAnew given) is of = ap (image_bytes next) (sym of)

numbered_state : (number : ℕ) (state : NextState) (bytes : List ℕ) (written : Written) → IsWriting written state bytes → IsOfNumber number written → IsImageWith number state bytes
numbered_state number (Beside next) bytes written is of = tt
numbered_state number (InPlace change) bytes written is of = tt
numbered_state number (Anew next) bytes (Appended commit) is of = absurd is
numbered_state number (Anew next) bytes (LaidAnew given) is of = subst (λ number. IsGatedImage next number bytes) of is

-- where it is laid anew it is so with that number of commits
pub numbered-as : (number : ℕ) (next : Option Prepared) (written : Written) → IsWrittenAs written next → IsOfNumber number written → IsNumbered number next
numbered-as number None written is of = tt
numbered-as number (Some prepared) written is of = numbered_state number prepared.state prepared.bytes written is of

laid_state : (state : NextState) (bytes : List ℕ) (written : Written) → IsWriting written state bytes → is_anew state ≡ is_image written
laid_state (Beside next) bytes (Appended commit) is = refl
laid_state (InPlace change) bytes (Appended commit) is = refl
laid_state (Anew next) bytes (Appended commit) is = absurd is
laid_state (Beside next) bytes (LaidAnew given) is = absurd is
laid_state (InPlace change) bytes (LaidAnew given) is = absurd is
laid_state (Anew next) bytes (LaidAnew given) is = refl

-- and it is laid anew where an image is to be written
pub laid-as : (next : Option Prepared) (written : Written) → IsWrittenAs written next → is_some next ≡ true → is_laid next ≡ is_image written
laid-as None written is some = let never : false ≡ true = some in absurd (cc)
laid-as (Some prepared) written is some = laid_state prepared.state prepared.bytes written is

-- ---- what an entry writes

module _ (world : World) (entry : Entry) (number : ℕ) where
  pub bytes-none : asks_disk world entry ≡ false → bytes_written world entry number ≡ 0
  unfolding bytes_written
  bytes-none unasked = rw unasked refl

  pub bytes-asked : asks_disk world entry ≡ true → bytes_written world entry number ≡ written_bytes (left_where_taken world entry) (written_of world entry number)
  unfolding bytes_written
  bytes-asked asked = rw asked refl

  -- is what is prepared, where something is
  pub bytes-prepared : (db : Db) (next : Option Prepared) (written : Written) → is_some next ≡ asks_disk world entry → IsWrittenAs written next → IsOfNumber (number + 1) written
      → (is_some next ≡ true → written ≡ written_of world entry number) → (is_some next ≡ true → left db next ≡ left_where_taken world entry)
      → write_size (number + 1) next ≡ bytes_written world entry number
  bytes-prepared db None written asks is of same leaves = sym (bytes-none (sym asks))
  bytes-prepared db (Some prepared) written asks is of same leaves =
      size-is (number + 1) db prepared.state prepared.bytes written is of
      ∙ ((λ i. written_bytes (leaves refl i) (same refl i)) ∙ sym (bytes-asked (sym asks)))

-- what isn't refused
pub accepted-of : (refused more : Bool) → (not refused && more) ≡ true → refused ≡ false
accepted-of true more is = let never : false ≡ true = is in absurd (cc)
accepted-of false more is = refl
