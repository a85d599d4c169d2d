-- The parts of an area, as they are read.
use Rattle.std.proofs.Common.{◌≡◌, ℕ, ◌+◌, ◌≤◌, List, [], ◌∷◌, ◌++◌, length, take, drop, refl, sym, ap, subst, ◌∙◌, arith, length-append, length-drop}
use Rattle.std.specs.Prelude.{Option, Some, None, IfNone}
use Rattle.std.specs.Int.{w32, w64, from_be_bytes}
use Rattle.own_model.specs.declared.limit.TheConstants.{PAYLOAD_BYTES}
use Rattle.own_model.specs.Db.{Db}
use Rattle.disk_model.specs.declared.commit.Commit.{Commit}
use Rattle.disk_model.specs.declared.image.Image.{Image}
use Rattle.disk_model.specs.Area.{IsOpened}
use Rattle.disk_model.specs.Follows.{Follows}
use Rattle.disk_model.specs.Image.{IsImage}
use Rattle.disk_model.specs.JudgedArea.{HasEpoch, IsLawfulBegin}
use Rattle.disk_model.specs.JudgedRecords.{IsLawful, IsMeasured, IsRecord}
use Rattle.disk_model.specs.Lawful.{IsLawfulImage}
use Rattle.disk_model.specs.Number.{IsNumber}
use Rattle.disk_model.specs.Payload.{IsPayload}
use Rattle.disk_model.specs.Spelling.{number_spelling}
use Rattle.disk_model.proofs.Numbers.{eight_say, four_say, number4-spelled, number8-spelled}
use Rattle.disk_model.proofs.OneValue.{image, number, payload}
use Rattle.disk_fields.proofs.ReadNumbers.{AreBytes}
use Rattle.crash_recover.specs.Parts.{AreInFront}

-- ---- numbers

pub number4_here : (bytes : List ℕ) → AreBytes bytes → 4 ≤ length bytes → IsNumber 4 (from_be_bytes w32 (take 4 bytes)) bytes (drop 4 bytes)
number4_here [] all long = absurd (omega arith)
number4_here (a ∷ []) all long = absurd (omega arith)
number4_here (a ∷ b ∷ []) all long = absurd (omega arith)
number4_here (a ∷ b ∷ c ∷ []) all long = absurd (omega arith)
number4_here (a ∷ b ∷ c ∷ d ∷ bytes) all long = four_say a b c d _ bytes all.0 all.1.0 all.1.1.0 all.1.1.1.0 refl

pub number8_here : (bytes : List ℕ) → AreBytes bytes → 8 ≤ length bytes → IsNumber 8 (from_be_bytes w64 (take 8 bytes)) bytes (drop 8 bytes)
number8_here [] all long = absurd (omega arith)
number8_here (a ∷ []) all long = absurd (omega arith)
number8_here (a ∷ b ∷ []) all long = absurd (omega arith)
number8_here (a ∷ b ∷ c ∷ []) all long = absurd (omega arith)
number8_here (a ∷ b ∷ c ∷ d ∷ []) all long = absurd (omega arith)
number8_here (a ∷ b ∷ c ∷ d ∷ e ∷ []) all long = absurd (omega arith)
number8_here (a ∷ b ∷ c ∷ d ∷ e ∷ f ∷ []) all long = absurd (omega arith)
number8_here (a ∷ b ∷ c ∷ d ∷ e ∷ f ∷ g ∷ []) all long = absurd (omega arith)
number8_here (a ∷ b ∷ c ∷ d ∷ e ∷ f ∷ g ∷ h ∷ bytes) all long =
    let later = all.1.1.1.1 in
    eight_say a b c d e f g h _ bytes all.0 all.1.0 all.1.1.0 all.1.1.1.0 later.0 later.1.0 later.1.1.0 later.1.1.1.0 refl

pub number4_room : (n : ℕ) (bytes rest : List ℕ) → IsNumber 4 n bytes rest → 4 ≤ length bytes
number4_room n bytes rest is = let long : length bytes ≡ length (number_spelling 4 n ++ rest) = ap length (number4-spelled n bytes rest is).0 in omega (arith, length-append (number_spelling 4 n) rest)

pub number8_room : (n : ℕ) (bytes rest : List ℕ) → IsNumber 8 n bytes rest → 8 ≤ length bytes
number8_room n bytes rest is = let long : length bytes ≡ length (number_spelling 8 n ++ rest) = ap length (number8-spelled n bytes rest is).0 in omega (arith, length-append (number_spelling 8 n) rest)

-- ---- what is measured

pub measured_is : (count n : ℕ) (bytes behind front rest : List ℕ) → IsNumber count n bytes behind → AreInFront behind n front rest → IsMeasured count front bytes rest
measured_is count n bytes behind front rest is parts = (behind, subst (λ (n : ℕ). IsNumber count n bytes behind) (sym parts.long) is, parts.whole, parts.some)

-- of one length at most
measured_long : (count n : ℕ) (bytes behind content rest : List ℕ) → IsNumber count n bytes behind → IsMeasured count content bytes rest → (n ≡ length content) × (length behind ≡ length content + length rest)
measured_long count n bytes behind content rest is measured =
    let one = number count n (length content) bytes behind measured.0 is measured.1 in
    (one.0, ap length (one.1 ∙ measured.2) ∙ length-append content rest)

pub measured_not : (count n : ℕ) (bytes behind : List ℕ) → IsNumber count n bytes behind → length behind ≤ n → (content rest : List ℕ) → IsMeasured count content bytes rest → ⊥
measured_not count n bytes behind is short content rest measured =
    let long = measured_long count n bytes behind content rest is measured in
    let same : n ≡ length content = long.0 in
    let whole : length behind ≡ length content + length rest = long.1 in
    let some : 1 ≤ length rest = measured.3 in
    omega arith

-- where none was split off
pub measured_none : {X : Type 0} (found : Option X) (count n : ℕ) (bytes behind : List ℕ) → IsNumber count n bytes behind → IfNone found (length behind ≤ n) → IfNone found ((content rest : List ℕ) → IsMeasured count content bytes rest → ⊥)
measured_none None count n bytes behind is short = measured_not count n bytes behind is short
measured_none (Some x) count n bytes behind is short = tt

-- ---- epochs

are_bytes_behind : (bytes : List ℕ) → AreBytes bytes → AreBytes (drop 1 bytes)
are_bytes_behind [] all = tt
are_bytes_behind (gate ∷ bytes) all = all.1

-- in an area that is opened a number stands behind the gate
pub no_number : (bytes : List ℕ) → AreBytes bytes → IsOpened bytes → ((n : ℕ) (rest : List ℕ) → IsNumber 8 n (drop 1 bytes) rest → ⊥) → ⊥
no_number bytes all opened not =
    let room = opened.room in
    not _ _ (number8_here (drop 1 bytes) (are_bytes_behind bytes all) (omega (arith, length-drop 1 bytes)))

-- no epoch where no number stands
pub no_epoch : (bytes : List ℕ) → ((n : ℕ) (rest : List ℕ) → IsNumber 8 n (drop 1 bytes) rest → ⊥) → (rest : List ℕ) → HasEpoch bytes rest → ⊥
no_epoch [] not rest has = absurd has
no_epoch (gate ∷ bytes) not rest has = not has.0 rest has.1

-- ---- records

pub record_is : (n : ℕ) (bytes behind front rest : List ℕ) → IsNumber 4 n bytes behind → 1 ≤ n → n ≤ PAYLOAD_BYTES → AreInFront behind n front rest → IsRecord front bytes rest
record_is n bytes behind front rest is some few parts =
    let long = parts.long in
    (record { some = omega arith; few = omega arith }, measured_is 4 n bytes behind front rest is parts)

pub record_not : (n : ℕ) (bytes behind : List ℕ) → IsNumber 4 n bytes behind → length behind ≤ n → (payload rest : List ℕ) → IsRecord payload bytes rest → ⊥
record_not n bytes behind is short content rest record_of = measured_not 4 n bytes behind is short content rest record_of.1

-- of no other length
pub record_sized : (n : ℕ) (bytes behind payload rest : List ℕ) → IsNumber 4 n bytes behind → IsRecord payload bytes rest → (1 ≤ n) × (n ≤ PAYLOAD_BYTES)
record_sized n bytes behind payload rest is record_of =
    let long = measured_long 4 n bytes behind payload rest is record_of.1 in
    let same : n ≡ length payload = long.0 in
    let size = record_of.0 in
    let some : 1 ≤ length payload = size.some in
    let few : length payload ≤ PAYLOAD_BYTES = size.few in
    (omega arith, omega arith)

-- ---- payloads and images

-- a payload whose one commit doesn't follow
pub unlawful : (db : Db) (bytes : List ℕ) (commit : Commit) → IsPayload commit bytes → ((after : Db) → Follows db commit after → ⊥) → (other : Commit) (after : Db) → IsLawful db bytes other after → ⊥
unlawful db bytes commit is not other after lawful =
    not after (subst (λ (commit : Commit). Follows db commit after) (payload other commit bytes lawful.is_payload is) lawful.follows)

-- bytes whose one image is of no database
pub unlawful_image : (bytes : List ℕ) (one : Image) → IsImage one bytes → ((db : Db) → IsLawfulImage one db → ⊥) → (other : Image) (db : Db) → IsLawfulBegin bytes other db → ⊥
unlawful_image bytes one is not other db begin =
    not db (subst (λ (image : Image). IsLawfulImage image db) (image other one bytes begin.is_image is) begin.lawful)
