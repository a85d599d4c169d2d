-- What is found in an opened area.
use Rattle.std.proofs.Common.{◌≡◌, inl, inr, ℕ, ◌+◌, ◌≤◌, List, [], ◌∷◌, ◌++◌, length, get_or, drop, refl, sym, ap, ◌∙◌, arith, append_assoc}
use Rattle.std.proofs.lemmas.List.{drop_more, length-append, length-map}
use Rattle.own_base.specs.declared.number.Area.{Area}
use Rattle.own_model.specs.Db.{Db}
use Rattle.disk_model.specs.declared.image.Image.{Image}
use Rattle.disk_model.specs.Area.{IsOpened, Stored, in_front}
use Rattle.disk_model.specs.JudgedArea.{HasEpoch, IsLawfulBegin}
use Rattle.disk_model.specs.JudgedRecords.{Broken, IsMeasured}
use Rattle.disk_model.specs.Records.{records_of}
use Rattle.disk_model.specs.Spelling.{number_spelling}
use Rattle.disk_model.proofs.Numbers.{number8-spelled}
use Rattle.commit_journal.proofs.AreaBytes.{length-in_front}
use Rattle.crash_recover.specs.declared.judged.LaidCommit.{LaidCommit}
use Rattle.crash_recover.specs.AreaFound.{Holds, IsAreaDamaged, IsEpoch}
use Rattle.crash_recover.specs.Records.{AreWhole, IsBrokenBehind}

has_epoch : (bytes : List ℕ) (epoch : ℕ) (rest : List ℕ) → IsEpoch bytes epoch rest → HasEpoch bytes rest
has_epoch [] epoch rest is = absurd is
has_epoch (gate ∷ bytes) epoch rest is = (epoch, is.0, is.1, is.2)

-- ---- damaged

-- an image that doesn't fit
pub damaged_length : (area : Area) (bytes : List ℕ) (epoch : ℕ) (sized : List ℕ) → IsEpoch bytes epoch sized → ((content rest : List ℕ) → IsMeasured 8 content sized rest → ⊥) → IsAreaDamaged area bytes 9
damaged_length area bytes epoch sized first not = inl (sized, has_epoch bytes epoch sized first, inr (not, refl))

-- an image that isn't lawful
pub damaged_image : (area : Area) (bytes : List ℕ) (epoch : ℕ) (sized content records : List ℕ) → IsEpoch bytes epoch sized → IsMeasured 8 content sized records → ((image : Image) (db : Db) → IsLawfulBegin content image db → ⊥)
    → IsAreaDamaged area bytes 17
damaged_image area bytes epoch sized content records first second not = inl (sized, has_epoch bytes epoch sized first, inl (content, records, second, inr (not, refl)))

-- a record behind a lawful image
pub damaged_record : (area : Area) (bytes : List ℕ) (epoch : ℕ) (sized content records : List ℕ) (image : Image) (db : Db) (offset : ℕ) → IsEpoch bytes epoch sized → IsMeasured 8 content sized records → IsLawfulBegin content image db
    → IsBrokenBehind db (17 + length content) records offset → IsAreaDamaged area bytes offset
damaged_record area bytes epoch sized content records image db offset first second begun broken =
    inl (sized, has_epoch bytes epoch sized first, inl (content, records, second, inl (image, db, broken.0, Broken offset, begun, broken.1, refl)))

-- ---- whole

pub store_found : (bytes : List ℕ) (epoch : ℕ) (sized content records : List ℕ) (image : Image) (db after : Db) (laid : List LaidCommit) (end : ℕ) → IsOpened bytes → IsEpoch bytes epoch sized → IsMeasured 8 content sized records → IsLawfulBegin content image db
    → AreWhole db (17 + length content) records laid end after → Holds bytes epoch image laid end after
store_found [] epoch sized content records image db after laid end opened first second begun whole = absurd first
store_found (open_gate ∷ bytes) epoch sized content records image db after laid end opened first second begun whole =
    let read = whole.are_read in
    let some : 1 ≤ length whole.rest = whole.some in
    let gate = get_or whole.rest 0 0 in
    let behind = drop 1 whole.rest in
    let tail = gate ∷ behind in
    let stored : Stored = record { epoch = epoch; image = content; payloads = read.payloads } in
    let front = number8-spelled epoch bytes sized first.0 in
    let long = number8-spelled (length content) sized second.0 second.1 in
    let split : records ≡ records_of read.payloads ++ tail = read.spelled ∙ ap (λ (l : List ℕ). records_of read.payloads ++ l) (drop_more whole.rest 0 0 (omega arith)) in
    let joined : second.0 ≡ (content ++ records_of read.payloads) ++ tail = second.2 ∙ ap (λ (rest : List ℕ). content ++ rest) split ∙ sym (append_assoc content (records_of read.payloads) tail) in
    let measured = long.0 ∙ ap (λ (rest : List ℕ). number_spelling 8 (length content) ++ rest) joined in
    let spelled : open_gate ∷ bytes ≡ in_front stored ++ tail = ap (λ (n : ℕ). n ∷ bytes) opened.gate ∙ ap (λ (rest : List ℕ). 1 ∷ rest) (front.0 ∙ ap (λ (rest : List ℕ). number_spelling 8 epoch ++ rest) measured) in
    record {
      stored = stored;
      says = record {
        storable = record { first = first.1; last = first.2; image = long.1; payloads = read.sizes };
        gate = gate;
        behind = behind;
        closed = whole.closed;
        spelled = spelled;
      };
      stored_as = record { is_image = begun.is_image; are_payloads = read.are_payloads };
      of_epoch = refl;
      up_to = read.up_to ∙ sym (length-in_front stored);
      offsets = read.offsets;
      store = record { begin = db; lawful = begun.lawful; followed = read.followed; number_is = ap (λ (n : ℕ). image.commits + n) (sym (length-map laid (λ one. one.commit))) };
    }

-- the parts of an area are as long as the area
pub area_long : (bytes : List ℕ) (epoch : ℕ) (sized content records : List ℕ) → IsEpoch bytes epoch sized → IsMeasured 8 content sized records → 17 + length content + length records ≡ length bytes
area_long [] epoch sized content records first image = absurd first
area_long (gate ∷ bytes) epoch sized content records first image =
    let front = number8-spelled epoch bytes sized first.0 in
    let size = number8-spelled (length content) sized image.0 image.1 in
    let one = ap (λ (bytes : List ℕ). length bytes) front.0 in
    let two = ap (λ (bytes : List ℕ). length bytes) size.0 in
    let three = ap (λ (bytes : List ℕ). length bytes) image.2 in
    let four = length-append content records in
    omega arith
