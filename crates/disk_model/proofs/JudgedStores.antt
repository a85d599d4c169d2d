-- Two areas are judged a store exactly where they represent a lawful image and lawful commits.
use Rattle.std.proofs.Common.{◌≡◌, inl, inr, ℕ, ◌+◌, ◌≤◌, ◌<◌, ◌^◌, List, [], ◌∷◌, ◌++◌, length, refl, sym, ap, subst, ◌∙◌, arith, rules, append_assoc, length-append}
use Rattle.std.specs.Prelude.{All}
use Rattle.std.proofs.lemmas.List.Elements.{All-head, All-tail, All-cons}
use Rattle.own_base.specs.declared.number.Area.{Area}
use Rattle.own_base.specs.declared.number.Area.TheVariants.{A, B}
use Rattle.own_model.specs.declared.limit.TheConstants.{JOURNAL_ROOM}
use Rattle.own_model.specs.Db.{Db}
use Rattle.disk_model.specs.declared.commit.Commit.{Commit}
use Rattle.disk_model.specs.declared.image.Image.{Image}
use Rattle.disk_model.specs.Area.{IsBelow, IsChosen, IsOpened, Represent, Says, Stored, epoch_of, in_front}
use Rattle.disk_model.specs.Gate.{IsClosedGate}
use Rattle.disk_model.specs.Image.{IsImage}
use Rattle.disk_model.specs.Judged.{IsJudged}
use Rattle.disk_model.specs.JudgedArea.{HasEpoch, IsAreaJudged, IsImageJudged, IsLengthJudged, Judged, Store, judged_as}
use Rattle.disk_model.specs.JudgedRecords.{AreRecords, Broken, Closed, End, IsRecord}
use Rattle.disk_model.specs.Lawful.{IsLawfulImage}
use Rattle.disk_model.specs.Records.{IsPayloadSize, measured, records_of}
use Rattle.disk_model.specs.Spelling.{number_spelling}
use Rattle.disk_model.specs.StoreOf.{AreFollowed, ArePayloads, IsStoreOf, IsStoredAs}
use Rattle.disk_model.proofs.AreaLaws.{records_front, says_epoch, says_opened}
use Rattle.disk_model.proofs.Numbers.{number4-of_spelling, number4-spelled, number8-of_spelling, number8-spelled}

-- ---- from what is represented to what is judged

some_behind : (front behind : List ℕ) (gate : ℕ) → 1 ≤ length (front ++ gate ∷ behind)
some_behind front behind gate = omega (arith, length-append front (gate ∷ behind))

record_is : (payload rest : List ℕ) → IsPayloadSize payload → 1 ≤ length rest → IsRecord payload (measured payload ++ rest) rest
record_is payload rest size some = let few = size.few in (size, (payload ++ rest, number4-of_spelling (length payload) (payload ++ rest) (omega arith), refl, some))

records_are : (db after : Db) (at gate : ℕ) (behind : List ℕ) (commits : List Commit) (payloads : List (List ℕ)) → IsClosedGate gate → All IsPayloadSize payloads → ArePayloads commits payloads → AreFollowed db commits after
    → AreRecords db at (records_of payloads ++ gate ∷ behind) commits Closed
records_are db after at gate behind [] [] closed sizes are followed = closed
records_are db after at gate behind [] (p ∷ ps) closed sizes are followed = absurd are
records_are db after at gate behind (c ∷ cs) [] closed sizes are followed = absurd are
records_are db after at gate behind (c ∷ cs) (p ∷ ps) closed sizes are followed =
    let rest = records_of ps ++ gate ∷ behind in
    let size = All-head IsPayloadSize p ps sizes in
    let later = records_are followed.0 after (at + 5 + length p) gate behind cs ps closed (All-tail IsPayloadSize p ps sizes) are.1 followed.2 in
    subst (λ (bytes : List ℕ). AreRecords db at bytes (c ∷ cs) Closed) (sym (records_front p ps (gate ∷ behind)))
    (refl, p, rest, followed.0, record_is p rest size (some_behind (records_of ps) behind gate), record { is_payload = are.0; follows = followed.1 }, later)

area_is : (area : Area) (bytes : List ℕ) (stored : Stored) (image : Image) (commits : List Commit) (db : Db) (number : ℕ) → Says bytes stored → IsStoredAs stored image commits → IsStoreOf image commits db number
    → IsAreaJudged area bytes (Store image commits)
area_is area bytes stored image commits db number says are store =
    let rest = records_of stored.payloads ++ says.gate ∷ says.behind in
    let sized = number_spelling 8 (length stored.image) ++ (stored.image ++ rest) in
    let last = says.storable.last in
    let apart : bytes ≡ 1 ∷ (number_spelling 8 stored.epoch ++ sized) =
    says.spelled ∙ ap (λ (tail : List ℕ). 1 ∷ (number_spelling 8 stored.epoch ++ (number_spelling 8 (length stored.image) ++ tail))) (append_assoc stored.image (records_of stored.payloads) (says.gate ∷ says.behind)) in
    let records = records_are store.begin db (17 + length stored.image) says.gate says.behind commits stored.payloads says.closed says.storable.payloads are.are_payloads store.followed in
    let begun : IsImageJudged area stored.image rest (Store image commits) = inl (image, store.begin, commits, Closed, record { is_image = are.is_image; lawful = store.lawful }, records, refl) in
    let long : IsLengthJudged area sized (Store image commits) =
    inl (stored.image, rest, (stored.image ++ rest, number8-of_spelling (length stored.image) (stored.image ++ rest) says.storable.image, refl, some_behind (records_of stored.payloads) says.behind says.gate), begun) in
    let epoch : HasEpoch (1 ∷ (number_spelling 8 stored.epoch ++ sized)) sized = (stored.epoch, number8-of_spelling stored.epoch sized (omega arith), says.storable.first, says.storable.last) in
    subst (λ (bytes : List ℕ). IsAreaJudged area bytes (Store image commits)) (sym apart) (inl (sized, epoch, long))

below_is : (one other : List ℕ) (stored : Stored) → IsChosen stored one other → IsBelow other (epoch_of one)
below_is one other stored chosen = subst (IsBelow other) (sym (says_epoch one stored chosen.says)) chosen.below

pub represented-judged : (a b : List ℕ) (stored : Stored) (image : Image) (commits : List Commit) (db : Db) (number : ℕ) → Represent a b stored → IsStoredAs stored image commits → IsStoreOf image commits db number
    → IsJudged a b (Store image commits)
represented-judged a b stored image commits db number (inl chosen) are store =
    inr (inl (says_opened a stored chosen.says, below_is a b stored chosen, area_is A a stored image commits db number chosen.says are store))
represented-judged a b stored image commits db number (inr chosen) are store =
    inr (inr (inl (says_opened b stored chosen.says, below_is b a stored chosen, area_is B b stored image commits db number chosen.says are store)))

-- ---- and back

abbrev IsStore : Judged → Type 0
IsStore (Store image commits) = Unit {0}
IsStore _ = ⊥

image_same : (one other : Image) (commits others : List Commit) → Store one commits ≡ Store other others → other ≡ one
image_same one other commits others same = cc

commits_same : (one other : Image) (commits others : List Commit) → Store one commits ≡ Store other others → others ≡ commits
commits_same one other commits others same = cc

closed_end : (area : Area) (image found : Image) (commits others : List Commit) (end : End) → Store image commits ≡ judged_as area found others end → (found ≡ image) × (others ≡ commits) × (end ≡ Closed)
closed_end area image found commits others Closed same = (image_same image found commits others same, commits_same image found commits others same, refl)
closed_end area image found commits others (Broken offset) same = absurd (subst IsStore same tt)

-- the payloads of records up to a closed gate, and what their commits lead to
record AreFound (db : Db) (bytes : List ℕ) (commits : List Commit) : Type 0 where
  payloads : List (List ℕ)
  gate : ℕ
  behind : List ℕ
  after : Db
  closed : IsClosedGate gate
  sizes : All IsPayloadSize payloads
  spelled : bytes ≡ records_of payloads ++ gate ∷ behind
  are : ArePayloads commits payloads
  followed : AreFollowed db commits after

record_spelled : (payload bytes rest : List ℕ) → IsRecord payload bytes rest → bytes ≡ measured payload ++ rest
record_spelled payload bytes rest is =
    let size = number4-spelled (length payload) bytes is.1.0 is.1.1 in
    size.0 ∙ ap (λ (tail : List ℕ). number_spelling 4 (length payload) ++ tail) is.1.2

records_found : (db : Db) (at : ℕ) (bytes : List ℕ) (commits : List Commit) → AreRecords db at bytes commits Closed → AreFound db bytes commits
records_found db at [] commits is = absurd is
records_found db at (gate ∷ bytes) [] is =
    record { payloads = []; gate = gate; behind = bytes; after = db; closed = is; sizes = search rules; spelled = refl; are = tt; followed = refl }
records_found db at (gate ∷ bytes) (commit ∷ commits) is =
    let later = records_found is.3 (at + 5 + length is.1) is.2 commits is.6 in
    let front : gate ∷ bytes ≡ 1 ∷ (measured is.1 ++ is.2) = ap (λ (n : ℕ). n ∷ bytes) is.0 ∙ ap (λ (tail : List ℕ). 1 ∷ tail) (record_spelled is.1 bytes is.2 is.4) in
    record {
      payloads = is.1 ∷ later.payloads;
      gate = later.gate;
      behind = later.behind;
      after = later.after;
      closed = later.closed;
      sizes = All-cons IsPayloadSize is.1 later.payloads is.4.0 later.sizes;
      spelled = front ∙ ap (λ (rest : List ℕ). 1 ∷ (measured is.1 ++ rest)) later.spelled ∙ sym (records_front is.1 later.payloads (later.gate ∷ later.behind));
      are = (is.5.is_payload, later.are);
      followed = (is.3, is.5.follows, later.followed);
    }

-- what an opened area says that is judged a store
record IsFound (bytes : List ℕ) (image : Image) (commits : List Commit) : Type 0 where
  stored : Stored
  says : Says bytes stored
  are : IsStoredAs stored image commits
  db : Db
  number : ℕ
  store : IsStoreOf image commits db number

image_found : (area : Area) (gate : ℕ) (bytes content rest middle more : List ℕ) (image : Image) (commits : List Commit) (epoch : ℕ) → gate ≡ 1 → bytes ≡ number_spelling 8 epoch ++ rest → 1 ≤ epoch → epoch ≤ JOURNAL_ROOM
    → rest ≡ number_spelling 8 (length content) ++ middle → length content < 2 ^ 64 → middle ≡ content ++ more → IsImageJudged area content more (Store image commits) → IsFound (gate ∷ bytes) image commits
image_found area gate bytes content rest middle more image commits epoch opened first least most second long third (inr damaged) = absurd (subst IsStore damaged.1 tt)
image_found area gate bytes content rest middle more image commits epoch opened first least most second long third (inl is) =
    let ends = closed_end area image is.0 commits is.2 is.3 is.6 in
    let records = records_found is.1 (17 + length content) more is.2 (subst (AreRecords is.1 (17 + length content) more is.2) ends.2 is.5) in
    let stored : Stored = record { epoch = epoch; image = content; payloads = records.payloads } in
    let tail = records.gate ∷ records.behind in
    let joined : middle ≡ (content ++ records_of records.payloads) ++ tail = third ∙ ap (λ (rest : List ℕ). content ++ rest) records.spelled ∙ sym (append_assoc content (records_of records.payloads) tail) in
    let sized = second ∙ ap (λ (rest : List ℕ). number_spelling 8 (length content) ++ rest) joined in
    let spelled : gate ∷ bytes ≡ in_front stored ++ tail = ap (λ (n : ℕ). n ∷ bytes) opened ∙ ap (λ (rest : List ℕ). 1 ∷ rest) (first ∙ ap (λ (rest : List ℕ). number_spelling 8 epoch ++ rest) sized) in
    record {
      stored = stored;
      says = record {
        storable = record { first = least; last = most; image = long; payloads = records.sizes };
        gate = records.gate;
        behind = records.behind;
        closed = records.closed;
        spelled = spelled;
      };
      are = record {
        is_image = subst (λ (image : Image). IsImage image content) ends.0 is.4.is_image;
        are_payloads = subst (λ (commits : List Commit). ArePayloads commits records.payloads) ends.1 records.are;
      };
      db = records.after;
      number = image.commits + length commits;
      store = record {
        begin = is.1;
        lawful = subst (λ (image : Image). IsLawfulImage image is.1) ends.0 is.4.lawful;
        followed = subst (λ (commits : List Commit). AreFollowed is.1 commits records.after) ends.1 records.followed;
        number_is = refl;
      };
    }

length_found : (area : Area) (gate : ℕ) (bytes rest : List ℕ) (image : Image) (commits : List Commit) → gate ≡ 1 → HasEpoch (gate ∷ bytes) rest → IsLengthJudged area rest (Store image commits) → IsFound (gate ∷ bytes) image commits
length_found area gate bytes rest image commits opened epoch (inr damaged) = absurd (subst IsStore damaged.1 tt)
length_found area gate bytes rest image commits opened epoch (inl is) =
    let first = number8-spelled epoch.0 bytes rest epoch.1 in
    let second = number8-spelled (length is.0) rest is.2.0 is.2.1 in
    image_found area gate bytes is.0 rest is.2.0 is.1 image commits epoch.0 opened first.0 epoch.2 epoch.3 second.0 second.1 is.2.2 is.3

area_found : (area : Area) (bytes : List ℕ) (image : Image) (commits : List Commit) → IsOpened bytes → IsAreaJudged area bytes (Store image commits) → IsFound bytes image commits
area_found area bytes image commits opened (inr damaged) = absurd (subst IsStore damaged.1 tt)
area_found area [] image commits opened (inl is) = absurd is.1
area_found area (gate ∷ bytes) image commits opened (inl is) = length_found area gate bytes is.0 image commits opened.gate is.1 is.2

chosen_is : (one other : List ℕ) (image : Image) (commits : List Commit) (found : IsFound one image commits) → IsBelow other (epoch_of one) → IsChosen found.stored one other
chosen_is one other image commits found below = record { says = found.says; below = subst (IsBelow other) (says_epoch one found.stored found.says) below }

-- two areas that are judged a store represent it
pub judged-represented : (a b : List ℕ) (image : Image) (commits : List Commit) → IsJudged a b (Store image commits)
    → (stored : Stored) × (db : Db) × (number : ℕ) × Represent a b stored × IsStoredAs stored image commits × IsStoreOf image commits db number
judged-represented a b image commits (inl nothing) = absurd (subst IsStore nothing.1 tt)
judged-represented a b image commits (inr (inl is)) =
    let found = area_found A a image commits is.0 is.2 in
    (found.stored, found.db, found.number, inl (chosen_is a b image commits found is.1), found.are, found.store)
judged-represented a b image commits (inr (inr (inl is))) =
    let found = area_found B b image commits is.0 is.2 in
    (found.stored, found.db, found.number, inr (chosen_is b a image commits found is.1), found.are, found.store)
judged-represented a b image commits (inr (inr (inr both))) = absurd (subst IsStore both.3 tt)
