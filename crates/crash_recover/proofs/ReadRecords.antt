-- The records of an area, as they are read one behind another.
use Rattle.std.proofs.Common.{◌≡◌, ℕ, ◌+◌, ◌-◌, ◌≤◌, ◌<◌, List, [], ◌∷◌, ◌++◌, length, get_or, drop, refl, sym, ap, subst, ◌∙◌, arith, append_assoc, length-append, length-drop}
use Rattle.std.specs.Prelude.{All}
use Rattle.std.proofs.lemmas.List.{drop_more, flat_map_more}
use Rattle.std.proofs.lemmas.List.Elements.{All-head, All-tail, All-nil, All-push}
use Rattle.own_model.specs.Db.{Db}
use Rattle.disk_model.specs.Follows.{Follows}
use Rattle.disk_model.specs.JudgedRecords.{AreRecords, Broken, IsBroken, IsRecord}
use Rattle.disk_model.specs.Payload.{IsPayload}
use Rattle.disk_model.specs.Records.{IsPayloadSize, measured, record_of, records_of}
use Rattle.disk_model.specs.Spelling.{number_spelling}
use Rattle.disk_model.specs.StoreOf.{AreFollowed, ArePayloads}
use Rattle.disk_model.proofs.AreaLaws.{records_front}
use Rattle.disk_model.proofs.Numbers.{number4-of_spelling, number4-spelled}
use Rattle.crash_recover.specs.declared.judged.LaidCommit.{LaidCommit}
use Rattle.crash_recover.specs.Records.{AreRead, AreWhole, IsBrokenBehind, IsNext}
use Rattle.crash_recover.specs.Recovered.{AreLaid, commits_of}

-- ---- one record

record_spelled : (payload bytes rest : List ℕ) → IsRecord payload bytes rest → bytes ≡ measured payload ++ rest
record_spelled payload bytes rest is =
    let size = number4-spelled (length payload) bytes is.1.0 is.1.1 in
    size.0 ∙ ap (λ (tail : List ℕ). number_spelling 4 (length payload) ++ tail) is.1.2

-- how long a record is with what stands behind it
pub record_long : (payload bytes rest : List ℕ) → IsRecord payload bytes rest → length bytes ≡ 4 + length payload + length rest
record_long payload bytes rest is = ap length (record_spelled payload bytes rest is) ∙ simp length-append (omega arith)

record_is : (payload rest : List ℕ) → IsPayloadSize payload → 1 ≤ length rest → IsRecord payload (measured payload ++ rest) rest
record_is payload rest size some = let few = size.few in (size, (payload ++ rest, number4-of_spelling (length payload) (payload ++ rest) (omega arith), refl, some))

-- ---- one more record

laid_more : (gate : ℕ) (laid : List LaidCommit) (payloads : List (List ℕ)) (one : LaidCommit) (payload : List ℕ) → AreLaid gate laid payloads → one.offset ≡ gate + length (records_of payloads) + 5
    → AreLaid gate (laid ++ one ∷ []) (payloads ++ payload ∷ [])
laid_more gate [] [] one payload are is = (omega arith, tt)
laid_more gate [] (p ∷ ps) one payload are is = absurd are
laid_more gate (x ∷ xs) [] one payload are is = absurd are
laid_more gate (x ∷ xs) (p ∷ ps) one payload are is =
    let long : length (records_of (p ∷ ps)) ≡ 5 + length p + length (records_of ps) = omega (arith, length-append (record_of p) (records_of ps), length-append (number_spelling 4 (length p)) p) in
    (are.0, laid_more (gate + 5 + length p) xs ps one payload are.1 (omega arith))

payloads_more : (laid : List LaidCommit) (payloads : List (List ℕ)) (one : LaidCommit) (payload : List ℕ) → ArePayloads (commits_of laid) payloads → IsPayload one.commit payload
    → ArePayloads (commits_of (laid ++ one ∷ [])) (payloads ++ payload ∷ [])
payloads_more [] [] one payload are is = (is, tt)
payloads_more [] (p ∷ ps) one payload are is = absurd are
payloads_more (x ∷ xs) [] one payload are is = absurd are
payloads_more (x ∷ xs) (p ∷ ps) one payload are is = (are.0, payloads_more xs ps one payload are.1 is)

followed_more : (db mid after : Db) (laid : List LaidCommit) (one : LaidCommit) → AreFollowed db (commits_of laid) mid → Follows mid one.commit after → AreFollowed db (commits_of (laid ++ one ∷ [])) after
followed_more db mid after [] one are is = (after, subst (λ (db : Db). Follows db one.commit after) are is, refl)
followed_more db mid after (x ∷ xs) one are is = (are.0, are.1, followed_more are.0 mid after xs one are.2 is)

-- before the first record nothing is read
pub none_read : (db : Db) (gate : ℕ) (bytes : List ℕ) → AreRead db gate bytes [] gate bytes db
none_read db gate bytes = record { payloads = []; sizes = All-nil IsPayloadSize; spelled = refl; up_to = omega arith; offsets = tt; are_payloads = tt; followed = refl }

-- behind an open gate one more is read
pub more_read : (db mid after : Db) (gate : ℕ) (bytes : List ℕ) (laid : List LaidCommit) (at : ℕ) (rest : List ℕ) (one : LaidCommit) (behind : List ℕ) → AreRead db gate bytes laid at rest mid → 1 ≤ length rest → get_or rest 0 0 ≡ 1
    → IsNext mid at (drop 1 rest) one behind after → AreRead db gate bytes (laid ++ one ∷ []) (at + (length rest - length behind)) behind after
more_read db mid after gate bytes laid at rest one behind read some opened next =
    let payload = next.payload in
    let front = records_of read.payloads in
    let split : rest ≡ 1 ∷ (measured payload ++ behind) =
    drop_more rest 0 0 (omega arith) ∙ ap (λ (n : ℕ). n ∷ drop 1 rest) opened ∙ ap (λ (l : List ℕ). 1 ∷ l) (record_spelled payload (drop 1 rest) behind next.is_record) in
    let joined : front ++ rest ≡ records_of (read.payloads ++ payload ∷ []) ++ behind =
    ap (λ (l : List ℕ). front ++ l) split ∙ sym (append_assoc front (record_of payload) behind) ∙ ap (λ (l : List ℕ). l ++ behind) (flat_map_more record_of [] read.payloads payload) in
    let long : length rest ≡ length (1 ∷ (measured payload ++ behind)) = ap length split in
    let whole : length (records_of (read.payloads ++ payload ∷ [])) ≡ length (front ++ record_of payload) = ap length (sym (flat_map_more record_of [] read.payloads payload)) in
    let up_to = read.up_to in
    let offset = next.offset in
    record {
      payloads = read.payloads ++ payload ∷ [];
      sizes = All-push IsPayloadSize read.payloads payload read.sizes next.is_record.0;
      spelled = read.spelled ∙ joined;
      up_to = omega (arith, length-append front (record_of payload), length-append (measured payload) behind);
      offsets = laid_more gate laid read.payloads one payload read.offsets (omega arith);
      are_payloads = payloads_more laid read.payloads one payload read.are_payloads next.lawful.is_payload;
      followed = followed_more db mid after laid one read.followed next.lawful.follows;
    }

-- fewer bytes stand behind it
pub next_shorter : (db after : Db) (at : ℕ) (rest : List ℕ) (one : LaidCommit) (behind : List ℕ) → 1 ≤ length rest → IsNext db at (drop 1 rest) one behind after → (1 ≤ length behind) × (length behind < length rest)
next_shorter db after at rest one behind some next =
    let long = record_long next.payload (drop 1 rest) behind next.is_record in
    (next.is_record.1.3, omega (arith, length-drop 1 rest))

-- ---- a closed gate

-- behind a closed gate nothing more is read
pub all_read : (db after : Db) (gate : ℕ) (bytes : List ℕ) (laid : List LaidCommit) (at : ℕ) (rest : List ℕ) → AreRead db gate bytes laid at rest after → 1 ≤ length rest → (get_or rest 0 0 ≡ 1 → ⊥) → AreWhole db gate bytes laid at after
all_read db after gate bytes laid at rest read some closed = record { rest = rest; are_read = read; some = some; closed = closed }

-- ---- a damaged record

some_behind : (front rest : List ℕ) → 1 ≤ length rest → 1 ≤ length (front ++ rest)
some_behind front rest some = omega (arith, length-append front rest)

broken_here : (db : Db) (at : ℕ) (rest : List ℕ) (offset : ℕ) → 1 ≤ length rest → get_or rest 0 0 ≡ 1 → IsBroken db at (drop 1 rest) offset → AreRecords db at rest [] (Broken offset)
broken_here db at [] offset some opened broken = absurd (omega arith)
broken_here db at (gate ∷ bytes) offset some opened broken = (opened, broken)

broken_after : (db mid : Db) (gate at : ℕ) (laid : List LaidCommit) (payloads : List (List ℕ)) (rest : List ℕ) (offset : ℕ) → All IsPayloadSize payloads → ArePayloads (commits_of laid) payloads → AreFollowed db (commits_of laid) mid
    → at ≡ gate + length (records_of payloads) → 1 ≤ length rest → AreRecords mid at rest [] (Broken offset) → AreRecords db gate (records_of payloads ++ rest) (commits_of laid) (Broken offset)
broken_after db mid gate at [] [] rest offset sizes are followed up_to some broken =
    subst (λ (db : Db). AreRecords db gate rest [] (Broken offset)) followed (subst (λ (at : ℕ). AreRecords mid at rest [] (Broken offset)) {x = at} {y = gate} (omega arith) broken)
broken_after db mid gate at [] (p ∷ ps) rest offset sizes are followed up_to some broken = absurd are
broken_after db mid gate at (x ∷ xs) [] rest offset sizes are followed up_to some broken = absurd are
broken_after db mid gate at (x ∷ xs) (p ∷ ps) rest offset sizes are followed up_to some broken =
    let behind = records_of ps ++ rest in
    let size = All-head IsPayloadSize p ps sizes in
    let long : length (records_of (p ∷ ps)) ≡ 5 + length p + length (records_of ps) = omega (arith, length-append (record_of p) (records_of ps), length-append (number_spelling 4 (length p)) p) in
    let later = broken_after followed.0 mid (gate + 5 + length p) at xs ps rest offset (All-tail IsPayloadSize p ps sizes) are.1 followed.2 (omega arith) some broken in
    subst (λ (bytes : List ℕ). AreRecords db gate bytes (commits_of (x ∷ xs)) (Broken offset)) (sym (records_front p ps rest))
    (refl, p, behind, followed.0, record_is p behind size (some_behind (records_of ps) rest some), record { is_payload = are.0; follows = followed.1 }, later)

-- a damaged record behind those that are read
pub broken_behind : (db mid : Db) (gate : ℕ) (bytes : List ℕ) (laid : List LaidCommit) (at : ℕ) (rest : List ℕ) (offset : ℕ) → AreRead db gate bytes laid at rest mid → 1 ≤ length rest → get_or rest 0 0 ≡ 1
    → IsBroken mid at (drop 1 rest) offset → IsBrokenBehind db gate bytes offset
broken_behind db mid gate bytes laid at rest offset read some opened broken = (
  commits_of laid,
  subst (λ (bytes : List ℕ). AreRecords db gate bytes (commits_of laid) (Broken offset)) (sym read.spelled)
      (broken_after db mid gate at laid read.payloads rest offset read.sizes read.are_payloads read.followed read.up_to some (broken_here mid at rest offset some opened broken)),
)
