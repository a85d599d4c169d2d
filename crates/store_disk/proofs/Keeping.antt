-- What a journal keeps after a commit more, and after its database was laid anew.
use Rattle.std.proofs.Common.{◌≡◌, ℕ, ◌+◌, ◌-◌, ◌≤◌, inl, inr, List, [], ◌∷◌, ◌++◌, length, refl, sym, ap, ◌∙◌, subst, arith, append_assoc}
use Rattle.std.specs.Prelude.{take, drop}
use Rattle.std.proofs.lemmas.List.{length-append}
use Rattle.std.proofs.Math.Seq.{take-append_seam}
use Rattle.own_base.specs.declared.number.Area.{Area}
use Rattle.own_model.specs.Db.{Db}
use Rattle.own_model.specs.declared.limit.TheConstants.{JOURNAL_ROOM}
use Rattle.state_model.specs.Sound.{Sound}
use Rattle.crash_model.proofs.StoreLemmas.{represented-store}
use Rattle.commit_journal.specs.JournalState.{RepresentEither, Rests}
use Rattle.commit_journal.specs.declared.journal.Journal.{Journal}
use Rattle.disk_model.specs.declared.commit.Commit.{Commit}
use Rattle.disk_model.specs.declared.image.Image.{Image}
use Rattle.disk_model.specs.Area.{IsGated, Stored, image_of, laid, with_payload}
use Rattle.disk_model.specs.Follows.{Follows}
use Rattle.disk_model.specs.Image.{IsImage}
use Rattle.disk_model.specs.Payload.{IsPayload}
use Rattle.disk_model.specs.Records as records
use Rattle.disk_model.specs.Records.{measured, payload_of}
use Rattle.disk_model.specs.Spelling.{number_spelling}
use Rattle.disk_model.specs.StoreOf.{AreFollowed, ArePayloads, IsStoreOf, IsStoredAs}
use Rattle.disk_model.proofs.Numbers.{number4-spelled}
use Rattle.rec_codec.specs.Framed.{IsFramed}
use Rattle.check_image.specs.Gated.{IsGatedImage, image_from}
use Rattle.store_disk.specs.Kept.{IsEither, IsKept}
use Rattle.store_disk.proofs.Lawful.{ReadBack, lawful-image}

-- ---- a record

payload-some : (commit : Commit) (payload : List ℕ) → IsPayload commit payload → 1 ≤ length payload
payload-some commit [] is = absurd is
payload-some commit (kind ∷ bytes) is = omega arith

-- framed bytes begin with the length of the payload, and end with a closed gate
framed_bytes : (commit : Commit) (framed : List ℕ) (is : IsFramed commit framed) → framed ≡ measured is.payload ++ 0 ∷ []
framed_bytes commit framed is =
    (number4-spelled (length is.payload) framed (is.payload ++ 0 ∷ []) is.parts).0 ∙ sym (append_assoc (number_spelling 4 (length is.payload)) is.payload (0 ∷ []))

less_one : (n : ℕ) → n + 1 - 1 ≡ n
less_one n = omega arith

-- the payload lies between
payload-between : (payload framed : List ℕ) → framed ≡ measured payload ++ 0 ∷ [] → payload_of framed ≡ payload
payload-between payload framed is =
    let long : length framed - 1 ≡ length (measured payload) = ap (λ (bytes : List ℕ). length bytes - 1) is ∙ ap (λ n. n - 1) (length-append (measured payload) (0 ∷ [])) ∙ less_one (length (measured payload)) in
    let front : take (length framed - 1) framed ≡ measured payload = ap (λ n. take n framed) long ∙ ap (take (length (measured payload))) is ∙ take-append_seam (measured payload) (0 ∷ []) in
    ap (drop 4) front

pub payload-is : (commit : Commit) (framed : List ℕ) (is : IsFramed commit framed) → payload_of framed ≡ is.payload
payload-is commit framed is = payload-between is.payload framed (framed_bytes commit framed is)

-- as a journal asks for them
pub record-framed : (commit : Commit) (framed : List ℕ) → IsFramed commit framed → records.IsFramed framed
record-framed commit framed is =
    let same = payload-is commit framed is in
    record {
      size = subst records.IsPayloadSize (sym same) (record { some = payload-some commit is.payload is.is_payload; few = is.few });
      bytes = framed_bytes commit framed is ∙ ap (λ payload. measured payload ++ 0 ∷ []) (sym same);
    }

-- ---- a commit more

payloads-more : (commits : List Commit) (payloads : List (List ℕ)) (commit : Commit) (payload : List ℕ) → ArePayloads commits payloads → IsPayload commit payload
    → ArePayloads (commits ++ commit ∷ []) (payloads ++ payload ∷ [])
payloads-more [] [] commit payload are is = (is, tt)
payloads-more [] (p ∷ ps) commit payload are is = absurd are
payloads-more (c ∷ cs) [] commit payload are is = absurd are
payloads-more (c ∷ cs) (p ∷ ps) commit payload are is = (are.0, payloads-more cs ps commit payload are.1 is)

followed-more : (db : Db) (commits : List Commit) (before : Db) (commit : Commit) (after : Db) → AreFollowed db commits before → Follows before commit after → AreFollowed db (commits ++ commit ∷ []) after
followed-more db [] before commit after same follows = (after, subst (λ (db : Db). Follows db commit after) same follows, refl)
followed-more db (c ∷ cs) before commit after followed follows = (followed.0, followed.1, followed-more followed.0 cs before commit after followed.2 follows)

store-more : (image : Image) (commits : List Commit) (db : Db) (number : ℕ) (commit : Commit) (after : Db) → IsStoreOf image commits db number → Follows db commit after
    → IsStoreOf image (commits ++ commit ∷ []) after (number + 1)
store-more image commits db number commit after is follows =
    let long = length-append commits (commit ∷ []) in
    let was = is.number_is in
    record { begin = is.begin; lawful = is.lawful; followed = followed-more is.begin commits db commit after is.followed follows; number_is = omega arith }

stored-more : (stored : Stored) (image : Image) (commits : List Commit) (commit : Commit) (framed : List ℕ) → IsStoredAs stored image commits → IsFramed commit framed
    → IsStoredAs (with_payload stored (payload_of framed)) image (commits ++ commit ∷ [])
stored-more stored image commits commit framed are is = record {
  is_image = are.is_image;
  are_payloads = payloads-more commits stored.payloads commit (payload_of framed) are.are_payloads (subst (IsPayload commit) (sym (payload-is commit framed is)) is.is_payload);
}

-- the image in front of a closed gate
pub image-between : (image gated : List ℕ) → gated ≡ image ++ 0 ∷ [] → image_of gated ≡ image
image-between image gated is =
    let long : length gated - 1 ≡ length image = ap (λ (bytes : List ℕ). length bytes - 1) is ∙ ap (λ n. n - 1) (length-append image (0 ∷ [])) ∙ less_one (length image) in
    ap (λ n. take n gated) long ∙ ap (take (length image)) is ∙ take-append_seam image (0 ∷ [])

-- as a journal asks for it
pub image-gated : (db : Db) (number : ℕ) (gated : List ℕ) → IsGatedImage db number gated → IsGated gated
image-gated db number gated is = record { bytes = is.parts ∙ ap (λ image. image ++ 0 ∷ []) (sym (image-between is.image gated is.parts)) }

module _ {D : Type 0} (holds : D → Area → List ℕ) (leaves : D → Area → List ℕ → Type 0) where
  -- after a record the journal keeps what its commit leads to
  pub kept-appended : (old new : Journal D) (db after : Db) (number : ℕ) (commit : Commit) (framed : List ℕ) (kept : IsKept holds leaves old db number) → IsFramed commit framed → Follows db commit after
      → Rests holds leaves new (with_payload kept.stored (payload_of framed)) → IsKept holds leaves new after (number + 1)
  kept-appended old new db after number commit framed kept is follows rests = record {
    stored = with_payload kept.stored (payload_of framed);
    image = kept.image;
    behind = kept.behind ++ commit ∷ [];
    rests = rests;
    stored_as = stored-more kept.stored kept.image kept.behind commit framed kept.stored_as is;
    store = store-more kept.image kept.behind db number commit after kept.store follows;
  }

  -- what a crash leaves on the way is the one store or the other
  pub either-left : (old : Journal D) (db after : Db) (number : ℕ) (commit : Commit) (framed : List ℕ) (kept : IsKept holds leaves old db number) → IsFramed commit framed → Follows db commit after
      → (a b : List ℕ) → RepresentEither kept.stored (with_payload kept.stored (payload_of framed)) a b → IsEither db number after (number + 1) a b
  either-left old db after number commit framed kept is follows a b (inl before) = inl (represented-store a b kept.stored kept.image kept.behind db number before kept.stored_as kept.store)
  either-left old db after number commit framed kept is follows a b (inr then) =
      inr (represented-store a b (with_payload kept.stored (payload_of framed)) kept.image (kept.behind ++ commit ∷ []) after (number + 1) then
      (stored-more kept.stored kept.image kept.behind commit framed kept.stored_as is) (store-more kept.image kept.behind db number commit after kept.store follows))

  -- ---- laid anew

  -- the image in front of the gate is that of the database
  image-laid : (db : Db) (number : ℕ) (gated : List ℕ) → number ≤ JOURNAL_ROOM → IsGatedImage db number gated → IsImage (image_from db number) (image_of gated)
  image-laid db number gated few is = subst (IsImage (image_from db number)) (sym (image-between is.image gated is.parts)) (is.is_image few)

  laid-stored : (db : Db) (number epoch : ℕ) (gated : List ℕ) → number ≤ JOURNAL_ROOM → IsGatedImage db number gated → IsStoredAs (laid epoch gated) (image_from db number) []
  laid-stored db number epoch gated few is = record { is_image = image-laid db number gated few is; are_payloads = tt }

  laid-store : ReadBack → (db : Db) (number : ℕ) (gated : List ℕ) → Sound db → number ≤ JOURNAL_ROOM → IsGatedImage db number gated → IsStoreOf (image_from db number) [] db number
  laid-store reads_back db number gated sound few is = record {
    begin = db;
    lawful = lawful-image reads_back db number is.image sound (is.is_image few);
    followed = refl;
    number_is = omega arith;
  }

  pub kept-laid : ReadBack → (new : Journal D) (db : Db) (number epoch : ℕ) (gated : List ℕ) → Sound db → number ≤ JOURNAL_ROOM → IsGatedImage db number gated
      → Rests holds leaves new (laid epoch gated) → IsKept holds leaves new db number
  kept-laid reads_back new db number epoch gated sound few is rests = record {
    stored = laid epoch gated;
    image = image_from db number;
    behind = [];
    rests = rests;
    stored_as = laid-stored db number epoch gated few is;
    store = laid-store reads_back db number gated sound few is;
  }

  -- and a crash on the way leaves the store that was there, or that one
  pub either-laid : ReadBack → (old : Journal D) (db : Db) (commits : ℕ) (next : Db) (number epoch : ℕ) (gated : List ℕ) (kept : IsKept holds leaves old db commits) → Sound next → number ≤ JOURNAL_ROOM
      → IsGatedImage next number gated → (a b : List ℕ) → RepresentEither kept.stored (laid epoch gated) a b → IsEither db commits next number a b
  either-laid reads_back old db commits next number epoch gated kept sound few is a b (inl before) =
      inl (represented-store a b kept.stored kept.image kept.behind db commits before kept.stored_as kept.store)
  either-laid reads_back old db commits next number epoch gated kept sound few is a b (inr then) =
      inr (represented-store a b (laid epoch gated) (image_from next number) [] next number then (laid-stored next number epoch gated few is) (laid-store reads_back next number gated sound few is))
