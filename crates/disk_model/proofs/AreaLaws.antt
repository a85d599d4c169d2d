-- An area says one thing at most, and two areas represent one thing at most.
use Rattle.std.proofs.Common.{◌≡◌, inl, inr, ℕ, ◌≤◌, List, [], ◌∷◌, ◌++◌, length, take, drop, get_or, refl, sym, ◌∙◌, ap, arith, append_assoc, length-append}
use Rattle.std.specs.Prelude.{All}
use Rattle.std.specs.Int.{w32, w64, bytes_high_first, from_be_bytes}
use Rattle.std.proofs.lemmas.List.{take_at, drop_at}
use Rattle.std.proofs.lemmas.List.Elements.{All-head, All-tail}
use Rattle.std.proofs.lemmas.Nat.{from_be_bytes-to_be_bytes_4, from_be_bytes-to_be_bytes_8}
use Rattle.own_model.specs.declared.limit.TheConstants.{PAYLOAD_BYTES}
use Rattle.disk_model.specs.Area.{IsChosen, IsOpened, IsStorable, Says, Represent, RepresentNothing, Stored, epoch_of, image_part, in_front}
use Rattle.disk_model.specs.Records.{IsPayloadSize, measured, record_of, records_of}

-- ---- records

-- what a record says before whatever stands behind it
first_length : (payload rest : List ℕ) → length payload ≤ PAYLOAD_BYTES → from_be_bytes w32 (take 4 (measured payload ++ rest)) ≡ length payload
first_length payload rest few = from_be_bytes-to_be_bytes_4 (length payload) (omega arith)

first_payload : (payload rest : List ℕ) → take (length payload) (drop 4 (measured payload ++ rest)) ≡ payload
first_payload payload rest = take_at payload rest (length payload) refl

past_payload : (payload rest : List ℕ) → drop (length payload) (drop 4 (measured payload ++ rest)) ≡ rest
past_payload payload rest = drop_at payload rest (length payload) refl

first_same : (p q rest_p rest_q : List ℕ) → length p ≤ PAYLOAD_BYTES → length q ≤ PAYLOAD_BYTES → measured p ++ rest_p ≡ measured q ++ rest_q → (p ≡ q) × (rest_p ≡ rest_q)
first_same p q rest_p rest_q few_p few_q same =
    let long : length p ≡ length q =
    sym (first_length p rest_p few_p) ∙ ap (λ l. from_be_bytes w32 (take 4 l)) same ∙ first_length q rest_q few_q in (
      sym (first_payload p rest_p) ∙ ap (λ n. take n (drop 4 (measured p ++ rest_p))) long ∙ ap (λ l. take (length q) (drop 4 l)) same ∙ first_payload q rest_q,
      sym (past_payload p rest_p) ∙ ap (λ n. drop n (drop 4 (measured p ++ rest_p))) long ∙ ap (λ l. drop (length q) (drop 4 l)) same ∙ past_payload q rest_q,
    )

-- a record in front of records
pub records_front : (payload : List ℕ) (payloads : List (List ℕ)) (tail : List ℕ) → records_of (payload ∷ payloads) ++ tail ≡ 1 ∷ (measured payload ++ (records_of payloads ++ tail))
records_front payload payloads tail = append_assoc (record_of payload) (records_of payloads) tail

tail_same : (x y : ℕ) (xs ys : List ℕ) → x ∷ xs ≡ y ∷ ys → xs ≡ ys
tail_same x y xs ys same = cc

head_same : (x y : ℕ) (xs ys : List ℕ) → x ∷ xs ≡ y ∷ ys → x ≡ y
head_same x y xs ys same = cc

pub records_same : (ps qs : List (List ℕ)) (gate_p gate_q : ℕ) (behind_p behind_q : List ℕ) → All IsPayloadSize ps → All IsPayloadSize qs
    → (gate_p ≡ 1 → ⊥) → (gate_q ≡ 1 → ⊥) → records_of ps ++ gate_p ∷ behind_p ≡ records_of qs ++ gate_q ∷ behind_q → ps ≡ qs
records_same [] [] gate_p gate_q behind_p behind_q sizes_p sizes_q closed_p closed_q same = refl
records_same [] (q ∷ qs) gate_p gate_q behind_p behind_q sizes_p sizes_q closed_p closed_q same =
    absurd (closed_p (head_same gate_p 1 behind_p _ (same ∙ records_front q qs (gate_q ∷ behind_q))))
records_same (p ∷ ps) [] gate_p gate_q behind_p behind_q sizes_p sizes_q closed_p closed_q same =
    absurd (closed_q (sym (head_same 1 gate_q _ behind_q (sym (records_front p ps (gate_p ∷ behind_p)) ∙ same))))
records_same (p ∷ ps) (q ∷ qs) gate_p gate_q behind_p behind_q sizes_p sizes_q closed_p closed_q same =
    let rest_p = records_of ps ++ gate_p ∷ behind_p in
    let rest_q = records_of qs ++ gate_q ∷ behind_q in
    let measured_same : measured p ++ rest_p ≡ measured q ++ rest_q =
    tail_same 1 1 (measured p ++ rest_p) (measured q ++ rest_q) (sym (records_front p ps (gate_p ∷ behind_p)) ∙ same ∙ records_front q qs (gate_q ∷ behind_q)) in
    let size_p = All-head IsPayloadSize p ps sizes_p in
    let size_q = All-head IsPayloadSize q qs sizes_q in
    let first = first_same p q rest_p rest_q size_p.few size_q.few measured_same in
    let rest : ps ≡ qs = records_same ps qs gate_p gate_q behind_p behind_q (All-tail IsPayloadSize p ps sizes_p) (All-tail IsPayloadSize q qs sizes_q) closed_p closed_q first.1 in
    ap (λ (l : List (List ℕ)). p ∷ l) rest ∙ ap (λ (l : List ℕ). l ∷ qs) first.0

-- ---- areas

module _ (stored : Stored) (tail : List ℕ) (storable : IsStorable stored) where
  epoch_front : epoch_of (in_front stored ++ tail) ≡ stored.epoch
  epoch_front = let last = storable.last in from_be_bytes-to_be_bytes_8 stored.epoch (omega arith)

  length_front : from_be_bytes w64 (take 8 (drop 9 (in_front stored ++ tail))) ≡ length stored.image
  length_front = from_be_bytes-to_be_bytes_8 (length stored.image) storable.image

  behind_header : drop 17 (in_front stored ++ tail) ≡ stored.image ++ (records_of stored.payloads ++ tail)
  behind_header = append_assoc stored.image (records_of stored.payloads) tail

  image_front : take (length stored.image) (drop 17 (in_front stored ++ tail)) ≡ stored.image
  image_front = ap (take (length stored.image)) behind_header ∙ take_at stored.image (records_of stored.payloads ++ tail) (length stored.image) refl

  behind_image : drop (length stored.image) (drop 17 (in_front stored ++ tail)) ≡ records_of stored.payloads ++ tail
  behind_image = ap (drop (length stored.image)) behind_header ∙ drop_at stored.image (records_of stored.payloads ++ tail) (length stored.image) refl

pub says_epoch : (bytes : List ℕ) (stored : Stored) → Says bytes stored → epoch_of bytes ≡ stored.epoch
says_epoch bytes stored says = ap epoch_of says.spelled ∙ epoch_front stored (says.gate ∷ says.behind) says.storable

pub says_opened : (bytes : List ℕ) (stored : Stored) → Says bytes stored → IsOpened bytes
says_opened bytes stored says =
    let long : length bytes ≡ length (in_front stored ++ says.gate ∷ says.behind) = ap length says.spelled in
    record {
      room = omega (arith, length-append (in_front stored) (says.gate ∷ says.behind), length-append (image_part stored) (records_of stored.payloads), length-append (1 ∷ bytes_high_first 8 stored.epoch ++ bytes_high_first 8 (length stored.image)) stored.image);
      gate = ap (λ (l : List ℕ). get_or l 0 0) says.spelled;
    }

stored_same : (s t : Stored) → s.epoch ≡ t.epoch → s.image ≡ t.image → s.payloads ≡ t.payloads → s ≡ t
stored_same s t epoch image payloads =
    ap (λ (n : ℕ). let made : Stored = record { epoch = n; image = s.image; payloads = s.payloads } in made) epoch
    ∙ ap (λ (l : List ℕ). let made : Stored = record { epoch = t.epoch; image = l; payloads = s.payloads } in made) image
    ∙ ap (λ (l : List (List ℕ)). let made : Stored = record { epoch = t.epoch; image = t.image; payloads = l } in made) payloads

-- an area says one thing at most
pub says_same : (bytes : List ℕ) (s t : Stored) → Says bytes s → Says bytes t → s ≡ t
says_same bytes s t says_s says_t =
    let tail_s = says_s.gate ∷ says_s.behind in
    let tail_t = says_t.gate ∷ says_t.behind in
    let same : in_front s ++ tail_s ≡ in_front t ++ tail_t = sym says_s.spelled ∙ says_t.spelled in
    let epoch : s.epoch ≡ t.epoch = sym (says_epoch bytes s says_s) ∙ says_epoch bytes t says_t in
    let long : length s.image ≡ length t.image =
    sym (length_front s tail_s says_s.storable) ∙ ap (λ l. from_be_bytes w64 (take 8 (drop 9 l))) same ∙ length_front t tail_t says_t.storable in
    let image : s.image ≡ t.image =
    sym (image_front s tail_s says_s.storable) ∙ ap (λ n. take n (drop 17 (in_front s ++ tail_s))) long ∙ ap (λ l. take (length t.image) (drop 17 l)) same ∙ image_front t tail_t says_t.storable in
    let behind : records_of s.payloads ++ tail_s ≡ records_of t.payloads ++ tail_t =
    sym (behind_image s tail_s says_s.storable) ∙ ap (λ n. drop n (drop 17 (in_front s ++ tail_s))) long ∙ ap (λ l. drop (length t.image) (drop 17 l)) same ∙ behind_image t tail_t says_t.storable in
    let payloads : s.payloads ≡ t.payloads =
    records_same s.payloads t.payloads says_s.gate says_t.gate says_s.behind says_t.behind says_s.storable.payloads says_t.storable.payloads says_s.closed says_t.closed behind in
    stored_same s t epoch image payloads

-- ---- two areas

-- each of two that are chosen would be of the lower epoch
not_both : (one other : List ℕ) (s t : Stored) → IsChosen s one other → IsChosen t other one → ⊥
not_both one other s t first second =
    let below = first.below (says_opened other t second.says) in
    let above = second.below (says_opened one s first.says) in
    let epoch_one = says_epoch one s first.says in
    let epoch_other = says_epoch other t second.says in
    omega arith

-- two areas represent one thing at most
pub represent_one : (a b : List ℕ) (s t : Stored) → Represent a b s → Represent a b t → s ≡ t
represent_one a b s t (inl first) (inl second) = says_same a s t first.says second.says
represent_one a b s t (inr first) (inr second) = says_same b s t first.says second.says
represent_one a b s t (inl first) (inr second) = absurd (not_both a b s t first second)
represent_one a b s t (inr first) (inl second) = absurd (not_both b a s t first second)

-- and where they represent something, they don't represent nothing
pub something_not_nothing : (a b : List ℕ) (stored : Stored) → Represent a b stored → RepresentNothing a b → ⊥
something_not_nothing a b stored (inl chosen) nothing = nothing.not_a (says_opened a stored chosen.says)
something_not_nothing a b stored (inr chosen) nothing = nothing.not_b (says_opened b stored chosen.says)
