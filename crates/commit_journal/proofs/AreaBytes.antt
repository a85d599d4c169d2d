-- The bytes of journal areas, and what becomes of them.
use Rattle.std.proofs.Common.{◌≡◌, ◌≢◌, ◌⊎◌, inl, inr, ℕ, ◌+◌, ◌-◌, ◌≤◌, ◌<◌, List, [], ◌∷◌, ◌++◌, length, take, drop, get_or, refl, sym, ◌∙◌, ap, subst, arith, append_assoc, length-append, length-drop, take-append-drop}
use Rattle.std.specs.Prelude.{slice_index}
use Rattle.std.specs.Int.{w64, bytes_high_first, from_be_bytes}
use Rattle.std.proofs.lemmas.Bool.{cases_eq}
use Rattle.std.proofs.lemmas.List.{take_at, drop_at, drop_more, append-nil, get_or-take, flat_map_more}
use Rattle.std.proofs.lemmas.List.Elements.{All-append, All-nil, All-cons}
use Rattle.own_base.specs.declared.number.Area.{Area}
use Rattle.own_base.specs.declared.number.Area.TheVariants.{A, B}
use Rattle.outer_world.specs.OtherArea.{other_of, bytes_in}
use Rattle.outer_world.specs.Overwritten.{overwritten}
use Rattle.outer_world.specs.Torn.{Torn}
use Rattle.outer_world.specs.TornCut.{TornCut}
use Rattle.own_model.specs.declared.limit.TheConstants.{JOURNAL_ROOM}
use Rattle.disk_model.specs.Area.{IsBelow, IsGated, IsOpened, IsStorable, Says, Represent, RepresentNothing, Stored, epoch_of, image_of, image_part, in_front, laid, with_payload}
use Rattle.disk_model.specs.Records.{IsFramed, IsPayloadSize, measured, payload_of, record_of, records_of}
use Rattle.commit_journal.specs.AreaCalls.{IsAdding, IsFront}
use Rattle.commit_journal.specs.Filled.{IsFilling}
use Rattle.commit_journal.specs.Retired.{IsRetiring}

-- ---- a gate between what is in front of it and what is behind

module _ (front : List ℕ) (place : ℕ) (long : length front ≡ place) where
  pub through_gate : (gate : ℕ) (behind : List ℕ) → take (place + 1) (front ++ gate ∷ behind) ≡ front ++ gate ∷ []
  through_gate gate behind =
      let one : length (front ++ gate ∷ []) ≡ place + 1 = omega (arith, length-append front (gate ∷ [])) in
      ap (take (place + 1)) (sym (append_assoc front (gate ∷ []) behind)) ∙ take_at (front ++ gate ∷ []) behind (place + 1) one

  pub past_gate : (gate : ℕ) (behind : List ℕ) → drop (place + 1) (front ++ gate ∷ behind) ≡ behind
  past_gate gate behind =
      let one : length (front ++ gate ∷ []) ≡ place + 1 = omega (arith, length-append front (gate ∷ [])) in
      ap (drop (place + 1)) (sym (append_assoc front (gate ∷ []) behind)) ∙ drop_at (front ++ gate ∷ []) behind (place + 1) one

  -- whatever stands behind the gate is put in its place
  pub behind_gate : (gate : ℕ) (behind new : List ℕ) → take (place + 1) new ≡ take (place + 1) (front ++ gate ∷ behind) → new ≡ front ++ gate ∷ drop (place + 1) new
  behind_gate gate behind new same =
      sym (take-append-drop (place + 1) new) ∙ ap (λ (l : List ℕ). l ++ drop (place + 1) new) (same ∙ through_gate gate behind)
      ∙ append_assoc front (gate ∷ []) (drop (place + 1) new)

  -- a write behind the gate
  pub written_behind : (gate : ℕ) (behind bytes : List ℕ) → overwritten (front ++ gate ∷ behind) (place + 1) bytes
      ≡ front ++ gate ∷ (bytes ++ drop (place + 1 + length bytes) (front ++ gate ∷ behind))
  written_behind gate behind bytes =
      let rest = drop (place + 1 + length bytes) (front ++ gate ∷ behind) in
      ap (λ (l : List ℕ). l ++ bytes ++ rest) (through_gate gate behind)
      ∙ append_assoc (front ++ gate ∷ []) bytes rest ∙ append_assoc front (gate ∷ []) (bytes ++ rest)

  -- a write of the gate, torn or whole
  pub torn_gate : (gate : ℕ) (behind new : List ℕ) → Torn place 1 (front ++ gate ∷ behind) new → new ≡ front ++ get_or new place 0 ∷ behind
  torn_gate gate behind new torn =
      let old : length (front ++ gate ∷ behind) ≡ place + 1 + length behind = omega (arith, length-append front (gate ∷ behind)) in
      let longer = torn.no_shorter in
      let within : place < length new = omega arith in
      let first : take place new ≡ front = torn.front ∙ take_at front (gate ∷ behind) place long in
      let rest : drop place new ≡ get_or new place 0 ∷ behind = drop_more new place 0 within ∙ ap (λ (l : List ℕ). get_or new place 0 ∷ l) (torn.behind ∙ past_gate gate behind) in
      sym (take-append-drop place new) ∙ ap (λ (l : List ℕ). l ++ drop place new) first ∙ ap (λ (l : List ℕ). front ++ l) rest

  pub written_gate : (gate byte : ℕ) (behind : List ℕ) → overwritten (front ++ gate ∷ behind) place (byte ∷ []) ≡ front ++ byte ∷ behind
  written_gate gate byte behind =
      ap (λ (l : List ℕ). l ++ (byte ∷ []) ++ drop (place + 1) (front ++ gate ∷ behind)) (take_at front (gate ∷ behind) place long)
      ∙ ap (λ (l : List ℕ). front ++ (byte ∷ []) ++ l) (past_gate gate behind) ∙ append_assoc front (byte ∷ []) behind

-- ---- areas that say something

pub length-image_part : (stored : Stored) → length (image_part stored) ≡ 17 + length stored.image
length-image_part stored = omega (arith, length-append (1 ∷ bytes_high_first 8 stored.epoch ++ bytes_high_first 8 (length stored.image)) stored.image)

pub length-in_front : (stored : Stored) → length (in_front stored) ≡ 17 + length stored.image + length (records_of stored.payloads)
length-in_front stored = omega (arith, length-image_part stored, length-append (image_part stored) (records_of stored.payloads))

-- the gate behind what an area says stands within it
pub says_within : (bytes : List ℕ) (stored : Stored) (end : ℕ) → Says bytes stored → end ≡ length (in_front stored) → end < length bytes
says_within bytes stored end says is =
    let long : length bytes ≡ length (in_front stored ++ says.gate ∷ says.behind) = ap length says.spelled in
    omega (arith, length-append (in_front stored) (says.gate ∷ says.behind))

-- ---- a record more

in_front-with : (stored : Stored) (payload : List ℕ) → in_front (with_payload stored payload) ≡ in_front stored ++ record_of payload
in_front-with stored payload = sym (flat_map_more record_of (image_part stored) stored.payloads payload)

pub length-with : (stored : Stored) (framed : List ℕ) → IsFramed framed → length (in_front (with_payload stored (payload_of framed))) ≡ length (in_front stored) + length framed
length-with stored framed is =
    let payload = payload_of framed in
    let one : length framed ≡ length (measured payload ++ 0 ∷ []) = ap length is.bytes in
    let more : length (in_front (with_payload stored payload)) ≡ length (in_front stored ++ record_of payload) = ap length (in_front-with stored payload) in
    omega (arith, length-append (measured payload) (0 ∷ []), length-append (in_front stored) (record_of payload))

storable_with : (stored : Stored) (payload : List ℕ) → IsStorable stored → IsPayloadSize payload → IsStorable (with_payload stored payload)
storable_with stored payload storable size = record {
  first = storable.first;
  last = storable.last;
  image = storable.image;
  payloads = All-append IsPayloadSize stored.payloads (payload ∷ []) storable.payloads (All-cons IsPayloadSize payload [] size (All-nil IsPayloadSize));
}

-- behind an open gate the framed bytes are a record, and behind them is a closed gate
pub says_with : (stored : Stored) (framed rest : List ℕ) → IsStorable stored → IsFramed framed
    → Says (in_front stored ++ 1 ∷ (framed ++ rest)) (with_payload stored (payload_of framed))
says_with stored framed rest storable is =
    let payload = payload_of framed in
    let whole : in_front stored ++ 1 ∷ (framed ++ rest) ≡ in_front (with_payload stored payload) ++ 0 ∷ rest =
    ap (λ (l : List ℕ). in_front stored ++ 1 ∷ (l ++ rest)) is.bytes
    ∙ ap (λ (l : List ℕ). in_front stored ++ 1 ∷ l) (append_assoc (measured payload) (0 ∷ []) rest)
    ∙ sym (append_assoc (in_front stored) (record_of payload) (0 ∷ rest))
    ∙ ap (λ (l : List ℕ). l ++ 0 ∷ rest) (sym (in_front-with stored payload)) in
    record {
      storable = storable_with stored payload storable is.size;
      gate = 0;
      behind = rest;
      closed = omega arith;
      spelled = whole;
    }

module _ (stored : Stored) (old : List ℕ) (says : Says old stored) (end : ℕ) (is_end : end ≡ length (in_front stored)) where
  long : length (in_front stored) ≡ end
  long = sym is_end

  says_behind : (gate : ℕ) (new : List ℕ) → gate ≢ 1 → (behind : List ℕ) → new ≡ in_front stored ++ gate ∷ behind → Says new stored
  says_behind gate new closed behind is = record { storable = says.storable; gate = gate; behind = behind; closed = closed; spelled = is }

  -- whatever is written behind its closed gate
  pub torn_behind : (new : List ℕ) → take (end + 1) new ≡ take (end + 1) old → Says new stored
  torn_behind new same =
      says_behind says.gate new says.closed (drop (end + 1) new)
      (behind_gate (in_front stored) end long says.gate says.behind new (same ∙ ap (take (end + 1)) says.spelled))

  module _ (framed : List ℕ) (is : IsFramed framed) where
    staged : overwritten old (end + 1) framed ≡ in_front stored ++ says.gate ∷ (framed ++ drop (end + 1 + length framed) (in_front stored ++ says.gate ∷ says.behind))
    staged = ap (λ (l : List ℕ). overwritten l (end + 1) framed) says.spelled ∙ written_behind (in_front stored) end long says.gate says.behind framed

    -- and the gate itself
    pub torn_record : (new : List ℕ) → Torn end 1 (overwritten old (end + 1) framed) new → Says new stored ⊎ Says new (with_payload stored (payload_of framed))
    torn_record new torn =
        let tail = framed ++ drop (end + 1 + length framed) (in_front stored ++ says.gate ∷ says.behind) in
        let whole : new ≡ in_front stored ++ get_or new end 0 ∷ tail =
        torn_gate (in_front stored) end long says.gate tail new (subst (λ l. Torn end 1 l new) staged torn) in
        elim (cases_eq (get_or new end 0) 1) [
          | inl opened ↦
              let one : new ≡ in_front stored ++ 1 ∷ tail = whole ∙ ap (λ (gate : ℕ). in_front stored ++ gate ∷ tail) opened in
              inr (subst (λ l. Says l (with_payload stored (payload_of framed))) (sym one) (says_with stored framed _ says.storable is))
          | inr closed ↦ inl (says_behind (get_or new end 0) new closed tail whole)
        ]

    pub adding_says : (new : List ℕ) → IsAdding old end framed new → Says new stored ⊎ Says new (with_payload stored (payload_of framed))
    adding_says new adding = elim adding [
      | inl torn ↦ inl (torn_behind new torn.front)
      | inr torn ↦ torn_record new torn
    ]

    pub added_says : (new : List ℕ) → new ≡ overwritten (overwritten old (end + 1) framed) end (1 ∷ []) → Says new (with_payload stored (payload_of framed))
    added_says new is_new =
        let tail = framed ++ drop (end + 1 + length framed) (in_front stored ++ says.gate ∷ says.behind) in
        let whole : new ≡ in_front stored ++ 1 ∷ tail =
        is_new ∙ ap (λ (l : List ℕ). overwritten l end (1 ∷ [])) staged ∙ written_gate (in_front stored) end long says.gate 1 tail in
        subst (λ l. Says l (with_payload stored (payload_of framed))) (sym whole) (says_with stored framed _ says.storable is)

-- ---- areas that aren't opened

shut_by : (bytes : List ℕ) → slice_index bytes 0 ≡ 0 → ¬ IsOpened bytes
shut_by bytes zero opened = let one = opened.gate in let both : 0 ≡ 1 = sym zero ∙ one in cc

pub closed_gate : ¬ IsOpened (0 ∷ [])
closed_gate opened = let room = opened.room in omega arith

first_same : (old new : List ℕ) → take 1 new ≡ take 1 old → slice_index new 0 ≡ slice_index old 0
first_same old new same = sym (get_or-take 1 new 0 0 (omega arith)) ∙ ap (λ (l : List ℕ). get_or l 0 0) same ∙ get_or-take 1 old 0 0 (omega arith)

pub shut_front : (old new : List ℕ) → slice_index old 0 ≡ 0 → IsFront 1 old new → ¬ IsOpened new
shut_front old new zero same = shut_by new (first_same old new same ∙ zero)

pub shut_below : (bytes : List ℕ) (epoch : ℕ) → (¬ IsOpened bytes) → IsBelow bytes epoch
shut_below bytes epoch shut opened = absurd (shut opened)

-- ---- filling

module _ (epoch : ℕ) (gated : List ℕ) (is : IsGated gated) (first : 1 ≤ epoch) (last : epoch ≤ JOURNAL_ROOM) (room : length gated ≤ JOURNAL_ROOM) where
  some : length gated ≡ length (image_of gated) + 1
  some = let one : length gated ≡ length (image_of gated ++ 0 ∷ []) = ap length is.bytes in omega (arith, length-append (image_of gated) (0 ∷ []))

  pub length-laid : length (in_front (laid epoch gated)) ≡ 16 + length gated
  length-laid = omega (arith, some, length-in_front (laid epoch gated))

  -- an image behind an open gate
  whole : (1 ∷ []) ++ ((bytes_high_first 8 epoch ++ bytes_high_first 8 (length gated - 1)) ++ gated) ≡ in_front (laid epoch gated) ++ 0 ∷ []
  whole =
      let count : length gated - 1 ≡ length (image_of gated) = omega (arith, some) in
      ap (λ (n : ℕ). (1 ∷ []) ++ ((bytes_high_first 8 epoch ++ bytes_high_first 8 n) ++ gated)) count
      ∙ ap (λ (l : List ℕ). (1 ∷ []) ++ ((bytes_high_first 8 epoch ++ bytes_high_first 8 (length (image_of gated))) ++ l)) is.bytes
      ∙ sym (append_assoc (1 ∷ bytes_high_first 8 epoch ++ bytes_high_first 8 (length (image_of gated))) (image_of gated) (0 ∷ []))
      ∙ ap (λ (l : List ℕ). l ++ 0 ∷ []) (sym (append-nil (image_part (laid epoch gated))))

  pub laid_says : (bytes : List ℕ) → bytes ≡ in_front (laid epoch gated) ++ 0 ∷ [] → Says bytes (laid epoch gated)
  laid_says bytes is_bytes = record {
    storable = record { first = first; last = last; image = omega (arith, some); payloads = All-nil IsPayloadSize };
    gate = 0;
    behind = [];
    closed = omega arith;
    spelled = is_bytes;
  }

  module _ (header : List ℕ) (is_header : header ≡ bytes_high_first 8 epoch ++ bytes_high_first 8 (length gated - 1)) where
    pub opened_whole : 1 ∷ (header ++ gated) ≡ in_front (laid epoch gated) ++ 0 ∷ []
    opened_whole = ap (λ (l : List ℕ). 1 ∷ (l ++ gated)) is_header ∙ whole

    pub filling_gate : (old new : List ℕ) → old ≡ (0 ∷ []) ++ header ++ gated → Torn 0 1 old new → IsFilling (laid epoch gated) new
    filling_gate old new is_old torn =
        let all : new ≡ get_or new 0 0 ∷ (header ++ gated) = torn_gate [] 0 refl 0 (header ++ gated) new (subst (λ l. Torn 0 1 l new) is_old torn) in
        elim (cases_eq (get_or new 0 0) 1) [
          | inl opened ↦ inr (laid_says new (all ∙ ap (λ (gate : ℕ). gate ∷ (header ++ gated)) opened ∙ opened_whole))
          | inr closed ↦ inl (λ opened. closed opened.gate)
        ]

-- ---- retiring

pub retiring_same : (old new : List ℕ) → old ≡ new → IsRetiring old new
retiring_same old new same = record { opened = λ opened. subst IsOpened (sym same) opened; epoch = λ opened. ap epoch_of (sym same) }

pub retiring_shut : (old new : List ℕ) → (¬ IsOpened new) → IsRetiring old new
retiring_shut old new shut = record { opened = λ opened. absurd (shut opened); epoch = λ opened. absurd (shut opened) }

pub retiring_gate : (old new : List ℕ) → IsOpened old → Torn 0 1 old new → IsRetiring old new
retiring_gate old new opened torn = record { opened = λ _. opened; epoch = λ _. ap (λ (l : List ℕ). from_be_bytes w64 (take 8 l)) torn.behind }

pub shut_cut : (old new : List ℕ) → (¬ IsOpened old) → TornCut 1 old new → ¬ IsOpened new
shut_cut old new shut cut opened =
    let room = opened.room in
    let within = cut.no_longer in
    shut (record { room = omega arith; gate = sym (first_same old new cut.front) ∙ opened.gate })

pub shut_short : (old new : List ℕ) → length old ≤ 1 → Torn 0 1 old new → ¬ IsOpened new
shut_short old new short torn opened =
    let room = opened.room in
    let behind : length (drop 1 new) ≡ length (drop 1 old) = ap length torn.behind in
    omega (arith, length-drop 1 new, length-drop 1 old)

pub below_retiring : (old new : List ℕ) (epoch : ℕ) → IsRetiring old new → IsBelow old epoch → IsBelow new epoch
below_retiring old new epoch retiring below opened =
    let same = retiring.epoch opened in
    let lower = below (retiring.opened opened) in
    omega arith

pub not_retiring : (old new : List ℕ) → IsRetiring old new → (¬ IsOpened old) → ¬ IsOpened new
not_retiring old new retiring shut opened = shut (retiring.opened opened)

-- ---- two areas

pub represent_in : (area : Area) (stored : Stored) (a b : List ℕ) → Says (bytes_in area a b) stored → IsBelow (bytes_in (other_of area) a b) stored.epoch → Represent a b stored
represent_in A stored a b says below = inl (record { says = says; below = below })
represent_in B stored a b says below = inr (record { says = says; below = below })

pub nothing_in : (area : Area) (a b : List ℕ) → (¬ IsOpened (bytes_in area a b)) → (¬ IsOpened (bytes_in (other_of area) a b)) → RepresentNothing a b
nothing_in A a b here beside = record { not_a = here; not_b = beside }
nothing_in B a b here beside = record { not_a = beside; not_b = here }
