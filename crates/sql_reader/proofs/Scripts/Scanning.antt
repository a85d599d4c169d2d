-- How the reader goes over a stretch.
use Rattle.std.proofs.Common.{◌≡◌, ◌≢◌, ◌<◌, ◌≤◌, ◌+◌, ◌-◌, ◌⊎◌, ℕ, zero, suc, Bool, true, false, List, [], ◌∷◌, ◌++◌, length, get_or, take, drop, map, inl, inr, refl, sym, ap, ◌∙◌, subst, arith}
use Rattle.std.specs.Prelude.{◌==◌, slice_range, codes}
use Rattle.std.specs.List.{AllByRecursion, flat_map}
use Rattle.std.specs.Str.{IsCharBoundary, IsUtf8}
use Rattle.std.proofs.lemmas.Bool.{cases_lt}
use Rattle.std.proofs.lemmas.List.{append-nil, length-append, length-map, length-drop, length-take, length-take-le, map-append, append_assoc, take-append-drop, drop-drop, drop-take, drop_more, get_or-drop, get_or-take}
use Rattle.std.proofs.lemmas.List.Concat.{flat_map-append}
use Rattle.std.proofs.lemmas.Str.{IsCharBoundary-end, IsCharBoundary-before_ascii, IsCharBoundary-after_ascii}
use Rattle.sql_lex.specs.Filler.{EndsLine}
use Rattle.sql_reader.proofs.Scripts.FrontPieces.{space_low}
use Rattle.script_model.specs.Piece.{Piece, SessionLine, Semicolon, bytes_of, ArePieces, ends_line}
use Rattle.script_model.specs.Stretch.{Ending, AtSemicolon, AtSession, AtEnd}
use Rattle.script_model.specs.CallText.{Mark, mark_of, marks_of, marks_in, is_closed}
use Rattle.sql_reader.specs.scripts.Fronts.{is_inner, AtFront, IsEmptyFront, IsTextFront, AreEmpty, Holds, begins_after}
use Rattle.sql_reader.specs.scripts.Stretches.{Spans, IsStretchAt, IsLineMet, IsLineEnding, IsScan, IsStretch, ending_pieces, call_with}
use denote.Ref.{Bor}
use Rattle.sql_reader.specs.declared.stretch.Scanned.{Scanned}
use Rattle.sql_reader.specs.declared.stretch.Ending.{Ending as Met}
use Rattle.sql_reader.specs.declared.stretch.Ending.TheVariants as met
use Rattle.sql_reader.proofs.Scripts.Marking.{byte_in, pieces_bytes, each_append, tight_some, Spans-empty, Spans-first, Spans-later, call_is}

abbrev inner_piece : Piece → Type 0
inner_piece piece = is_inner piece ≡ true

pub begins_after-push : (begins : Bool) (pieces : List Piece) (piece : Piece) → begins_after begins (pieces ++ piece ∷ []) ≡ ends_line piece
begins_after-push begins [] piece = refl
begins_after-push begins (first ∷ pieces) piece = begins_after-push (ends_line first) pieces piece

-- whether a line begins after pieces and others
begins_after-append : (begins : Bool) (pieces more : List Piece) → begins_after begins (pieces ++ more) ≡ begins_after (begins_after begins pieces) more
begins_after-append begins [] more = refl
begins_after-append begins (first ∷ pieces) more = begins_after-append (ends_line first) pieces more

-- pieces after pieces
pub ArePieces-append : (begins : Bool) (pieces more : List Piece) (bytes middle after : List ℕ) → ArePieces begins pieces bytes middle → ArePieces (begins_after begins pieces) more middle after → ArePieces begins (pieces ++ more) bytes after
ArePieces-append begins [] more bytes middle after before next = subst (λ l. ArePieces begins more l after) (sym before) next
ArePieces-append begins (piece ∷ pieces) more bytes middle after before next =
    (before.0, before.1, before.2, ArePieces-append (ends_line piece) pieces more before.0 middle after before.3 next)

-- further pieces
ArePieces-more : (first begins : Bool) (pieces more : List Piece) (bytes start : List ℕ) (at len : ℕ) → ArePieces first pieces start (drop at bytes) → begins ≡ begins_after first pieces → ArePieces begins more (drop at bytes) (drop len (drop at bytes)) → ArePieces first (pieces ++ more) start (drop (at + len) bytes)
ArePieces-more first begins pieces more bytes start at len before same are =
    let rest = drop len (drop at bytes) in
    subst (ArePieces first (pieces ++ more) start) (drop-drop len at bytes)
    (ArePieces-append first pieces more start (drop at bytes) rest before (subst (λ b. ArePieces b more (drop at bytes) rest) same are))

-- one piece more
ArePieces-push : (first begins : Bool) (pieces : List Piece) (piece : Piece) (bytes start : List ℕ) (at len : ℕ) → ArePieces first pieces start (drop at bytes) → begins ≡ begins_after first pieces → AtFront begins (drop at bytes) piece len → ArePieces first (pieces ++ piece ∷ []) start (drop (at + len) bytes)
ArePieces-push first begins pieces piece bytes start at len before same front =
    let rest = drop len (drop at bytes) in
    let split : drop at bytes ≡ bytes_of piece ++ rest = sym (take-append-drop len (drop at bytes)) ∙ ap (λ l. l ++ rest) front.is in
    ArePieces-more first begins pieces (piece ∷ []) bytes start at len before same (rest, split, front.fits, refl)

-- how many bytes are gone over
scanned_len : (begins : Bool) (pieces : List Piece) (bytes : List ℕ) (from at : ℕ) → from ≤ at → at ≤ length bytes → ArePieces begins pieces (drop from bytes) (drop at bytes) → at ≡ from + length (flat_map marks_of pieces)
scanned_len begins pieces bytes from at order within are =
    let marks = flat_map marks_of pieces in
    omega (arith, ap length (pieces_bytes begins pieces (drop from bytes) (drop at bytes) are), length-append (map byte_in marks) (drop at bytes), length-map marks byte_in, length-drop from bytes, length-drop at bytes)

-- the first of bytes that begin with these
first_is : (bytes more : List ℕ) (byte len : ℕ) → take len bytes ≡ byte ∷ more → get_or bytes 0 0 ≡ byte
first_is bytes more byte zero is = absurd (let wrong : ◌≡◌ {A = List ℕ} [] (byte ∷ more) = is in cc)
first_is [] more byte (suc len) is = absurd (let wrong : ◌≡◌ {A = List ℕ} [] (byte ∷ more) = is in cc)
first_is (first ∷ bytes) more byte (suc len) is = cc

-- the end of a line may be cut at
line_boundary : (bytes : List ℕ) (at : ℕ) → at ≤ length bytes → EndsLine (drop at bytes) → IsCharBoundary bytes at
line_boundary bytes at within ends =
    elim (cases_lt at (length bytes)) [
      | inl more ↦ let low : get_or bytes at 0 ≡ 10 = subst EndsLine (drop_more bytes at 0 more) ends in IsCharBoundary-before_ascii bytes at more (omega arith)
      | inr past ↦ let same : length bytes ≡ at = omega arith in subst (IsCharBoundary bytes) same (IsCharBoundary-end bytes)
    ]

-- the byte after what a piece holds
held_low : (bytes : List ℕ) (text back : List Mark) → map mark_of bytes ≡ text ++ back → AreEmpty back → length text < length bytes → get_or bytes (length text) 0 < 128
held_low [] text back split empty more = absurd (omega arith)
held_low (byte ∷ bytes) [] back split empty more = space_low byte (subst AreEmpty (sym split) empty).0
held_low (byte ∷ bytes) (mark ∷ text) back split empty more = held_low bytes text back (cc) empty (omega arith)

-- of bytes that are not in a comment
text_place_of : (bytes : List ℕ) (at len held : ℕ) (own : List ℕ) → take len (drop at bytes) ≡ own → len ≤ length (drop at bytes) → Holds (map mark_of own) held → (0 < held) × (held ≤ len) × ((held ≡ len) ⊎ (get_or bytes (at + held) 0 < 128))
text_place_of bytes at len held own is within holds =
    let long : length own ≡ len = sym (ap length is) ∙ length-take-le len (drop at bytes) within in
    let order : held ≤ len = omega (arith, long, holds.held_is, ap length holds.split, length-append holds.text holds.back, length-map own mark_of) in (
      omega (arith, tight_some holds.text holds.tight, holds.held_is),
      order,
      elim (cases_lt held len) [
        | inl less ↦
            let there : get_or own held 0 ≡ get_or bytes (at + held) 0 = ap (λ l. get_or l held 0) (sym is) ∙ get_or-take len (drop at bytes) held 0 less ∙ get_or-drop at bytes held 0 in
            inr (subst (λ b. b < 128) there (subst (λ n. get_or own n 0 < 128) (sym holds.held_is) (held_low own holds.text holds.back holds.split holds.back_empty (omega (arith, long, holds.held_is)))))
        | inr more ↦ inl (omega arith)
      ],
    )

-- where pieces that hold text stand
text_place : (bytes : List ℕ) (at len held : ℕ) (begins : Bool) → IsTextFront begins (drop at bytes) len held → (0 < held) × (held ≤ len) × ((held ≡ len) ⊎ (get_or bytes (at + held) 0 < 128))
text_place bytes at len held begins found = text_place_of bytes at len held (take len (drop at bytes)) refl found.within found.holds

-- the stretch that begins at `from` is gone over up to `at`
pub record ScannedTo (bytes : List ℕ) (from at : ℕ) (begins : Bool) (start end : ℕ) : Type 0 where
  pub within : at ≤ length bytes
  pub from_within : from ≤ at
  pub pieces : List Piece
  pub are : ArePieces (from == 0) pieces (drop from bytes) (drop at bytes)
  pub inner : AllByRecursion inner_piece pieces
  pub begins_is : begins ≡ begins_after (from == 0) pieces
  pub spans : Spans from start end (flat_map marks_of pieces)
  pub in_order : start ≤ end
  pub end_within : end ≤ at
  pub start_boundary : IsCharBoundary bytes start
  pub at_boundary : start ≡ end → IsCharBoundary bytes at
  pub end_boundary : (end ≡ at) ⊎ IsCharBoundary bytes end

pub ScannedTo-start : (bytes : List ℕ) (from : ℕ) → from ≤ length bytes → IsCharBoundary bytes from → ScannedTo bytes from from (from == 0) from from
ScannedTo-start bytes from within boundary =
    record {
      within = within;
      from_within = omega arith;
      pieces = [];
      are = refl;
      inner = tt;
      begins_is = refl;
      spans = inl (refl, tt);
      in_order = omega arith;
      end_within = omega arith;
      start_boundary = boundary;
      at_boundary = λ same. boundary;
      end_boundary = inl refl;
    }

marks_push : (pieces : List Piece) (piece : Piece) → flat_map marks_of pieces ++ marks_of piece ≡ flat_map marks_of (pieces ++ piece ∷ [])
marks_push pieces piece = ap (λ l. flat_map marks_of pieces ++ l) (sym (append-nil (marks_of piece))) ∙ sym (flat_map-append marks_of pieces (piece ∷ []))

-- the byte after empty pieces may be cut at
after_empty : (bytes : List ℕ) (at len : ℕ) (begins : Bool) → IsUtf8 bytes → at < length bytes → IsEmptyFront begins (drop at bytes) len → IsCharBoundary bytes (at + len)
after_empty bytes at len begins text more found =
    let within : at + len ≤ length bytes = omega (arith, found.within, length-drop at bytes) in
    let last : at + (len - 1) < length bytes = omega (arith, found.some) in
    let next : at + (len - 1) + 1 ≡ at + len = omega (arith, found.some) in
    elim found.cut [
      | inl low ↦ subst (IsCharBoundary bytes) next (IsCharBoundary-after_ascii bytes (at + (len - 1)) text last (subst (λ b. b < 128) (get_or-drop at bytes (len - 1) 0) low))
      | inr ends ↦ line_boundary bytes (at + len) within (subst EndsLine (drop-drop len at bytes) ends)
    ]

-- empty pieces more
pub ScannedTo-empty : (bytes : List ℕ) (from at : ℕ) (begins : Bool) (start end len : ℕ) → IsUtf8 bytes → at < length bytes → ScannedTo bytes from at begins start end → IsEmptyFront begins (drop at bytes) len → ScannedTo bytes from (at + len) (get_or bytes (at + len - 1) 0 == 10) start end
ScannedTo-empty bytes from at begins start end len text more scanned found =
    record {
      within = omega (arith, found.within, length-drop at bytes);
      from_within = omega (arith, scanned.from_within);
      pieces = scanned.pieces ++ found.pieces;
      are = ArePieces-more (from == 0) begins scanned.pieces found.pieces bytes (drop from bytes) at len scanned.are scanned.begins_is found.are;
      inner = each_append inner_piece scanned.pieces found.pieces scanned.inner found.inner;
      begins_is = ap (λ b. b == 10) last_is ∙ sym (begins_after-append (from == 0) scanned.pieces found.pieces ∙ ap (λ b. begins_after b found.pieces) (sym scanned.begins_is) ∙ found.line);
      spans = subst (Spans from start end) (sym (flat_map-append marks_of scanned.pieces found.pieces)) (Spans-empty from start end (flat_map marks_of scanned.pieces) (flat_map marks_of found.pieces) scanned.spans found.all_empty);
      in_order = scanned.in_order;
      end_within = omega (arith, scanned.end_within);
      start_boundary = scanned.start_boundary;
      at_boundary = λ same. after_empty bytes at len begins text more found;
      end_boundary = inr (elim scanned.end_boundary [ inl same ↦ subst (IsCharBoundary bytes) (sym same) (IsCharBoundary-before_ascii bytes at more low) | inr boundary ↦ boundary ]);
    }
  where
    last_is : get_or bytes (at + len - 1) 0 ≡ get_or (drop at bytes) (len - 1) 0
    last_is = let place : at + len - 1 ≡ at + (len - 1) = omega (arith, found.some) in ap (λ n. get_or bytes n 0) place ∙ sym (get_or-drop at bytes (len - 1) 0)

    low : get_or bytes at 0 < 128
    low = let here : get_or (drop at bytes) 0 0 ≡ get_or bytes at 0 = get_or-drop at bytes 0 0 ∙ ap (λ n. get_or bytes n 0) (omega arith) in subst (λ b. b < 128) here found.first

-- pieces more that hold text
module _ (bytes : List ℕ) (from at : ℕ) (begins : Bool) (start end len held : ℕ) (more : at < length bytes) (scanned : ScannedTo bytes from at begins start end) (found : IsTextFront begins (drop at bytes) len held) where
  place : (0 < held) × (held ≤ len) × ((held ≡ len) ⊎ (get_or bytes (at + held) 0 < 128))
  place = text_place bytes at len held begins found

  at_is : at ≡ from + length (flat_map marks_of scanned.pieces)
  at_is = scanned_len (from == 0) scanned.pieces bytes from at scanned.from_within scanned.within scanned.are

  abbrev more_marks : List Mark
  more_marks = map mark_of (take len (drop at bytes))

  text_more : (first : ℕ) → first ≤ at → IsCharBoundary bytes first → Spans from first (at + held) (flat_map marks_of scanned.pieces ++ more_marks) → ScannedTo bytes from (at + len) false first (at + held)
  text_more first order boundary spans =
      record {
        within = omega (arith, found.within, length-drop at bytes);
        from_within = omega (arith, scanned.from_within);
        pieces = scanned.pieces ++ found.pieces;
        are = ArePieces-more (from == 0) begins scanned.pieces found.pieces bytes (drop from bytes) at len scanned.are scanned.begins_is found.are;
        inner = each_append inner_piece scanned.pieces found.pieces scanned.inner found.inner;
        begins_is = sym (begins_after-append (from == 0) scanned.pieces found.pieces ∙ ap (λ b. begins_after b found.pieces) (sym scanned.begins_is) ∙ found.no_line);
        spans = subst (Spans from first (at + held)) (ap (λ l. flat_map marks_of scanned.pieces ++ l) (sym found.marks_are) ∙ sym (flat_map-append marks_of scanned.pieces found.pieces)) spans;
        in_order = omega arith;
        end_within = omega (arith, place.1);
        start_boundary = boundary;
        at_boundary = λ same. absurd (omega (arith, place.0));
        end_boundary = elim place.2 [
          | inl same ↦ inl (ap (λ n. at + n) same)
          | inr low ↦ elim (cases_lt (at + held) (length bytes)) [
            | inl less ↦ inr (IsCharBoundary-before_ascii bytes (at + held) less low)
            | inr past ↦ inl (omega (arith, place.1, found.within, length-drop at bytes))
          ]
        ];
      }

  pub ScannedTo-first : start ≡ end → ScannedTo bytes from (at + len) false at (at + held)
  ScannedTo-first none = text_more at (omega arith) (scanned.at_boundary none) (Spans-first from start end at held (flat_map marks_of scanned.pieces) more_marks none scanned.spans found.holds at_is)

  pub ScannedTo-later : start ≢ end → ScannedTo bytes from (at + len) false start (at + held)
  ScannedTo-later some = text_more start (omega (arith, scanned.in_order, scanned.end_within)) scanned.start_boundary (Spans-later from start end at held (flat_map marks_of scanned.pieces) more_marks some scanned.spans found.holds at_is)

-- the stretch is gone over, and the bytes meet something that may be cut off
scan_at : (bytes : List ℕ) (from at start end next : ℕ) (begins : Bool) (found : Met) (ending : Ending) (scanned : ScannedTo bytes from at begins start end) → IsCharBoundary bytes at → IsStretchAt bytes from (record { pieces = scanned.pieces; ending = ending }) found next → IsScan bytes from (record { start = start; end = end; ending = found; next = next })
scan_at bytes from at start end next begins found ending scanned boundary stretch =
    record {
      stretch = record { pieces = scanned.pieces; ending = ending };
      at = stretch;
      spans = scanned.spans;
      in_order = scanned.in_order;
      start_boundary = scanned.start_boundary;
      end_boundary = elim scanned.end_boundary [ inl same ↦ subst (IsCharBoundary bytes) (sym same) boundary | inr earlier ↦ earlier ];
    }

byte_there : (bytes more : List ℕ) (at len byte : ℕ) → take len (drop at bytes) ≡ byte ∷ more → get_or bytes at 0 ≡ byte
byte_there bytes more at len byte is = ap (λ n. get_or bytes n 0) (omega arith) ∙ sym (get_or-drop at bytes 0 0) ∙ first_is (drop at bytes) more byte len is

pub scan-semicolon : (bytes : List ℕ) (from at : ℕ) (begins : Bool) (start end : ℕ) → IsUtf8 bytes → at < length bytes → ScannedTo bytes from at begins start end → AtFront begins (drop at bytes) Semicolon 1 → IsScan bytes from (record { start = start; end = end; ending = met.Semicolon; next = at + 1 })
scan-semicolon bytes from at begins start end text more scanned front =
    let here : get_or bytes at 0 ≡ 59 = byte_there bytes [] at 1 59 front.is in
    scan_at bytes from at start end (at + 1) begins met.Semicolon AtSemicolon scanned (IsCharBoundary-before_ascii bytes at more (omega arith))
    (record {
      are = ArePieces-push (from == 0) begins scanned.pieces Semicolon bytes (drop from bytes) at 1 scanned.are scanned.begins_is front;
      inner = scanned.inner;
      is_met = refl;
      within = omega arith;
      order = omega (arith, scanned.from_within);
      goes_on = inl (omega (arith, scanned.from_within));
      at_end = λ wrong. absurd (let never : ⊥ = cc in never);
      boundary = IsCharBoundary-after_ascii bytes at text more (omega arith);
    })

-- what follows `-- session ` on the line
line_is : (bytes line : List ℕ) (at len : ℕ) → take len (drop at bytes) ≡ codes "-- session " ++ line → len ≤ length (drop at bytes) → (11 ≤ len) × (slice_range bytes (at + 11) (at + len) ≡ line)
line_is bytes line at len is within =
    let long : len ≡ 11 + length line = omega (arith, ap length is, length-take-le len (drop at bytes) within) in
    let rest : at + len - (at + 11) ≡ length line = omega arith in (
      omega arith,
      (λ i. take (rest i) (sym (drop-drop 11 at bytes) i)) ∙ sym (drop-take 11 (length line) (drop at bytes)) ∙ ap (λ n. drop 11 (take n (drop at bytes))) (sym long) ∙ ap (drop 11) is,
    )

pub session_line_long : (bytes : List ℕ) (at len : ℕ) (begins : Bool) (line : List ℕ) → AtFront begins (drop at bytes) (SessionLine line) len → 11 ≤ len
session_line_long bytes at len begins line front = (line_is bytes line at len front.is front.within).0

pub scan-line : (bytes : List ℕ) (from at : ℕ) (begins : Bool) (start end len : ℕ) (found : Met) (line : List ℕ) → at < length bytes → ScannedTo bytes from at begins start end → AtFront begins (drop at bytes) (SessionLine line) len → IsLineEnding bytes at len found → IsScan bytes from (record { start = start; end = end; ending = found; next = at + len })
scan-line bytes from at begins start end len found line more scanned front means =
    let here : get_or bytes at 0 ≡ 45 = byte_there bytes (drop 1 (codes "-- session " ++ line)) at len 45 front.is in
    let place = scanned_len (from == 0) scanned.pieces bytes from at scanned.from_within scanned.within scanned.are in
    let is = line_is bytes line at len front.is front.within in
    scan_at bytes from at start end (at + len) begins found (AtSession line) scanned (IsCharBoundary-before_ascii bytes at more (omega arith))
    (record {
      are = ArePieces-push (from == 0) begins scanned.pieces (SessionLine line) bytes (drop from bytes) at len scanned.are scanned.begins_is front;
      inner = scanned.inner;
      is_met = subst (λ n. IsLineMet line n found) place (subst (λ l. IsLineMet l at found) is.1 means);
      within = omega (arith, front.within, length-drop at bytes);
      order = omega (arith, scanned.from_within);
      goes_on = inl (omega (arith, scanned.from_within, is.0));
      at_end = λ wrong. absurd (let never : ⊥ = cc in never);
      boundary = line_boundary bytes (at + len) (omega (arith, front.within, length-drop at bytes)) (subst EndsLine (drop-drop len at bytes) front.fits.1.1);
    })

pub scan-end : (bytes : List ℕ) (from at : ℕ) (begins : Bool) (start end : ℕ) → length bytes ≤ at → ScannedTo bytes from at begins start end → IsScan bytes from (record { start = start; end = end; ending = met.End; next = at })
scan-end bytes from at begins start end past scanned =
    let same : length bytes ≡ at = omega (arith, scanned.within) in
    let boundary : IsCharBoundary bytes at = subst (IsCharBoundary bytes) same (IsCharBoundary-end bytes) in
    scan_at bytes from at start end at begins met.End AtEnd scanned boundary
    (record {
      are = subst (λ l. ArePieces (from == 0) l (drop from bytes) (drop at bytes)) (sym (append-nil scanned.pieces)) scanned.are;
      inner = scanned.inner;
      is_met = refl;
      within = scanned.within;
      order = scanned.from_within;
      goes_on = inr refl;
      at_end = λ is. sym same;
      boundary = boundary;
    })

-- what pieces hold is no more than they have
pub held_within : (bytes : List ℕ) (at len held : ℕ) (begins : Bool) → IsTextFront begins (drop at bytes) len held → (held ≤ len) × (len ≤ length bytes - at)
held_within bytes at len held begins found = ((text_place bytes at len held begins found).1, omega (arith, found.within, length-drop at bytes))

-- the marks of what a stretch meets
abbrev end_marks : Ending → List Mark
end_marks ending = flat_map marks_of (ending_pieces ending)

-- what the text of a stretch is
pub scanned_stretch : (bytes : List ℕ) (from : ℕ) (scanned : Scanned) (text : Bor (List ℕ)) → IsScan bytes from scanned → text.now ≡ slice_range bytes scanned.start scanned.end → IsStretch bytes from (record { text = text; start = scanned.start; ending = scanned.ending; next = scanned.next })
scanned_stretch bytes from scanned text found is =
    record {
      stretch = found.stretch;
      at = found.at;
      call = λ session. call_is bytes from scanned.start scanned.end found.stretch (map byte_in (end_marks found.stretch.ending) ++ drop scanned.next bytes) found.spans split session ∙ ap (call_with session scanned.start (is_closed found.stretch.ending)) (sym is);
      short = omega (arith, ap length is, length-take (scanned.end - scanned.start) (drop scanned.start bytes), length-drop scanned.start bytes);
      start_within = omega (arith, found.in_order, found.end_boundary.0);
    }
  where
    split : drop from bytes ≡ map byte_in (marks_in found.stretch) ++ (map byte_in (end_marks found.stretch.ending) ++ drop scanned.next bytes)
    split =
        pieces_bytes (from == 0) (found.stretch.pieces ++ ending_pieces found.stretch.ending) (drop from bytes) (drop scanned.next bytes) found.at.are
        ∙ ap (λ l. map byte_in l ++ drop scanned.next bytes) (flat_map-append marks_of found.stretch.pieces (ending_pieces found.stretch.ending))
        ∙ ap (λ l. l ++ drop scanned.next bytes) (map-append byte_in (marks_in found.stretch) (flat_map marks_of (ending_pieces found.stretch.ending)))
        ∙ append_assoc (map byte_in (marks_in found.stretch)) (map byte_in (flat_map marks_of (ending_pieces found.stretch.ending))) (drop scanned.next bytes)
