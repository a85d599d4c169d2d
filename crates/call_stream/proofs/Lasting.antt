-- The text of the stretch that the end of the input leaves.
use Rattle.std.proofs.Common.{◌≡◌, ◌<◌, ◌≤◌, ◌+◌, ◌-◌, ℕ, Bool, true, false, List, [], ◌∷◌, ◌++◌, length, get_or, drop, map, All, inl, inr, refl, sym, ap, ◌∙◌, subst, arith, append_assoc}
use Rattle.std.specs.Prelude.{◌&&◌, if◌then◌else◌, slice_range, codes}
use Rattle.std.specs.List.{AllByRecursion, flat_map}
use Rattle.std.specs.Str.{IsUtf8, IsCharBoundary}
use Rattle.std.proofs.lemmas.Bool.{cases_Bool, cases_lt, cases_eq, eq-eqb, ne_eqb}
use Rattle.std.proofs.lemmas.List.{append-nil, length-drop, get_or-drop, drop_more, take_all, drop-drop}
use Rattle.std.proofs.lemmas.List.Concat.{flat_map-append}
use Rattle.std.proofs.lemmas.List.Elements.{All-head}
use Rattle.std.proofs.lemmas.Str.{IsCharBoundary-end, IsCharBoundary-before_ascii}
use Rattle.sql_lex.specs.Bytes.{is_space}
use Rattle.script_model.specs.CallText.{mark_of, marks_of}
use Rattle.script_model.specs.Piece.{Piece, Byte, Unclosed, Comment, starts, ArePieces}
use Rattle.script_model.specs.Stretch.{Ending, AtSession, AtEnd}
use Rattle.sql_reader.specs.scripts.Fronts.{Holds, AreEmpty, is_inner}
use Rattle.sql_reader.specs.scripts.Stretches.{Spans, ending_pieces}
use Rattle.sql_reader.proofs.Scripts.FrontPieces.{space_low, unclosed_front}
use Rattle.sql_reader.proofs.Scripts.Marking.{each_append, Spans-empty, Spans-first, Spans-later}
use Rattle.call_stream.specs.Scans.{IsScanned, held}
use Rattle.call_stream.specs.Stretches.{IsLast, is_line, line_of, session_open}
use Rattle.call_stream.specs.declared.scan.Place.{Place}
use Rattle.call_stream.specs.declared.scan.Place.TheVariants.{Between, Dash, Line, Quote}
use Rattle.call_stream.specs.declared.scan.Scan.{Scan}
use Rattle.call_stream.proofs.Closing.{edge_boundary}
use Rattle.call_stream.proofs.Scanning.{with_start, byte_holds, comment_empty, dash_at, first_open, open_at, piece_is, quote_at, between_at}
use Rattle.call_stream.proofs.Ending.{between_then, comment_then, dash_then, quote_then, rest_open, session_then, whole_then}

abbrev inner_piece : Piece → Type 0
inner_piece piece = is_inner piece ≡ true

-- no character goes over the place where the open piece begins
piece_boundary : (bytes : List ℕ) (scan : Scan) → IsScanned bytes scan → scan.at ≡ length bytes → IsCharBoundary bytes scan.piece
piece_boundary bytes scan scanned end = by scan.place refl
  where
    low_boundary : (more : List ℕ) (byte : ℕ) → byte < 128 → scan.piece < scan.at → slice_range bytes scan.piece scan.at ≡ byte ∷ more → IsCharBoundary bytes scan.piece
    low_boundary more byte low less is =
        let first = first_open bytes more scan.piece scan.at byte scanned.order is in
        IsCharBoundary-before_ascii bytes scan.piece (omega arith) (omega (arith, first))

    by : (place : Place) → scan.place ≡ place → IsCharBoundary bytes scan.piece
    by Between is = let same : length bytes ≡ scan.piece = omega (arith, between_at bytes scan scanned is) in subst (IsCharBoundary bytes) same (IsCharBoundary-end bytes)
    by Dash is = low_boundary [] 45 (omega arith) (omega (arith, dash_at bytes scan scanned is)) (open_at bytes scan Dash scanned is)
    by Line is = let line = open_at bytes scan Line scanned is in low_boundary (45 ∷ line.line) 45 (omega arith) (omega (arith, length-drop scan.piece bytes, ap length (rest_open bytes scan scanned end ∙ line.is))) line.is
    by Quote is = let quote = open_at bytes scan Quote scanned is in low_boundary quote.between 39 (omega arith) (omega (arith, quote_at bytes scan scanned is)) quote.is

end_place : (bytes : List ℕ) (scan : Scan) → IsScanned bytes scan → scan.at ≡ length bytes → IsUtf8 bytes → IsCharBoundary bytes scan.end
end_place bytes scan scanned end text = elim scanned.end_edge [ inl same ↦ subst (IsCharBoundary bytes) (sym same) (piece_boundary bytes scan scanned end) | inr edge ↦ edge_boundary bytes scan.end text edge ]

start_place : (bytes : List ℕ) (scan : Scan) → IsScanned bytes scan → scan.at ≡ length bytes → IsUtf8 bytes → IsCharBoundary bytes scan.start
start_place bytes scan scanned end text =
    elim (cases_lt scan.start scan.end) [
      | inl some ↦ edge_boundary bytes scan.start text (scanned.start_edge some)
      | inr more ↦ let same : scan.end ≡ scan.start = omega (arith, scanned.in_order) in subst (IsCharBoundary bytes) same (end_place bytes scan scanned end text)
    ]

-- what is open is no text
no_text : (bytes : List ℕ) (scan : Scan) (scanned : IsScanned bytes scan) → scan.at ≡ length bytes → (more : List Piece) (ending : Ending) → AllByRecursion inner_piece more → AreEmpty (flat_map marks_of more) → ArePieces scan.line (more ++ ending_pieces ending) (drop scan.piece bytes) [] → (session : Bool) → ending ≡ (if session then AtSession (line_of bytes scan) else AtEnd) → IsLast bytes scan scan session
no_text bytes scan scanned end more ending inner empty are session ends =
    record {
      stretch = record { pieces = scanned.pieces ++ more; ending = ending };
      are = subst (λ l. ArePieces scan.begins l bytes []) (sym (append_assoc scanned.pieces more (ending_pieces ending))) (whole_then bytes scan scanned (more ++ ending_pieces ending) are);
      inner = each_append inner_piece scanned.pieces more scanned.inner inner;
      ends = ends;
      spans = subst (Spans 0 scan.start scan.end) (sym (flat_map-append marks_of scanned.pieces more)) (Spans-empty 0 scan.start scan.end (flat_map marks_of scanned.pieces) (flat_map marks_of more) scanned.spans empty);
      in_order = scanned.in_order;
      within = omega (arith, scanned.before, scanned.order);
      start_boundary = start_place bytes scan scanned end;
      end_boundary = end_place bytes scan scanned end;
    }

-- what is open is text
text_last : (bytes : List ℕ) (scan : Scan) (scanned : IsScanned bytes scan) → scan.at ≡ length bytes → (piece : Piece) → is_inner piece ≡ true → ArePieces scan.line (piece ∷ []) (drop scan.piece bytes) [] → (len : ℕ) → Holds (marks_of piece) len → scan.piece + len ≤ length bytes → IsCharBoundary bytes (scan.piece + len) → IsLast bytes scan (held scan (scan.piece + len)) false
text_last bytes scan scanned end piece inner are len holds within boundary =
    elim (cases_eq scan.start scan.end) [
      | inl none ↦
          subst (λ b. IsLast bytes scan (with_start scan (scan.piece + len) (if b then scan.piece else scan.start)) false) (sym (eq-eqb scan.start scan.end none))
          (from_start scan.piece (omega arith) (λ text. piece_boundary bytes scan scanned end) (Spans-first 0 scan.start scan.end scan.piece len (flat_map marks_of scanned.pieces) (marks_of piece) none scanned.spans holds at_is))
      | inr some ↦
          subst (λ b. IsLast bytes scan (with_start scan (scan.piece + len) (if b then scan.piece else scan.start)) false) (sym (ne_eqb scan.start scan.end some))
          (from_start scan.start (omega (arith, scanned.in_order, scanned.before)) (start_place bytes scan scanned end) (Spans-later 0 scan.start scan.end scan.piece len (flat_map marks_of scanned.pieces) (marks_of piece) some scanned.spans holds at_is))
    ]
  where
    at_is : scan.piece ≡ 0 + length (flat_map marks_of scanned.pieces)
    at_is = omega (arith, piece_is bytes scan scanned)

    marks_are : flat_map marks_of scanned.pieces ++ marks_of piece ≡ flat_map marks_of (scanned.pieces ++ piece ∷ [])
    marks_are = ap (λ l. flat_map marks_of scanned.pieces ++ l) (sym (append-nil (marks_of piece))) ∙ sym (flat_map-append marks_of scanned.pieces (piece ∷ []))

    from_start : (start : ℕ) → start ≤ scan.piece + len → (IsUtf8 bytes → IsCharBoundary bytes start) → Spans 0 start (scan.piece + len) (flat_map marks_of scanned.pieces ++ marks_of piece) → IsLast bytes scan (with_start scan (scan.piece + len) start) false
    from_start start order start_at spans =
        record {
          stretch = record { pieces = scanned.pieces ++ piece ∷ []; ending = AtEnd };
          are = subst (λ l. ArePieces scan.begins l bytes []) (sym (append-nil (scanned.pieces ++ piece ∷ []))) (whole_then bytes scan scanned (piece ∷ []) are);
          inner = each_append inner_piece scanned.pieces (piece ∷ []) scanned.inner (inner, tt);
          ends = refl;
          spans = subst (Spans 0 start (scan.piece + len)) marks_are spans;
          in_order = order;
          within = within;
          start_boundary = start_at;
          end_boundary = λ text. boundary;
        }

-- The last stretch, by the place where the bytes end.
module _ (bytes : List ℕ) (scan : Scan) (scanned : IsScanned bytes scan) (end : scan.at ≡ length bytes) where
  pub last_between : scan.place ≡ Between → IsLast bytes scan scan false
  last_between is = no_text bytes scan scanned end [] AtEnd tt tt (between_then bytes scan scanned end is) false refl

  pub last_line : scan.place ≡ Line → IsLast bytes scan scan (scan.line && starts (drop scan.piece bytes) (codes "-- session "))
  last_line is =
      elim (cases_Bool (scan.line && starts (drop scan.piece bytes) (codes "-- session "))) [
        | inl session ↦ subst (IsLast bytes scan scan) (sym session) (no_text bytes scan scanned end [] (AtSession (line_of bytes scan)) tt tt (session_then bytes scan scanned end is session).1 true refl)
        | inr other ↦ subst (IsLast bytes scan scan) (sym other)
            (let line = (open_at bytes scan Line scanned is).line in no_text bytes scan scanned end (Comment line ∷ []) AtEnd (refl, tt) (each_append _ (marks_of (Comment line)) [] (comment_empty line) tt) (comment_then bytes scan scanned end is other) false refl)
      ]

  pub last_dash : scan.place ≡ Dash → IsLast bytes scan (held scan scan.at) false
  last_dash is =
      let place : scan.piece + 1 ≡ scan.at = omega (arith, dash_at bytes scan scanned is) in
      subst (λ n. IsLast bytes scan (held scan n) false) place
      (text_last bytes scan scanned end (Byte 45) refl (dash_then bytes scan scanned end is) 1 (byte_holds 45 1 refl refl) (omega (arith, place))
      (let same : length bytes ≡ scan.piece + 1 = omega (arith, place) in subst (IsCharBoundary bytes) same (IsCharBoundary-end bytes)))

  -- that many bytes after the quote come up to the last that is no white space
  pub last_quote : scan.place ≡ Quote → (len : ℕ) → len ≤ length (drop (scan.piece + 1) bytes) → All (λ byte. is_space byte ≡ true) (drop len (drop (scan.piece + 1) bytes)) → (0 < len → is_space (get_or (drop (scan.piece + 1) bytes) (len - 1) 0) ≡ false) → IsLast bytes scan (held scan (scan.piece + 1 + len)) false
  last_quote is len within spaces last =
      let quote = open_at bytes scan Quote scanned is in
      let between = quote.between in
      let after : drop (scan.piece + 1) bytes ≡ between = sym (drop-drop 1 scan.piece bytes) ∙ ap (drop 1) (rest_open bytes scan scanned end ∙ quote.is) in
      let front = unclosed_front false between len quote.no_quote (omega (arith, ap length after)) (subst (λ l. All (λ b. is_space b ≡ true) (drop len l)) after spaces) (λ some. ap (λ l. is_space (get_or l (len - 1) 0)) (sym after) ∙ last some) in
      let holds : Holds (map mark_of (39 ∷ between)) (len + 1) = subst (λ l. Holds (map mark_of l) (len + 1)) (take_all (length between + 1) (39 ∷ between) (omega arith)) front.holds in
      let place : scan.piece + (len + 1) ≡ scan.piece + 1 + len = omega arith in
      let inside : scan.piece + 1 + len ≤ length bytes = omega (arith, quote_at bytes scan scanned is, length-drop (scan.piece + 1) bytes) in
      subst (λ n. IsLast bytes scan (held scan n) false) place
      (text_last bytes scan scanned end (Unclosed between) refl (quote_then bytes scan scanned end is) (len + 1) holds (omega (arith, inside))
      (subst (IsCharBoundary bytes) (sym place) (elim (cases_lt (scan.piece + 1 + len) (length bytes)) [
        | inl less ↦
            let there : len < length (drop (scan.piece + 1) bytes) = omega (arith, length-drop (scan.piece + 1) bytes) in
            let space : is_space (get_or (drop (scan.piece + 1) bytes) len 0) ≡ true = All-head (λ b. is_space b ≡ true) (get_or (drop (scan.piece + 1) bytes) len 0) (drop (len + 1) (drop (scan.piece + 1) bytes)) (subst (All (λ b. is_space b ≡ true)) (drop_more (drop (scan.piece + 1) bytes) len 0 there) spaces) in
            let low = space_low (get_or (drop (scan.piece + 1) bytes) len 0) space in
            IsCharBoundary-before_ascii bytes (scan.piece + 1 + len) less (omega (arith, low, get_or-drop (scan.piece + 1) bytes len 0))
        | inr more ↦ let same : length bytes ≡ scan.piece + 1 + len = omega (arith, inside) in subst (IsCharBoundary bytes) same (IsCharBoundary-end bytes)
      ])))

  -- by what is open
  pub between_last : scan.place ≡ Between → IsLast bytes scan scan (session_open bytes scan)
  between_last is = subst (IsLast bytes scan scan) (sym (ap (λ p. is_line p && (scan.line && starts (drop scan.piece bytes) (codes "-- session "))) is)) (last_between is)

  pub line_last : scan.place ≡ Line → IsLast bytes scan scan (session_open bytes scan)
  line_last is = subst (IsLast bytes scan scan) (sym (ap (λ p. is_line p && (scan.line && starts (drop scan.piece bytes) (codes "-- session "))) is)) (last_line is)

  pub dash_last : scan.place ≡ Dash → IsLast bytes scan (held scan scan.at) (session_open bytes scan)
  dash_last is = subst (IsLast bytes scan (held scan scan.at)) (sym (ap (λ p. is_line p && (scan.line && starts (drop scan.piece bytes) (codes "-- session "))) is)) (last_dash is)

  pub quote_last : scan.place ≡ Quote → (len : ℕ) → len ≤ length (drop (scan.piece + 1) bytes) → All (λ byte. is_space byte ≡ true) (drop len (drop (scan.piece + 1) bytes)) → (0 < len → is_space (get_or (drop (scan.piece + 1) bytes) (len - 1) 0) ≡ false) → IsLast bytes scan (held scan (scan.piece + 1 + len)) (session_open bytes scan)
  quote_last is len within spaces last = subst (IsLast bytes scan (held scan (scan.piece + 1 + len))) (sym (ap (λ p. is_line p && (scan.line && starts (drop scan.piece bytes) (codes "-- session "))) is)) (last_quote is len within spaces last)
