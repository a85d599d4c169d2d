-- How a stretch is gone over, a byte at a time.
use Rattle.std.proofs.Common.{◌≡◌, ◌≢◌, ◌<◌, ◌≤◌, ◌+◌, ◌-◌, ℕ, Bool, true, false, List, [], ◌∷◌, ◌++◌, length, get_or, take, drop, map, reverse, inl, inr, refl, sym, ap, ◌∙◌, subst, arith, append_assoc}
use Rattle.std.specs.Prelude.{◌==◌, ◌&&◌, if◌then◌else◌, not, slice_range, codes}
use Rattle.std.specs.List.{flat_map}
use Rattle.std.proofs.lemmas.Bool.{cases_Bool, both_ways, ne_eqb, eq-eqb, cases_eq}
use Rattle.std.proofs.lemmas.Bool.Decides.{Decides-eqb}
use Rattle.std.proofs.lemmas.List.{append-nil, length-append, length-map, length-drop, length-take, map-append, reverse-append, take-append-drop, drop-drop, drop_more, take_more, get_or-drop, drop-append-le, take-append-le, get_or_append_left}
use Rattle.std.proofs.lemmas.List.Concat.{flat_map-append}
use Rattle.std.proofs.lemmas.List.Elements.{All-nil, All-cons, All-append}
use Rattle.std.proofs.lemmas.Slice.Eq.{starts_is}
use Rattle.sql_lex.specs.Bytes.{is_space}
use Rattle.sql_lex.specs.Filler.{EndsLine}
use Rattle.script_model.specs.Piece.{Piece, Byte, Quoted, Comment, bytes_of, ends_line, starts, IsPiece, ArePieces}
use Rattle.script_model.specs.CallText.{Mark, mark_of, mark_in_comment, marks_of}
use Rattle.sql_reader.specs.scripts.Fronts.{AreEmpty, Holds, begins_full, is_inner, begins_after}
use Rattle.sql_reader.specs.scripts.Stretches.{Spans}
use Rattle.sql_reader.proofs.Scripts.FrontPieces.{space_low}
use Rattle.sql_reader.proofs.Scripts.Marking.{byte_in, pieces_bytes, each_append, Spans-empty, Spans-first, Spans-later}
use Rattle.sql_reader.proofs.Scripts.Scanning.{begins_after-push, ArePieces-append}
use Rattle.call_stream.specs.Settled.{AreSettled}
use Rattle.call_stream.specs.Scans.{IsOpenPiece, IsLow, IsEdge, IsScanned, passed, held, opened}
use Rattle.call_stream.specs.declared.scan.Place.{Place}
use Rattle.call_stream.specs.declared.scan.Place.TheVariants.{Between, Dash, Line, Quote}
use Rattle.call_stream.specs.declared.scan.Scan.{Scan}

abbrev inner_piece : Piece → Type 0
inner_piece piece = is_inner piece ≡ true

-- one piece more is settled
pub settled_push : (begins line : Bool) (pieces : List Piece) (piece : Piece) (bytes rest after : List ℕ) → AreSettled begins pieces bytes rest → line ≡ begins_after begins pieces → AreSettled line (piece ∷ []) rest after → AreSettled begins (pieces ++ piece ∷ []) bytes after
settled_push begins line pieces piece bytes rest after settled same one =
    λ more. ArePieces-append begins pieces (piece ∷ []) (bytes ++ more) (rest ++ more) (after ++ more) (settled more) (subst (λ b. ArePieces b (piece ∷ []) (rest ++ more) (after ++ more)) same (one more))

pub one_settled : (line : Bool) (piece : Piece) (bytes after : List ℕ) → bytes ≡ bytes_of piece ++ after → ((more : List ℕ) → IsPiece line piece (after ++ more)) → AreSettled line (piece ∷ []) bytes after
one_settled line piece bytes after split fits =
    λ more. (after ++ more, ap (λ l. l ++ more) split ∙ append_assoc (bytes_of piece) after more, fits more, refl)

-- the bytes from one place to another, and those after them
pub cut : (bytes : List ℕ) (from to : ℕ) → from ≤ to → drop from bytes ≡ slice_range bytes from to ++ drop to bytes
cut bytes from to order =
    let place : from + (to - from) ≡ to = omega arith in
    sym (take-append-drop (to - from) (drop from bytes)) ∙ ap (λ l. slice_range bytes from to ++ l) (drop-drop (to - from) from bytes ∙ ap (λ n. drop n bytes) place)

-- one byte more
pub slice_more : (bytes : List ℕ) (from at : ℕ) → from ≤ at → at < length bytes → slice_range bytes from (at + 1) ≡ slice_range bytes from at ++ get_or bytes at 0 ∷ []
slice_more bytes from at order within =
    let next : at + 1 - from ≡ at - from + 1 = omega arith in
    let place : from + (at - from) ≡ at = omega arith in
    let there : at - from < length (drop from bytes) = omega (arith, length-drop from bytes) in
    ap (λ n. take n (drop from bytes)) next ∙ take_more (drop from bytes) (at - from) 0 there ∙ ap (λ b. slice_range bytes from at ++ b ∷ []) (get_or-drop from bytes (at - from) 0 ∙ ap (λ n. get_or bytes n 0) place)

-- where the open piece begins
pub piece_is : (bytes : List ℕ) (scan : Scan) (scanned : IsScanned bytes scan) → scan.piece ≡ length (flat_map marks_of scanned.pieces)
piece_is bytes scan scanned =
    let marks = flat_map marks_of scanned.pieces in
    let split = pieces_bytes scan.begins scanned.pieces (bytes ++ []) (drop scan.piece bytes ++ []) (scanned.settled []) in
    omega (arith, scanned.within, scanned.order, ap length split, length-append bytes [], length-append (map byte_in marks) (drop scan.piece bytes ++ []), length-append (drop scan.piece bytes) [], length-map marks byte_in, length-drop scan.piece bytes)

marks_push : (pieces : List Piece) (piece : Piece) → flat_map marks_of pieces ++ marks_of piece ≡ flat_map marks_of (pieces ++ piece ∷ [])
marks_push pieces piece = ap (λ l. flat_map marks_of pieces ++ l) (sym (append-nil (marks_of piece))) ∙ sym (flat_map-append marks_of pieces (piece ∷ []))

-- a piece that ends before a byte, and no stretch
pub record Ends (bytes : List ℕ) (scan : Scan) (piece : Piece) (next : ℕ) : Type 0 where
  pub some : scan.piece < next
  pub within : next ≤ length bytes
  pub split : drop scan.piece bytes ≡ bytes_of piece ++ drop next bytes
  pub fits : (more : List ℕ) → IsPiece scan.line piece (drop next bytes ++ more)
  pub inner : is_inner piece ≡ true

nothing_open : (bytes : List ℕ) (at : ℕ) → slice_range bytes at at ≡ []
nothing_open bytes at = let none : at - at ≡ 0 = omega arith in ap (λ n. take n (drop at bytes)) none

settled_more : (bytes : List ℕ) (scan : Scan) (piece : Piece) (next : ℕ) (scanned : IsScanned bytes scan) → Ends bytes scan piece next → AreSettled scan.begins (scanned.pieces ++ piece ∷ []) bytes (drop next bytes)
settled_more bytes scan piece next scanned ends =
    settled_push scan.begins scan.line scanned.pieces piece bytes (drop scan.piece bytes) (drop next bytes) scanned.settled scanned.line_is (one_settled scan.line piece (drop scan.piece bytes) (drop next bytes) ends.split ends.fits)

-- it is empty
pub pass : (bytes : List ℕ) (scan : Scan) (piece : Piece) (next : ℕ) (line : Bool) → IsScanned bytes scan → Ends bytes scan piece next → AreEmpty (marks_of piece) → line ≡ ends_line piece → get_or bytes scan.piece 0 < 128 → IsEdge bytes next → IsScanned bytes (passed scan next line)
pass bytes scan piece next line scanned ends empty line_is low edge =
    record {
      within = ends.within;
      order = omega arith;
      pieces = scanned.pieces ++ piece ∷ [];
      inner = each_append inner_piece scanned.pieces (piece ∷ []) scanned.inner (ends.inner, tt);
      settled = settled_more bytes scan piece next scanned ends;
      line_is = line_is ∙ sym (begins_after-push scan.begins scanned.pieces piece);
      opens = nothing_open bytes next;
      spans = subst (Spans 0 scan.start scan.end) (marks_push scanned.pieces piece) (Spans-empty 0 scan.start scan.end (flat_map marks_of scanned.pieces) (marks_of piece) scanned.spans empty);
      in_order = scanned.in_order;
      before = omega (arith, scanned.before, ends.some);
      start_edge = scanned.start_edge;
      piece_edge = λ _. edge;
      end_edge = inr (elim scanned.end_edge [ inl same ↦ inr (inl (subst (IsLow bytes) (sym same) (record { within = omega (arith, ends.some, ends.within); low = low }))) | inr earlier ↦ earlier ]);
    }

abbrev pub with_start : Scan → ℕ → ℕ → Scan
with_start scan next start = record scan { place = Between; line = false; piece = next; at = next; start = start; end = next }

-- it is text
pub hold : (bytes : List ℕ) (scan : Scan) (piece : Piece) (next : ℕ) → IsScanned bytes scan → Ends bytes scan piece next → Holds (marks_of piece) (next - scan.piece) → ends_line piece ≡ false → IsScanned bytes (held scan next)
hold bytes scan piece next scanned ends holds no_line =
    elim (cases_eq scan.start scan.end) [
      | inl none ↦
          subst (λ b. IsScanned bytes (with_start scan next (if b then scan.piece else scan.start))) (sym (eq-eqb scan.start scan.end none))
          (from_start scan.piece (omega (arith, ends.some)) (scanned.piece_edge none) (subst (λ n. Spans 0 scan.piece n (marks ++ marks_of piece)) place (Spans-first 0 scan.start scan.end scan.piece (next - scan.piece) marks (marks_of piece) none scanned.spans holds at_is)))
      | inr some ↦
          subst (λ b. IsScanned bytes (with_start scan next (if b then scan.piece else scan.start))) (sym (ne_eqb scan.start scan.end some))
          (from_start scan.start (omega (arith, scanned.in_order, scanned.before, ends.some)) (scanned.start_edge (omega (arith, scanned.in_order))) (subst (λ n. Spans 0 scan.start n (marks ++ marks_of piece)) place (Spans-later 0 scan.start scan.end scan.piece (next - scan.piece) marks (marks_of piece) some scanned.spans holds at_is)))
    ]
  where
    marks : List Mark
    marks = flat_map marks_of scanned.pieces

    at_is : scan.piece ≡ 0 + length (flat_map marks_of scanned.pieces)
    at_is = omega (arith, piece_is bytes scan scanned)

    place : scan.piece + (next - scan.piece) ≡ next
    place = omega (arith, ends.some)

    from_start : (start : ℕ) → start < next → IsEdge bytes start → Spans 0 start next (flat_map marks_of scanned.pieces ++ marks_of piece) → IsScanned bytes (with_start scan next start)
    from_start start less edge spans =
        record {
          within = ends.within;
          order = omega arith;
          pieces = scanned.pieces ++ piece ∷ [];
          inner = each_append inner_piece scanned.pieces (piece ∷ []) scanned.inner (ends.inner, tt);
          settled = settled_more bytes scan piece next scanned ends;
          line_is = sym no_line ∙ sym (begins_after-push scan.begins scanned.pieces piece);
          opens = nothing_open bytes next;
          spans = subst (Spans 0 start next) (marks_push scanned.pieces piece) spans;
          in_order = omega arith;
          before = omega arith;
          start_edge = λ _. edge;
          piece_edge = λ same. absurd (omega arith);
          end_edge = inl refl;
        }

-- the next byte belongs to the open piece
pub go_open : (bytes : List ℕ) (scan : Scan) (place : Place) → IsScanned bytes scan → scan.at < length bytes → IsOpenPiece place (slice_range bytes scan.piece scan.at ++ get_or bytes scan.at 0 ∷ []) → IsScanned bytes (opened scan place)
go_open bytes scan place scanned more is =
    record {
      within = omega arith;
      order = omega (arith, scanned.order);
      pieces = scanned.pieces;
      inner = scanned.inner;
      settled = scanned.settled;
      line_is = scanned.line_is;
      opens = subst (IsOpenPiece place) (sym (slice_more bytes scan.piece scan.at scanned.order more)) is;
      spans = scanned.spans;
      in_order = scanned.in_order;
      before = scanned.before;
      start_edge = scanned.start_edge;
      piece_edge = scanned.piece_edge;
      end_edge = scanned.end_edge;
    }

-- what is open, by the place
pub open_at : (bytes : List ℕ) (scan : Scan) (place : Place) → IsScanned bytes scan → scan.place ≡ place → IsOpenPiece place (slice_range bytes scan.piece scan.at)
open_at bytes scan place scanned is = subst (λ p. IsOpenPiece p (slice_range bytes scan.piece scan.at)) is scanned.opens

open_length : (bytes : List ℕ) (scan : Scan) → IsScanned bytes scan → length (slice_range bytes scan.piece scan.at) ≡ scan.at - scan.piece
open_length bytes scan scanned = omega (arith, scanned.within, scanned.order, length-take (scan.at - scan.piece) (drop scan.piece bytes), length-drop scan.piece bytes)

pub between_at : (bytes : List ℕ) (scan : Scan) → IsScanned bytes scan → scan.place ≡ Between → scan.piece ≡ scan.at
between_at bytes scan scanned is = omega (arith, scanned.order, open_length bytes scan scanned, ap length (open_at bytes scan Between scanned is))

pub dash_at : (bytes : List ℕ) (scan : Scan) → IsScanned bytes scan → scan.place ≡ Dash → scan.at ≡ scan.piece + 1
dash_at bytes scan scanned is = omega (arith, scanned.order, open_length bytes scan scanned, ap length (open_at bytes scan Dash scanned is))

-- two dashes are open, or a quote
pub line_at : (bytes : List ℕ) (scan : Scan) → IsScanned bytes scan → scan.place ≡ Line → scan.piece + 2 ≤ scan.at
line_at bytes scan scanned is = let line = open_at bytes scan Line scanned is in omega (arith, scanned.order, open_length bytes scan scanned, ap length line.is)

pub quote_at : (bytes : List ℕ) (scan : Scan) → IsScanned bytes scan → scan.place ≡ Quote → scan.piece + 1 ≤ scan.at
quote_at bytes scan scanned is = let quote = open_at bytes scan Quote scanned is in omega (arith, scanned.order, open_length bytes scan scanned, ap length quote.is)

-- the first byte of the open piece
pub first_open : (bytes more : List ℕ) (from to byte : ℕ) → from ≤ to → slice_range bytes from to ≡ byte ∷ more → get_or bytes from 0 ≡ byte
first_open bytes more from to byte order is =
    ap (λ n. get_or bytes n 0) (omega arith) ∙ sym (get_or-drop from bytes 0 0) ∙ ap (λ l. get_or l 0 0) (cut bytes from to order ∙ ap (λ l. l ++ drop to bytes) is)

-- a byte by itself
pub byte_ends : (bytes : List ℕ) (scan : Scan) (byte : ℕ) → scan.piece < length bytes → get_or bytes scan.piece 0 ≡ byte → byte ≢ 39 → byte ≢ 59 → byte ≢ 45 → Ends bytes scan (Byte byte) (scan.piece + 1)
byte_ends bytes scan byte more is no_quote no_semicolon no_dash =
    record {
      some = omega arith;
      within = omega arith;
      split = drop_more bytes scan.piece 0 more ∙ ap (λ b. b ∷ drop (scan.piece + 1) bytes) is;
      fits = λ rest. record { no_quote = no_quote; no_semicolon = no_semicolon; no_comment = ap (λ b. b && starts (drop (scan.piece + 1) bytes ++ rest) (45 ∷ [])) (ne_eqb 45 byte (λ same. no_dash (sym same))) };
      inner = refl;
    }

pub byte_holds : (byte held : ℕ) → is_space byte ≡ false → held ≡ 1 → Holds (marks_of (Byte byte)) held
byte_holds byte len full one =
    record { text = mark_of byte ∷ []; back = []; split = refl; tight = record { first = ap not full; last = ap not full }; back_empty = tt; held_is = one }

-- a dash that another byte follows
pub dash_ends : (bytes : List ℕ) (scan : Scan) → IsScanned bytes scan → scan.place ≡ Dash → scan.at < length bytes → get_or bytes scan.at 0 ≢ 45 → Ends bytes scan (Byte 45) scan.at
dash_ends bytes scan scanned is more other =
    record {
      some = omega (arith, dash_at bytes scan scanned is);
      within = omega arith;
      split = cut bytes scan.piece scan.at scanned.order ∙ ap (λ l. l ++ drop scan.at bytes) (open_at bytes scan Dash scanned is);
      fits = λ rest. record {
        no_quote = omega arith;
        no_semicolon = omega arith;
        no_comment = ap (λ l. starts (45 ∷ (l ++ rest)) (codes "--")) (drop_more bytes scan.at 0 more) ∙ ap (λ b. b && true) (ne_eqb 45 (get_or bytes scan.at 0) (λ same. other (sym same)));
      };
      inner = refl;
    }

-- a quote after one that is open
pub quote_ends : (bytes : List ℕ) (scan : Scan) (scanned : IsScanned bytes scan) (is : scan.place ≡ Quote) → scan.at < length bytes → get_or bytes scan.at 0 ≡ 39 → Ends bytes scan (Quoted (open_at bytes scan Quote scanned is).between) (scan.at + 1)
quote_ends bytes scan scanned is more closes =
    let quote = open_at bytes scan Quote scanned is in
    record {
      some = omega (arith, scanned.order);
      within = omega arith;
      split = cut bytes scan.piece (scan.at + 1) (omega (arith, scanned.order)) ∙ ap (λ l. l ++ drop (scan.at + 1) bytes) (slice_more bytes scan.piece scan.at scanned.order more ∙ (λ i. quote.is i ++ closes i ∷ []));
      fits = λ rest. quote.no_quote;
      inner = refl;
    }

pub quoted_holds : (between : List ℕ) (held : ℕ) → held ≡ length between + 2 → Holds (marks_of (Quoted between)) held
quoted_holds between held_ long =
    let marks = marks_of (Quoted between) in
    let split : marks ≡ map mark_of (39 ∷ between) ++ mark_of 39 ∷ [] = map-append mark_of (39 ∷ between) (39 ∷ []) in
    record {
      text = marks;
      back = [];
      split = sym (append-nil marks);
      tight = record { first = refl; last = ap (λ l. begins_full (reverse l)) split ∙ ap begins_full (reverse-append (map mark_of (39 ∷ between)) (mark_of 39 ∷ [])) };
      back_empty = tt;
      held_is = omega (arith, length-map (39 ∷ (between ++ 39 ∷ [])) mark_of, length-append between (39 ∷ []));
    }

starts-split : (bytes needle : List ℕ) → starts bytes needle ≡ true → bytes ≡ needle ++ drop (length needle) bytes
starts-split bytes needle is = (starts_is Decides-eqb bytes needle _ refl).0 is

starts-whole : (bytes needle rest : List ℕ) → bytes ≡ needle ++ rest → starts bytes needle ≡ true
starts-whole bytes needle rest split = (starts_is Decides-eqb bytes needle _ refl).1 rest split

starts-more : (bytes needle more : List ℕ) → starts bytes needle ≡ true → starts (bytes ++ more) needle ≡ true
starts-more bytes needle more is =
    starts-whole (bytes ++ more) needle (drop (length needle) bytes ++ more) (ap (λ l. l ++ more) (starts-split bytes needle is) ∙ append_assoc needle (drop (length needle) bytes) more)

-- a line of a comment ends
pub comment_ends : (bytes : List ℕ) (scan : Scan) (scanned : IsScanned bytes scan) (is : scan.place ≡ Line) → scan.at < length bytes → get_or bytes scan.at 0 ≡ 10 → (scan.line && starts (drop scan.piece bytes) (codes "-- session ")) ≡ false → Ends bytes scan (Comment (open_at bytes scan Line scanned is).line) scan.at
comment_ends bytes scan scanned is more closes other =
    let line = open_at bytes scan Line scanned is in
    let split : drop scan.piece bytes ≡ (45 ∷ 45 ∷ line.line) ++ drop scan.at bytes = cut bytes scan.piece scan.at scanned.order ∙ ap (λ l. l ++ drop scan.at bytes) line.is in
    record {
      some = omega (arith, line_at bytes scan scanned is);
      within = omega arith;
      split = split;
      fits = λ rest. (
        (line.one_line, subst (λ l. EndsLine (l ++ rest)) (sym (drop_more bytes scan.at 0 more)) closes),
        λ here. elim (cases_Bool (starts line.line (codes " session "))) [
          | inl begun ↦ absurd (both_ways (scan.line && starts (drop scan.piece bytes) (codes "-- session ")) other (ap (λ b. b && starts (drop scan.piece bytes) (codes "-- session ")) here ∙ ap (λ l. starts l (codes "-- session ")) split ∙ starts-more line.line (codes " session ") (drop scan.at bytes) begun))
          | inr none ↦ none
        ],
      );
      inner = refl;
    }

marks_empty : (bytes : List ℕ) → AreEmpty (map mark_in_comment bytes)
marks_empty [] = tt
marks_empty (byte ∷ bytes) = (refl, marks_empty bytes)

pub comment_empty : (line : List ℕ) → AreEmpty (marks_of (Comment line))
comment_empty line = marks_empty (45 ∷ 45 ∷ line)

-- The steps of a scan, by its place and the byte that comes next.
module _ (bytes : List ℕ) (scan : Scan) (scanned : IsScanned bytes scan) (more : scan.at < length bytes) where
  next : ℕ
  next = get_or bytes scan.at 0

  pub opens_quote : scan.place ≡ Between → get_or bytes scan.at 0 ≡ 39 → IsScanned bytes (opened scan Quote)
  opens_quote is byte = go_open bytes scan Quote scanned more (record { between = []; is = λ i. open_at bytes scan Between scanned is i ++ byte i ∷ []; no_quote = All-nil (λ b. b ≢ 39) })

  pub opens_dash : scan.place ≡ Between → get_or bytes scan.at 0 ≡ 45 → IsScanned bytes (opened scan Dash)
  opens_dash is byte = go_open bytes scan Dash scanned more (λ i. open_at bytes scan Between scanned is i ++ byte i ∷ [])

  pub opens_line : scan.place ≡ Dash → get_or bytes scan.at 0 ≡ 45 → IsScanned bytes (opened scan Line)
  opens_line is byte = go_open bytes scan Line scanned more (record { line = []; is = λ i. open_at bytes scan Dash scanned is i ++ byte i ∷ []; one_line = All-nil (λ b. b ≢ 10) })

  pub goes_on_line : scan.place ≡ Line → get_or bytes scan.at 0 ≢ 10 → IsScanned bytes (opened scan Line)
  goes_on_line is other =
      let line = open_at bytes scan Line scanned is in
      let P : ℕ → Type 0 = λ b. b ≢ 10 in
      go_open bytes scan Line scanned more (record {
        line = line.line ++ get_or bytes scan.at 0 ∷ [];
        is = ap (λ l. l ++ get_or bytes scan.at 0 ∷ []) line.is;
        one_line = All-append P line.line (get_or bytes scan.at 0 ∷ []) line.one_line (All-cons P (get_or bytes scan.at 0) [] other (All-nil P));
      })

  pub goes_on_quote : scan.place ≡ Quote → get_or bytes scan.at 0 ≢ 39 → IsScanned bytes (opened scan Quote)
  goes_on_quote is other =
      let quote = open_at bytes scan Quote scanned is in
      let P : ℕ → Type 0 = λ b. b ≢ 39 in
      go_open bytes scan Quote scanned more (record {
        between = quote.between ++ get_or bytes scan.at 0 ∷ [];
        is = ap (λ l. l ++ get_or bytes scan.at 0 ∷ []) quote.is;
        no_quote = All-append P quote.between (get_or bytes scan.at 0 ∷ []) quote.no_quote (All-cons P (get_or bytes scan.at 0) [] other (All-nil P));
      })

  pub closes_quote : scan.place ≡ Quote → get_or bytes scan.at 0 ≡ 39 → IsScanned bytes (held scan (scan.at + 1))
  closes_quote is byte =
      let quote = open_at bytes scan Quote scanned is in
      hold bytes scan (Quoted quote.between) (scan.at + 1) scanned (quote_ends bytes scan scanned is more byte)
      (quoted_holds quote.between (scan.at + 1 - scan.piece) (omega (arith, scanned.order, open_length bytes scan scanned, ap length quote.is))) refl

  pub puts_dash : scan.place ≡ Dash → get_or bytes scan.at 0 ≢ 45 → IsScanned bytes (held scan scan.at)
  puts_dash is other =
      hold bytes scan (Byte 45) scan.at scanned (dash_ends bytes scan scanned is more other) (byte_holds 45 (scan.at - scan.piece) refl (omega (arith, dash_at bytes scan scanned is))) refl

  pub ends_comment : scan.place ≡ Line → get_or bytes scan.at 0 ≡ 10 → (scan.line && starts (drop scan.piece bytes) (codes "-- session ")) ≡ false → IsScanned bytes (passed scan scan.at false)
  ends_comment is byte other =
      let line = open_at bytes scan Line scanned is in
      let dash : get_or bytes scan.piece 0 ≡ 45 = first_open bytes (45 ∷ line.line) scan.piece scan.at 45 scanned.order line.is in
      pass bytes scan (Comment line.line) scan.at false scanned (comment_ends bytes scan scanned is more byte other) (comment_empty line.line) refl (omega (arith, dash)) (inr (inl (record { within = more; low = omega (arith, byte) })))

  pub passes_space : scan.place ≡ Between → is_space (get_or bytes scan.at 0) ≡ true → get_or bytes scan.at 0 ≢ 39 → get_or bytes scan.at 0 ≢ 59 → get_or bytes scan.at 0 ≢ 45 → IsScanned bytes (passed scan (scan.at + 1) (get_or bytes scan.at 0 == 10))
  passes_space is space no_quote no_semicolon no_dash =
      let same = between_at bytes scan scanned is in
      let byte = get_or bytes scan.at 0 in
      let there : get_or bytes scan.piece 0 ≡ byte = ap (λ n. get_or bytes n 0) same in
      let low : byte < 128 = space_low byte space in
      let place : scan.at + 1 - 1 ≡ scan.at = omega arith in
      subst (λ n. IsScanned bytes (passed scan (n + 1) (byte == 10))) same
      (pass bytes scan (Byte byte) (scan.piece + 1) (byte == 10) scanned (byte_ends bytes scan byte (omega (arith, same)) there no_quote no_semicolon no_dash) (space, tt) refl (omega (arith, there, low))
      (subst (λ n. IsEdge bytes (n + 1)) (sym same) (inr (inr (omega arith, record { within = omega arith; low = subst (λ n. get_or bytes n 0 < 128) (sym place) low })))))

  pub holds_byte : scan.place ≡ Between → is_space (get_or bytes scan.at 0) ≡ false → get_or bytes scan.at 0 ≢ 39 → get_or bytes scan.at 0 ≢ 59 → get_or bytes scan.at 0 ≢ 45 → IsScanned bytes (held scan (scan.at + 1))
  holds_byte is full no_quote no_semicolon no_dash =
      let same = between_at bytes scan scanned is in
      let byte = get_or bytes scan.at 0 in
      let there : get_or bytes scan.piece 0 ≡ byte = ap (λ n. get_or bytes n 0) same in
      subst (λ n. IsScanned bytes (held scan (n + 1))) same
      (hold bytes scan (Byte byte) (scan.piece + 1) scanned (byte_ends bytes scan byte (omega (arith, same)) there no_quote no_semicolon no_dash) (byte_holds byte (scan.piece + 1 - scan.piece) full (omega arith))
      (ne_eqb byte 10 (λ feed. both_ways (is_space byte) full (ap is_space feed))))

-- More bytes come.
low_more : (bytes more : List ℕ) (at : ℕ) → IsLow bytes at → IsLow (bytes ++ more) at
low_more bytes more at low = record { within = omega (arith, low.within, length-append bytes more); low = subst (λ b. b < 128) (sym (get_or_append_left bytes more 0 at low.within)) low.low }

edge_more : (bytes more : List ℕ) (at : ℕ) → IsEdge bytes at → IsEdge (bytes ++ more) at
edge_more bytes more at (inl first) = inl first
edge_more bytes more at (inr (inl low)) = inr (inl (low_more bytes more at low))
edge_more bytes more at (inr (inr (some, low))) = inr (inr (some, low_more bytes more (at - 1) low))

pub scanned_more : (bytes more : List ℕ) (scan : Scan) → IsScanned bytes scan → IsScanned (bytes ++ more) scan
scanned_more bytes more scan scanned =
    let rest : drop scan.piece (bytes ++ more) ≡ drop scan.piece bytes ++ more = drop-append-le scan.piece bytes more (omega (arith, scanned.order, scanned.within)) in
    let len : scan.at - scan.piece ≤ length (drop scan.piece bytes) = omega (arith, scanned.within, length-drop scan.piece bytes) in
    record {
      within = omega (arith, scanned.within, length-append bytes more);
      order = scanned.order;
      pieces = scanned.pieces;
      inner = scanned.inner;
      settled = λ later.
          subst (λ l. ArePieces scan.begins scanned.pieces ((bytes ++ more) ++ later) (l ++ later)) (sym rest)
          (subst (ArePieces scan.begins scanned.pieces ((bytes ++ more) ++ later)) (sym (append_assoc (drop scan.piece bytes) more later))
          (subst (λ l. ArePieces scan.begins scanned.pieces l (drop scan.piece bytes ++ (more ++ later))) (sym (append_assoc bytes more later)) (scanned.settled (more ++ later))));
      line_is = scanned.line_is;
      opens = subst (IsOpenPiece scan.place) (sym (ap (take (scan.at - scan.piece)) rest ∙ take-append-le (scan.at - scan.piece) (drop scan.piece bytes) more len)) scanned.opens;
      spans = scanned.spans;
      in_order = scanned.in_order;
      before = scanned.before;
      start_edge = λ some. edge_more bytes more scan.start (scanned.start_edge some);
      piece_edge = λ none. edge_more bytes more scan.piece (scanned.piece_edge none);
      end_edge = elim scanned.end_edge [ inl same ↦ inl same | inr edge ↦ inr (edge_more bytes more scan.end edge) ];
    }
