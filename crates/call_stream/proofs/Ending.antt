-- What is open where the bytes end.
use Rattle.std.proofs.Common.{◌≡◌, ◌≢◌, ◌≤◌, ◌+◌, ℕ, Bool, true, false, List, [], ◌∷◌, ◌++◌, length, drop, All, inl, inr, refl, sym, ap, ◌∙◌, subst, arith}
use Rattle.std.specs.Prelude.{◌&&◌, slice_range, codes}
use Rattle.std.specs.List.{AllByRecursion}
use Rattle.std.proofs.lemmas.Bool.{cases_Bool}
use Rattle.std.proofs.lemmas.Bool.Decides.{Decides-eqb}
use Rattle.std.proofs.lemmas.List.{append-nil, length-append, length-drop, drop_all, drop-drop}
use Rattle.std.proofs.lemmas.List.Elements.{All-drop}
use Rattle.std.proofs.lemmas.Slice.Eq.{starts_is}
use Rattle.script_model.specs.Piece.{Piece, Byte, Quoted, Unclosed, Comment, SessionLine, Semicolon, bytes_of, starts, IsPiece, ArePieces}
use Rattle.sql_reader.specs.scripts.Fronts.{is_inner}
use Rattle.sql_reader.proofs.Scripts.Marking.{each_append}
use Rattle.sql_reader.proofs.Scripts.Scanning.{ArePieces-append}
use Rattle.call_stream.specs.Given.{AreOpen}
use Rattle.call_stream.specs.Scans.{IsScanned}
use Rattle.call_stream.specs.Stretches.{line_of}
use Rattle.call_stream.specs.declared.scan.Place.{Place}
use Rattle.call_stream.specs.declared.scan.Place.TheVariants.{Between, Dash, Line, Quote}
use Rattle.call_stream.specs.declared.scan.Scan.{Scan}
use Rattle.call_stream.proofs.Scanning.{cut, open_at}

abbrev inner_piece : Piece → Type 0
inner_piece piece = is_inner piece ≡ true

-- the pieces of bytes that close no text, as if the input ended after them
pub record OpenPieces (bytes : List ℕ) (scan : Scan) : Type 0 where
  pub pieces : List Piece
  pub are : ArePieces scan.begins pieces bytes []
  pub are_open : AreOpen pieces

-- pieces that end no stretch are open
inner_open : (pieces : List Piece) → AllByRecursion inner_piece pieces → AreOpen pieces
inner_open [] inner = tt
inner_open (Byte byte ∷ pieces) (here, inner) = (here, inner_open pieces inner)
inner_open (Quoted between ∷ pieces) (here, inner) = (here, inner_open pieces inner)
inner_open (Unclosed after ∷ pieces) (here, inner) = (here, inner_open pieces inner)
inner_open (Comment line ∷ pieces) (here, inner) = (here, inner_open pieces inner)
inner_open (SessionLine line ∷ pieces) (here, inner) = absurd (let wrong : false ≡ true = here in cc)
inner_open (Semicolon ∷ pieces) (here, inner) = absurd (let wrong : false ≡ true = here in cc)

-- and a session line after them
line_open : (pieces : List Piece) (line : List ℕ) → AllByRecursion inner_piece pieces → AreOpen (pieces ++ SessionLine line ∷ [])
line_open [] line inner = tt
line_open (Byte byte ∷ pieces) line (here, inner) = (here, line_open pieces line inner)
line_open (Quoted between ∷ pieces) line (here, inner) = (here, line_open pieces line inner)
line_open (Unclosed after ∷ pieces) line (here, inner) = (here, line_open pieces line inner)
line_open (Comment text ∷ pieces) line (here, inner) = (here, line_open pieces line inner)
line_open (SessionLine text ∷ pieces) line (here, inner) = absurd (let wrong : false ≡ true = here in cc)
line_open (Semicolon ∷ pieces) line (here, inner) = absurd (let wrong : false ≡ true = here in cc)

-- the pieces up to the open one, and then others up to the end
pub whole_then : (bytes : List ℕ) (scan : Scan) (scanned : IsScanned bytes scan) (more : List Piece) → ArePieces scan.line more (drop scan.piece bytes) [] → ArePieces scan.begins (scanned.pieces ++ more) bytes []
whole_then bytes scan scanned more are =
    let whole : ArePieces scan.begins scanned.pieces bytes (drop scan.piece bytes) =
    subst (λ l. ArePieces scan.begins scanned.pieces l (drop scan.piece bytes)) (append-nil bytes) (subst (ArePieces scan.begins scanned.pieces (bytes ++ [])) (append-nil (drop scan.piece bytes)) (scanned.settled [])) in
    ArePieces-append scan.begins scanned.pieces more bytes (drop scan.piece bytes) [] whole (subst (λ b. ArePieces b more (drop scan.piece bytes) []) scanned.line_is are)

-- one piece is all that is open
pub one_then : (line : Bool) (piece : Piece) (bytes : List ℕ) → bytes ≡ bytes_of piece → IsPiece line piece [] → ArePieces line (piece ∷ []) bytes []
one_then line piece bytes is fits = ([], is ∙ sym (append-nil (bytes_of piece)), fits, refl)

-- all that is open
pub rest_open : (bytes : List ℕ) (scan : Scan) → IsScanned bytes scan → scan.at ≡ length bytes → drop scan.piece bytes ≡ slice_range bytes scan.piece scan.at
rest_open bytes scan scanned end =
    cut bytes scan.piece scan.at scanned.order ∙ ap (λ l. slice_range bytes scan.piece scan.at ++ l) (drop_all scan.at bytes (omega arith)) ∙ append-nil (slice_range bytes scan.piece scan.at)

starts-split : (bytes needle : List ℕ) → starts bytes needle ≡ true → bytes ≡ needle ++ drop (length needle) bytes
starts-split bytes needle is = (starts_is Decides-eqb bytes needle _ refl).0 is

-- the open line, where it is a session line, and where it is none
pub session_then : (bytes : List ℕ) (scan : Scan) (scanned : IsScanned bytes scan) → scan.at ≡ length bytes → scan.place ≡ Line → (scan.line && starts (drop scan.piece bytes) (codes "-- session ")) ≡ true → (scan.piece + 11 ≤ scan.at) × ArePieces scan.line (SessionLine (line_of bytes scan) ∷ []) (drop scan.piece bytes) []
session_then bytes scan scanned end is session = by scan.line refl session
  where
    rest : List ℕ
    rest = drop scan.piece bytes

    by : (line : Bool) → scan.line ≡ line → (line && starts (drop scan.piece bytes) (codes "-- session ")) ≡ true → (scan.piece + 11 ≤ scan.at) × ArePieces scan.line (SessionLine (line_of bytes scan) ∷ []) (drop scan.piece bytes) []
    by false same session = absurd (let wrong : false ≡ true = session in cc)
    by true same session =
        let open_line = open_at bytes scan Line scanned is in
        let line = open_line.line in
        let split : drop scan.piece bytes ≡ 45 ∷ 45 ∷ line = rest_open bytes scan scanned end ∙ open_line.is in
        let named : starts line (codes " session ") ≡ true = subst (λ l. starts l (codes "-- session ") ≡ true) split session in
        let whole : line ≡ codes " session " ++ drop 9 line = starts-split line (codes " session ") named in
        let long : scan.piece + 11 ≤ scan.at = omega (arith, scanned.order, ap length whole, length-append (codes " session ") (drop 9 line), ap length split, length-drop scan.piece bytes) in
        let same_line : line_of bytes scan ≡ drop 9 line =
        sym (append-nil (line_of bytes scan)) ∙ ap (λ l. line_of bytes scan ++ l) (sym (drop_all scan.at bytes (omega arith))) ∙ sym (cut bytes (scan.piece + 11) scan.at long) ∙ sym (drop-drop 11 scan.piece bytes) ∙ ap (drop 11) split in (
          long,
          one_then scan.line (SessionLine (line_of bytes scan)) (drop scan.piece bytes) (split ∙ ap (λ l. 45 ∷ 45 ∷ l) whole ∙ ap (λ l. codes "-- session " ++ l) (sym same_line))
              (same, (subst (All (λ b. b ≢ 10)) (sym same_line) (All-drop (λ b. b ≢ 10) 9 line open_line.one_line), tt)),
        )

pub comment_then : (bytes : List ℕ) (scan : Scan) (scanned : IsScanned bytes scan) → scan.at ≡ length bytes → (is : scan.place ≡ Line) → (scan.line && starts (drop scan.piece bytes) (codes "-- session ")) ≡ false → ArePieces scan.line (Comment (open_at bytes scan Line scanned is).line ∷ []) (drop scan.piece bytes) []
comment_then bytes scan scanned end is other =
    let open_line = open_at bytes scan Line scanned is in
    let split : drop scan.piece bytes ≡ 45 ∷ 45 ∷ open_line.line = rest_open bytes scan scanned end ∙ open_line.is in
    one_then scan.line (Comment open_line.line) (drop scan.piece bytes) split
    ((open_line.one_line, tt), λ begins. sym (ap (λ b. b && starts (drop scan.piece bytes) (codes "-- session ")) begins ∙ ap (λ l. starts l (codes "-- session ")) split) ∙ other)

pub dash_then : (bytes : List ℕ) (scan : Scan) (scanned : IsScanned bytes scan) → scan.at ≡ length bytes → scan.place ≡ Dash → ArePieces scan.line (Byte 45 ∷ []) (drop scan.piece bytes) []
dash_then bytes scan scanned end is =
    one_then scan.line (Byte 45) (drop scan.piece bytes) (rest_open bytes scan scanned end ∙ open_at bytes scan Dash scanned is) (record { no_quote = omega arith; no_semicolon = omega arith; no_comment = refl })

pub quote_then : (bytes : List ℕ) (scan : Scan) (scanned : IsScanned bytes scan) → scan.at ≡ length bytes → (is : scan.place ≡ Quote) → ArePieces scan.line (Unclosed (open_at bytes scan Quote scanned is).between ∷ []) (drop scan.piece bytes) []
quote_then bytes scan scanned end is =
    let quote = open_at bytes scan Quote scanned is in
    one_then scan.line (Unclosed quote.between) (drop scan.piece bytes) (rest_open bytes scan scanned end ∙ quote.is) (quote.no_quote, refl)

pub between_then : (bytes : List ℕ) (scan : Scan) (scanned : IsScanned bytes scan) → scan.at ≡ length bytes → scan.place ≡ Between → ArePieces scan.line [] (drop scan.piece bytes) []
between_then bytes scan scanned end is = rest_open bytes scan scanned end ∙ open_at bytes scan Between scanned is

-- where a scan has come to the end of the bytes, they close no text
pub open_pieces : (bytes : List ℕ) (scan : Scan) → IsScanned bytes scan → scan.at ≡ length bytes → OpenPieces bytes scan
open_pieces bytes scan scanned end = by scan.place refl
  where
    one_open : (piece : Piece) → is_inner piece ≡ true → ArePieces scan.line (piece ∷ []) (drop scan.piece bytes) [] → OpenPieces bytes scan
    one_open piece inner are =
        record { pieces = scanned.pieces ++ piece ∷ []; are = whole_then bytes scan scanned (piece ∷ []) are; are_open = inner_open (scanned.pieces ++ piece ∷ []) (each_append inner_piece scanned.pieces (piece ∷ []) scanned.inner (inner, tt)) }

    by : (place : Place) → scan.place ≡ place → OpenPieces bytes scan
    by Between is = record { pieces = scanned.pieces ++ []; are = whole_then bytes scan scanned [] (between_then bytes scan scanned end is); are_open = inner_open (scanned.pieces ++ []) (each_append inner_piece scanned.pieces [] scanned.inner tt) }
    by Dash is = one_open (Byte 45) refl (dash_then bytes scan scanned end is)
    by Quote is = one_open (Unclosed (open_at bytes scan Quote scanned is).between) refl (quote_then bytes scan scanned end is)
    by Line is =
        elim (cases_Bool (scan.line && starts (drop scan.piece bytes) (codes "-- session "))) [
          | inl session ↦ record {
            pieces = scanned.pieces ++ SessionLine (line_of bytes scan) ∷ [];
            are = whole_then bytes scan scanned (SessionLine (line_of bytes scan) ∷ []) (session_then bytes scan scanned end is session).1;
            are_open = line_open scanned.pieces (line_of bytes scan) scanned.inner;
          }
          | inr other ↦ one_open (Comment (open_at bytes scan Line scanned is).line) refl (comment_then bytes scan scanned end is other)
        ]
