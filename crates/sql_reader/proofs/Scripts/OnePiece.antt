-- Bytes are one list of pieces, and no other.
use Rattle.std.proofs.Common.{◌≡◌, ◌≢◌, ◌<◌, ◌≤◌, ℕ, zero, suc, Bool, true, false, List, [], ◌∷◌, ◌++◌, length, drop, All, inl, inr, refl, sym, ap, ◌∙◌, subst, arith, append_assoc}
use Rattle.std.specs.Prelude.{codes, ◌==◌, ◌&&◌, if◌then◌else◌}
use Rattle.std.proofs.lemmas.Bool.{cases_Bool, both_ways, ne_eqb, eq-eqb, eqb-true}
use Rattle.std.proofs.lemmas.Bool.Decides.{eqb_tells, Decides-eqb}
use Rattle.std.proofs.lemmas.List.{append-nil, length-append}
use Rattle.std.proofs.lemmas.List.Elements.{All-from_recursion, All-nil, All-cons, All-head, All-tail}
use Rattle.std.proofs.lemmas.Slice.Eq.{starts_is}
use Rattle.sql_lex.specs.Filler.{EndsLine}
use Rattle.script_model.specs.Piece.{Piece, Byte, Quoted, Unclosed, Comment, SessionLine, Semicolon, bytes_of, starts, IsPiece, ArePieces, ends_line}

-- the bytes before the first that is this one
abbrev before : ℕ → List ℕ → List ℕ
before stop [] = []
before stop (byte ∷ bytes) = if byte == stop then [] else byte ∷ before stop bytes

-- the bytes from the first that is this one on
abbrev onward : ℕ → List ℕ → List ℕ
onward stop [] = []
onward stop (byte ∷ bytes) = if byte == stop then byte ∷ bytes else onward stop bytes

-- nothing, or this byte first
abbrev StopsAt : ℕ → List ℕ → Type 0
StopsAt stop [] = Unit {0}
StopsAt stop (byte ∷ bytes) = byte ≡ stop

abbrev Free : ℕ → List ℕ → Type 0
Free stop bytes = All (λ byte. byte ≢ stop) bytes

-- bytes without it, up to it
cut_once : (stop : ℕ) (line after : List ℕ) → Free stop line → StopsAt stop after → (before stop (line ++ after) ≡ line) × (onward stop (line ++ after) ≡ after)
cut_once stop [] [] free stops = (refl, refl)
cut_once stop [] (byte ∷ after) free stops =
    let same : (byte == stop) ≡ true = eq-eqb byte stop stops in
    (ap (λ b. if b then [] else byte ∷ before stop after) same, ap (λ b. if b then byte ∷ after else onward stop after) same)
cut_once stop (byte ∷ line) after free stops =
    let other : (byte == stop) ≡ false = ne_eqb byte stop (All-head (λ b. b ≢ stop) byte line free) in
    let later = cut_once stop line after (All-tail (λ b. b ≢ stop) byte line free) stops in (
      ap (λ b. if b then [] else byte ∷ before stop (line ++ after)) other ∙ ap (λ l. byte ∷ l) later.0,
      ap (λ b. if b then byte ∷ (line ++ after) else onward stop (line ++ after)) other ∙ later.1,
    )

-- how bytes are cut at it
record Cut (stop : ℕ) (bytes line after : List ℕ) : Type 0 where
  split : bytes ≡ line ++ after
  free : Free stop line
  stops : StopsAt stop after

cut : (stop : ℕ) (bytes : List ℕ) → Cut stop bytes (before stop bytes) (onward stop bytes)
cut stop [] = record { split = refl; free = All-nil (λ b. b ≢ stop); stops = tt }
cut stop (byte ∷ bytes) =
    elim (eqb_tells byte stop) [
      | inl is ↦ subst (λ b. Cut stop (byte ∷ bytes) (if b then [] else byte ∷ before stop bytes) (if b then byte ∷ bytes else onward stop bytes)) (sym is.0)
          (record { split = refl; free = All-nil (λ b. b ≢ stop); stops = is.1 })
      | inr is ↦ subst (λ b. Cut stop (byte ∷ bytes) (if b then [] else byte ∷ before stop bytes) (if b then byte ∷ bytes else onward stop bytes)) (sym is.0)
          (let later = cut stop bytes in record { split = ap (λ l. byte ∷ l) later.split; free = All-cons (λ b. b ≢ stop) byte (before stop bytes) is.1 later.free; stops = later.stops })
    ]

-- a text in quotes, by what stands before the next quote, and from it on
abbrev closed_piece : List ℕ → List ℕ → Piece × List ℕ
closed_piece between [] = (Unclosed between, [])
closed_piece between (quote ∷ after) = (Quoted between, after)

-- a comment or a session line, by whether it is one
abbrev dashes_piece : Bool → List ℕ → Piece × List ℕ
dashes_piece true bytes = (SessionLine (before 10 (drop 11 bytes)), onward 10 (drop 11 bytes))
dashes_piece false bytes = (Comment (before 10 (drop 2 bytes)), onward 10 (drop 2 bytes))

-- a byte that is no quote and no semicolon, by whether it begins two dashes
abbrev other_piece : Bool → Bool → ℕ → List ℕ → Piece × List ℕ
other_piece true begins byte bytes = dashes_piece (begins && starts (byte ∷ bytes) (codes "-- session ")) (byte ∷ bytes)
other_piece false begins byte bytes = (Byte byte, bytes)

-- the piece at the front of bytes, and the bytes after it
abbrev front_piece : Bool → List ℕ → Piece × List ℕ
front_piece begins [] = (Semicolon, [])
front_piece begins (byte ∷ bytes) =
    if byte == 39 then closed_piece (before 39 bytes) (onward 39 bytes) else (if byte == 59 then (Semicolon, bytes) else other_piece (starts (byte ∷ bytes) (codes "--")) begins byte bytes)

-- what begins a line with its end after it begins the line
starts-line : (needle line after : List ℕ) → Free 10 needle → EndsLine after → starts (line ++ after) needle ≡ true → starts line needle ≡ true
starts-line [] line after free ends is = refl
starts-line (byte ∷ needle) [] [] free ends is = is
starts-line (byte ∷ needle) [] (next ∷ after) free ends is =
    absurd (All-head (λ b. b ≢ 10) byte needle free (eqb-true byte next (and_first (byte == next) (starts after needle) is) ∙ ends))
  where
    and_first : (one other : Bool) → (one && other) ≡ true → one ≡ true
    and_first true other both = refl
    and_first false other both = both
starts-line (byte ∷ needle) (first ∷ line) after free ends is =
    elim (cases_Bool (byte == first)) [
      | inl same ↦ subst (λ b. (b && starts line needle) ≡ true) (sym same)
          (starts-line needle line after (All-tail (λ b. b ≢ 10) byte needle free) ends (subst (λ b. (b && starts (line ++ after) needle) ≡ true) same is))
      | inr other ↦ absurd (let wrong : false ≡ true = subst (λ b. (b && starts (line ++ after) needle) ≡ true) other is in cc)
    ]

session_free : Free 10 (codes " session ")
session_free = All-from_recursion (λ b. b ≢ 10) (codes " session ") (omega arith, (omega arith, (omega arith, (omega arith, (omega arith, (omega arith, (omega arith, (omega arith, (omega arith, tt)))))))))

ends_stops : (after : List ℕ) → EndsLine after → StopsAt 10 after
ends_stops [] ends = tt
ends_stops (byte ∷ after) ends = ends

stops_ends : (after : List ℕ) → StopsAt 10 after → EndsLine after
stops_ends [] stops = tt
stops_ends (byte ∷ after) stops = stops

-- a comment is no session line
no_session : (begins : Bool) (line after : List ℕ) → EndsLine after → (begins ≡ true → starts line (codes " session ") ≡ false) → (begins && starts (45 ∷ 45 ∷ (line ++ after)) (codes "-- session ")) ≡ false
no_session false line after ends other = refl
no_session true line after ends other =
    elim (cases_Bool (starts (line ++ after) (codes " session "))) [
      | inl is ↦ absurd (both_ways (starts line (codes " session ")) (other refl) (starts-line (codes " session ") line after session_free ends is))
      | inr is ↦ is
    ]

-- a piece that stands before bytes is the one at the front of all
pub front_is : (begins : Bool) (piece : Piece) (after : List ℕ) → IsPiece begins piece after → front_piece begins (bytes_of piece ++ after) ≡ (piece, after)
front_is begins (Byte byte) after alone =
    ap (λ b. if b then closed_piece (before 39 after) (onward 39 after) else (if byte == 59 then (Semicolon, after) else other_piece (starts (byte ∷ after) (codes "--")) begins byte after)) (ne_eqb byte 39 alone.no_quote)
    ∙ ap (λ b. if b then (Semicolon, after) else other_piece (starts (byte ∷ after) (codes "--")) begins byte after) (ne_eqb byte 59 alone.no_semicolon)
    ∙ ap (λ b. other_piece b begins byte after) alone.no_comment
front_is begins (Quoted between) after free =
    let bytes : (between ++ 39 ∷ []) ++ after ≡ between ++ 39 ∷ after = append_assoc between (39 ∷ []) after in
    let once = cut_once 39 between (39 ∷ after) free refl in
    ap (λ l. closed_piece (before 39 l) (onward 39 l)) bytes ∙ (λ i. closed_piece (once.0 i) (once.1 i))
front_is begins (Unclosed bytes) after (free, none) =
    let once = cut_once 39 bytes [] free tt in
    ap (λ l. closed_piece (before 39 (bytes ++ l)) (onward 39 (bytes ++ l))) none ∙ (λ i. closed_piece (once.0 i) (once.1 i)) ∙ (λ i. (Unclosed bytes, sym none i))
front_is begins (Comment line) after ((free, ends), other) =
    let once = cut_once 10 line after free (ends_stops after ends) in
    ap (λ b. dashes_piece b (45 ∷ 45 ∷ (line ++ after))) (no_session begins line after ends other) ∙ (λ i. (Comment (once.0 i), once.1 i))
front_is begins (SessionLine line) after (here, (free, ends)) =
    let once = cut_once 10 line after free (ends_stops after ends) in
    ap (λ b. dashes_piece (b && true) (codes "-- session " ++ (line ++ after))) here ∙ (λ i. (SessionLine (once.0 i), once.1 i))
front_is begins Semicolon after fits = refl

-- a piece, and the bytes after it
record IsFirst (begins : Bool) (bytes : List ℕ) (found : Piece × List ℕ) : Type 0 where
  split : bytes ≡ bytes_of found.0 ++ found.1
  fits : IsPiece begins found.0 found.1

closed_first : (begins : Bool) (bytes between rest : List ℕ) → Cut 39 bytes between rest → IsFirst begins (39 ∷ bytes) (closed_piece between rest)
closed_first begins bytes between [] found = record { split = ap (λ l. 39 ∷ l) (found.split ∙ append-nil between) ∙ sym (append-nil (39 ∷ between)); fits = (found.free, refl) }
closed_first begins bytes between (quote ∷ after) found =
    record { split = ap (λ l. 39 ∷ l) (found.split ∙ ap (λ b. between ++ b ∷ after) found.stops ∙ sym (append_assoc between (39 ∷ []) after)); fits = found.free }

starts-split : (bytes needle : List ℕ) → starts bytes needle ≡ true → bytes ≡ needle ++ drop (length needle) bytes
starts-split bytes needle is = (starts_is Decides-eqb bytes needle _ refl).0 is

starts-whole : (bytes needle rest : List ℕ) → bytes ≡ needle ++ rest → starts bytes needle ≡ true
starts-whole bytes needle rest split = (starts_is Decides-eqb bytes needle _ refl).1 rest split

dashes_first : (begins : Bool) (bytes : List ℕ) (session : Bool) → (begins && starts bytes (codes "-- session ")) ≡ session → starts bytes (codes "--") ≡ true → IsFirst begins bytes (dashes_piece session bytes)
dashes_first true bytes true is dashes =
    let line = cut 10 (drop 11 bytes) in
    record {
      split = starts-split bytes (codes "-- session ") is ∙ ap (λ l. codes "-- session " ++ l) line.split;
      fits = (refl, (line.free, stops_ends (onward 10 (drop 11 bytes)) line.stops));
    }
dashes_first false bytes true is dashes = absurd (let wrong : false ≡ true = is in cc)
dashes_first begins bytes false is dashes =
    let line = cut 10 (drop 2 bytes) in
    let split : bytes ≡ 45 ∷ 45 ∷ drop 2 bytes = starts-split bytes (codes "--") dashes in
    record {
      split = split ∙ ap (λ l. 45 ∷ 45 ∷ l) line.split;
      fits = (
        (line.free, stops_ends (onward 10 (drop 2 bytes)) line.stops),
        λ here. elim (cases_Bool (starts (before 10 (drop 2 bytes)) (codes " session "))) [
          | inl begun ↦
              let rest = drop 9 (before 10 (drop 2 bytes)) in
              let whole : bytes ≡ codes "-- session " ++ (rest ++ onward 10 (drop 2 bytes)) =
              split ∙ ap (λ l. 45 ∷ 45 ∷ l) line.split ∙ ap (λ l. 45 ∷ 45 ∷ (l ++ onward 10 (drop 2 bytes))) (starts-split (before 10 (drop 2 bytes)) (codes " session ") begun) in
              absurd (both_ways (begins && starts bytes (codes "-- session ")) is (ap (λ b. b && starts bytes (codes "-- session ")) here ∙ starts-whole bytes (codes "-- session ") (rest ++ onward 10 (drop 2 bytes)) whole))
          | inr other ↦ other
        ],
      );
    }

other_first : (begins dashes : Bool) (byte : ℕ) (bytes : List ℕ) → starts (byte ∷ bytes) (codes "--") ≡ dashes → byte ≢ 39 → byte ≢ 59 → IsFirst begins (byte ∷ bytes) (other_piece dashes begins byte bytes)
other_first begins true byte bytes dashes no_quote no_semicolon = dashes_first begins (byte ∷ bytes) (begins && starts (byte ∷ bytes) (codes "-- session ")) refl dashes
other_first begins false byte bytes dashes no_quote no_semicolon = record { split = refl; fits = record { no_quote = no_quote; no_semicolon = no_semicolon; no_comment = dashes } }

-- a piece stands at the front of bytes
first : (begins : Bool) (byte : ℕ) (bytes : List ℕ) → IsFirst begins (byte ∷ bytes) (front_piece begins (byte ∷ bytes))
first begins byte bytes =
    elim (eqb_tells byte 39) [
      | inl quote ↦ subst (λ b. IsFirst begins (byte ∷ bytes) (if b then closed_piece (before 39 bytes) (onward 39 bytes) else rest)) (sym quote.0)
          (subst (λ b. IsFirst begins (b ∷ bytes) (closed_piece (before 39 bytes) (onward 39 bytes))) (sym quote.1) (closed_first begins bytes (before 39 bytes) (onward 39 bytes) (cut 39 bytes)))
      | inr no_quote ↦ subst (λ b. IsFirst begins (byte ∷ bytes) (if b then closed_piece (before 39 bytes) (onward 39 bytes) else rest)) (sym no_quote.0)
          (elim (eqb_tells byte 59) [
            | inl semicolon ↦ subst (λ b. IsFirst begins (byte ∷ bytes) (if b then (Semicolon, bytes) else last)) (sym semicolon.0) (record { split = ap (λ b. b ∷ bytes) semicolon.1; fits = tt })
            | inr no_semicolon ↦ subst (λ b. IsFirst begins (byte ∷ bytes) (if b then (Semicolon, bytes) else last)) (sym no_semicolon.0) (other_first begins (starts (byte ∷ bytes) (codes "--")) byte bytes refl no_quote.1 no_semicolon.1)
          ])
    ]
  where
    last : Piece × List ℕ
    last = other_piece (starts (byte ∷ bytes) (codes "--")) begins byte bytes

    rest : Piece × List ℕ
    rest = if byte == 59 then (Semicolon, bytes) else other_piece (starts (byte ∷ bytes) (codes "--")) begins byte bytes

piece_some : (piece : Piece) → 0 < length (bytes_of piece)
piece_some (Byte byte) = omega arith
piece_some (Quoted between) = omega arith
piece_some (Unclosed after) = omega arith
piece_some (Comment line) = omega arith
piece_some (SessionLine line) = omega arith
piece_some Semicolon = omega arith

pieces_within : (most : ℕ) (begins : Bool) (bytes : List ℕ) → length bytes ≤ most → (pieces : List Piece) × ArePieces begins pieces bytes []
pieces_within most begins [] within = ([], refl)
pieces_within zero begins (byte ∷ bytes) within = absurd (omega arith)
pieces_within (suc most) begins (byte ∷ bytes) within =
    let found = front_piece begins (byte ∷ bytes) in
    let is = first begins byte bytes in
    let later = pieces_within most (ends_line found.0) found.1 (omega (arith, ap length is.split, length-append (bytes_of found.0) found.1, piece_some found.0)) in
    (found.0 ∷ later.0, (found.1, is.split, is.fits, later.1))

-- bytes are pieces
pub pieces_in : (begins : Bool) (bytes : List ℕ) → (pieces : List Piece) × ArePieces begins pieces bytes []
pieces_in begins bytes = pieces_within (length bytes) begins bytes (omega arith)

-- and no others
pub one_list : (begins : Bool) (bytes : List ℕ) (one other : List Piece) → ArePieces begins one bytes [] → ArePieces begins other bytes [] → one ≡ other
one_list begins bytes [] [] are same = refl
one_list begins bytes [] (piece ∷ other) are same = absurd (omega (arith, piece_some piece, ap length are, ap length same.1, length-append (bytes_of piece) same.0))
one_list begins bytes (piece ∷ one) [] are same = absurd (omega (arith, piece_some piece, ap length same, ap length are.1, length-append (bytes_of piece) are.0))
one_list begins bytes (piece ∷ one) (next ∷ other) are same =
    let front : (piece, are.0) ≡ (next, same.0) = sym (ap (front_piece begins) are.1 ∙ front_is begins piece are.0 are.2) ∙ ap (front_piece begins) same.1 ∙ front_is begins next same.0 same.2 in
    let here : piece ≡ next = ap (λ p. p.0) front in
    let after : are.0 ≡ same.0 = ap (λ p. p.1) front in
    let later = one_list (ends_line piece) are.0 one other are.3 (subst (λ l. ArePieces (ends_line piece) other l []) (sym after) (subst (λ p. ArePieces (ends_line p) other same.0 []) (sym here) same.3)) in
    (λ i. here i ∷ later i)
