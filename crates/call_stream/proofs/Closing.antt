-- What closes the text of a stretch.
use Rattle.std.proofs.Common.{◌≡◌, ◌≢◌, ◌<◌, ◌≤◌, ◌+◌, ◌-◌, ◌⊎◌, ℕ, zero, suc, Bool, true, false, List, [], ◌∷◌, ◌++◌, length, get_or, take, drop, All, inl, inr, refl, sym, ap, ◌∙◌, subst, arith}
use Rattle.std.specs.Prelude.{◌==◌, ◌&&◌, codes}
use Rattle.std.specs.Str.{IsUtf8, IsCharBoundary}
use Rattle.std.proofs.lemmas.Bool.{cases_Bool, cases_lt, eqb-true}
use Rattle.std.proofs.lemmas.Bool.Decides.{Decides-eqb}
use Rattle.std.proofs.lemmas.List.{length-append, length-drop, take-append-drop, drop-drop, drop_more, take_at, drop-append-le, get_or-take}
use Rattle.std.proofs.lemmas.List.Elements.{All-head, All-tail, All-drop, All-from_recursion}
use Rattle.std.proofs.lemmas.Slice.Eq.{starts_is}
use Rattle.std.proofs.lemmas.Str.{IsCharBoundary-start, IsCharBoundary-before_ascii, IsCharBoundary-after_ascii}
use Rattle.sql_lex.specs.Filler.{EndsLine}
use Rattle.script_model.specs.Piece.{SessionLine, Semicolon, bytes_of, starts}
use Rattle.script_model.specs.Stretch.{AtSemicolon, AtSession}
use Rattle.call_stream.specs.Scans.{IsEdge, IsLow, IsScanned, IsMet}
use Rattle.call_stream.specs.Stretches.{IsClosed, line_of, next_of}
use Rattle.call_stream.specs.declared.scan.Closing.{Closing}
use Rattle.call_stream.specs.declared.scan.Closing.TheVariants as closing
use Rattle.call_stream.specs.declared.scan.Place.TheVariants.{Line}
use Rattle.call_stream.specs.declared.scan.Scan.{Scan}
use Rattle.call_stream.proofs.Scanning.{piece_is, cut, between_at, open_at, one_settled, settled_push}

starts-split : (bytes needle : List ℕ) → starts bytes needle ≡ true → bytes ≡ needle ++ drop (length needle) bytes
starts-split bytes needle is = (starts_is Decides-eqb bytes needle _ refl).0 is

abbrev pub Free : List ℕ → Type 0
Free bytes = All (λ byte. byte ≢ 10) bytes

-- what begins a line with its end after it begins the line
starts-line : (needle line after : List ℕ) → Free needle → EndsLine after → starts (line ++ after) needle ≡ true → starts line needle ≡ true
starts-line [] line after free ends is = refl
starts-line (byte ∷ needle) [] [] free ends is = is
starts-line (byte ∷ needle) [] (next ∷ after) free ends is =
    absurd (All-head (λ b. b ≢ 10) byte needle free (eqb-true byte next (and_first (byte == next) (starts after needle) is) ∙ ends))
  where
    and_first : (one other : Bool) → (one && other) ≡ true → one ≡ true
    and_first true other both = refl
    and_first false other both = both
starts-line (byte ∷ needle) (first ∷ line) after free ends is =
    elim (cases_Bool (byte == first)) [
      | inl same ↦ subst (λ b. (b && starts line needle) ≡ true) (sym same)
          (starts-line needle line after (All-tail (λ b. b ≢ 10) byte needle free) ends (subst (λ b. (b && starts (line ++ after) needle) ≡ true) same is))
      | inr other ↦ absurd (let wrong : false ≡ true = subst (λ b. (b && starts (line ++ after) needle) ≡ true) other is in cc)
    ]

session_free : Free (codes " session ")
session_free = All-from_recursion (λ b. b ≢ 10) (codes " session ") (omega arith, (omega arith, (omega arith, (omega arith, (omega arith, (omega arith, (omega arith, (omega arith, (omega arith, tt)))))))))

-- a session line that is closed
pub record IsSessionLine (bytes : List ℕ) (scan : Scan) : Type 0 where
  pub long : scan.piece + 11 ≤ scan.at
  pub split : drop scan.piece bytes ≡ bytes_of (SessionLine (line_of bytes scan)) ++ drop scan.at bytes
  pub one_line : Free (line_of bytes scan)

pub session_line : (bytes : List ℕ) (scan : Scan) → IsScanned bytes scan → IsMet bytes scan closing.Session → IsSessionLine bytes scan
session_line bytes scan scanned (place, more, feed, line_begins, begun) =
    let open_line = open_at bytes scan Line scanned place in
    let line = open_line.line in
    let rest = drop scan.at bytes in
    let split : drop scan.piece bytes ≡ (45 ∷ 45 ∷ line) ++ rest = cut bytes scan.piece scan.at scanned.order ∙ ap (λ l. l ++ rest) open_line.is in
    let ends : EndsLine rest = subst EndsLine (sym (drop_more bytes scan.at 0 more)) feed in
    let named : starts line (codes " session ") ≡ true = starts-line (codes " session ") line rest session_free ends (subst (λ l. starts l (codes "-- session ") ≡ true) split begun) in
    let whole : line ≡ codes " session " ++ drop 9 line = starts-split line (codes " session ") named in
    let nine : 9 ≤ length line = omega (arith, ap length whole, length-append (codes " session ") (drop 9 line)) in
    let at_is : scan.at ≡ scan.piece + 2 + length line = omega (arith, scanned.order, scanned.within, ap length split, length-append (45 ∷ 45 ∷ line) rest, length-drop scan.piece bytes, length-drop scan.at bytes) in
    let len : length (drop 9 line) ≡ scan.at - (scan.piece + 11) = omega (arith, length-drop 9 line) in
    let same : line_of bytes scan ≡ drop 9 line =
    ap (take (scan.at - (scan.piece + 11))) (sym (drop-drop 11 scan.piece bytes) ∙ ap (drop 11) split ∙ drop-append-le 9 line rest nine) ∙ take_at (drop 9 line) rest (scan.at - (scan.piece + 11)) len in
    record {
      long = omega (arith, at_is, nine);
      split = split ∙ ap (λ l. (45 ∷ 45 ∷ l) ++ rest) whole ∙ ap (λ l. (codes "-- session " ++ l) ++ rest) (sym same);
      one_line = subst Free (sym same) (All-drop (λ b. b ≢ 10) 9 line open_line.one_line);
    }

-- the stretch that ends where the scan has come to
pub closed : (bytes : List ℕ) (scan : Scan) (found : Closing) → IsScanned bytes scan → IsMet bytes scan found → IsClosed bytes scan found
closed bytes scan closing.Semicolon scanned (place, more, semicolon) =
    let same = between_at bytes scan scanned place in
    let split : drop scan.piece bytes ≡ 59 ∷ drop (scan.at + 1) bytes = ap (λ n. drop n bytes) same ∙ drop_more bytes scan.at 0 more ∙ ap (λ b. b ∷ drop (scan.at + 1) bytes) semicolon in
    record {
      stretch = record { pieces = scanned.pieces; ending = AtSemicolon };
      settled = settled_push scan.begins scan.line scanned.pieces Semicolon bytes (drop scan.piece bytes) (drop (scan.at + 1) bytes) scanned.settled scanned.line_is
          (one_settled scan.line Semicolon (drop scan.piece bytes) (drop (scan.at + 1) bytes) split (λ rest. tt));
      inner = scanned.inner;
      place = piece_is bytes scan scanned;
      spans = scanned.spans;
      ends = refl;
      some = omega arith;
      within = omega arith;
    }
closed bytes scan closing.Session scanned met =
    let line = session_line bytes scan scanned met in
    let ends : EndsLine (drop scan.at bytes) = subst EndsLine (sym (drop_more bytes scan.at 0 met.1)) met.2 in
    record {
      stretch = record { pieces = scanned.pieces; ending = AtSession (line_of bytes scan) };
      settled = settled_push scan.begins scan.line scanned.pieces (SessionLine (line_of bytes scan)) bytes (drop scan.piece bytes) (drop scan.at bytes) scanned.settled scanned.line_is
          (one_settled scan.line (SessionLine (line_of bytes scan)) (drop scan.piece bytes) (drop scan.at bytes) line.split
          (λ rest. (met.3, (line.one_line, subst (λ l. EndsLine (l ++ rest)) (sym (drop_more bytes scan.at 0 met.1)) met.2))));
      inner = scanned.inner;
      place = piece_is bytes scan scanned;
      spans = scanned.spans;
      ends = refl;
      some = omega (arith, line.long);
      within = scanned.within;
    }

-- a place beside which a byte of ASCII stands is no place within a character
pub edge_boundary : (bytes : List ℕ) (at : ℕ) → IsUtf8 bytes → IsEdge bytes at → IsCharBoundary bytes at
edge_boundary bytes at text (inl first) = subst (IsCharBoundary bytes) (sym first) (IsCharBoundary-start bytes text)
edge_boundary bytes at text (inr (inl low)) = IsCharBoundary-before_ascii bytes at low.within low.low
edge_boundary bytes at text (inr (inr (some, low))) =
    let place : at - 1 + 1 ≡ at = omega arith in
    subst (IsCharBoundary bytes) place (IsCharBoundary-after_ascii bytes (at - 1) text low.within low.low)

-- nor is it one of the front up to a later place
low_front : (bytes : List ℕ) (at next : ℕ) → at < next → next ≤ length bytes → IsLow bytes at → IsLow (take next bytes) at
low_front bytes at next less within low = record { within = omega (arith, take_len); low = subst (λ b. b < 128) (sym (get_or-take next bytes at 0 less)) low.low }
  where
    take_len : length (take next bytes) ≡ next
    take_len = omega (arith, ap length (take-append-drop next bytes), length-append (take next bytes) (drop next bytes), length-drop next bytes)

edge_front : (bytes : List ℕ) (at next : ℕ) → at < next → next ≤ length bytes → IsEdge bytes at → IsEdge (take next bytes) at
edge_front bytes at next less within (inl first) = inl first
edge_front bytes at next less within (inr (inl low)) = inr (inl (low_front bytes at next less within low))
edge_front bytes at next less within (inr (inr (some, low))) = inr (inr (some, low_front bytes (at - 1) next (omega arith) within low))

-- where the text begins and ends, no character is cut
pub start_boundary : (bytes : List ℕ) (scan : Scan) (next : ℕ) → IsScanned bytes scan → scan.start < scan.end → scan.end ≤ next → next ≤ length bytes → IsUtf8 (take next bytes) → IsCharBoundary (take next bytes) scan.start
start_boundary bytes scan next scanned some order within text = edge_boundary (take next bytes) scan.start text (edge_front bytes scan.start next (omega arith) within (scanned.start_edge some))

-- the byte at which the open piece begins, where one is closed, is of ASCII
pub piece_low : (bytes : List ℕ) (scan : Scan) (found : Closing) → IsScanned bytes scan → IsMet bytes scan found → IsLow bytes scan.piece × (scan.piece < next_of scan found)
piece_low bytes scan closing.Semicolon scanned (place, more, semicolon) =
    let same = between_at bytes scan scanned place in
    (record { within = omega (arith, same); low = omega (arith, ap (λ n. get_or bytes n 0) same, semicolon) }, omega (arith, same))
piece_low bytes scan closing.Session scanned met =
    let line = session_line bytes scan scanned met in
    let first : get_or bytes scan.piece 0 ≡ 45 = byte_first bytes scan.piece (drop 1 (bytes_of (SessionLine (line_of bytes scan))) ++ drop scan.at bytes) 45 line.split in
    (record { within = omega (arith, line.long, scanned.within); low = omega (arith, first) }, omega (arith, line.long))
  where
    byte_first : (bytes : List ℕ) (at : ℕ) (more : List ℕ) (byte : ℕ) → drop at bytes ≡ byte ∷ more → get_or bytes at 0 ≡ byte
    byte_first [] zero more byte is = absurd (let wrong : ◌≡◌ {A = List ℕ} [] (byte ∷ more) = is in cc)
    byte_first [] (suc at) more byte is = absurd (let wrong : ◌≡◌ {A = List ℕ} [] (byte ∷ more) = is in cc)
    byte_first (first ∷ bytes) zero more byte is = cc
    byte_first (first ∷ bytes) (suc at) more byte is = byte_first bytes at more byte is

pub end_boundary : (bytes : List ℕ) (scan : Scan) (found : Closing) → IsScanned bytes scan → IsMet bytes scan found → next_of scan found ≤ length bytes → IsUtf8 (take (next_of scan found) bytes) → IsCharBoundary (take (next_of scan found) bytes) scan.end
end_boundary bytes scan found scanned met within text =
    let low = piece_low bytes scan found scanned met in
    let next = next_of scan found in
    elim scanned.end_edge [
      | inl same ↦ edge_boundary (take next bytes) scan.end text (edge_front bytes scan.end next (omega (arith, low.1)) within (inr (inl (subst (IsLow bytes) (sym same) low.0))))
      | inr edge ↦ edge_boundary (take next bytes) scan.end text (edge_front bytes scan.end next (omega (arith, low.1, scanned.before)) within edge)
    ]

pub start_boundary_any : (bytes : List ℕ) (scan : Scan) (found : Closing) → IsScanned bytes scan → IsMet bytes scan found → next_of scan found ≤ length bytes → IsUtf8 (take (next_of scan found) bytes) → IsCharBoundary (take (next_of scan found) bytes) scan.start
start_boundary_any bytes scan found scanned met within text =
    let low = piece_low bytes scan found scanned met in
    elim (less_or_same scan.start scan.end scanned.in_order) [
      | inl some ↦ start_boundary bytes scan (next_of scan found) scanned some (omega (arith, low.1, scanned.before)) within text
      | inr same ↦ subst (IsCharBoundary (take (next_of scan found) bytes)) (sym same) (end_boundary bytes scan found scanned met within text)
    ]
  where
    less_or_same : (one other : ℕ) → one ≤ other → (one < other) ⊎ (one ≡ other)
    less_or_same one other order = elim (cases_lt one other) [ inl less ↦ inl less | inr more ↦ inr (omega arith) ]
