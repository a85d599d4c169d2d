-- Marks: their bytes, and which of them a text holds.
use Rattle.std.proofs.Common.{◌≡◌, ◌≢◌, ◌<◌, ◌+◌, ◌-◌, ℕ, Bool, true, false, List, [], ◌∷◌, ◌++◌, length, take, drop, reverse, map, inl, inr, refl, sym, ap, ◌∙◌, subst, arith, append_assoc}
use Rattle.std.specs.Prelude.{slice_range, if◌then◌else◌}
use Rattle.std.specs.List.{AllByRecursion, flat_map}
use Rattle.std.proofs.lemmas.Bool.{not-true}
use Rattle.std.proofs.lemmas.List.{append-nil, length-append, length-map, map-append, reverse-append, reverse-reverse, take_at, drop_at, drop-drop}
use Rattle.script_model.specs.Piece.{Piece, Byte, Quoted, Unclosed, Comment, SessionLine, Semicolon, bytes_of, ArePieces, ends_line}
use Rattle.script_model.specs.Stretch.{Stretch}
use Rattle.script_model.specs.CallText.{Mark, Call, mark_of, mark_in_comment, marks_of, marks_in, from_first, trimmed, empty_front, call_of, call_in, is_closed}
use Rattle.sql_reader.specs.scripts.Fronts.{AreEmpty, IsTight, Holds, begins_full}
use Rattle.sql_reader.specs.scripts.Stretches.{Spans, SpansText, call_with}

abbrev pub byte_in : Mark → ℕ
byte_in mark = mark.byte

unmarked : (bytes : List ℕ) → map byte_in (map mark_of bytes) ≡ bytes
unmarked [] = refl
unmarked (byte ∷ bytes) = ap (λ l. byte ∷ l) (unmarked bytes)

unmarked_comment : (bytes : List ℕ) → map byte_in (map mark_in_comment bytes) ≡ bytes
unmarked_comment [] = refl
unmarked_comment (byte ∷ bytes) = ap (λ l. byte ∷ l) (unmarked_comment bytes)

-- the bytes of a piece's marks
marks_bytes : (piece : Piece) → map byte_in (marks_of piece) ≡ bytes_of piece
marks_bytes (Byte byte) = unmarked (bytes_of (Byte byte))
marks_bytes (Quoted between) = unmarked (bytes_of (Quoted between))
marks_bytes (Unclosed after) = unmarked (bytes_of (Unclosed after))
marks_bytes (Comment line) = unmarked_comment (bytes_of (Comment line))
marks_bytes (SessionLine line) = unmarked (bytes_of (SessionLine line))
marks_bytes Semicolon = refl

-- the bytes of pieces are those of their marks
pub pieces_bytes : (begins : Bool) (pieces : List Piece) (bytes after : List ℕ) → ArePieces begins pieces bytes after → bytes ≡ map byte_in (flat_map marks_of pieces) ++ after
pieces_bytes begins [] bytes after are = are
pieces_bytes begins (piece ∷ pieces) bytes after (middle, split, fits, later) =
    split ∙ (λ i. sym (marks_bytes piece) i ++ pieces_bytes (ends_line piece) pieces middle after later i) ∙ sym (append_assoc (map byte_in (marks_of piece)) (map byte_in (flat_map marks_of pieces)) after)
    ∙ ap (λ l. l ++ after) (sym (map-append byte_in (marks_of piece) (flat_map marks_of pieces)))

pub each_append : {X : Type 0} (P : X → Type 0) (xs ys : List X) → AllByRecursion P xs → AllByRecursion P ys → AllByRecursion P (xs ++ ys)
each_append P [] ys one other = other
each_append P (x ∷ xs) ys (here, one) other = (here, each_append P xs ys one other)

each_reverse : {X : Type 0} (P : X → Type 0) (xs : List X) → AllByRecursion P xs → AllByRecursion P (reverse xs)
each_reverse P [] all = tt
each_reverse P (x ∷ xs) (here, all) = subst (AllByRecursion P) (sym (reverse-append (x ∷ []) xs)) (each_append P (reverse xs) (x ∷ []) (each_reverse P xs all) (here, tt))

abbrev is_empty : Mark → Type 0
is_empty mark = mark.empty ≡ true

full_append : (marks more : List Mark) → begins_full marks ≡ true → begins_full (marks ++ more) ≡ true
full_append [] more full = absurd (let no : false ≡ true = full in cc)
full_append (mark ∷ marks) more full = full

pub tight_some : (marks : List Mark) → IsTight marks → 0 < length marks
tight_some [] tight = absurd (let no : false ≡ true = tight.first in cc)
tight_some (mark ∷ marks) tight = omega arith

-- empty marks more
pub Spans-empty : (from start end : ℕ) (marks more : List Mark) → Spans from start end marks → AreEmpty more → Spans from start end (marks ++ more)
Spans-empty from start end marks more (inl (same, empty)) more_empty = inl (same, each_append is_empty marks more empty more_empty)
Spans-empty from start end marks more (inr spans) more_empty =
    inr (record {
      front = spans.front;
      text = spans.text;
      back = spans.back ++ more;
      split = ap (λ l. l ++ more) spans.split ∙ append_assoc spans.front (spans.text ++ spans.back) more ∙ ap (λ l. spans.front ++ l) (append_assoc spans.text spans.back more);
      front_empty = spans.front_empty;
      tight = spans.tight;
      back_empty = each_append is_empty spans.back more spans.back_empty more_empty;
      start_is = spans.start_is;
      end_is = spans.end_is;
    })

-- the first marks that aren't empty
pub Spans-first : (from start end at held : ℕ) (marks more : List Mark) → start ≡ end → Spans from start end marks → Holds more held → at ≡ from + length marks → Spans from at (at + held) (marks ++ more)
Spans-first from start end at held marks more none (inl (same, empty)) holds at_is =
    inr (record {
      front = marks;
      text = holds.text;
      back = holds.back;
      split = ap (λ l. marks ++ l) holds.split;
      front_empty = empty;
      tight = holds.tight;
      back_empty = holds.back_empty;
      start_is = at_is;
      end_is = ap (λ n. at + n) holds.held_is;
    })
Spans-first from start end at held marks more none (inr spans) holds at_is = absurd (omega (arith, tight_some spans.text spans.tight, spans.end_is))

-- further marks that aren't empty
pub Spans-later : (from start end at held : ℕ) (marks more : List Mark) → start ≢ end → Spans from start end marks → Holds more held → at ≡ from + length marks → Spans from start (at + held) (marks ++ more)
Spans-later from start end at held marks more some (inl (same, empty)) holds at_is = absurd (some same)
Spans-later from start end at held marks more some (inr spans) holds at_is =
    let text = spans.text ++ (spans.back ++ holds.text) in
    let turned : reverse text ≡ (reverse holds.text ++ reverse spans.back) ++ reverse spans.text = reverse-append spans.text (spans.back ++ holds.text) ∙ ap (λ l. l ++ reverse spans.text) (reverse-append spans.back holds.text) in
    inr (record {
      front = spans.front;
      text = text;
      back = holds.back;
      split = (λ i. spans.split i ++ holds.split i) ∙ append_assoc spans.front (spans.text ++ spans.back) (holds.text ++ holds.back)
          ∙ ap (λ l. spans.front ++ l) (append_assoc spans.text spans.back (holds.text ++ holds.back) ∙ ap (λ l. spans.text ++ l) (sym (append_assoc spans.back holds.text holds.back)) ∙ sym (append_assoc spans.text (spans.back ++ holds.text) holds.back));
      front_empty = spans.front_empty;
      tight = record {
        first = full_append spans.text (spans.back ++ holds.text) spans.tight.first;
        last = subst (λ l. begins_full l ≡ true) (sym turned) (full_append (reverse holds.text ++ reverse spans.back) (reverse spans.text) (full_append (reverse holds.text) (reverse spans.back) holds.tight.last));
      };
      back_empty = holds.back_empty;
      start_is = spans.start_is;
      end_is = omega (arith, at_is, spans.start_is, spans.end_is, holds.held_is, ap length spans.split, length-append spans.front (spans.text ++ spans.back), length-append spans.text spans.back, length-append spans.text (spans.back ++ holds.text), length-append spans.back holds.text);
    })

from_first-empty : (front rest : List Mark) → AreEmpty front → from_first (front ++ rest) ≡ from_first rest
unfolding from_first
from_first-empty [] rest empty = refl
from_first-empty (mark ∷ front) rest (here, empty) = ap (λ b. if b then from_first (front ++ rest) else mark ∷ (front ++ rest)) here ∙ from_first-empty front rest empty

from_first-full : (marks : List Mark) → begins_full marks ≡ true → from_first marks ≡ marks
unfolding from_first
from_first-full [] full = refl
from_first-full (mark ∷ marks) full = ap (λ b. if b then from_first marks else mark ∷ marks) (not-true mark.empty full)

from_first-nil : from_first [] ≡ []
unfolding from_first
from_first-nil = refl

-- marks that are empty hold no text
pub trimmed-empty : (marks : List Mark) → AreEmpty marks → trimmed marks ≡ []
trimmed-empty marks empty =
    let none : from_first marks ≡ [] = ap from_first (sym (append-nil marks)) ∙ from_first-empty marks [] empty ∙ from_first-nil in
    ap (λ l. reverse (from_first (reverse l))) none ∙ ap reverse from_first-nil

-- the text that marks hold
pub trimmed-text : (from start end : ℕ) (marks : List Mark) (spans : SpansText from start end marks) → trimmed marks ≡ spans.text
trimmed-text from start end marks spans =
    let first : from_first marks ≡ spans.text ++ spans.back = ap from_first spans.split ∙ from_first-empty spans.front (spans.text ++ spans.back) spans.front_empty ∙ from_first-full (spans.text ++ spans.back) (full_append spans.text spans.back spans.tight.first) in
    let last : from_first (reverse (spans.text ++ spans.back)) ≡ reverse spans.text = ap from_first (reverse-append spans.text spans.back) ∙ from_first-empty (reverse spans.back) (reverse spans.text) (each_reverse is_empty spans.back spans.back_empty) ∙ from_first-full (reverse spans.text) spans.tight.last in
    ap (λ l. reverse (from_first (reverse l))) first ∙ ap reverse last ∙ reverse-reverse spans.text

empty_front-is : (front rest : List Mark) → AreEmpty front → begins_full rest ≡ true → empty_front (front ++ rest) ≡ length front
unfolding empty_front
empty_front-is [] [] empty full = refl
empty_front-is [] (mark ∷ rest) empty full = ap (λ b. if b then empty_front rest + 1 else 0) (not-true mark.empty full)
empty_front-is (mark ∷ front) rest (here, empty) full = ap (λ b. if b then empty_front (front ++ rest) + 1 else 0) here ∙ omega (arith, empty_front-is front rest empty full)

-- the bytes of the text that marks hold
span_bytes : (bytes : List ℕ) (from start end : ℕ) (marks : List Mark) (after : List ℕ) (spans : SpansText from start end marks) → drop from bytes ≡ map byte_in marks ++ after → slice_range bytes start end ≡ map byte_in spans.text
span_bytes bytes from start end marks after spans split =
    let front = map byte_in spans.front in
    let text = map byte_in spans.text in
    let rest = map byte_in spans.back ++ after in
    let parts : drop from bytes ≡ front ++ (text ++ rest) =
    split ∙ ap (λ l. map byte_in l ++ after) spans.split ∙ ap (λ l. l ++ after) (map-append byte_in spans.front (spans.text ++ spans.back) ∙ ap (λ l. front ++ l) (map-append byte_in spans.text spans.back))
    ∙ append_assoc front (text ++ map byte_in spans.back) after ∙ ap (λ l. front ++ l) (append_assoc text (map byte_in spans.back) after) in
    let begin : drop start bytes ≡ text ++ rest = ap (λ n. drop n bytes) spans.start_is ∙ sym (drop-drop (length spans.front) from bytes) ∙ ap (drop (length spans.front)) parts ∙ drop_at front (text ++ rest) (length spans.front) (length-map spans.front byte_in) in
    let long : end - start ≡ length spans.text = omega (arith, spans.end_is) in
    (λ i. take (long i) (begin i)) ∙ take_at text rest (length spans.text) (length-map spans.text byte_in)

-- the call of a stretch whose text stands between two bytes
pub call_is : (bytes : List ℕ) (from start end : ℕ) (stretch : Stretch) (after : List ℕ) → Spans from start end (marks_in stretch) → drop from bytes ≡ map byte_in (marks_in stretch) ++ after → (session : ℕ) → call_in session from stretch ≡ call_with session start (is_closed stretch.ending) (slice_range bytes start end)
call_is bytes from start end stretch after (inl (same, empty)) split session =
    let none : end - start ≡ 0 = omega arith in
    ap (call_of session from stretch) (trimmed-empty (marks_in stretch) empty) ∙ sym (ap (λ n. call_with session start (is_closed stretch.ending) (take n (drop start bytes))) none)
call_is bytes from start end stretch after (inr spans) split session =
    ap (call_of session from stretch) (trimmed-text from start end (marks_in stretch) spans) ∙ with_text spans.text spans.tight.first ∙ sym (ap (call_with session start (is_closed stretch.ending)) (span_bytes bytes from start end (marks_in stretch) after spans split))
  where
    place : from + empty_front (marks_in stretch) ≡ start
    place = ap (λ l. from + empty_front l) spans.split ∙ ap (λ n. from + n) (empty_front-is spans.front (spans.text ++ spans.back) spans.front_empty (full_append spans.text spans.back spans.tight.first)) ∙ sym spans.start_is

    with_text : (text : List Mark) → begins_full text ≡ true → call_of session from stretch text ≡ call_with session start (is_closed stretch.ending) (map byte_in text)
    with_text [] full = absurd (let no : false ≡ true = full in cc)
    with_text (mark ∷ text) full = ap (λ n. Call (record { session = session; at = n; bytes = map byte_in (mark ∷ text); closed = is_closed stretch.ending }) ∷ []) place
