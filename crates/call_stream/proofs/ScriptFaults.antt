-- The script of an input in which a stream has a fault.
use Rattle.std.proofs.Common.{◌≡◌, ◌<◌, ◌≤◌, ◌+◌, ◌-◌, ◌⊎◌, ℕ, zero, suc, Bool, true, List, [], ◌∷◌, ◌++◌, length, get_or, take, inl, inr, refl, sym, ap, ◌∙◌, subst, arith, append_assoc}
use Rattle.std.specs.Prelude.{None, Some, Err, Option, filter, if◌then◌else◌}
use Rattle.std.specs.Str.{IsUtf8, IsValidUpTo, is_utf8}
use Rattle.std.specs.Str.Lossy.{utf8_valid_len, valid_len_up_to}
use Rattle.std.proofs.lemmas.Bool.{both_ways, cases_Bool, cases_eq, cases_lt, lt-ltb}
use Rattle.std.proofs.lemmas.List.{append_cancel_right, append-nil, get_or_at, length-append, take_all, take-append-le}
use Rattle.std.proofs.lemmas.Str.{IsCharBoundary-after_ascii, IsCharBoundary-before_ascii, IsUtf8-from_is_utf8, IsUtf8-nil, IsUtf8-take, is_utf8-from_IsUtf8, utf8_valid_len-IsUtf8, utf8_valid_len-IsValidUpTo}
use Rattle.std.proofs.Math.Seq.{take-append-add, take-append_seam}
use Rattle.sql_lex.specs.Filler.{EndsLine}
use Rattle.own_model.specs.declared.limit.TheConstants.{INPUT_BYTES, INPUT_CALLS}
use Rattle.own_model.specs.declared.script.InputFault.TheVariants.{BadSession, TooManyCalls}
use Rattle.own_model.specs.declared.script.ScriptCall.{ScriptCall}
use Rattle.script_model.specs.CallText.{CallText, Mark, Part, Call, BadLine, bad_line, bad_unless, call_in, call_of, end_of, ending_len, marks_in, parts_from, session_after, trimmed}
use Rattle.script_model.specs.Numbered.{count_of, is_of}
use Rattle.script_model.specs.Piece.{Piece, Byte, Quoted, Unclosed, Comment, SessionLine, Semicolon, ArePieces, AreAllPieces, bytes_of, ends_line}
use Rattle.script_model.specs.Script.{IsScript, faults_after, first_of, parts_of, texts_in}
use Rattle.script_model.specs.Session.{session_of}
use Rattle.script_model.specs.Stretch.{Ending, Stretch, AtEnd, AtSemicolon, AtSession, onto_first, stretches}
use Rattle.script_model.proofs.InputCalls.{texts-append}
use Rattle.sql_reader.proofs.Scripts.OnePiece.{one_list, pieces_in}
use Rattle.call_stream.specs.Given.{AreClosed, AreFront, AreOpen, HasAllClosed, HasGiven, IsEndFault, IsFaultMet, bad_lines}
use Rattle.call_stream.specs.ScriptFaults.{AreFewBefore, IsScriptFault, before_bad}
use Rattle.call_stream.specs.declared.fault.StreamFault.{StreamFault}
use Rattle.call_stream.specs.declared.fault.StreamFault.TheVariants as fault
use Rattle.call_stream.proofs.Beginnings.{parts_after, parts_closed, pieces_first}
use Rattle.call_stream.proofs.ClosedTexts.{alone, never, no_truth}
use Rattle.call_stream.proofs.Parts.{bad_lines-append, parts_from-cons, parts_from-end, parts_from-none, stretch_of}
use Rattle.call_stream.proofs.Scripts.{calls_len}

-- The longest front of bytes that is text.
up_to_front : (bytes : List ℕ) (most : ℕ) → IsUtf8 (take (valid_len_up_to bytes most) bytes)
up_to_front bytes zero = IsUtf8-nil
up_to_front bytes (suc most) =
    elim (cases_Bool (is_utf8 (take (suc most) bytes))) [
      | inl is ↦ subst (λ b. IsUtf8 (take (if b then suc most else valid_len_up_to bytes most) bytes)) (sym is) (IsUtf8-from_is_utf8 (take (suc most) bytes) is)
      | inr other ↦ subst (λ b. IsUtf8 (take (if b then suc most else valid_len_up_to bytes most) bytes)) (sym other) (up_to_front bytes most)
    ]

up_to_longest : (bytes : List ℕ) (most len : ℕ) → valid_len_up_to bytes most < len → len ≤ most → IsUtf8 (take len bytes) → ⊥
up_to_longest bytes zero len more within text = absurd (omega arith)
up_to_longest bytes (suc most) len more within text =
    elim (cases_Bool (is_utf8 (take (suc most) bytes))) [
      | inl is ↦ let all : valid_len_up_to bytes (suc most) ≡ suc most = ap (λ b. if b then suc most else valid_len_up_to bytes most) is in absurd (omega (arith, all))
      | inr other ↦
          let less : valid_len_up_to bytes (suc most) ≡ valid_len_up_to bytes most = ap (λ b. if b then suc most else valid_len_up_to bytes most) other in
          elim (cases_eq len (suc most)) [
            | inl same ↦ both_ways (is_utf8 (take (suc most) bytes)) other (is_utf8-from_IsUtf8 (take (suc most) bytes) (subst (λ n. IsUtf8 (take n bytes)) same text))
            | inr differs ↦ up_to_longest bytes most len (omega (arith, less)) (omega arith) text
          ]
    ]

valid_up_to : (bytes : List ℕ) → utf8_valid_len bytes < length bytes → IsValidUpTo bytes (utf8_valid_len bytes)
unfolding utf8_valid_len
valid_up_to bytes short =
    record {
      short = short;
      front = up_to_front bytes (length bytes);
      longest = λ len more text.
          elim (cases_lt (length bytes) len) [
            | inl past ↦ up_to_longest bytes (length bytes) (length bytes) short (omega arith) (subst IsUtf8 (take_all len bytes (omega arith) ∙ sym (take_all (length bytes) bytes (omega arith))) text)
            | inr within ↦ up_to_longest bytes (length bytes) len more (omega arith) text
          ];
    }

-- a semicolon ends the bytes, or the end of a line follows them: no character goes over this place
abbrev IsCut : List ℕ → List ℕ → Type 0
IsCut front rest = ((before : List ℕ) × (front ≡ before ++ 59 ∷ [])) ⊎ ((more : List ℕ) × (rest ≡ 10 ∷ more))

text_before : (front rest : List ℕ) → IsCut front rest → IsUtf8 (front ++ rest) → IsUtf8 front
text_before front rest (inl (before, is)) text =
    let split : front ++ rest ≡ before ++ 59 ∷ rest = ap (λ l. l ++ rest) is ∙ append_assoc before (59 ∷ []) rest in
    let byte : get_or (front ++ rest) (length before) 0 ≡ 59 = ap (λ l. get_or l (length before) 0) split ∙ get_or_at before 59 rest 0 (length before) refl in
    let place : length before + 1 ≡ length front = omega (arith, ap length is, length-append before (59 ∷ [])) in
    let edge = IsCharBoundary-after_ascii (front ++ rest) (length before) text (omega (arith, place, length-append front rest)) (omega (arith, byte)) in
    subst IsUtf8 (ap (λ n. take n (front ++ rest)) place ∙ take-append_seam front rest) (IsUtf8-take (front ++ rest) (length before + 1) text edge)
text_before front rest (inr (more, is)) text =
    let byte : get_or (front ++ rest) (length front) 0 ≡ 10 = ap (λ l. get_or (front ++ l) (length front) 0) is ∙ get_or_at front 10 more 0 (length front) refl in
    let edge = IsCharBoundary-before_ascii (front ++ rest) (length front) (omega (arith, ap length is, length-append front rest)) (omega (arith, byte)) in
    subst IsUtf8 (take-append_seam front rest) (IsUtf8-take (front ++ rest) (length front) text edge)

-- fewer of the bytes after it make no difference
cut_front : (front rest : List ℕ) (len : ℕ) → 0 < len → IsCut front rest → IsCut front (take len rest)
cut_front front rest len some (inl semicolon) = inl semicolon
cut_front front rest zero some (inr (more, is)) = absurd (omega arith)
cut_front front rest (suc len) some (inr (more, is)) = inr (take len more, ap (take (suc len)) is)

-- bytes that aren't text before such a place stop being text where they did, whatever comes after it
no_text_more : (front rest : List ℕ) → IsCut front rest → utf8_valid_len front < length front → utf8_valid_len (front ++ rest) ≡ utf8_valid_len front
no_text_more front rest place short =
    let up_to = valid_up_to front short in
    let valid = utf8_valid_len front in
    utf8_valid_len-IsValidUpTo (front ++ rest) valid
    (record {
      short = omega (arith, short, length-append front rest);
      front = subst IsUtf8 (sym (take-append-le valid front rest (omega arith))) up_to.front;
      longest = λ len more text.
          elim (cases_lt (length front) len) [
            | inl past ↦
                let last = len - length front in
                let same : length front + last ≡ len = omega arith in
                let longer : IsUtf8 (front ++ take last rest) = subst IsUtf8 (take-append-add front rest last) (subst (λ n. IsUtf8 (take n (front ++ rest))) (sym same) text) in
                up_to.longest (length front) short (subst IsUtf8 (sym (take_all (length front) front (omega arith))) (text_before front (take last rest) (cut_front front rest last (omega arith) place) longer))
            | inr within ↦ up_to.longest len more (subst IsUtf8 (take-append-le len front rest (omega arith)) text)
          ];
    })

-- where closed pieces end
closed_end : (begins : Bool) (piece : Piece) (pieces : List Piece) (bytes after : List ℕ) → AreClosed (piece ∷ pieces) → ArePieces begins (piece ∷ pieces) bytes after → ((before : List ℕ) × (bytes ≡ (before ++ 59 ∷ []) ++ after)) ⊎ EndsLine after
closed_end begins (Byte byte) [] bytes after closed are = never closed
closed_end begins (Quoted between) [] bytes after closed are = never closed
closed_end begins (Unclosed rest) [] bytes after closed are = never closed
closed_end begins (Comment line) [] bytes after closed are = never closed
closed_end begins (SessionLine line) [] bytes after closed are = inr (subst EndsLine are.3 are.2.1.1)
closed_end begins Semicolon [] bytes after closed are = inl ([], are.1 ∙ ap (λ l. 59 ∷ l) are.3)
closed_end begins piece (next ∷ pieces) bytes after closed are =
    elim (closed_end (ends_line piece) next pieces are.0 after closed are.3) [
      | inl (before, split) ↦
          inl (
            bytes_of piece ++ before,
            are.1 ∙ ap (λ l. bytes_of piece ++ l) split ∙ sym (append_assoc (bytes_of piece) (before ++ 59 ∷ []) after) ∙ ap (λ l. l ++ after) (sym (append_assoc (bytes_of piece) before (59 ∷ []))),
          )
      | inr ends ↦ inr ends
    ]

-- a front ends at such a place, unless it is empty
front_cut : (bytes front rest : List ℕ) (pieces : List Piece) → AreFront bytes front rest pieces → 0 < length front → (more : List ℕ) → IsCut front (rest ++ more)
front_cut bytes front rest [] is some more =
    let same : bytes ++ [] ≡ rest ++ [] = is.settled [] in
    absurd (omega (arith, ap length same, length-append bytes [], length-append rest [], ap length is.split, length-append front rest))
front_cut bytes front rest (piece ∷ pieces) is some more =
    elim (closed_end true piece pieces (bytes ++ 0 ∷ []) (rest ++ 0 ∷ []) is.closed (is.settled (0 ∷ []))) [
      | inl (before, split) ↦
          inl (before, append_cancel_right front (before ++ 59 ∷ []) (rest ++ 0 ∷ []) (sym (append_assoc front rest (0 ∷ [])) ∙ ap (λ l. l ++ 0 ∷ []) (sym is.split) ∙ split))
      | inr ends ↦ by rest ends
    ]
  where
    by : (rest : List ℕ) → EndsLine (rest ++ 0 ∷ []) → IsCut front (rest ++ more)
    by [] ends = absurd (let wrong : 0 ≡ 10 = ends in omega (arith, wrong))
    by (byte ∷ rest) ends = inr (rest ++ more, ap (λ b. b ∷ (rest ++ more)) ends)

-- The first fault of parts is their first session line that names no session, where few calls come before it.
bad_first : (count byte : ℕ) (parts : List Part) (later : List ℕ) → bad_lines parts ≡ byte ∷ later → count + length (before_bad parts) ≤ INPUT_CALLS → first_of (faults_after count parts) ≡ Some (BadSession byte)
unfolding faults_after
bad_first count byte [] later is few = absurd (let wrong : ◌≡◌ {A = List ℕ} [] (byte ∷ later) = is in cc)
bad_first count byte (Call text ∷ parts) later is few =
    let less : count < INPUT_CALLS = omega arith in
    ap (λ b. first_of ((if b then [] else TooManyCalls text.at ∷ []) ++ faults_after (count + 1) parts)) (lt-ltb count INPUT_CALLS less) ∙ bad_first (count + 1) byte parts later is (omega arith)
bad_first count byte (BadLine at ∷ parts) later is few = let same : at ≡ byte = ap first_byte is in ap (λ n. Some (BadSession n)) same
  where
    first_byte : List ℕ → ℕ
    first_byte [] = 0
    first_byte (byte ∷ bytes) = byte

bad_script : (bytes : List ℕ) (byte : ℕ) (pieces : List Piece) (later : List ℕ) → AreAllPieces pieces bytes → bad_lines (parts_of pieces) ≡ byte ∷ later → length bytes ≤ INPUT_BYTES → IsUtf8 bytes → AreFewBefore bytes → IsScript bytes (Err (BadSession byte))
bad_script bytes byte pieces later are bad short text few = (
  parts_of pieces,
  record {
    text = record { short = short; valid = utf8_valid_len-IsUtf8 bytes text };
    pieces = pieces;
    are_pieces = are;
    parts_are = refl;
    fault_is = sym (bad_first 0 byte (parts_of pieces) later bad (omega (arith, few pieces are)));
  },
)

-- How many texts there are.
call_texts : (session at : ℕ) (stretch : Stretch) (marks : List Mark) → length (texts_in (call_of session at stretch marks)) ≤ 1
call_texts session at stretch [] = omega arith
call_texts session at stretch (mark ∷ marks) = omega arith

line_texts : (at : ℕ) (ending : Ending) → texts_in (bad_line at ending) ≡ []
line_texts at AtSemicolon = refl
line_texts at (AtSession line) = by (session_of line)
  where
    by : (named : Option ℕ) → texts_in (bad_unless at named) ≡ []
    by None = refl
    by (Some session) = refl
line_texts at AtEnd = refl

-- a stretch has one at most
stretch_texts : (session at : ℕ) (stretch : Stretch) (more : List Stretch) → length (texts_in (parts_from session at (stretch ∷ more))) ≤ 1 + length (texts_in (parts_from (session_after session stretch.ending) (end_of at stretch + ending_len stretch.ending) more))
stretch_texts session at stretch more =
    let call = call_in session at stretch in
    let bad = bad_line (end_of at stretch) stretch.ending in
    let rest = parts_from (session_after session stretch.ending) (end_of at stretch + ending_len stretch.ending) more in
    let all : texts_in (parts_from session at (stretch ∷ more)) ≡ texts_in call ++ texts_in rest =
    ap texts_in (parts_from-cons session at stretch more) ∙ texts-append call (bad ++ rest) ∙ ap (λ l. texts_in call ++ l) (texts-append bad rest ∙ ap (λ l. l ++ texts_in rest) (line_texts (end_of at stretch) stretch.ending)) in
    omega (arith, ap length all, length-append (texts_in call) (texts_in rest), call_texts session at stretch (trimmed (marks_in stretch)))

-- pieces that close no text hold one at most
record IsOneOpen (pieces : List Piece) : Type 0 where
  first : Stretch
  last : List Stretch
  are : stretches pieces ≡ first ∷ last
  none : (session at : ℕ) → parts_from session at last ≡ []

onto_open : (piece : Piece) (pieces : List Piece) → stretches (piece ∷ pieces) ≡ onto_first piece (stretches pieces) → IsOneOpen pieces → IsOneOpen (piece ∷ pieces)
onto_open piece pieces step is = record { first = record { pieces = piece ∷ is.first.pieces; ending = is.first.ending }; last = is.last; are = step ∙ ap (onto_first piece) is.are; none = is.none }

one_open : (pieces : List Piece) → AreOpen pieces → IsOneOpen pieces
unfolding stretches
one_open [] is = record { first = stretch_of [] AtEnd; last = []; are = refl; none = parts_from-none }
one_open (SessionLine line ∷ []) is = record { first = stretch_of [] (AtSession line); last = stretches []; are = refl; none = parts_from-end }
one_open (SessionLine line ∷ next ∷ pieces) is = no_truth is.0
one_open (Semicolon ∷ pieces) is = no_truth is.0
one_open (Byte byte ∷ pieces) is = onto_open (Byte byte) pieces refl (one_open pieces is.1)
one_open (Quoted between ∷ pieces) is = onto_open (Quoted between) pieces refl (one_open pieces is.1)
one_open (Unclosed after ∷ pieces) is = onto_open (Unclosed after) pieces refl (one_open pieces is.1)
one_open (Comment line ∷ pieces) is = onto_open (Comment line) pieces refl (one_open pieces is.1)

open_texts : (session at : ℕ) (pieces : List Piece) → AreOpen pieces → length (texts_in (parts_from session at (stretches pieces))) ≤ 1
open_texts session at pieces is =
    let one = one_open pieces is in
    let next = session_after session one.first.ending in
    let place = end_of at one.first + ending_len one.first.ending in
    omega (arith, ap (λ l. length (texts_in (parts_from session at l))) one.are, stretch_texts session at one.first one.last, ap (λ l. length (texts_in l)) (one.none next place))

before_all : (parts more : List Part) → bad_lines parts ≡ [] → before_bad (parts ++ more) ≡ texts_in parts ++ before_bad more
before_all [] more right = refl
before_all (Call text ∷ parts) more right = ap (λ l. text ∷ l) (before_all parts more right)
before_all (BadLine at ∷ parts) more right = absurd (let wrong : ◌≡◌ {A = List ℕ} (at ∷ bad_lines parts) [] = right in cc)

before_few : (parts : List Part) → length (before_bad parts) ≤ length (texts_in parts)
before_few [] = omega arith
before_few (Call text ∷ parts) = omega (arith, before_few parts)
before_few (BadLine at ∷ parts) = omega arith

-- where all that bytes close is given, one more call at most comes before a session line that names no session
pub few_given : (bytes : List ℕ) (texts : List CallText) (calls : List ScriptCall) → HasGiven bytes texts calls → HasAllClosed bytes texts → length calls < INPUT_CALLS → AreFewBefore bytes
few_given bytes texts calls given all few pieces are =
    let mine = all.are_texts in
    let same : pieces ≡ mine.pieces ++ all.pieces = one_list true bytes pieces (mine.pieces ++ all.pieces) are (alone bytes mine.front all.rest mine.pieces all.pieces mine.is_front all.are) in
    let after = parts_after mine.pieces all.pieces in
    let one : length (texts_in after) ≤ 1 = open_texts _ _ all.pieces all.are_open in
    let split : before_bad (parts_of pieces) ≡ texts ++ before_bad after =
    ap (λ l. before_bad (parts_of l)) same ∙ ap before_bad (parts_closed mine.pieces all.pieces mine.is_front.closed) ∙ before_all (parts_of mine.pieces) after mine.right ∙ ap (λ l. l ++ before_bad after) (sym mine.texts_are) in
    omega (arith, few, calls_len texts calls given.calls_of_texts, ap length split, length-append texts (before_bad after), before_few after, one)

-- what comes after such a line makes no difference
before_same : (parts more : List Part) (byte : ℕ) (later : List ℕ) → bad_lines parts ≡ byte ∷ later → before_bad (parts ++ more) ≡ before_bad parts
before_same [] more byte later bad = absurd (let wrong : ◌≡◌ {A = List ℕ} [] (byte ∷ later) = bad in cc)
before_same (Call text ∷ parts) more byte later bad = ap (λ l. text ∷ l) (before_same parts more byte later bad)
before_same (BadLine at ∷ parts) more byte later bad = refl

-- nor does it where a stream meets that line
pub few_met : (bytes more : List ℕ) (calls : List ScriptCall) (byte : ℕ) → IsFaultMet bytes calls (fault.BadSession byte) → length calls < INPUT_CALLS → AreFewBefore (bytes ++ more)
few_met bytes more calls byte (front, rest, pieces, is, valid, bad, next) few whole are =
    let found = pieces_first bytes front rest more pieces whole is are in
    let after = parts_after pieces found.0 in
    let same : before_bad (parts_of whole) ≡ before_bad (parts_of pieces) =
    ap (λ l. before_bad (parts_of l)) found.1 ∙ ap before_bad (parts_closed pieces found.0 is.closed) ∙ before_same (parts_of pieces) after byte [] bad in
    omega (arith, few, next, ap length same, before_few (parts_of pieces))

-- An input has no fewer bytes than texts.
piece_some : (piece : Piece) → 0 < length (bytes_of piece)
piece_some (Byte byte) = omega arith
piece_some (Quoted between) = omega arith
piece_some (Unclosed after) = omega arith
piece_some (Comment line) = omega arith
piece_some (SessionLine line) = omega arith
piece_some Semicolon = omega arith

pieces_few : (begins : Bool) (pieces : List Piece) (bytes after : List ℕ) → ArePieces begins pieces bytes after → length pieces ≤ length bytes
pieces_few begins [] bytes after are = omega arith
pieces_few begins (piece ∷ pieces) bytes after are = omega (arith, pieces_few (ends_line piece) pieces are.0 after are.3, ap length are.1, length-append (bytes_of piece) are.0, piece_some piece)

onto_len : (piece : Piece) (all : List Stretch) → length (onto_first piece all) ≡ length all
onto_len piece [] = refl
onto_len piece (first ∷ all) = refl

stretches_few : (pieces : List Piece) → length (stretches pieces) ≤ length pieces + 1
unfolding stretches
stretches_few [] = omega arith
stretches_few (Semicolon ∷ pieces) = omega (arith, stretches_few pieces)
stretches_few (SessionLine line ∷ pieces) = omega (arith, stretches_few pieces)
stretches_few (Byte byte ∷ pieces) = omega (arith, stretches_few pieces, onto_len (Byte byte) (stretches pieces))
stretches_few (Quoted between ∷ pieces) = omega (arith, stretches_few pieces, onto_len (Quoted between) (stretches pieces))
stretches_few (Unclosed after ∷ pieces) = omega (arith, stretches_few pieces, onto_len (Unclosed after) (stretches pieces))
stretches_few (Comment line ∷ pieces) = omega (arith, stretches_few pieces, onto_len (Comment line) (stretches pieces))

texts_few : (session at : ℕ) (all : List Stretch) → length (texts_in (parts_from session at all)) ≤ length all
texts_few session at [] = omega (arith, ap (λ l. length (texts_in l)) (parts_from-none session at))
texts_few session at (stretch ∷ all) = omega (arith, stretch_texts session at stretch all, texts_few (session_after session stretch.ending) (end_of at stretch + ending_len stretch.ending) all)

count_few : (session : ℕ) (calls : List ScriptCall) → count_of session calls ≤ length calls
count_few session [] = omega arith
count_few session (call ∷ calls) =
    let rest = filter (is_of session) calls in
    elim (cases_Bool (is_of session call)) [
      | inl mine ↦ let same : count_of session (call ∷ calls) ≡ length (call ∷ rest) = ap (λ b. length (if b then call ∷ rest else rest)) mine in omega (arith, same, count_few session calls)
      | inr other ↦ let same : count_of session (call ∷ calls) ≡ length rest = ap (λ b. length (if b then call ∷ rest else rest)) other in omega (arith, same, count_few session calls)
    ]

-- so it is too long where a session has nearly as many calls as 32 bits can count
too_long : (bytes more : List ℕ) (texts : List CallText) (calls : List ScriptCall) (session : ℕ) → HasGiven bytes texts calls → 4294967295 ≤ count_of session calls + 1 → INPUT_BYTES < length (bytes ++ more)
too_long bytes more texts calls session given many =
    let mine = given.are_texts in
    omega (
      arith,
      many,
      count_few session calls,
      calls_len texts calls given.calls_of_texts,
      ap length mine.texts_are,
      texts_few 1 0 (stretches mine.pieces),
      stretches_few mine.pieces,
      pieces_few true mine.pieces (bytes ++ more) (given.rest ++ more) (mine.is_front.settled more),
    )

-- a fault that the end of an input shows
pub end_fault : (bytes : List ℕ) (texts : List CallText) (calls : List ScriptCall) (why : StreamFault) → HasGiven bytes texts calls → IsEndFault bytes calls why → IsScriptFault bytes why
end_fault bytes texts calls (fault.NotText byte) given (within, is) = λ short. (short, within, is)
end_fault bytes texts calls (fault.BadSession byte) given (valid, (pieces, are, bad)) = λ short text few. bad_script bytes byte pieces [] are bad short text few
end_fault bytes texts calls (fault.TooManyCalls byte) given (session, many) = subst (λ l. INPUT_BYTES < length l) (append-nil bytes) (too_long bytes [] texts calls session given many)
end_fault bytes texts calls fault.TooLong given wrong = absurd wrong
end_fault bytes texts calls fault.Memory given wrong = tt

-- a fault that a stream meets before
pub met_fault : (bytes more : List ℕ) (texts : List CallText) (calls : List ScriptCall) (why : StreamFault) → HasGiven bytes texts calls → IsFaultMet bytes calls why → IsScriptFault (bytes ++ more) why
met_fault bytes more texts calls (fault.NotText byte) given (front, rest, pieces, is, within, byte_is) = λ short.
    let split : bytes ++ more ≡ front ++ (rest ++ more) = ap (λ l. l ++ more) is.split ∙ append_assoc front rest more in
    let place = front_cut bytes front rest pieces is (omega arith) more in
    let same : byte ≡ utf8_valid_len (bytes ++ more) = byte_is ∙ sym (ap utf8_valid_len split ∙ no_text_more front (rest ++ more) place (omega (arith, byte_is))) in
    (short, omega (arith, within, ap length split, length-append front (rest ++ more)), same)
met_fault bytes more texts calls (fault.BadSession byte) given (front, rest, pieces, is, valid, bad, next) = λ short text few.
    let whole = pieces_in true (bytes ++ more) in
    let found = pieces_first bytes front rest more pieces whole.0 is whole.1 in
    let after = parts_after pieces found.0 in
    let lines : bad_lines (parts_of whole.0) ≡ byte ∷ bad_lines after = ap (λ l. bad_lines (parts_of l)) found.1 ∙ ap bad_lines (parts_closed pieces found.0 is.closed) ∙ bad_lines-append (parts_of pieces) after ∙ ap (λ l. l ++ bad_lines after) bad in
    bad_script (bytes ++ more) byte whole.0 (bad_lines after) whole.1 lines short text few
met_fault bytes more texts calls (fault.TooManyCalls byte) given (session, many) = too_long bytes more texts calls session given (omega (arith, many))
met_fault bytes more texts calls fault.TooLong given wrong = absurd wrong
met_fault bytes more texts calls fault.Memory given wrong = tt
