-- The calls of a beginning are the first of the whole input.
use Rattle.std.proofs.Common.{◌≡◌, ◌<◌, ◌+◌, ℕ, Bool, true, false, List, [], ◌∷◌, ◌++◌, length, refl, sym, ap, ◌∙◌, subst, arith, append_assoc}
use Rattle.std.specs.Prelude.{nat_lt}
use Rattle.std.proofs.lemmas.List.{append-nil}
use Rattle.own_model.specs.declared.limit.TheConstants.{STATEMENT_BYTES}
use Rattle.own_model.specs.declared.request.Request.{Request}
use Rattle.own_model.specs.declared.script.ScriptCall.{ScriptCall}
use Rattle.grammar_model.specs.Readable.{request_of}
use Rattle.script_model.specs.Asked.{AreAskedBy, IsAskedWhere}
use Rattle.script_model.specs.CallText.{CallText, Part, bad_line, call_in, end_of, ending_len, parts_from, session_after}
use Rattle.script_model.specs.Numbered.{Asking, calls_of, ends_of, numbered_after}
use Rattle.script_model.specs.Piece.{Piece, Byte, Quoted, Unclosed, Comment, SessionLine, Semicolon, AreAllPieces}
use Rattle.script_model.specs.Script.{askings_of, parts_of, texts_in}
use Rattle.script_model.specs.Stretch.{Stretch, AtSemicolon, AtSession, onto_first, stretches}
use Rattle.script_model.proofs.InputCalls.{texts-append}
use Rattle.sql_reader.specs.scripts.Fronts.{begins_after}
use Rattle.sql_reader.proofs.Answering.{one_answer}
use Rattle.sql_reader.proofs.Scripts.Numbering.{numbered_after-append}
use Rattle.sql_reader.proofs.Scripts.OnePiece.{one_list, pieces_in}
use Rattle.sql_reader.proofs.Scripts.Scanning.{ArePieces-append}
use Rattle.call_stream.specs.Given.{AreCallsOf, AreClosed, AreFront, AreTexts, HasGiven, HasWholeCalls}
use Rattle.call_stream.proofs.Parts.{parts_from-cons, parts_from-end, parts_from-none, stretch_of}

-- the stretches that pieces end
abbrev ended : List Piece → List Stretch
ended [] = []
ended (Semicolon ∷ pieces) = record { pieces = []; ending = AtSemicolon } ∷ ended pieces
ended (SessionLine line ∷ pieces) = record { pieces = []; ending = AtSession line } ∷ ended pieces
ended (piece ∷ pieces) = onto_first piece (ended pieces)

never : {A : Type 0} → true ≡ false → A
never wrong = absurd (let no : ⊥ = cc in no)

onto_more : (piece : Piece) (all more : List Stretch) → 0 < length all → (onto_first piece (all ++ more) ≡ onto_first piece all ++ more) × (0 < length (onto_first piece all))
onto_more piece [] more some = absurd (omega arith)
onto_more piece (first ∷ all) more some = (refl, omega arith)

-- pieces of which the last ends a stretch are whole stretches, and others come after them
stretches-ended : (piece : Piece) (pieces more : List Piece) → AreClosed (piece ∷ pieces) → (stretches (piece ∷ (pieces ++ more)) ≡ ended (piece ∷ pieces) ++ stretches more) × (0 < length (ended (piece ∷ pieces)))
unfolding stretches
stretches-ended (Byte byte) [] more closed = never closed
stretches-ended (Quoted between) [] more closed = never closed
stretches-ended (Unclosed after) [] more closed = never closed
stretches-ended (Comment line) [] more closed = never closed
stretches-ended (SessionLine line) [] more closed = (refl, omega arith)
stretches-ended Semicolon [] more closed = (refl, omega arith)
stretches-ended (Byte byte) (next ∷ pieces) more closed =
    let later = stretches-ended next pieces more closed in
    let onto = onto_more (Byte byte) (ended (next ∷ pieces)) (stretches more) later.1 in
    (ap (onto_first (Byte byte)) later.0 ∙ onto.0, onto.1)
stretches-ended (Quoted between) (next ∷ pieces) more closed =
    let later = stretches-ended next pieces more closed in
    let onto = onto_more (Quoted between) (ended (next ∷ pieces)) (stretches more) later.1 in
    (ap (onto_first (Quoted between)) later.0 ∙ onto.0, onto.1)
stretches-ended (Unclosed after) (next ∷ pieces) more closed =
    let later = stretches-ended next pieces more closed in
    let onto = onto_more (Unclosed after) (ended (next ∷ pieces)) (stretches more) later.1 in
    (ap (onto_first (Unclosed after)) later.0 ∙ onto.0, onto.1)
stretches-ended (Comment line) (next ∷ pieces) more closed =
    let later = stretches-ended next pieces more closed in
    let onto = onto_more (Comment line) (ended (next ∷ pieces)) (stretches more) later.1 in
    (ap (onto_first (Comment line)) later.0 ∙ onto.0, onto.1)
stretches-ended (SessionLine line) (next ∷ pieces) more closed =
    (ap (λ l. stretch_of [] (AtSession line) ∷ l) (stretches-ended next pieces more closed).0, omega arith)
stretches-ended Semicolon (next ∷ pieces) more closed =
    (ap (λ l. stretch_of [] AtSemicolon ∷ l) (stretches-ended next pieces more closed).0, omega arith)

stretches-closed : (pieces more : List Piece) → AreClosed pieces → stretches (pieces ++ more) ≡ ended pieces ++ stretches more
stretches-closed [] more closed = refl
stretches-closed (piece ∷ pieces) more closed = (stretches-ended piece pieces more closed).0

-- the session and the byte after stretches
abbrev session_then : ℕ → List Stretch → ℕ
session_then session [] = session
session_then session (stretch ∷ more) = session_then (session_after session stretch.ending) more

abbrev byte_then : ℕ → List Stretch → ℕ
byte_then at [] = at
byte_then at (stretch ∷ more) = byte_then (end_of at stretch + ending_len stretch.ending) more

-- the parts of stretches, and then of others
parts_from-append : (session at : ℕ) (one more : List Stretch) → parts_from session at (one ++ more) ≡ parts_from session at one ++ parts_from (session_then session one) (byte_then at one) more
parts_from-append session at [] more = ap (λ l. l ++ parts_from session at more) (sym (parts_from-none session at))
parts_from-append session at (stretch ∷ one) more =
    let next = session_after session stretch.ending in
    let place = end_of at stretch + ending_len stretch.ending in
    let call = call_in session at stretch in
    let bad = bad_line (end_of at stretch) stretch.ending in
    let last = parts_from (session_then next one) (byte_then place one) more in
    parts_from-cons session at stretch (one ++ more)
    ∙ ap (λ l. call ++ (bad ++ l)) (parts_from-append next place one more)
    ∙ ap (λ l. call ++ l) (sym (append_assoc bad (parts_from next place one) last))
    ∙ sym (append_assoc call (bad ++ parts_from next place one) last)
    ∙ ap (λ l. l ++ last) (sym (parts_from-cons session at stretch one))

-- the parts that come after those of closed pieces
abbrev pub parts_after : List Piece → List Piece → List Part
parts_after pieces more = parts_from (session_then 1 (ended pieces)) (byte_then 0 (ended pieces)) (stretches more)

-- the parts of closed pieces are the first, whatever pieces come after them
pub parts_closed : (pieces more : List Piece) → AreClosed pieces → parts_of (pieces ++ more) ≡ parts_of pieces ++ parts_after pieces more
parts_closed pieces more closed =
    let all = ended pieces in
    let session = session_then 1 all in
    let at = byte_then 0 all in
    let alone : parts_of pieces ≡ parts_from 1 0 all =
    ap parts_of (sym (append-nil pieces)) ∙ ap (parts_from 1 0) (stretches-closed pieces [] closed) ∙ parts_from-append 1 0 all (stretches [])
    ∙ ap (λ l. parts_from 1 0 all ++ l) (parts_from-end session at) ∙ append-nil (parts_from 1 0 all) in
    ap (parts_from 1 0) (stretches-closed pieces more closed) ∙ parts_from-append 1 0 all (stretches more) ∙ ap (λ l. l ++ parts_from session at (stretches more)) (sym alone)

-- the pieces of a beginning are the first of the whole, however it goes on
pub pieces_first : (bytes front rest more : List ℕ) (pieces whole : List Piece) → AreFront bytes front rest pieces → AreAllPieces whole (bytes ++ more) → (later : List Piece) × (whole ≡ pieces ++ later)
pieces_first bytes front rest more pieces whole is are =
    let later = pieces_in (begins_after true pieces) (rest ++ more) in
    (later.0, one_list true (bytes ++ more) whole (pieces ++ later.0) are (ArePieces-append true pieces later.0 (bytes ++ more) (rest ++ more) [] (is.settled more) later.1))

-- a text asks for one request
one_asked : (closed long : Bool) (bytes : List ℕ) (one other : Request) → IsAskedWhere closed long bytes one → IsAskedWhere closed long bytes other → one ≡ other
one_asked false long bytes one other is same = is ∙ sym same
one_asked true true bytes one other is same = is ∙ sym same
one_asked true false bytes one other is same = is.gives ∙ ap request_of (one_answer bytes is.answer same.answer is.answers same.answers) ∙ sym same.gives

-- what the first texts ask for is the first of what all ask for
askings_first : (texts more : List CallText) (one all : List Request) → AreAskedBy texts one → AreAskedBy (texts ++ more) all → (later : List Asking) × (askings_of (texts ++ more) all ≡ askings_of texts one ++ later)
askings_first [] more [] all asked also = (askings_of more all, refl)
askings_first [] more (request ∷ one) all asked also = absurd asked
askings_first (text ∷ texts) more [] all asked also = absurd asked
askings_first (text ∷ texts) more (request ∷ one) [] asked also = absurd also
askings_first (text ∷ texts) more (request ∷ one) (next ∷ all) (here, asked) (there, also) =
    let same : next ≡ request = one_asked text.closed (nat_lt STATEMENT_BYTES (length text.bytes)) text.bytes next request there here in
    let later = askings_first texts more one all asked also in
    (later.0, λ i. record { session = text.session; request = same i } ∷ later.1 i)

-- the calls of the first texts are the first calls
pub calls_first : (texts more : List CallText) (calls all : List ScriptCall) → AreCallsOf texts calls → AreCallsOf (texts ++ more) all → (later : List ScriptCall) × (all ≡ calls ++ later)
calls_first texts more calls all is whole =
    let found = askings_first texts more is.requests whole.requests is.asked whole.asked in
    let first = numbered_after [] (askings_of texts is.requests) in
    let later = numbered_after first found.0 in
    (later, whole.calls_are ∙ ap (numbered_after []) found.1 ∙ numbered_after-append [] (askings_of texts is.requests) found.0 ∙ ap (λ l. l ++ later) (sym is.calls_are))

-- the calls of a whole input are those of its texts, and the Ends after them
texts_calls : (texts : List CallText) (requests : List Request) → (later : List ScriptCall) × (calls_of (askings_of texts requests) ≡ numbered_after [] (askings_of texts requests) ++ later)
unfolding calls_of
texts_calls texts requests =
    let askings = askings_of texts requests in
    (numbered_after (numbered_after [] askings) (ends_of askings), numbered_after-append [] askings (ends_of askings))

-- the texts of a beginning are the first of the whole
pub texts_first : (bytes rest more : List ℕ) (texts : List CallText) (whole : List Piece) → AreTexts bytes rest texts → AreAllPieces whole (bytes ++ more) → (later : List CallText) × (texts_in (parts_of whole) ≡ texts ++ later)
texts_first bytes rest more texts whole is are =
    let found = pieces_first bytes is.front rest more is.pieces whole is.is_front are in
    let after = parts_after is.pieces found.0 in (
      texts_in after,
      ap (λ l. texts_in (parts_of l)) found.1 ∙ ap texts_in (parts_closed is.pieces found.0 is.is_front.closed) ∙ texts-append (parts_of is.pieces) after
          ∙ ap (λ l. l ++ texts_in after) (sym is.texts_are),
    )

-- what is given by a beginning are the first calls of the whole
pub given_first : (bytes more : List ℕ) (texts : List CallText) (calls whole : List ScriptCall) → HasGiven bytes texts calls → HasWholeCalls (bytes ++ more) whole → (rest : List ScriptCall) × (whole ≡ calls ++ rest)
given_first bytes more texts calls whole given has =
    let all = texts_in (parts_of has.pieces) in
    let found = texts_first bytes given.rest more texts has.pieces given.are_texts has.are in
    let ends = texts_calls all has.requests in
    let made = numbered_after [] (askings_of all has.requests) in
    let mine : AreCallsOf all made = record { requests = has.requests; asked = has.asked; calls_are = refl } in
    let first = calls_first texts found.0 calls made given.calls_of_texts (subst (λ l. AreCallsOf l made) found.1 mine) in
    (first.0 ++ ends.0, has.calls_are ∙ ends.1 ∙ ap (λ l. l ++ ends.0) first.1 ∙ append_assoc calls first.0 ends.0)
