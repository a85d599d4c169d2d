-- The bytes of an input, those of the texts of its calls, and those of the texts that its calls put into rows.
use Rattle.std.proofs.Common.{◌≡◌, ℕ, ◌+◌, ◌≤◌, List, [], ◌∷◌, ◌++◌, length, map, Bool, true, false, refl, ap, arith, length-append}
use Rattle.std.specs.Prelude.{None, Some, Option, filter, reverse, sum_by}
use Rattle.std.proofs.lemmas.List.{length-map, length-reverse}
use Rattle.std.proofs.lemmas.List.Sums.{sum_by-append, sum_by-cons}
use Rattle.own_model.specs.declared.request.Request.{Request}
use Rattle.own_model.specs.declared.request.Request.TheVariants.{End}
use Rattle.own_model.specs.declared.script.ScriptCall.{ScriptCall}
use Rattle.own_model.specs.TextBytes.{asked_bytes}
use Rattle.grammar_model.proofs.TextBytes.{answer-within}
use Rattle.script_model.specs.Asked.{AreAskedBy, IsAskedWhere}
use Rattle.script_model.specs.CallText.{CallText, Mark, bad_line, bad_unless, call_of, end_of, ending_len, from_first, marks_in, marks_of, parts_from, session_after, trimmed}
use Rattle.script_model.specs.Numbered.{Asking, call_after, calls_of, ends_of, has_call, numbered_after}
use Rattle.script_model.specs.Piece.{Piece, Byte, Quoted, Unclosed, Comment, SessionLine, Semicolon, ArePieces, bytes_of, ends_line}
use Rattle.script_model.specs.Script.{HasCalls, askings_of, texts_in}
use Rattle.script_model.specs.Session.{session_of, sessions}
use Rattle.script_model.specs.Stretch.{Ending, AtSemicolon, AtSession, AtEnd, Stretch, onto_first, stretches}
use Rattle.script_model.proofs.InputCalls.{texts-append}

-- the bytes of a piece, of a stretch, and of a call's text
abbrev of_piece : Piece → ℕ
of_piece piece = length (bytes_of piece)

abbrev of_stretch : Stretch → ℕ
of_stretch stretch = length (marks_in stretch)

abbrev of_text : CallText → ℕ
of_text text = length text.bytes

-- the text bytes that an asking puts, and a call
abbrev of_asking : Asking → ℕ
of_asking asking = asked_bytes asking.request

abbrev of_call : ScriptCall → ℕ
of_call call = asked_bytes call.request

-- an input has the bytes of its pieces
pieces-bytes : (begins : Bool) (pieces : List Piece) (bytes after : List ℕ) → ArePieces begins pieces bytes after → sum_by of_piece pieces ≤ length bytes
pieces-bytes begins [] bytes after are = omega arith
pieces-bytes begins (piece ∷ pieces) bytes after are =
    let rest = pieces-bytes (ends_line piece) pieces are.0 after are.3 in
    let split = ap length are.1 in
    omega (arith, sum_by-cons of_piece piece pieces, length-append (bytes_of piece) are.0)

-- each byte of a piece is marked
marked : (piece : Piece) → length (marks_of piece) ≡ of_piece piece
marked (Byte byte) = refl
marked (Quoted between) = length-map (bytes_of (Quoted between)) _
marked (Unclosed after) = length-map (bytes_of (Unclosed after)) _
marked (Comment line) = length-map (bytes_of (Comment line)) _
marked (SessionLine line) = length-map (bytes_of (SessionLine line)) _
marked Semicolon = refl

-- stretches have no more than the pieces that they are cut from
onto_step : (piece : Piece) (pieces : List Piece) (all : List Stretch) → sum_by of_stretch all ≤ sum_by of_piece pieces
    → sum_by of_stretch (onto_first piece all) ≤ sum_by of_piece (piece ∷ pieces)
onto_step piece pieces [] later = omega arith
onto_step piece pieces (first ∷ rest) later =
    let more : Stretch = record { pieces = piece ∷ first.pieces; ending = first.ending } in
    omega (
      arith,
      sum_by-cons of_piece piece pieces,
      sum_by-cons of_stretch first rest,
      sum_by-cons of_stretch more rest,
      length-append (marks_of piece) (marks_in first),
      marked piece,
    )

cut_step : (piece : Piece) (pieces : List Piece) (all : List Stretch) (ending : Ending) → sum_by of_stretch all ≤ sum_by of_piece pieces
    → sum_by of_stretch (record { pieces = []; ending = ending } ∷ all) ≤ sum_by of_piece (piece ∷ pieces)
cut_step piece pieces all ending later =
    let none : Stretch = record { pieces = []; ending = ending } in
    omega (arith, sum_by-cons of_piece piece pieces, sum_by-cons of_stretch none all)

stretches-bytes : (pieces : List Piece) → sum_by of_stretch (stretches pieces) ≤ sum_by of_piece pieces
unfolding stretches
stretches-bytes [] = omega arith
stretches-bytes (Semicolon ∷ pieces) = cut_step Semicolon pieces (stretches pieces) AtSemicolon (stretches-bytes pieces)
stretches-bytes (SessionLine line ∷ pieces) = cut_step (SessionLine line) pieces (stretches pieces) (AtSession line) (stretches-bytes pieces)
stretches-bytes (Byte byte ∷ pieces) = onto_step (Byte byte) pieces (stretches pieces) (stretches-bytes pieces)
stretches-bytes (Quoted between ∷ pieces) = onto_step (Quoted between) pieces (stretches pieces) (stretches-bytes pieces)
stretches-bytes (Unclosed after ∷ pieces) = onto_step (Unclosed after) pieces (stretches pieces) (stretches-bytes pieces)
stretches-bytes (Comment line ∷ pieces) = onto_step (Comment line) pieces (stretches pieces) (stretches-bytes pieces)

-- trimmed marks are no more than there were
first_step : (mark : Mark) (marks : List Mark) → length (from_first marks) ≤ length marks → (b : Bool) → mark.empty ≡ b
    → length (from_first (mark ∷ marks)) ≤ length (mark ∷ marks)
unfolding from_first
first_step mark marks later true is = rw is (omega arith)
first_step mark marks later false is = rw is (omega arith)

few-first : (marks : List Mark) → length (from_first marks) ≤ length marks
unfolding from_first
few-first [] = omega arith
few-first (mark ∷ marks) = first_step mark marks (few-first marks) _ refl

few-trimmed : (marks : List Mark) → length (trimmed marks) ≤ length marks
few-trimmed marks =
    let front = few-first marks in
    let back = few-first (reverse (from_first marks)) in
    omega (arith, length-reverse (from_first marks), length-reverse (from_first (reverse (from_first marks))))

-- the text in a stretch has no more than the stretch
call-bytes : (session at : ℕ) (stretch : Stretch) (marks : List Mark) → sum_by of_text (texts_in (call_of session at stretch marks)) ≤ length marks
call-bytes session at stretch [] = omega arith
call-bytes session at stretch (mark ∷ marks) = let same = length-map marks (λ (mark : Mark). mark.byte) in omega arith

-- a session line gives no text
no-call : (at : ℕ) (named : Option ℕ) → texts_in (bad_unless at named) ≡ []
no-call at None = refl
no-call at (Some session) = refl

no-calls : (at : ℕ) (ending : Ending) → texts_in (bad_line at ending) ≡ []
no-calls at AtSemicolon = refl
no-calls at (AtSession line) = no-call at (session_of line)
no-calls at AtEnd = refl

-- the texts of calls have no more than the stretches
texts-bytes : (session at : ℕ) (all : List Stretch) → sum_by of_text (texts_in (parts_from session at all)) ≤ sum_by of_stretch all
unfolding parts_from
texts-bytes session at [] = omega arith
texts-bytes session at (stretch ∷ rest) =
    let call = call_of session at stretch (trimmed (marks_in stretch)) in
    let bad = bad_line (end_of at stretch) stretch.ending in
    let parts = parts_from (session_after session stretch.ending) (end_of at stretch + ending_len stretch.ending) rest in
    let own = call-bytes session at stretch (trimmed (marks_in stretch)) in
    let few = few-trimmed (marks_in stretch) in
    let later = texts-bytes (session_after session stretch.ending) (end_of at stretch + ending_len stretch.ending) rest in
    rw (texts-append call (bad ++ parts), texts-append bad parts, no-calls (end_of at stretch) stretch.ending)
    (omega (arith, sum_by-append of_text (texts_in call) (texts_in parts), sum_by-cons of_stretch stretch rest))

-- a call puts no more than its text has
asked_step : (text : CallText) (request : Request) (closed long : Bool) → IsAskedWhere closed long text.bytes request → asked_bytes request ≤ of_text text
unfolding asked_bytes
asked_step text request false long asked = rw asked (omega arith)
asked_step text request true true asked = rw asked (omega arith)
asked_step text request true false asked = rw asked.gives (answer-within text.bytes asked.answer asked.answers)

askings-bytes : (texts : List CallText) (requests : List Request) → AreAskedBy texts requests → sum_by of_asking (askings_of texts requests) ≤ sum_by of_text texts
askings-bytes [] [] asked = omega arith
askings-bytes [] (request ∷ requests) asked = absurd asked
askings-bytes (text ∷ texts) [] asked = absurd asked
askings-bytes (text ∷ texts) (request ∷ requests) asked =
    let own = asked_step text request text.closed _ asked.0 in
    let rest = askings-bytes texts requests asked.1 in
    let asking : Asking = record { session = text.session; request = request } in
    omega (arith, sum_by-cons of_text text texts, sum_by-cons of_asking asking (askings_of texts requests))

-- an End puts none
ends-bytes : (numbers : List ℕ) → sum_by of_asking (map (λ session. record { session = session; request = End }) numbers) ≡ 0
unfolding asked_bytes
ends-bytes [] = refl
ends-bytes (number ∷ numbers) = ends-bytes numbers

-- calls put what their askings put
numbered-bytes : (before : List ScriptCall) (askings : List Asking) → sum_by of_call (numbered_after before askings) ≡ sum_by of_asking askings
unfolding numbered_after
numbered-bytes before [] = refl
numbered-bytes before (asking ∷ askings) =
    let rest = numbered-bytes (before ++ call_after before asking ∷ []) askings in
    omega (
      arith,
      sum_by-cons of_asking asking askings,
      sum_by-cons of_call (call_after before asking) (numbered_after (before ++ call_after before asking ∷ []) askings),
    )

-- the calls of an input put no more than it has
pub calls-bytes : (bytes : List ℕ) (calls : List ScriptCall) → HasCalls bytes calls → sum_by of_call calls ≤ length bytes
unfolding calls_of
calls-bytes bytes calls has =
    let texts = texts_in has.parts in
    let askings = askings_of texts has.requests in
    let ends = ends_of askings in
    let pieces = has.lawful.pieces in
    let in_pieces = pieces-bytes true pieces bytes [] has.lawful.are_pieces in
    let in_stretches = stretches-bytes pieces in
    let in_texts = texts-bytes 1 0 (stretches pieces) in
    let same_texts = ap (λ parts. sum_by of_text (texts_in parts)) has.lawful.parts_are in
    let in_askings = askings-bytes texts has.requests has.asked in
    let no_ends = ends-bytes (filter (has_call askings) sessions) in
    let both = sum_by-append of_asking askings ends in
    let in_calls = numbered-bytes [] (askings ++ ends) in
    let same_calls = ap (sum_by of_call) has.calls_are in
    omega arith
