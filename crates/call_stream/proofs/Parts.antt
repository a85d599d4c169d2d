-- The parts of an input, stretch by stretch.
use Rattle.std.proofs.Common.{◌≡◌, ◌≢◌, ◌+◌, ℕ, Bool, true, false, List, [], ◌∷◌, ◌++◌, length, map, codes, refl, ap, ◌∙◌, arith, append_assoc}
use Rattle.std.specs.List.{AllByRecursion, flat_map}
use Rattle.std.proofs.lemmas.List.{append-nil, length-append, length-map, map-append}
use Rattle.std.proofs.lemmas.List.Concat.{flat_map-append}
use Rattle.script_model.specs.CallText.{Mark, Part, Call, BadLine, CallText, mark_of, marks_of, marks_in, trimmed, empty_front, call_of, call_in, is_closed, end_of, ending_len, session_after, bad_line, parts_from}
use Rattle.script_model.specs.Piece.{Piece, Byte, Quoted, Unclosed, Comment, SessionLine, Semicolon, ArePieces}
use Rattle.script_model.specs.Script.{parts_of}
use Rattle.script_model.specs.Stretch.{Stretch, Ending, AtSemicolon, AtSession, AtEnd, onto_first, stretches}
use Rattle.sql_reader.specs.scripts.Fronts.{is_inner, begins_after}
use Rattle.sql_reader.specs.scripts.Stretches.{ending_pieces, call_with}
use Rattle.sql_reader.proofs.Scripts.Marking.{byte_in, pieces_bytes, trimmed-empty}
use Rattle.sql_reader.proofs.Scripts.Scanning.{begins_after-push}
use Rattle.call_stream.specs.Given.{AreClosed, bad_lines}

abbrev inner_piece : Piece → Type 0
inner_piece piece = is_inner piece ≡ true

abbrev pub stretch_of : List Piece → Ending → Stretch
stretch_of pieces ending = record { pieces = pieces; ending = ending }

no_truth : {A : Type 0} → false ≡ true → A
no_truth wrong = absurd (let never : ⊥ = cc in never)

-- the stretches after one with this ending
abbrev pub after_ending : Ending → List Piece → List Stretch
after_ending AtSemicolon more = stretches more
after_ending (AtSession line) more = stretches more
after_ending AtEnd more = []

-- nothing comes after the end
abbrev pub MayFollow : Ending → List Piece → Type 0
MayFollow ending more = ending ≡ AtEnd → more ≡ []

stretches-ending : (ending : Ending) (more : List Piece) → MayFollow ending more → stretches (ending_pieces ending ++ more) ≡ stretch_of [] ending ∷ after_ending ending more
unfolding stretches
stretches-ending AtSemicolon more may = refl
stretches-ending (AtSession line) more may = refl
stretches-ending AtEnd more may = ap stretches (may refl)

-- pieces that end no stretch, and then an ending, are one stretch
stretches-of : (pieces : List Piece) (ending : Ending) (more : List Piece) → AllByRecursion inner_piece pieces → MayFollow ending more → stretches (pieces ++ (ending_pieces ending ++ more)) ≡ stretch_of pieces ending ∷ after_ending ending more
unfolding stretches
stretches-of [] ending more inner may = stretches-ending ending more may
stretches-of (Byte byte ∷ pieces) ending more (here, inner) may = ap (onto_first (Byte byte)) (stretches-of pieces ending more inner may)
stretches-of (Quoted between ∷ pieces) ending more (here, inner) may = ap (onto_first (Quoted between)) (stretches-of pieces ending more inner may)
stretches-of (Unclosed after ∷ pieces) ending more (here, inner) may = ap (onto_first (Unclosed after)) (stretches-of pieces ending more inner may)
stretches-of (Comment line ∷ pieces) ending more (here, inner) may = ap (onto_first (Comment line)) (stretches-of pieces ending more inner may)
stretches-of (SessionLine line ∷ pieces) ending more (here, inner) may = no_truth here
stretches-of (Semicolon ∷ pieces) ending more (here, inner) may = no_truth here

pub parts_from-cons : (session at : ℕ) (stretch : Stretch) (more : List Stretch) → parts_from session at (stretch ∷ more) ≡ call_in session at stretch ++ (bad_line (end_of at stretch) stretch.ending ++ parts_from (session_after session stretch.ending) (end_of at stretch + ending_len stretch.ending) more)
unfolding parts_from
parts_from-cons session at stretch more = refl

pub parts_from-none : (session at : ℕ) → parts_from session at [] ≡ []
unfolding parts_from
parts_from-none session at = refl

-- where nothing is left there is no part
pub parts_from-end : (session at : ℕ) → parts_from session at (stretches []) ≡ []
unfolding stretches
parts_from-end session at =
    parts_from-cons session at (stretch_of [] AtEnd) [] ∙ (λ i. call_of session at (stretch_of [] AtEnd) (trimmed-empty [] tt i) ++ parts_from-none session (end_of at (stretch_of [] AtEnd) + 0) i)

-- what comes after an ending that isn't the input's
pub after_is : (ending : Ending) (more : List Piece) → ending ≢ AtEnd → after_ending ending more ≡ stretches more
after_is AtSemicolon more goes_on = refl
after_is (AtSession line) more goes_on = refl
after_is AtEnd more goes_on = absurd (goes_on refl)

-- no line begins after it
pub begins_ending : (begins : Bool) (pieces : List Piece) (ending : Ending) → ending ≢ AtEnd → begins_after begins (pieces ++ ending_pieces ending) ≡ false
begins_ending begins pieces AtSemicolon goes_on = begins_after-push begins pieces Semicolon
begins_ending begins pieces (AtSession line) goes_on = begins_after-push begins pieces (SessionLine line)
begins_ending begins pieces AtEnd goes_on = absurd (goes_on refl)

-- its piece ends the pieces
closed_push : (pieces : List Piece) (piece : Piece) → is_inner piece ≡ false → AreClosed (pieces ++ piece ∷ [])
closed_push [] piece ends = ends
closed_push (first ∷ []) piece ends = ends
closed_push (first ∷ next ∷ pieces) piece ends = closed_push (next ∷ pieces) piece ends

pub closed_ending : (pieces : List Piece) (ending : Ending) → ending ≢ AtEnd → AreClosed (pieces ++ ending_pieces ending)
closed_ending pieces AtSemicolon goes_on = closed_push pieces Semicolon refl
closed_ending pieces (AtSession line) goes_on = closed_push pieces (SessionLine line) refl
closed_ending pieces AtEnd goes_on = absurd (goes_on refl)

-- how long an ending is
ending_length : (ending : Ending) → length (map byte_in (flat_map marks_of (ending_pieces ending))) ≡ ending_len ending
ending_length AtSemicolon = refl
ending_length (AtSession line) = omega (arith, length-map (flat_map marks_of (ending_pieces (AtSession line))) byte_in, ap length (append-nil (marks_of (SessionLine line))), length-map (codes "-- session " ++ line) mark_of)
ending_length AtEnd = refl

-- how many bytes a stretch and its ending have
pub stretch_length : (begins : Bool) (stretch : Stretch) (bytes rest : List ℕ) → ArePieces begins (stretch.pieces ++ ending_pieces stretch.ending) bytes rest → length bytes ≡ length (marks_in stretch) + ending_len stretch.ending + length rest
stretch_length begins stretch bytes rest are =
    let marks = marks_in stretch in
    let ends = flat_map marks_of (ending_pieces stretch.ending) in
    let split : bytes ≡ (map byte_in marks ++ map byte_in ends) ++ rest =
    pieces_bytes begins (stretch.pieces ++ ending_pieces stretch.ending) bytes rest are
    ∙ ap (λ l. map byte_in l ++ rest) (flat_map-append marks_of stretch.pieces (ending_pieces stretch.ending)) ∙ ap (λ l. l ++ rest) (map-append byte_in marks ends) in
    omega (arith, ap length split, length-append (map byte_in marks ++ map byte_in ends) rest, length-append (map byte_in marks) (map byte_in ends), length-map marks byte_in, ending_length stretch.ending)

-- the parts of pieces, then a stretch, then more
pub parts_then : (session at : ℕ) (before : List Piece) (parts : List Part) (stretch : Stretch) (more : List Piece) → ((more : List Piece) → parts_of (before ++ more) ≡ parts ++ parts_from session at (stretches more))
    → AllByRecursion inner_piece stretch.pieces → MayFollow stretch.ending more
    → parts_of ((before ++ (stretch.pieces ++ ending_pieces stretch.ending)) ++ more) ≡ parts ++ (call_in session at stretch ++ (bad_line (end_of at stretch) stretch.ending ++ parts_from (session_after session stretch.ending) (end_of at stretch + ending_len stretch.ending) (after_ending stretch.ending more)))
parts_then session at before parts stretch more parts_are inner may =
    ap parts_of (append_assoc before (stretch.pieces ++ ending_pieces stretch.ending) more ∙ ap (λ l. before ++ l) (append_assoc stretch.pieces (ending_pieces stretch.ending) more))
    ∙ parts_are (stretch.pieces ++ (ending_pieces stretch.ending ++ more))
    ∙ ap (λ l. parts ++ parts_from session at l) (stretches-of stretch.pieces stretch.ending more inner may)
    ∙ ap (λ l. parts ++ l) (parts_from-cons session at stretch (after_ending stretch.ending more))

-- the session lines of parts and of others
pub bad_lines-append : (parts more : List Part) → bad_lines (parts ++ more) ≡ bad_lines parts ++ bad_lines more
bad_lines-append [] more = refl
bad_lines-append (Call text ∷ parts) more = bad_lines-append parts more
bad_lines-append (BadLine at ∷ parts) more = ap (λ l. at ∷ l) (bad_lines-append parts more)

pub no_bad_call : (session at : ℕ) (closed : Bool) (bytes : List ℕ) → bad_lines (call_with session at closed bytes) ≡ []
no_bad_call session at closed [] = refl
no_bad_call session at closed (byte ∷ bytes) = refl

-- a call that stands further on
pub call_further : (session at start : ℕ) (closed : Bool) (stretch : Stretch) (text : List ℕ) → call_in session 0 stretch ≡ call_with session start closed text → call_in session at stretch ≡ call_with session (at + start) closed text
call_further session at start closed stretch text is = by (trimmed (marks_in stretch)) text is
  where
    by : (marks : List Mark) (text : List ℕ) → call_of session 0 stretch marks ≡ call_with session start closed text → call_of session at stretch marks ≡ call_with session (at + start) closed text
    by [] [] is = refl
    by [] (byte ∷ text) is = absurd (let never : ⊥ = cc in never)
    by (mark ∷ marks) [] is = absurd (let never : ⊥ = cc in never)
    by (mark ∷ marks) (byte ∷ text) is =
        let one : CallText = record { session = session; at = 0 + empty_front (marks_in stretch); bytes = map byte_in (mark ∷ marks); closed = is_closed stretch.ending } in
        let other : CallText = record { session = session; at = start; bytes = byte ∷ text; closed = closed } in
        let same : one ≡ other = cc in
        let place : at + empty_front (marks_in stretch) ≡ at + start = omega (arith, ap (λ t. t.at) same) in
        (λ i. Call (record { session = session; at = place i; bytes = (same i).bytes; closed = (same i).closed }) ∷ [])
