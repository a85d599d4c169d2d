-- How the reader goes over a text, stretch by stretch.
use Rattle.std.proofs.Common.{◌≡◌, ◌≢◌, ◌<◌, ◌≤◌, ◌+◌, ℕ, Bool, true, false, List, [], ◌∷◌, ◌++◌, length, drop, map, codes, Some, None, inl, inr, refl, sym, ap, ◌∙◌, subst, arith, append_assoc}
use Rattle.std.specs.Prelude.{◌==◌}
use Rattle.std.specs.List.{AllByRecursion, flat_map}
use Rattle.std.specs.Str.{IsUtf8, IsCharBoundary}
use Rattle.std.proofs.lemmas.Bool.{ne_eqb}
use Rattle.std.proofs.lemmas.List.{append-nil, length-append, length-map, length-drop, drop_all, map-append}
use Rattle.std.proofs.lemmas.List.Concat.{flat_map-append}
use Rattle.std.proofs.lemmas.Str.{IsCharBoundary-start}
use Rattle.own_model.specs.declared.limit.TheConstants.{INPUT_CALLS, SESSIONS}
use Rattle.own_model.specs.declared.script.InputFault.{InputFault}
use Rattle.own_model.specs.declared.script.InputFault.TheVariants.{TooLong, NotText, BadSession, TooManyCalls, Memory}
use Rattle.script_model.specs.CallText.{Part, BadLine, mark_of, marks_of, marks_in, call_in, is_closed, end_of, ending_len, session_after, or_before, bad_line, bad_unless, parts_from}
use Rattle.script_model.specs.Piece.{Piece, Byte, Quoted, Unclosed, Comment, SessionLine, Semicolon, ArePieces}
use Rattle.script_model.specs.Script.{parts_of, faults_after, first_of}
use Rattle.script_model.specs.Session.{session_of}
use Rattle.script_model.specs.Stretch.{Stretch, Ending, AtSemicolon, AtSession, AtEnd, onto_first, stretches}
use Rattle.sql_reader.specs.scripts.Fronts.{is_inner}
use Rattle.sql_reader.specs.scripts.Stretches.{ending_pieces, IsMet, IsLineMet, IsStretchAt, IsStretch, call_with, call_of_text, is_closing}
use Rattle.sql_reader.specs.scripts.TextCalls.{IsFaultIn, IsTextFault, TakesText}
use Rattle.sql_reader.specs.declared.stretch.Ending.{Ending as Met}
use Rattle.sql_reader.specs.declared.stretch.Ending.TheVariants as met
use Rattle.sql_reader.specs.declared.stretch.Stretch.{Stretch as Found}
use Rattle.sql_reader.proofs.Scripts.Marking.{byte_in, pieces_bytes}
use Rattle.sql_reader.proofs.Scripts.Numbering.{first_fault, line_fault}
use Rattle.sql_reader.proofs.Scripts.OnePiece.{pieces_in}
use Rattle.sql_reader.specs.scripts.Fronts.{begins_after}
use Rattle.sql_reader.proofs.Scripts.Scanning.{begins_after-push, ArePieces-append}

abbrev inner_piece : Piece → Type 0
inner_piece piece = is_inner piece ≡ true

-- the stretches after one with this ending
abbrev after_ending : Ending → List Piece → List Stretch
after_ending AtSemicolon more = stretches more
after_ending (AtSession line) more = stretches more
after_ending AtEnd more = []

abbrev stretch_of : List Piece → Ending → Stretch
stretch_of pieces ending = record { pieces = pieces; ending = ending }

-- nothing comes after the end
abbrev MayFollow : Ending → List Piece → Type 0
MayFollow ending more = ending ≡ AtEnd → more ≡ []

stretches-ending : (ending : Ending) (more : List Piece) → MayFollow ending more → stretches (ending_pieces ending ++ more) ≡ stretch_of [] ending ∷ after_ending ending more
unfolding stretches
stretches-ending AtSemicolon more may = refl
stretches-ending (AtSession line) more may = refl
stretches-ending AtEnd more may = ap stretches (may refl)

no_truth : {A : Type 0} → false ≡ true → A
no_truth wrong = absurd (let never : ⊥ = cc in never)

-- pieces that end no stretch, and then an ending, are one stretch
stretches-of : (pieces : List Piece) (ending : Ending) (more : List Piece) → AllByRecursion inner_piece pieces → MayFollow ending more → stretches (pieces ++ (ending_pieces ending ++ more)) ≡ stretch_of pieces ending ∷ after_ending ending more
unfolding stretches
stretches-of [] ending more inner may = stretches-ending ending more may
stretches-of (Byte byte ∷ pieces) ending more (here, inner) may = ap (onto_first (Byte byte)) (stretches-of pieces ending more inner may)
stretches-of (Quoted between ∷ pieces) ending more (here, inner) may = ap (onto_first (Quoted between)) (stretches-of pieces ending more inner may)
stretches-of (Unclosed after ∷ pieces) ending more (here, inner) may = ap (onto_first (Unclosed after)) (stretches-of pieces ending more inner may)
stretches-of (Comment line ∷ pieces) ending more (here, inner) may = ap (onto_first (Comment line)) (stretches-of pieces ending more inner may)
stretches-of (SessionLine line ∷ pieces) ending more (here, inner) may = no_truth here
stretches-of (Semicolon ∷ pieces) ending more (here, inner) may = no_truth here

parts_from-cons : (session at : ℕ) (stretch : Stretch) (more : List Stretch) → parts_from session at (stretch ∷ more) ≡ call_in session at stretch ++ (bad_line (end_of at stretch) stretch.ending ++ parts_from (session_after session stretch.ending) (end_of at stretch + ending_len stretch.ending) more)
unfolding parts_from
parts_from-cons session at stretch more = refl

parts_from-nil : (session at : ℕ) → parts_from session at [] ≡ []
unfolding parts_from
parts_from-nil session at = refl

-- how long the ending of a stretch is
ending_length : (ending : Ending) → length (map byte_in (flat_map marks_of (ending_pieces ending))) ≡ ending_len ending
ending_length AtSemicolon = refl
ending_length (AtSession line) = omega (arith, length-map (flat_map marks_of (ending_pieces (AtSession line))) byte_in, ap length (append-nil (marks_of (SessionLine line))), length-map (codes "-- session " ++ line) mark_of)
ending_length AtEnd = refl

-- where a stretch and its ending end
next_is : (bytes : List ℕ) (at : ℕ) (stretch : Stretch) (found : Met) (next : ℕ) → IsStretchAt bytes at stretch found next → next ≡ end_of at stretch + ending_len stretch.ending
next_is bytes at stretch found next is =
    let marks = marks_in stretch in
    let ends = flat_map marks_of (ending_pieces stretch.ending) in
    let split : drop at bytes ≡ (map byte_in marks ++ map byte_in ends) ++ drop next bytes =
    pieces_bytes (at == 0) (stretch.pieces ++ ending_pieces stretch.ending) (drop at bytes) (drop next bytes) is.are
    ∙ ap (λ l. map byte_in l ++ drop next bytes) (flat_map-append marks_of stretch.pieces (ending_pieces stretch.ending)) ∙ ap (λ l. l ++ drop next bytes) (map-append byte_in marks ends) in
    omega (arith, ap length split, length-append (map byte_in marks ++ map byte_in ends) (drop next bytes), length-append (map byte_in marks) (map byte_in ends), length-map marks byte_in, ending_length stretch.ending, length-drop at bytes, length-drop next bytes, is.within, is.order)

-- The text is gone over up to a byte: its pieces up to there, the parts that they are, and what is taken of these. What comes
-- from there on belongs to the session.
pub record ReadTo {X : Type 0} (Taken : List X → List Part → List X → Type 0) (bytes : List ℕ) (at session : ℕ) (items : List X) : Type 0 where
  pub within : at ≤ length bytes
  pub boundary : IsCharBoundary bytes at
  pub some : 1 ≤ session
  pub session_within : session ≤ SESSIONS
  pub few : length items ≤ INPUT_CALLS
  pub pieces : List Piece
  pub are : ArePieces true pieces bytes (drop at bytes)
  pub begins : begins_after true pieces ≡ (at == 0)
  pub parts : List Part
  pub parts_are : (more : List Piece) → parts_of (pieces ++ more) ≡ parts ++ parts_from session at (stretches more)
  pub takes : Taken [] parts items

closing_is : (at : ℕ) (ending : Ending) (found : Met) → IsMet at ending found → is_closing found ≡ is_closed ending
closing_is at AtSemicolon found is = ap is_closing is
closing_is at (AtSession line) met.Semicolon is = absurd is
closing_is at (AtSession line) (met.Session session) is = refl
closing_is at (AtSession line) (met.BadLine place) is = refl
closing_is at (AtSession line) met.End is = absurd is
closing_is at AtEnd found is = ap is_closing is

-- what a stretch meets, by what is found
met_semicolon : (at : ℕ) (ending : Ending) (found : Met) → IsMet at ending found → found ≡ met.Semicolon → ending ≡ AtSemicolon
met_semicolon at AtSemicolon found is same = refl
met_semicolon at (AtSession line) found is same = absurd (subst (IsLineMet line at) same is)
met_semicolon at AtEnd found is same = absurd (let wrong : met.End ≡ met.Semicolon = sym is ∙ same in cc)

met_session : (at session : ℕ) (ending : Ending) (found : Met) → IsMet at ending found → found ≡ met.Session session → (line : List ℕ) × (ending ≡ AtSession line) × (session_of line ≡ Some session) × (1 ≤ session) × (session ≤ SESSIONS)
met_session at session AtSemicolon found is same = absurd (let wrong : met.Semicolon ≡ met.Session session = sym is ∙ same in cc)
met_session at session (AtSession line) found is same = let line_met = subst (IsLineMet line at) same is in (line, refl, line_met.0, line_met.1, line_met.2)
met_session at session AtEnd found is same = absurd (let wrong : met.End ≡ met.Session session = sym is ∙ same in cc)

met_bad_line : (at place : ℕ) (ending : Ending) (found : Met) → IsMet at ending found → found ≡ met.BadLine place → (line : List ℕ) × (ending ≡ AtSession line) × (session_of line ≡ None) × (place ≡ at)
met_bad_line at place AtSemicolon found is same = absurd (let wrong : met.Semicolon ≡ met.BadLine place = sym is ∙ same in cc)
met_bad_line at place (AtSession line) found is same = let line_met = subst (IsLineMet line at) same is in (line, refl, line_met.0, line_met.1)
met_bad_line at place AtEnd found is same = absurd (let wrong : met.End ≡ met.BadLine place = sym is ∙ same in cc)

met_end : (at : ℕ) (ending : Ending) (found : Met) → IsMet at ending found → found ≡ met.End → ending ≡ AtEnd
met_end at AtSemicolon found is same = absurd (let wrong : met.Semicolon ≡ met.End = sym is ∙ same in cc)
met_end at (AtSession line) found is same = absurd (subst (IsLineMet line at) same is)
met_end at AtEnd found is same = refl

end_met : (at : ℕ) (ending : Ending) (found : Met) → IsMet at ending found → ending ≡ AtEnd → found ≡ met.End
end_met at AtSemicolon found is same = absurd (let wrong : AtSemicolon ≡ AtEnd = same in cc)
end_met at (AtSession line) found is same = absurd (let wrong : AtSession line ≡ AtEnd = same in cc)
end_met at AtEnd found is same = is

semicolon_goes_on : (ending : Ending) → ending ≡ AtSemicolon → ending ≢ AtEnd
semicolon_goes_on ending is end = absurd (let wrong : AtSemicolon ≡ AtEnd = sym is ∙ end in cc)

session_goes_on : (line : List ℕ) (ending : Ending) → ending ≡ AtSession line → ending ≢ AtEnd
session_goes_on line ending is end = absurd (let wrong : AtSession line ≡ AtEnd = sym is ∙ end in cc)

after_is : (ending : Ending) (more : List Piece) → ending ≢ AtEnd → after_ending ending more ≡ stretches more
after_is AtSemicolon more goes_on = refl
after_is (AtSession line) more goes_on = refl
after_is AtEnd more goes_on = absurd (goes_on refl)

-- no line begins after a semicolon or a session line
begins_ending : (begins : Bool) (pieces : List Piece) (ending : Ending) → ending ≢ AtEnd → begins_after begins (pieces ++ ending_pieces ending) ≡ false
begins_ending begins pieces AtSemicolon goes_on = begins_after-push begins pieces Semicolon
begins_ending begins pieces (AtSession line) goes_on = begins_after-push begins pieces (SessionLine line)
begins_ending begins pieces AtEnd goes_on = absurd (goes_on refl)

-- bytes after an ending are pieces
pieces_after : (begins : Bool) (ending : Ending) (bytes : List ℕ) → (ending ≡ AtEnd → bytes ≡ []) → (more : List Piece) × MayFollow ending more × ArePieces begins more bytes []
pieces_after begins AtSemicolon bytes none = let more = pieces_in begins bytes in (more.0, λ wrong. absurd (semicolon_goes_on AtSemicolon refl wrong), more.1)
pieces_after begins (AtSession line) bytes none = let more = pieces_in begins bytes in (more.0, λ wrong. absurd (session_goes_on line (AtSession line) refl wrong), more.1)
pieces_after begins AtEnd bytes none = ([], λ is. refl, none refl)

-- What is taken of a text, part by part. Of what parts take it is asked that no parts take nothing, that more parts take more,
-- and that a fault of parts behind others with which nothing is wrong is one of all.
module _ {X : Type 0} (Taken : List X → List Part → List X → Type 0) (taken_none : (before : List X) → Taken before [] before)
    (taken_append : (before : List X) (parts : List Part) (middle : List X) (more : List Part) (after : List X) → Taken before parts middle → Taken middle more after → Taken before (parts ++ more) after)
    (taken_later : (before : List X) (parts : List Part) (after : List X) (more : List Part) (fault : InputFault) → Taken before parts after → first_of (faults_after (length after) more) ≡ Some fault
    → first_of (faults_after (length before) (parts ++ more)) ≡ Some fault) where
  pub ReadTo-start : (bytes : List ℕ) → IsUtf8 bytes → ReadTo Taken bytes 0 1 []
  ReadTo-start bytes text =
      record {
        within = omega arith;
        boundary = IsCharBoundary-start bytes text;
        some = omega arith;
        session_within = omega arith;
        few = omega arith;
        pieces = [];
        are = refl;
        begins = refl;
        parts = [];
        parts_are = λ more. refl;
        takes = taken_none [];
      }

  -- a stretch after what is read
  module _ (bytes : List ℕ) (at session : ℕ) (calls : List X) (read : ReadTo Taken bytes at session calls) (found : Found) (is : IsStretch bytes at found) where
    call_same : call_in session at is.stretch ≡ call_of_text session found
    call_same = is.call session ∙ ap (λ b. call_with session found.start b found.text.now) (sym (closing_is (end_of at is.stretch) is.stretch.ending found.ending is.at.is_met))

    pub pieces_then : ArePieces true (read.pieces ++ (is.stretch.pieces ++ ending_pieces is.stretch.ending)) bytes (drop found.next bytes)
    pieces_then = ArePieces-append true read.pieces (is.stretch.pieces ++ ending_pieces is.stretch.ending) bytes (drop at bytes) (drop found.next bytes) read.are
        (subst (λ b. ArePieces b (is.stretch.pieces ++ ending_pieces is.stretch.ending) (drop at bytes) (drop found.next bytes)) (sym read.begins) is.at.are)

    -- the parts up to the stretch's end, and those after it
    pub parts_then : (more : List Piece) → MayFollow is.stretch.ending more → parts_of ((read.pieces ++ (is.stretch.pieces ++ ending_pieces is.stretch.ending)) ++ more)
        ≡ read.parts ++ (call_of_text session found ++ (bad_line (end_of at is.stretch) is.stretch.ending ++ parts_from (session_after session is.stretch.ending) found.next (after_ending is.stretch.ending more)))
    parts_then more may =
        ap parts_of (append_assoc read.pieces (is.stretch.pieces ++ ending_pieces is.stretch.ending) more ∙ ap (λ l. read.pieces ++ l) (append_assoc is.stretch.pieces (ending_pieces is.stretch.ending) more))
        ∙ read.parts_are (is.stretch.pieces ++ (ending_pieces is.stretch.ending ++ more))
        ∙ ap (λ l. read.parts ++ parts_from session at l) (stretches-of is.stretch.pieces is.stretch.ending more is.at.inner may)
        ∙ ap (λ l. read.parts ++ l) (parts_from-cons session at is.stretch (after_ending is.stretch.ending more))
        ∙ (λ i. read.parts ++ (call_same i ++ (bad_line (end_of at is.stretch) is.stretch.ending ++ parts_from (session_after session is.stretch.ending) (sym (next_is bytes at is.stretch found.ending found.next is.at) i) (after_ending is.stretch.ending more))))

    pub whole : (more : List Piece) × MayFollow is.stretch.ending more × ArePieces true ((read.pieces ++ (is.stretch.pieces ++ ending_pieces is.stretch.ending)) ++ more) bytes []
    whole =
        let more = pieces_after (begins_after true (read.pieces ++ (is.stretch.pieces ++ ending_pieces is.stretch.ending))) is.stretch.ending (drop found.next bytes) (λ end. drop_all found.next bytes (omega (arith, is.at.at_end end))) in
        (more.0, more.1, ArePieces-append true (read.pieces ++ (is.stretch.pieces ++ ending_pieces is.stretch.ending)) more.0 bytes (drop found.next bytes) [] pieces_then more.2)

    -- a fault of the stretch's call, or after it, is the text's
    fault_then : (fault : InputFault) → ((rest : List Part) → first_of (faults_after (length calls) (call_of_text session found ++ (bad_line (end_of at is.stretch) is.stretch.ending ++ rest))) ≡ Some fault)
        → first_of (faults_after 0 (parts_of ((read.pieces ++ (is.stretch.pieces ++ ending_pieces is.stretch.ending)) ++ whole.0))) ≡ Some fault
    fault_then fault wrong =
        let rest = parts_from (session_after session is.stretch.ending) found.next (after_ending is.stretch.ending whole.0) in
        ap (λ l. first_of (faults_after 0 l)) (parts_then whole.0 whole.1)
        ∙ taken_later [] read.parts calls (call_of_text session found ++ (bad_line (end_of at is.stretch) is.stretch.ending ++ rest)) fault read.takes (wrong rest)

    text_fault : (fault : InputFault) → IsFaultIn 0 (parts_of ((read.pieces ++ (is.stretch.pieces ++ ending_pieces is.stretch.ending)) ++ whole.0)) fault → IsTextFault bytes fault
    text_fault fault wrong = record { pieces = (read.pieces ++ (is.stretch.pieces ++ ending_pieces is.stretch.ending)) ++ whole.0; are = whole.2; is = wrong }

    call_wrong : (fault : InputFault) → first_of (faults_after (length calls) (call_of_text session found)) ≡ Some fault → first_of (faults_after 0 (parts_of ((read.pieces ++ (is.stretch.pieces ++ ending_pieces is.stretch.ending)) ++ whole.0))) ≡ Some fault
    call_wrong fault wrong = fault_then fault (λ rest. first_fault (length calls) (call_of_text session found) (bad_line (end_of at is.stretch) is.stretch.ending ++ rest) fault wrong)

    -- the call of the stretch is wrong, or memory was refused
    pub call_fault : (fault : InputFault) → IsFaultIn (length calls) (call_of_text session found) fault → IsTextFault bytes fault
    call_fault Memory wrong = text_fault Memory tt
    call_fault TooLong wrong = absurd wrong
    call_fault (NotText byte) wrong = absurd wrong
    call_fault (BadSession byte) wrong = text_fault (BadSession byte) (call_wrong (BadSession byte) wrong)
    call_fault (TooManyCalls byte) wrong = text_fault (TooManyCalls byte) (call_wrong (TooManyCalls byte) wrong)

    -- the session line that the stretch meets names no session
    pub line_wrong : (place : ℕ) (after : List X) → found.ending ≡ met.BadLine place → Taken calls (call_of_text session found) after → IsTextFault bytes (BadSession place)
    line_wrong place after same takes =
        let line = met_bad_line (end_of at is.stretch) place is.stretch.ending found.ending is.at.is_met same in
        let bad : bad_line (end_of at is.stretch) is.stretch.ending ≡ BadLine place ∷ [] = ap (bad_line (end_of at is.stretch)) line.1 ∙ ap (bad_unless (end_of at is.stretch)) line.2 ∙ ap (λ n. BadLine n ∷ []) (sym line.3) in
        text_fault (BadSession place) (fault_then (BadSession place) (λ rest.
        ap (λ l. first_of (faults_after (length calls) (call_of_text session found ++ (l ++ rest)))) bad
        ∙ taken_later calls (call_of_text session found) after (BadLine place ∷ rest) (BadSession place) takes (line_fault (length after) place rest)))

    pub line_within : (place : ℕ) → found.ending ≡ met.BadLine place → place ≤ length bytes
    line_within place same =
        let line = met_bad_line (end_of at is.stretch) place is.stretch.ending found.ending is.at.is_met same in
        omega (arith, line.3, next_is bytes at is.stretch found.ending found.next is.at, is.at.within)

    -- what is read goes on after the stretch
    go_on : (next_session : ℕ) (after : List X) → is.stretch.ending ≢ AtEnd → bad_line (end_of at is.stretch) is.stretch.ending ≡ [] → session_after session is.stretch.ending ≡ next_session → 1 ≤ next_session → next_session ≤ SESSIONS
        → Taken calls (call_of_text session found) after → length after ≤ INPUT_CALLS → ReadTo Taken bytes found.next next_session after
    go_on next_session after goes_on good named some within takes few =
        let later : at < found.next = elim is.at.goes_on [ inl less ↦ less | inr end ↦ absurd (goes_on end) ] in
        record {
          within = is.at.within;
          boundary = is.at.boundary;
          some = some;
          session_within = within;
          few = few;
          pieces = read.pieces ++ (is.stretch.pieces ++ ending_pieces is.stretch.ending);
          are = pieces_then;
          begins = ap (begins_after true) (sym (append_assoc read.pieces is.stretch.pieces (ending_pieces is.stretch.ending))) ∙ begins_ending true (read.pieces ++ is.stretch.pieces) is.stretch.ending goes_on ∙ sym (ne_eqb found.next 0 (λ none. absurd (omega arith)));
          parts = read.parts ++ call_of_text session found;
          parts_are = λ more.
              parts_then more (λ end. absurd (goes_on end))
              ∙ (λ i. read.parts ++ (call_of_text session found ++ (good i ++ parts_from (named i) found.next (after_is is.stretch.ending more goes_on i))))
              ∙ sym (append_assoc read.parts (call_of_text session found) (parts_from next_session found.next (stretches more)));
          takes = taken_append [] read.parts calls (call_of_text session found) after read.takes takes;
        }

    pub after_semicolon : (after : List X) → found.ending ≡ met.Semicolon → Taken calls (call_of_text session found) after → length after ≤ INPUT_CALLS → ReadTo Taken bytes found.next session after
    after_semicolon after same takes few =
        let ends = met_semicolon (end_of at is.stretch) is.stretch.ending found.ending is.at.is_met same in
        go_on session after (semicolon_goes_on is.stretch.ending ends) (ap (bad_line (end_of at is.stretch)) ends) (ap (session_after session) ends) read.some read.session_within takes few

    pub after_session : (next_session : ℕ) (after : List X) → found.ending ≡ met.Session next_session → Taken calls (call_of_text session found) after → length after ≤ INPUT_CALLS → ReadTo Taken bytes found.next next_session after
    after_session next_session after same takes few =
        let line = met_session (end_of at is.stretch) next_session is.stretch.ending found.ending is.at.is_met same in
        go_on next_session after (session_goes_on line.0 is.stretch.ending line.1)
        (ap (bad_line (end_of at is.stretch)) line.1 ∙ ap (bad_unless (end_of at is.stretch)) line.2) (ap (session_after session) line.1 ∙ ap (or_before session) line.2) line.3 line.4 takes few

    -- after the last stretch all is read
    pub after_all : (after : List X) → found.ending ≡ met.End → Taken calls (call_of_text session found) after → length after ≤ INPUT_CALLS → TakesText Taken bytes after
    after_all after same takes few =
        let end = met_end (end_of at is.stretch) is.stretch.ending found.ending is.at.is_met same in
        let pieces = read.pieces ++ (is.stretch.pieces ++ ending_pieces is.stretch.ending) in
        let none : drop found.next bytes ≡ [] = drop_all found.next bytes (omega (arith, is.at.at_end end)) in
        let parts : parts_of pieces ≡ read.parts ++ call_of_text session found =
        ap parts_of (sym (append-nil pieces)) ∙ parts_then [] (λ e. refl)
        ∙ (λ i. read.parts ++ (call_of_text session found ++ (bad_line (end_of at is.stretch) (end i) ++ parts_from (session_after session is.stretch.ending) found.next (after_ending (end i) []))))
        ∙ ap (λ l. read.parts ++ (call_of_text session found ++ l)) (parts_from-nil (session_after session is.stretch.ending) found.next) ∙ ap (λ l. read.parts ++ l) (append-nil (call_of_text session found)) in
        record {
          pieces = pieces;
          are = subst (ArePieces true pieces bytes) none pieces_then;
          takes = subst (λ l. Taken [] l after) (sym parts) (taken_append [] read.parts calls (call_of_text session found) after read.takes takes);
          few = few;
        }

    -- only the end of a text ends reading
    pub later : found.ending ≢ met.End → at < found.next
    later goes_on = elim is.at.goes_on [ inl less ↦ less | inr end ↦ absurd (goes_on (end_met (end_of at is.stretch) is.stretch.ending found.ending is.at.is_met end)) ]
