-- Where all texts that bytes close are given, none is closed besides.
use Rattle.std.proofs.Common.{◌≡◌, ◌⊎◌, ℕ, Bool, true, false, List, [], ◌∷◌, ◌++◌, inl, inr, refl, sym, ap, ◌∙◌, subst, arith}
use Rattle.std.proofs.lemmas.List.{append-nil}
use Rattle.own_model.specs.declared.script.ScriptCall.{ScriptCall}
use Rattle.sql_lex.specs.Filler.{EndsLine}
use Rattle.script_model.specs.CallText.{CallText}
use Rattle.script_model.specs.Piece.{Piece, Byte, Quoted, Unclosed, Comment, SessionLine, Semicolon, ArePieces, AreAllPieces, ends_line}
use Rattle.script_model.specs.Script.{parts_of, texts_in}
use Rattle.script_model.proofs.InputCalls.{texts-append}
use Rattle.sql_reader.specs.scripts.Fronts.{begins_after}
use Rattle.sql_reader.proofs.Scripts.OnePiece.{one_list, pieces_in}
use Rattle.sql_reader.proofs.Scripts.Scanning.{ArePieces-append}
use Rattle.call_stream.specs.Given.{AreCallsOf, AreClosed, AreFront, AreOpen, AreTexts, HasAllClosed, HasGiven}
use Rattle.call_stream.proofs.Beginnings.{calls_first, parts_after, parts_closed}

-- the bytes, as if they were all, are the front's pieces and others
pub alone : (bytes front rest : List ℕ) (pieces more : List Piece) → AreFront bytes front rest pieces → ArePieces (begins_after true pieces) more rest [] → AreAllPieces (pieces ++ more) bytes
alone bytes front rest pieces more is are =
    let settled : ArePieces true pieces bytes rest =
    subst (λ l. ArePieces true pieces l rest) (append-nil bytes) (subst (ArePieces true pieces (bytes ++ [])) (append-nil rest) (is.settled [])) in
    ArePieces-append true pieces more bytes rest [] settled are

-- of two beginnings of a list one is the longer
longer : (one more other rest : List Piece) → one ++ more ≡ other ++ rest
    → ((later : List Piece) × (one ≡ other ++ later)) ⊎ ((next : Piece) × (later : List Piece) × (other ≡ one ++ next ∷ later) × (more ≡ next ∷ (later ++ rest)))
longer one more [] rest is = inl (one, refl)
longer [] more (next ∷ other) rest is = inr (next, other, refl, is)
longer (piece ∷ one) more (next ∷ other) rest is =
    let same : piece ≡ next = ap (first_or piece) is in
    elim (longer one more other rest (ap after is)) [
      | inl (later, split) ↦ inl (later, λ i. same i ∷ split i)
      | inr (first, later, split, also) ↦ inr (first, later, (λ i. sym same i ∷ split i), also)
    ]
  where
    first_or : Piece → List Piece → Piece
    first_or other [] = other
    first_or other (piece ∷ pieces) = piece

    after : List Piece → List Piece
    after [] = []
    after (piece ∷ pieces) = pieces

pub never : {A : Type 0} → true ≡ false → A
never wrong = absurd (let no : ⊥ = cc in no)

pub no_truth : {A : Type 0} → false ≡ true → A
no_truth wrong = absurd (let no : ⊥ = cc in no)

-- pieces that close no text, but for a session line at the very end, go on so
open_after : (piece next : Piece) (pieces : List Piece) → AreOpen (piece ∷ next ∷ pieces) → AreOpen (next ∷ pieces)
open_after (Byte byte) next pieces is = is.1
open_after (Quoted between) next pieces is = is.1
open_after (Unclosed after) next pieces is = is.1
open_after (Comment line) next pieces is = is.1
open_after (SessionLine line) next pieces is = is.1
open_after Semicolon next pieces is = is.1

-- some of them that end a stretch are all, and their session line is at its end
line_ended : (begins : Bool) (piece : Piece) (pieces more : List Piece) (bytes after : List ℕ) → AreOpen (piece ∷ (pieces ++ more)) → AreClosed (piece ∷ pieces) → ArePieces begins (piece ∷ pieces) bytes after → (more ≡ []) × EndsLine after
line_ended begins (Byte byte) [] more bytes after is closed are = never closed
line_ended begins (Quoted between) [] more bytes after is closed are = never closed
line_ended begins (Unclosed rest) [] more bytes after is closed are = never closed
line_ended begins (Comment line) [] more bytes after is closed are = never closed
line_ended begins (SessionLine line) [] [] bytes after is closed are = (refl, subst EndsLine are.3 are.2.1.1)
line_ended begins (SessionLine line) [] (next ∷ more) bytes after is closed are = no_truth is.0
line_ended begins Semicolon [] more bytes after is closed are = no_truth is.0
line_ended begins piece (next ∷ pieces) more bytes after is closed are = line_ended (ends_line piece) next pieces more are.0 after (open_after piece next (pieces ++ more) is) closed are.3

-- the last pieces of those that are closed are closed
closed_back : (pieces : List Piece) (next : Piece) (more : List Piece) → AreClosed (pieces ++ next ∷ more) → AreClosed (next ∷ more)
closed_back [] next more closed = closed
closed_back (piece ∷ []) next more closed = closed
closed_back (piece ∷ first ∷ pieces) next more closed = closed_back (first ∷ pieces) next more closed

-- and they are the pieces of the last bytes
record Back (pieces : List Piece) (after : List ℕ) : Type 0 where
  begins : Bool
  bytes : List ℕ
  are : ArePieces begins pieces bytes after

pieces_back : (begins : Bool) (pieces more : List Piece) (bytes after : List ℕ) → ArePieces begins (pieces ++ more) bytes after → Back more after
pieces_back begins [] more bytes after are = record { begins = begins; bytes = bytes; are = are }
pieces_back begins (piece ∷ pieces) more bytes after are = pieces_back (ends_line piece) pieces more are.0 after are.3

-- no bytes are all that no piece is left of
no_bytes : (begins : Bool) (pieces : List Piece) (bytes : List ℕ) → ArePieces begins pieces bytes [] → pieces ≡ [] → bytes ≡ []
no_bytes begins [] bytes are none = are
no_bytes begins (piece ∷ pieces) bytes are none = absurd (let no : ⊥ = cc in no)

-- a settled front goes no further than where all is closed
pieces_within : (bytes front rest : List ℕ) (pieces more : List Piece) (other left : List ℕ) (found : List Piece) → AreFront bytes front rest pieces → ArePieces (begins_after true pieces) more rest [] → AreOpen more → AreFront bytes other left found
    → (later : List Piece) × (pieces ≡ found ++ later)
pieces_within bytes front rest pieces more other left found is are opens also =
    let tail = pieces_in (begins_after true found) left in
    let same : pieces ++ more ≡ found ++ tail.0 = one_list true bytes (pieces ++ more) (found ++ tail.0) (alone bytes front rest pieces more is are) (alone bytes other left found tail.0 also tail.1) in
    elim (longer pieces more found tail.0 same) [
      | inl within ↦ within
      | inr (next, later, split, ends) ↦
          let back = pieces_back true pieces (next ∷ later) (bytes ++ 0 ∷ []) (left ++ 0 ∷ []) (subst (λ l. ArePieces true l (bytes ++ 0 ∷ []) (left ++ 0 ∷ [])) split (also.settled (0 ∷ []))) in
          let found_end = line_ended back.begins next later tail.0 back.bytes (left ++ 0 ∷ []) (subst AreOpen ends opens) (closed_back pieces next later (subst AreClosed split also.closed)) back.are in
          let none : left ≡ [] = no_bytes (begins_after true found) tail.0 left tail.1 found_end.0 in
          let wrong : 0 ≡ 10 = subst (λ l. EndsLine (l ++ 0 ∷ [])) none found_end.1 in
          absurd (omega (arith, wrong))
    ]

-- a text that bytes close is among those of which they close no more
pub texts_within : (bytes rest : List ℕ) (texts other : List CallText) → HasAllClosed bytes texts → AreTexts bytes rest other → (more : List CallText) × (texts ≡ other ++ more)
texts_within bytes rest texts other all given =
    let mine = all.are_texts in
    let found = pieces_within bytes mine.front all.rest mine.pieces all.pieces given.front rest given.pieces mine.is_front all.are all.are_open given.is_front in
    let after = parts_after given.pieces found.0 in (
      texts_in after,
      mine.texts_are ∙ ap (λ l. texts_in (parts_of l)) found.1 ∙ ap texts_in (parts_closed given.pieces found.0 given.is_front.closed) ∙ texts-append (parts_of given.pieces) after
          ∙ ap (λ l. l ++ texts_in after) (sym given.texts_are),
    )

pub given_within : (bytes : List ℕ) (texts other : List CallText) (calls : List ScriptCall) → HasAllClosed bytes texts → HasGiven bytes other calls → (rest : List CallText) × (texts ≡ other ++ rest)
given_within bytes texts other calls all given = texts_within bytes given.rest texts other all given.are_texts

-- and so is its call among theirs
pub calls_within : (bytes : List ℕ) (texts other : List CallText) (calls others : List ScriptCall) → HasAllClosed bytes texts → HasGiven bytes texts calls → HasGiven bytes other others → (rest : List ScriptCall) × (calls ≡ others ++ rest)
calls_within bytes texts other calls others all given also =
    let more = given_within bytes texts other others all also in
    calls_first other more.0 others calls also.calls_of_texts (subst (λ l. AreCallsOf l calls) more.1 given.calls_of_texts)
