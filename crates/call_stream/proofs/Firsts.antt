-- The calls of a beginning of an input, as more of it comes.
use Rattle.std.proofs.Common.{ℕ, List, ◌++◌, sym, ap, subst₂, ◌∙◌, append_assoc, true}
use Rattle.own_model.specs.declared.script.ScriptCall.{ScriptCall}
use Rattle.script_model.specs.CallText.{CallText}
use Rattle.script_model.specs.Piece.{ArePieces, Piece}
use Rattle.call_stream.specs.Given.{AreFront, HasGiven}

-- pieces at the front of bytes stay there
front_more : (bytes front rest more : List ℕ) (pieces : List Piece) → AreFront bytes front rest pieces → AreFront (bytes ++ more) front (rest ++ more) pieces
front_more bytes front rest more pieces is = record {
  split = ap (λ all. all ++ more) is.split ∙ append_assoc front rest more;
  settled = λ later. subst₂ (ArePieces true pieces) (sym (append_assoc bytes more later)) (sym (append_assoc rest more later)) (is.settled (more ++ later));
  closed = is.closed;
}

-- the calls of the first texts that bytes close stay those
pub given_more : (bytes more : List ℕ) (texts : List CallText) (calls : List ScriptCall) → HasGiven bytes texts calls → HasGiven (bytes ++ more) texts calls
given_more bytes more texts calls given = record {
  rest = given.rest ++ more;
  are_texts = record {
    front = given.are_texts.front;
    pieces = given.are_texts.pieces;
    is_front = front_more bytes given.are_texts.front given.rest more given.are_texts.pieces given.are_texts.is_front;
    valid = given.are_texts.valid;
    right = given.are_texts.right;
    texts_are = given.are_texts.texts_are;
  };
  calls_of_texts = given.calls_of_texts;
}
