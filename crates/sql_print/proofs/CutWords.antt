-- The words of a canonical text, one space between, are cut into the terminals that they spell.
use Rattle.std.proofs.Common.{◌≡◌, ◌-◌, ℕ, Bool, true, false, List, [], ◌∷◌, ◌++◌, length, take, drop, refl, sym, ap, ◌∙◌, subst, arith, codes, append_assoc}
use Rattle.std.specs.Prelude.{map, IsTrue}
use Rattle.std.specs.List.{join_with_byte}
use Rattle.std.proofs.Math.Seq.{drop-append_seam, take-append_seam, drop-length}
use Rattle.std.proofs.lemmas.List.{append-nil, length-append}
use Rattle.sql_lex.specs.declared.token.Token.{Token}
use Rattle.sql_lex.specs.declared.token.TokenKind.{TokenKind}
use Rattle.sql_lex.specs.declared.token.TokenKind.TheVariants.{Number, Mark}
use Rattle.sql_lex.specs.Bytes.{first_passes}
use Rattle.sql_lex.specs.Filler.{Space, Skips, begins_filler}
use Rattle.sql_lex.specs.Lexing.{Lexing, IsNext, IsAtEnd}
use Rattle.sql_lex.specs.Tokens.{IsSpelled, Begins, goes_on, is_number, marks}
use Rattle.grammar_model.specs.Terminal.{Written, terminal_of}
use Rattle.text_model.specs.Words.{spaced}
use Rattle.sql_print.proofs.Spelling.{Piece, Single, Signed, word_of, IsPiece, ArePieces, Spells}
use Rattle.sql_print.proofs.WordEnds.{EndsWord, stops-there, minus-stops, token-no_filler, minus-no_filler, some-bytes}

-- the token of these bytes from one place to another
abbrev token_of : TokenKind → List ℕ → ℕ → ℕ → Token
token_of kind bytes start end = record { kind = kind; text = record { ref_ptr = (0, 0); now = bytes }; start = start; end = end }

-- a space, or nothing
abbrev gap : Bool → List ℕ
gap true = 32 ∷ []
gap false = []

-- after a space or nothing, what begins with no filler comes next
gap-skips : (space : Bool) (after : List ℕ) → begins_filler after ≡ false → Skips (gap space ++ after) after
gap-skips true after none = record { fillers = Space 32 ∷ []; fills = (after, refl, refl, refl); no_more = none }
gap-skips false after none = record { fillers = []; fills = refl; no_more = none }

module _ (kind : TokenKind) (text front : List ℕ) (space : Bool) (bytes after : List ℕ) (split : text ≡ ((front ++ gap space) ++ bytes) ++ after) where
  -- where the token begins
  abbrev start : ℕ
  start = length (front ++ gap space)

  -- where it ends
  abbrev end : ℕ
  end = length ((front ++ gap space) ++ bytes)

  -- the text after the front
  from_front : drop (length front) text ≡ gap space ++ (bytes ++ after)
  from_front =
      ap (drop (length front)) (split ∙ append_assoc (front ++ gap space) bytes after ∙ append_assoc front (gap space) (bytes ++ after))
      ∙ drop-append_seam front (gap space ++ (bytes ++ after))

  -- the text from the token on
  from_start : drop start text ≡ bytes ++ after
  from_start = ap (drop start) (split ∙ append_assoc (front ++ gap space) bytes after) ∙ drop-append_seam (front ++ gap space) (bytes ++ after)

  -- the text after the token
  from_end : drop end text ≡ after
  from_end = ap (drop end) split ∙ drop-append_seam ((front ++ gap space) ++ bytes) after

  -- after a space or none the token comes next
  next-token : IsSpelled kind bytes → first_passes (goes_on kind bytes) after ≡ false → begins_filler (bytes ++ after) ≡ false → IsNext (record { text = text; at = length front }) (token_of kind bytes start end)
  next-token spelled whole none =
      let some = some-bytes kind bytes spelled in
      let first = length-append front (gap space) in
      let second = length-append (front ++ gap space) bytes in
      let third = ap length split ∙ length-append ((front ++ gap space) ++ bytes) after in
      let long : end - start ≡ length bytes = omega arith in
      record {
        stands = record {
          onward = omega arith;
          within = omega arith;
          skips = subst (λ l. Skips l (drop start text)) (sym from_front) (subst (λ l. Skips (gap space ++ (bytes ++ after)) l) (sym from_start) (gap-skips space (bytes ++ after) none));
        };
        onward = omega arith;
        within = omega arith;
        slice = sym ((λ i. take (long i) (from_start i)) ∙ take-append_seam bytes after);
        begins = subst (λ l. Begins kind l bytes (drop end text)) (sym from_start)
            (subst (λ l. Begins kind (bytes ++ after) bytes l) (sym from_end) (record { split = refl; spelled = spelled; whole = whole }));
      }

-- from here on these tokens come, and then the end
abbrev pub Steps : Lexing → List Token → Type 0
Steps lexing [] = IsAtEnd lexing
Steps lexing (token ∷ tokens) = IsNext lexing token × Steps (record lexing { at = token.end }) tokens

-- from this place on the text is tokens that the pieces spell
pub record Cut (text front : List ℕ) (pieces : List Piece) : Type 0 where
  pub tokens : List Token
  pub steps : Steps (record { text = text; at = length front }) tokens
  pub spells : Spells pieces (map terminal_of tokens) []

-- one token more
cut-token : (space : Bool) (kind : TokenKind) (bytes : List ℕ) (pieces : List Piece) (text front after : List ℕ) → IsSpelled kind bytes → text ≡ ((front ++ gap space) ++ bytes) ++ after → EndsWord after → Cut text ((front ++ gap space) ++ bytes) pieces → Cut text front (Single kind bytes ∷ pieces)
cut-token space kind bytes pieces text front after is split ends rest =
    record {
      tokens = token_of kind bytes (length (front ++ gap space)) (length ((front ++ gap space) ++ bytes)) ∷ rest.tokens;
      steps = (next-token kind text front space bytes after split is (stops-there kind bytes after ends) (token-no_filler kind bytes after is ends), rest.steps);
      spells = (map terminal_of rest.tokens, (length (front ++ gap space), refl), rest.spells);
    }

-- a minus sign before digits
cut-minus : (digits : List ℕ) (pieces : List Piece) (text before after : List ℕ) (space : Bool) → IsTrue (is_number digits) → text ≡ ((before ++ gap space) ++ codes "-") ++ (digits ++ after) → Cut text ((before ++ gap space) ++ codes "-") (Single Number digits ∷ pieces) → Cut text before (Signed digits ∷ pieces)
unfolding marks
cut-minus digits pieces text before after space is split rest =
    let place = length (before ++ gap space) in
    record {
      tokens = token_of Mark (codes "-") place (length ((before ++ gap space) ++ codes "-")) ∷ rest.tokens;
      steps = (next-token Mark text before space (codes "-") (digits ++ after) split refl (minus-stops digits after is) (minus-no_filler digits after is), rest.steps);
      spells = (rest.spells.0, (place, rest.spells.1.0, ap (λ l. Written Mark (codes "-") place ∷ l) rest.spells.1.1), rest.spells.2);
    }

-- one piece more
cut-piece : (space : Bool) (piece : Piece) (pieces : List Piece) (text front after : List ℕ) → IsPiece piece → text ≡ ((front ++ gap space) ++ word_of piece) ++ after → EndsWord after → Cut text ((front ++ gap space) ++ word_of piece) pieces → Cut text front (piece ∷ pieces)
cut-piece space (Single kind bytes) pieces text front after is split ends rest = cut-token space kind bytes pieces text front after is split ends rest
cut-piece space (Signed digits) pieces text front after is split ends rest =
    let before = front ++ gap space in
    let minus = before ++ codes "-" in
    let whole : (minus ++ []) ++ digits ≡ before ++ 45 ∷ digits = ap (λ l. l ++ digits) (append-nil minus) ∙ append_assoc before (codes "-") digits in
    cut-minus digits pieces text front after space is
    (split ∙ append_assoc before (45 ∷ digits) after ∙ sym (append_assoc before (codes "-") (digits ++ after)))
    (cut-token false Number digits pieces text minus after is (split ∙ ap (λ l. l ++ after) (sym whole)) ends (subst (λ l. Cut text l pieces) (sym whole) rest))

-- the end comes next
cut-end : (text front : List ℕ) → text ≡ front ++ [] → Cut text front []
cut-end text front split =
    let same : text ≡ front = split ∙ append-nil front in
    record {
      tokens = [];
      steps = record {
        onward = omega (arith, ap length same);
        within = omega arith;
        skips = record {
          fillers = [];
          fills = ap (λ l. drop (length l) text) (sym same);
          no_more = ap begins_filler (drop-length text);
        };
      };
      spells = refl;
    }

-- the words after the first, a space before each
abbrev tail : List Piece → List ℕ
tail [] = []
tail (piece ∷ pieces) = 32 ∷ (word_of piece ++ tail pieces)

-- what follows a word is a space or the end
tail-ends : (pieces : List Piece) → EndsWord (tail pieces)
tail-ends [] = tt
tail-ends (piece ∷ pieces) = refl

-- a space after the front, and a word
spaced-split : (front word after : List ℕ) → front ++ 32 ∷ (word ++ after) ≡ ((front ++ 32 ∷ []) ++ word) ++ after
spaced-split front word after = sym (append_assoc (front ++ 32 ∷ []) word after ∙ append_assoc front (32 ∷ []) (word ++ after))

-- the words after the first are tokens that they spell
cut-tail : (pieces : List Piece) (text front : List ℕ) → ArePieces pieces → text ≡ front ++ tail pieces → Cut text front pieces
cut-tail [] text front are split = cut-end text front split
cut-tail (piece ∷ pieces) text front are split =
    let whole = split ∙ spaced-split front (word_of piece) (tail pieces) in
    cut-piece true piece pieces text front (tail pieces) are.0 whole (tail-ends pieces)
    (cut-tail pieces text ((front ++ 32 ∷ []) ++ word_of piece) are.1 whole)

-- words with one space between
joined-tail : (piece : Piece) (pieces : List Piece) → join_with_byte 32 (map word_of (piece ∷ pieces)) ≡ word_of piece ++ tail pieces
joined-tail piece [] = sym (append-nil (word_of piece))
joined-tail piece (next ∷ pieces) = ap (λ l. word_of piece ++ 32 ∷ l) (joined-tail next pieces)

-- the text of these words is tokens that they spell
pub cut-words : (pieces : List Piece) → ArePieces pieces → Cut (spaced (map word_of pieces)) [] pieces
unfolding spaced
cut-words [] are = cut-end [] [] refl
cut-words (piece ∷ pieces) are =
    let whole = joined-tail piece pieces in
    cut-piece false piece pieces (join_with_byte 32 (map word_of (piece ∷ pieces))) [] (tail pieces) are.0 whole (tail-ends pieces)
    (cut-tail pieces (join_with_byte 32 (map word_of (piece ∷ pieces))) (word_of piece) are.1 whole)
