-- Words that spell terminals, and rules of the grammar that hold of what words spell.
use Rattle.std.proofs.Common.{◌≡◌, ℕ, false, List, [], ◌∷◌, ◌++◌, refl, sym, ◌∙◌, subst, codes}
use Rattle.std.specs.Prelude.{map, IsTrue}
use Rattle.std.proofs.lemmas.List.{map-append}
use Rattle.sql_lex.specs.declared.token.TokenKind.{TokenKind}
use Rattle.sql_lex.specs.declared.token.TokenKind.TheVariants.{Name, Keyword, Number, Quoted, Mark}
use Rattle.sql_lex.specs.Keywords.{is_keyword}
use Rattle.sql_lex.specs.Tokens.{IsSpelled, is_number}
use Rattle.grammar_model.specs.Language.{Language, ◌>>=◌, pure}
use Rattle.grammar_model.specs.Terminal.{Terminal, Terminals, Written, Slot}
use Rattle.text_model.specs.Words.{Words}

-- what a word of a canonical text is: one token, or a number after its minus sign
pub data Piece : Type 0 where
  Single : TokenKind → List ℕ → Piece
  Signed : List ℕ → Piece

-- the bytes of the word
abbrev pub word_of : Piece → List ℕ
word_of (Single kind bytes) = bytes
word_of (Signed digits) = 45 ∷ digits

-- the word is spelled as that token, or those two
abbrev pub IsPiece : Piece → Type 0
IsPiece (Single kind bytes) = IsSpelled kind bytes
IsPiece (Signed digits) = IsTrue (is_number digits)

-- each is
abbrev pub ArePieces : List Piece → Type 0
ArePieces [] = Unit {0}
ArePieces (piece ∷ pieces) = IsPiece piece × ArePieces pieces

-- the terminals begin with those of the piece, and these come after
abbrev pub SpellsOne : Piece → Terminals → Terminals → Type 0
SpellsOne (Single kind bytes) out rest = (start : ℕ) × (out ≡ Written kind bytes start ∷ rest)
SpellsOne (Signed digits) out rest = (sign : ℕ) × (start : ℕ) × (out ≡ Written Mark (codes "-") sign ∷ Written Number digits start ∷ rest)

-- the terminals begin with those of the pieces, and these come after
abbrev pub Spells : List Piece → Terminals → Terminals → Type 0
Spells [] out rest = out ≡ rest
Spells (piece ∷ pieces) out rest = (middle : Terminals) × SpellsOne piece out middle × Spells pieces middle rest

-- what two lists of pieces spell is what one spells and then what the other does
pub Spells-split : (one two : List Piece) (out rest : Terminals) → Spells (one ++ two) out rest → (middle : Terminals) × Spells one out middle × Spells two middle rest
Spells-split [] two out rest spells = (out, refl, spells)
Spells-split (piece ∷ one) two out rest spells =
    let parts = Spells-split one two spells.0 rest spells.2 in
    (parts.0, (spells.0, spells.1, parts.1), parts.2)

-- two such lists are one
pub ArePieces-append : (one two : List Piece) → ArePieces one → ArePieces two → ArePieces (one ++ two)
ArePieces-append [] two first second = second
ArePieces-append (piece ∷ one) two first second = (first.0, ArePieces-append one two first.1 second)

-- a rule holds of whatever terminals the words spell
pub record Writes (words : Words) (rule : Terminals → Terminals → Type 0) : Type 0 where
  pub pieces : List Piece
  pub are : ArePieces pieces
  pub same : words ≡ map word_of pieces
  pub holds : (out rest : Terminals) → Spells pieces out rest → rule out rest

-- one rule and then another
pub writes-both : (one two : Words) (first second : Terminals → Terminals → Type 0) → Writes one first → Writes two second → Writes (one ++ two) (λ out rest. (middle : Terminals) × first out middle × second middle rest)
writes-both one two first second before after =
    record {
      pieces = before.pieces ++ after.pieces;
      are = ArePieces-append before.pieces after.pieces before.are after.are;
      same = (λ i. before.same i ++ after.same i) ∙ sym (map-append word_of before.pieces after.pieces);
      holds = λ out rest spells.
          let parts = Spells-split before.pieces after.pieces out rest spells in
          (parts.0, before.holds out parts.0 parts.1, after.holds parts.0 rest parts.2);
    }

-- a rule that follows of another
pub writes-so : (words : Words) (rule other : Terminals → Terminals → Type 0) → ((out rest : Terminals) → rule out rest → other out rest) → Writes words rule → Writes words other
writes-so words rule other so writes = record { pieces = writes.pieces; are = writes.are; same = writes.same; holds = λ out rest spells. so out rest (writes.holds out rest spells) }

-- one rule and then another, which the value of the first may decide
pub writes-then : {A B : Type 0} (first : Language A) (next : A → Language B) (found : A) (value : B) (one two : Words) → Writes one (first found) → Writes two (next found value) → Writes (one ++ two) ((first >>= next) value)
writes-then first next found value one two before after =
    writes-so (one ++ two) (λ out rest. (middle : Terminals) × first found out middle × next found value middle rest) ((first >>= next) value) (λ out rest (middle, text, more). (found, middle, text, more))
    (writes-both one two (first found) (next found value) before after)

-- one piece
pub writes-piece : (piece : Piece) (rule : Terminals → Terminals → Type 0) → IsPiece piece → ((out rest : Terminals) → SpellsOne piece out rest → rule out rest) → Writes (word_of piece ∷ []) rule
writes-piece piece rule is holds =
    record {
      pieces = piece ∷ [];
      are = (is, tt);
      same = refl;
      holds = λ out rest spells. subst (rule out) spells.2 (holds out spells.0 spells.1);
    }

-- nothing
pub writes-nothing : (rule : Terminals → Terminals → Type 0) → ((out : Terminals) → rule out out) → Writes [] rule
writes-nothing rule holds = record { pieces = []; are = tt; same = refl; holds = λ out rest spells. subst (rule out) spells (holds out) }

-- a rule without terminals
pub writes-pure : {A : Type 0} (made : A) → Writes [] (pure made made)
writes-pure made = writes-nothing (pure made made) (λ out. (refl, refl))

-- a terminal of a text: a name is no keyword, and no slot stands there
abbrev pub IsSound : Terminal → Type 0
IsSound (Written Name bytes start) = is_keyword bytes ≡ false
IsSound (Written Keyword bytes start) = Unit {0}
IsSound (Written Number bytes start) = Unit {0}
IsSound (Written Quoted bytes start) = Unit {0}
IsSound (Written Mark bytes start) = Unit {0}
IsSound Slot = ⊥

-- each terminal is one of a text
abbrev pub AreSound : Terminals → Type 0
AreSound [] = Unit {0}
AreSound (terminal ∷ terminals) = IsSound terminal × AreSound terminals
