-- A text is that of one CREATE.
use Rattle.std.proofs.Common.{◌≡◌, ℕ, List, Bool, true, false, sym, subst, ◌∙◌, ap, refl}
use Rattle.std.specs.Prelude.{IsUtf8, nat_eq, not}
use Rattle.std.specs.Cmp.Lexicographic.{other_text, pointwise, same_text}
use Rattle.own_model.specs.declared.limit.LimitName.{LimitName}
use Rattle.own_model.specs.declared.schema.CreateText.{CreateText}
use Rattle.own_model.specs.declared.statement.Statement.{Statement}
use Rattle.own_model.specs.declared.statement.Statement.TheVariants as statements
use Rattle.text_model.specs.Canonical.{canonical}
use Rattle.grammar_model.specs.Answer.{Answer, IsAnswer, IsAnswerFor, GivesStatement, StopsAt, PassesLimit}
use Rattle.grammar_model.specs.Terminal.{Terminals}
use Rattle.state_model.specs.Created.{Create, OfTable, OfView, statement_of, text_of}
use Rattle.disk_model.specs.Bounds.{IsCountable}
use Rattle.disk_model.specs.TextOf.{IsTextOf}
use Rattle.commit_replay.specs.Creates.{IsRead, TellsOf, is_create_of}

-- where the terminals are a statement, no other answer is given for them
only_for : (text : List ℕ) (terminals : Terminals) (found : Statement) (answer : Answer) → IsAnswerFor text terminals (GivesStatement found) → IsAnswerFor text terminals answer
    → answer ≡ GivesStatement found
only_for text terminals found (GivesStatement other) is same = ap GivesStatement (is.1 other same.0)
only_for text terminals found (StopsAt byte) is same = absurd (same.1.none found is.0)
only_for text terminals found (PassesLimit passed) is same = absurd (same.1.none found is.0)

-- a text that is a statement has no other answer
pub given-only : (text : List ℕ) (found : Statement) (answer : Answer) → IsAnswer text (GivesStatement found) → IsAnswer text answer → answer ≡ GivesStatement found
given-only text found answer is same =
    only_for text is.terminals found answer is.answers (subst (λ (terminals : Terminals). IsAnswerFor text terminals answer) (is.only same.terminals same.cut) same.answers)

-- a statement is that of one CREATE
pub one-statement : (one other : Create) → statement_of one ≡ statement_of other → one ≡ other
one-statement (OfTable one) (OfTable other) is = let same : one ≡ other = cc in ap OfTable same
one-statement (OfTable one) (OfView other) is = absurd (cc)
one-statement (OfView one) (OfTable other) is = absurd (cc)
one-statement (OfView one) (OfView other) is = let same : one ≡ other = cc in ap OfView same

-- an answer gives one statement
given : (one other : Statement) → GivesStatement one ≡ GivesStatement other → one ≡ other
given one other is = cc

-- and so is a text
pub one-create : (one other : Create) (text : CreateText) → IsTextOf one text → IsTextOf other text → one ≡ other
one-create one other text is same = one-statement one other (given (statement_of one) (statement_of other) (given-only text.text (statement_of other) (GivesStatement (statement_of one)) same.read is.read))

-- ---- the statement that is read of a text

-- a CREATE's text is its canonical one
text-canonical : (create : Create) → (text_of create).text ≡ canonical (statement_of create)
text-canonical (OfTable table) = refl
text-canonical (OfView view) = refl

-- and it is kept as that of a view or of a table, as it is one
of-its_kind : (create : Create) → is_create_of (text_of create).view (statement_of create) ≡ true
of-its_kind (OfTable table) = refl
of-its_kind (OfView view) = refl

-- the CREATE whose text it is, is what is read
pub read-same : (create : Create) (text : CreateText) (found : Statement) → IsAnswer text.text (GivesStatement found) → IsTextOf create text → statement_of create ≡ found
read-same create text found read is = given (statement_of create) found (given-only text.text found (GivesStatement (statement_of create)) read is.read)

-- a text that is read as another statement is that of no CREATE
pub other-kind : (create : Create) (text : CreateText) (found : Statement) → IsAnswer text.text (GivesStatement found) → is_create_of text.view found ≡ false → ¬ IsTextOf create text
other-kind create text found read other is =
    let kind = ap (λ (text : CreateText). is_create_of text.view found) is.canonical in
    let same = ap (is_create_of (text_of create).view) (read-same create text found read is) in
    let its = of-its_kind create in
    absurd (cc)

-- and the text of one is canonical
pub canonical-text : (create : Create) (text : CreateText) (found : Statement) → IsAnswer text.text (GivesStatement found) → IsTextOf create text → text.text ≡ canonical found
canonical-text create text found read is = ap (λ (text : CreateText). text.text) is.canonical ∙ text-canonical create ∙ ap canonical (read-same create text found read is)

-- the text of a table is not one of a view
kept-table : (view : Bool) → not view ≡ true → view ≡ false
kept-table true is = absurd (cc)
kept-table false is = refl

-- a canonical text that is read as a CREATE is that CREATE's
pub read-text : (view : Bool) (text : List ℕ) (found : Statement) → IsCountable text → IsUtf8 text → IsAnswer text (GivesStatement found) → is_create_of view found ≡ true → text ≡ canonical found
    → IsRead (record { view = view; text = text }) found
read-text view text (statements.CreateTable table) few utf8 read kind same = record {
  create = OfTable table;
  text_of = record { few = few; utf8 = utf8; read = read; canonical = λ i. record { view = kept-table view kind i; text = same i } };
  found_is = refl;
}
read-text view text (statements.CreateView of) few utf8 read kind same = record {
  create = OfView of;
  text_of = record { few = few; utf8 = utf8; read = read; canonical = λ i. record { view = kind i; text = same i } };
  found_is = refl;
}
read-text view text _ few utf8 read kind same = absurd (cc)

-- the answer, by whether the text is the canonical one
pub kept-told : (view : Bool) (text printed : List ℕ) (found : Statement) (same : Bool) → IsCountable text → IsUtf8 text → IsAnswer text (GivesStatement found) → is_create_of view found ≡ true
    → printed ≡ canonical found → pointwise nat_eq printed text ≡ same → TellsOf (record { view = view; text = text }) found same
kept-told view text printed found true few utf8 read kind printed_is same =
    read-text view text found few utf8 read kind (sym (same_text printed text (sym same)) ∙ printed_is)
kept-told view text printed found false few utf8 read kind printed_is other = λ create is.
    other_text printed text (sym other) (printed_is ∙ sym (canonical-text create (record { view = view; text = text }) found read is))

-- a text with which no statement goes on is that of no CREATE
pub stopped : (create : Create) (text : CreateText) (byte : ℕ) → IsAnswer text.text (StopsAt byte) → ¬ IsTextOf create text
stopped create text byte read is = let same = given-only text.text (statement_of create) (StopsAt byte) is.read read in absurd (cc)

-- nor is one that passes a limit
pub limited : (create : Create) (text : CreateText) (passed : LimitName) → IsAnswer text.text (PassesLimit passed) → ¬ IsTextOf create text
limited create text passed read is = let same = given-only text.text (statement_of create) (PassesLimit passed) is.read read in absurd (cc)
