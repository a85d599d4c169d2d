-- Images, by what their creates and their rows are.
use Rattle.std.proofs.Common.{◌≡◌, ◌∙◌, ℕ, List, [], ◌∷◌, map, Option, None, Some, ap, refl, sym, subst}
use Rattle.std.specs.Prelude.{IfOk, IfSome, Result, Ok, Err}
use Rattle.std.specs.List.{AllByRecursion}
use Rattle.own_model.specs.declared.schema.CreateText.{CreateText}
use Rattle.own_model.specs.declared.statement.Statement.{Statement}
use Rattle.own_model.specs.Db.{Db, empty}
use Rattle.text_model.specs.Canonical.{canonical}
use Rattle.grammar_model.specs.Answer.{IsAnswer, GivesStatement}
use Rattle.grammar_model.specs.Readable.{IsWritten}
use Rattle.state_model.specs.Created.{AreAdmitted, Create, IsReadableCreate, OfTable, OfView, schema_after, statement_of, text_of}
use Rattle.state_model.specs.Sound.{Sound}
use Rattle.disk_model.specs.declared.image.Image.{Image}
use Rattle.disk_model.specs.Lawful.{IsLawfulImage}
use Rattle.disk_model.specs.TextOf.{AreTextsOf, IsTextOf}
use Rattle.commit_replay.specs.Created.{AreLawfulCreates, IsEmptyStoreOf}
use Rattle.commit_replay.specs.Begins.{Begins}
use Rattle.commit_replay.specs.Rows.{HasRows, IsWithRows}
use Rattle.commit_replay.proofs.OneCreate.{one-create}

-- the creates and the rows are lawful, and so is the image
pub lawful-image : (image : Image) (bare db : Db) → IsEmptyStoreOf image.creates bare → HasRows bare image.tables db → Sound db → IsLawfulImage image db
lawful-image image bare db made has sound = record {
  made_by = made.made_by;
  texts = made.lawful.texts;
  schema = has.schema ∙ made.schema;
  creates = has.creates ∙ made.creates_are;
  rows = has.rows_are;
  keyed = has.keyed;
  sound = sound;
}

-- texts are of one list of creates
one-list : (one other : List Create) (texts : List CreateText) → AreTextsOf one texts → AreTextsOf other texts → one ≡ other
one-list [] [] texts first second = refl
one-list [] (other ∷ others) [] first second = absurd second
one-list [] (other ∷ others) (text ∷ texts) first second = absurd first
one-list (one ∷ ones) [] [] first second = absurd first
one-list (one ∷ ones) [] (text ∷ texts) first second = absurd second
one-list (one ∷ ones) (other ∷ others) [] first second = absurd first
one-list (one ∷ ones) (other ∷ others) (text ∷ texts) first second =
    ap (λ (first : Create). first ∷ ones) (one-create one other text first.0 second.0) ∙ ap (λ rest. other ∷ rest) (one-list ones others texts first.1 second.1)

-- so what stands in the way of rows stands in the way of the image
pub no-rows-image : (image : Image) (bare : Db) → IsEmptyStoreOf image.creates bare → ((db : Db) → Sound db → ¬ HasRows bare image.tables db) → (db : Db) → ¬ IsLawfulImage image db
no-rows-image image bare made none db lawful =
    let same = one-list lawful.made_by made.made_by image.creates lawful.texts made.lawful.texts in
    none db lawful.sound (record {
      schema = lawful.schema ∙ (ap schema_after same ∙ sym made.schema);
      creates = lawful.creates ∙ sym made.creates_are;
      rows_are = lawful.rows;
      keyed = lawful.keyed;
    })

module _ (reads_back : (most : ℕ) (statement : Statement) → IsWritten most statement → IsAnswer (canonical statement) (GivesStatement statement)) where
  read_of : (create : Create) → IsReadableCreate create → IsAnswer (text_of create).text (GivesStatement (statement_of create))
  read_of (OfTable table) readable = reads_back 4294967295 (statement_of (OfTable table)) readable.written
  read_of (OfView view) readable = reads_back 4294967295 (statement_of (OfView view)) readable.written

  -- texts that are the canonical ones of creates that can be read are of these
  are_those : (one other : List Create) → AllByRecursion IsReadableCreate other → AreTextsOf one (map text_of other) → one ≡ other
  are_those [] [] readable texts = refl
  are_those [] (other ∷ others) readable texts = absurd texts
  are_those (one ∷ ones) [] readable texts = absurd texts
  are_those (one ∷ ones) (other ∷ others) readable texts =
      let own : IsTextOf other (text_of other) = record { few = texts.0.few; utf8 = texts.0.utf8; read = read_of other readable.0; canonical = refl } in
      ap (λ (first : Create). first ∷ ones) (one-create one other (text_of other) texts.0 own) ∙ ap (λ rest. other ∷ rest) (are_those ones others readable.1 texts.1)

  -- where the creates aren't lawful the image isn't
  pub no-creates-image : (image : Image) → ((made_by : List Create) → ¬ AreLawfulCreates image.creates made_by) → (db : Db) → ¬ IsLawfulImage image db
  no-creates-image image none db lawful =
      let created = lawful.sound.well_formed.created in
      let texts = subst (AreTextsOf lawful.made_by) (sym lawful.creates ∙ created.texts) lawful.texts in
      let same = are_those lawful.made_by created.creates created.readable texts in
      none lawful.made_by (record { texts = lawful.texts; admitted = subst (AreAdmitted empty.schema) (sym same) created.admitted })

-- what comes of an image once its creates are made
pub begins-rows : {E : Type 0} (image : Image) (bare : Db) (result : Result (Option Db) E) → IsEmptyStoreOf image.creates bare → IfOk result (IsWithRows bare image.tables)
    → IfOk result (λ found. IfSome found Sound) → Begins image result
begins-rows image bare (Ok (Some db)) made has sound = lawful-image image bare db made has sound
begins-rows image bare (Ok None) made none sound = no-rows-image image bare made none
begins-rows image bare (Err e) made has sound = tt
