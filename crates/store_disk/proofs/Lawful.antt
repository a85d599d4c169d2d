-- A sound database is the one of its image.
use Rattle.std.proofs.Common.{◌≡◌, ℕ, zero, suc, List, [], ◌∷◌, map, refl, sym, subst}
use Rattle.std.specs.Prelude.{◌≢◌, IsUtf8, slice_index_or}
use Rattle.std.specs.List.{AllByRecursion}
use Rattle.own_base.specs.declared.value.Key.{Key}
use Rattle.own_base.specs.declared.value.Key.TheVariants as key
use Rattle.own_base.specs.declared.value.Value.{Value}
use Rattle.own_base.specs.declared.value.Value.TheVariants.{Null, Int, Text, Sum}
use Rattle.own_model.specs.declared.schema.Column.{Column}
use Rattle.own_model.specs.declared.schema.CreateText.{CreateText}
use Rattle.own_model.specs.declared.schema.TableDef.{TableDef}
use Rattle.own_model.specs.declared.schema.Kind.{Kind}
use Rattle.own_model.specs.declared.schema.Kind.TheVariants as kinds
use Rattle.own_model.specs.Db.{Db, Row}
use Rattle.grammar_model.specs.Answer.{IsAnswer, GivesStatement}
use Rattle.state_model.specs.Created.{Create, IsReadableCreate, OfTable, OfView, statement_of, text_of}
use Rattle.state_model.specs.Rows.{AreOfKinds, AreRowsOf, IsOfKind, IsRowOf}
use Rattle.state_model.specs.Sound.{Sound}
use Rattle.text_model.specs.Canonical.{canonical}
use Rattle.own_model.specs.declared.statement.Statement.{Statement}
use Rattle.grammar_model.specs.Readable.{IsWritten}
use Rattle.disk_model.specs.Bounds.{IsCountable}
use Rattle.disk_model.specs.Image.{IsImage}
use Rattle.disk_model.specs.Lawful.{AreKeyedRows, IsKeyedRow, IsLawfulImage}
use Rattle.disk_model.specs.TextOf.{AreTextsOf}
use Rattle.disk_model.specs.Value.{as_value}
use Rattle.disk_model.proofs.Spelled.{image-spelled}
use Rattle.check_image.specs.Gated.{image_from}

-- the canonical text of each statement reads back
abbrev pub ReadBack : Type 0
ReadBack = (most : ℕ) (statement : Statement) → IsWritten most statement → IsAnswer (canonical statement) (GivesStatement statement)

-- ---- the texts of its creates

read_of : ReadBack → (create : Create) → IsReadableCreate create → IsAnswer (text_of create).text (GivesStatement (statement_of create))
read_of reads_back (OfTable table) readable = reads_back 4294967295 (statement_of (OfTable table)) readable.written
read_of reads_back (OfView view) readable = reads_back 4294967295 (statement_of (OfView view)) readable.written

texts_are : ReadBack → (creates : List Create) → AllByRecursion IsReadableCreate creates → AllByRecursion (λ (text : CreateText). IsCountable text.text) (map text_of creates)
    → AllByRecursion (λ (text : CreateText). IsUtf8 text.text) (map text_of creates) → AreTextsOf creates (map text_of creates)
texts_are reads_back [] readable few utf8 = tt
texts_are reads_back (create ∷ creates) readable few utf8 =
    (record { few = few.0; utf8 = utf8.0; read = read_of reads_back create readable.0; canonical = refl }, texts_are reads_back creates readable.1 few.1 utf8.1)

-- ---- the keys of its rows

-- the value at a place of a row, which is of some kind
kind_at : (columns : List Column) (row : Row) (place : ℕ) → AreOfKinds columns row → (kind : Kind) × IsOfKind kind (slice_index_or row place Null)
kind_at [] [] place are = (kinds.Int, tt)
kind_at [] (value ∷ row) place are = absurd are
kind_at (column ∷ columns) [] place are = absurd are
kind_at (column ∷ columns) (value ∷ row) zero are = (column.kind, are.0)
kind_at (column ∷ columns) (value ∷ row) (suc place) are = kind_at columns row place are.1

-- a value of a kind that isn't NULL is a key's
key_is : (value : Value) (kind : Kind) → IsOfKind kind value → value ≢ Null → (key : Key) × (value ≡ as_value key)
key_is Null kind of some = absurd (some refl)
key_is (Int number) kind of some = (key.Int number, refl)
key_is (Text text) kind of some = (key.Text text, refl)
key_is (Sum number) kind of some = absurd of

keyed_row : (table : TableDef) (row : Row) → IsRowOf table row → IsKeyedRow table row
keyed_row table row is =
    let of = kind_at table.columns row table.key.0 is.kinds in
    let key = key_is (slice_index_or row table.key.0 Null) of.0 of.1 is.keyed in
    (key.0, record { may_stand = is; has_key = key.1 })

keyed_rows : (table : TableDef) (rows : List Row) → AllByRecursion (IsRowOf table) rows → AllByRecursion (IsKeyedRow table) rows
keyed_rows table [] all = tt
keyed_rows table (row ∷ rows) all = (keyed_row table row all.0, keyed_rows table rows all.1)

keyed : (tables : List TableDef) (rows : List (List Row)) → AreRowsOf tables rows → AreKeyedRows tables rows
keyed [] [] are = tt
keyed [] (one ∷ rest) are = are
keyed (table ∷ tables) [] are = are
keyed (table ∷ tables) (one ∷ rest) are = (keyed_rows table one are.0, keyed tables rest are.1)

-- ---- the whole

pub lawful-image : ReadBack → (db : Db) (commits : ℕ) (bytes : List ℕ) → Sound db → IsImage (image_from db commits) bytes → IsLawfulImage (image_from db commits) db
lawful-image reads_back db commits bytes sound is =
    let own = image-spelled (image_from db commits) bytes is in
    let created = sound.well_formed.created in
    let few = subst (AllByRecursion (λ (text : CreateText). IsCountable text.text)) created.texts own.1.creates in
    let utf8 = subst (AllByRecursion (λ (text : CreateText). IsUtf8 text.text)) created.texts own.2.creates in
    record {
      made_by = created.creates;
      texts = subst (AreTextsOf created.creates) (sym created.texts) (texts_are reads_back created.creates created.readable few utf8);
      schema = created.schema;
      creates = refl;
      rows = refl;
      keyed = keyed db.schema.tables db.rows sound.well_formed.rows;
      sound = sound;
    }
