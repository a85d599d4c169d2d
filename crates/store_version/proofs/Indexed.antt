-- What a version's index represents when the version changes.
use Rattle.std.proofs.Common.{◌≡◌, ◌∙◌, ℕ, ◌^◌, ◌<◌, List, [], ◌∷◌, ◌++◌, ap, arith, length, map, refl, subst, sym}
use Rattle.std.proofs.lemmas.List.{map-append}
use Rattle.std.specs.List.{AllByRecursion}
use Rattle.std.specs.Prelude.{slice_index_or, slice_set}
use Rattle.own_base.specs.Key.{key_cmp}
use Rattle.own_base.specs.declared.change.Change.{Change}
use Rattle.own_model.specs.declared.schema.Schema.{Schema}
use Rattle.own_model.specs.declared.schema.ViewDef.{ViewDef}
use Rattle.own_model.specs.Db.{Db, Row}
use Rattle.schema_model.specs.WithinLimits.{IsTableWithin}
use Rattle.page_model.specs.Changed.{with_change}
use Rattle.page_model.specs.Page.{joined}
use Rattle.state_model.specs.MayBePut.{IsPutIn}
use Rattle.state_model.specs.Put.{changed_key, put, row_after}
use Rattle.annot_schema.specs.Created.{Created, IsAdmissible, IsSound, created_viewed, created_with}
use Rattle.annot_schema.specs.declared.admitted.Admitted.{Admitted}
use Rattle.annot_schema.proofs.SoundSchemas.{sound-with}
use Rattle.ref_index.specs.AddsTable.{AddsTable}
use Rattle.ref_index.specs.Stands.{Stands}
use Rattle.ref_index.specs.declared.column_index.ColumnIndex.{ColumnIndex}
use Rattle.ref_index.proofs.TellLemmas.{stands_same}
use Rattle.table_part.specs.KeyIn.{key_in}
use Rattle.table_part.specs.Part.{Part, rows_of}
use Rattle.store_version.specs.Added.{db_with}
use Rattle.store_version.specs.Parts.{AreTheirParts, db_of}
use Rattle.store_version.proofs.OneChange.{is-there, put-one}
use Rattle.store_version.proofs.TheirParts.{parts-append}

-- the database with one change in the part of its table
pub version-changed : (catalog : Created) (parts : List Part) (change : Change) (own new : Part) (now : Db) → AreTheirParts catalog.schema.tables parts → IsPutIn catalog.schema.tables change
    → own ≡ slice_index_or parts change.name.table.0 own
    → rows_of new ≡ with_change (key_in own.key) key_cmp (changed_key change) (row_after change) (rows_of own) → db_of catalog parts ≡ now
    → db_of catalog (slice_set parts change.name.table.0 new) ≡ put now (change ∷ [])
version-changed catalog parts change own new now are may is rows shown =
    (λ i. record {
      creates = catalog.creates;
      schema = catalog.schema;
      rows = put-one catalog.schema.tables parts change own new are (is-there catalog.schema.tables parts change are may) is rows i;
    })
    ∙ ap (λ (db : Db). put db (change ∷ [])) shown

each_last : {X : Type 0} (P : X → Type 0) (xs : List X) (x : X) → AllByRecursion P (xs ++ x ∷ []) → P x
each_last P [] x all = all.0
each_last P (first ∷ xs) x all = each_last P xs x all.1

-- an admitted table has few columns
pub columns-few : (schema : Schema) (admitted : Admitted) → IsSound schema → IsAdmissible schema admitted → length admitted.table.columns < 2 ^ 32
columns-few schema admitted sound admissible =
    let within : IsTableWithin admitted.table = each_last IsTableWithin schema.tables admitted.table (sound-with schema admitted sound admissible).within.each in
    omega (arith, within.columns)

-- the parts with one for a new table, and the database that they are of then
pub parts-added : (catalog after : Created) (admitted : Admitted) (text : List ℕ) (parts news : List Part) (part : Part) → AreTheirParts catalog.schema.tables parts
    → after ≡ created_with catalog admitted text → news ≡ parts ++ part ∷ [] → part.key ≡ admitted.table.key → AreTheirParts after.schema.tables news
parts-added catalog after admitted text parts news part are after_is news_is key =
    subst (λ (after : Created). AreTheirParts after.schema.tables news) (sym after_is)
    (subst (λ news. AreTheirParts (catalog.schema.tables ++ admitted.table ∷ []) news) (sym news_is) (parts-append catalog.schema.tables parts admitted.table part are key))

pub table-added : (catalog after : Created) (admitted : Admitted) (text : List ℕ) (parts news : List Part) (part : Part) (now : Db) → after ≡ created_with catalog admitted text
    → news ≡ parts ++ part ∷ [] → part.pages ≡ [] → db_of catalog parts ≡ now → db_of after news ≡ db_with now admitted text
table-added catalog after admitted text parts news part now after_is news_is pages shown =
    let rows : map rows_of news ≡ map rows_of parts ++ [] ∷ [] =
    ap (map rows_of) news_is ∙ (map-append rows_of parts (part ∷ []) ∙ ap (λ (own : List (List Row)). map rows_of parts ++ joined own ∷ []) pages) in
    (λ i. record { creates = (after_is i).creates; schema = (after_is i).schema; rows = rows i }) ∙ ap (λ (db : Db). db_with db admitted text) shown

-- the index with the columns of a new table is that of the database with it
pub table-stands : (now next : Db) (admitted : Admitted) (text : List ℕ) (index : List ColumnIndex) → next ≡ db_with now admitted text
    → (AddsTable now admitted.table (db_with now admitted text) → Stands (db_with now admitted text) index) → Stands next index
table-stands now next admitted text index is stands = subst (λ db. Stands db index) (sym is) (stands (record { tables = refl; rows = refl }))

-- a view leaves the tables and their rows
pub parts-viewed : (catalog after : Created) (view : ViewDef) (text : List ℕ) (parts news : List Part) → AreTheirParts catalog.schema.tables parts
    → after ≡ created_viewed catalog view text → news ≡ parts → AreTheirParts after.schema.tables news
parts-viewed catalog after view text parts news are after_is news_is =
    subst (λ (after : Created). AreTheirParts after.schema.tables news) (sym after_is) (subst (AreTheirParts catalog.schema.tables) (sym news_is) are)

pub view-stands : (catalog after : Created) (view : ViewDef) (text : List ℕ) (parts news : List Part) (index copy : List ColumnIndex) → after ≡ created_viewed catalog view text
    → news ≡ parts → copy ≡ index → Stands (db_of catalog parts) index → Stands (db_of after news) copy
view-stands catalog after view text parts news index copy after_is news_is copied stands =
    subst (Stands (db_of after news)) (sym copied)
    (stands_same (db_of catalog parts) (db_of after news) index (ap (λ (after : Created). after.schema.tables) after_is) (ap (map rows_of) news_is) stands)
