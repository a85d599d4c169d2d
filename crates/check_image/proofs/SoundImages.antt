-- A database that a store may represent has an image.
use Rattle.std.proofs.Common.{◌≡◌, ℕ, suc, ◌+◌, ◌≤◌, cond, List, [], ◌∷◌, length, length-append, map, fold, refl, sym, ap, subst, ◌∙◌, arith}
use Rattle.std.specs.Prelude.{not, sum_by}
use Rattle.std.specs.List.{AllByRecursion}
use Rattle.std.proofs.lemmas.List.Sums.{sum_by-cons}
use Rattle.own_base.specs.declared.value.Value.TheVariants as value
use Rattle.own_model.specs.declared.limit.TheConstants.{JOURNAL_ROOM, STORE_ROWS, TABLES, VIEWS}
use Rattle.own_model.specs.declared.create.CreateTable.{CreateTable as TableCreate}
use Rattle.own_model.specs.declared.create.CreateView.{CreateView as ViewCreate}
use Rattle.own_model.specs.declared.schema.Column.{Column}
use Rattle.own_model.specs.declared.schema.CreateText.{CreateText}
use Rattle.own_model.specs.declared.schema.Schema.{Schema}
use Rattle.own_model.specs.declared.schema.TableDef.{TableDef}
use Rattle.own_model.specs.Db.{Db, Row, empty}
use Rattle.schema_model.specs.NewTable.{new_table}
use Rattle.schema_model.specs.WithTable.{with_table}
use Rattle.schema_model.specs.WithinLimits.{IsTableWithin}
use Rattle.query_model.specs.BoundView.{new_view}
use Rattle.state_model.specs.Create.{kept_text, kept_view_text, with_view}
use Rattle.state_model.specs.Created.{Create, IsCreated, IsReadableCreate, OfTable, OfView, schema_after, text_of, with_create}
use Rattle.state_model.specs.Rows.{AreOfKinds, AreRowsOf, IsRowOf, IsStorable}
use Rattle.state_model.specs.Sound.{Sound}
use Rattle.state_model.proofs.CreatedSchema.{views_within-created, within-created}
use Rattle.state_model.proofs.Faultless.{few_rows}
use Rattle.state_model.proofs.StoredRows.{length-of_kinds}
use Rattle.disk_model.specs.Bounds.{AreShortRows, IsBoundedImage, IsCountable, IsShortRow, IsShortValue}
use Rattle.disk_model.specs.Image.{table_count}
use Rattle.check_image.specs.Gated.{image_from}

-- ---- rows

short_values : (columns : List Column) (row : Row) → AreOfKinds columns row → AllByRecursion IsStorable row → AllByRecursion IsShortValue row
short_values [] [] are short = tt
short_values [] (x ∷ row) are short = absurd are
short_values (column ∷ columns) [] are short = absurd are
short_values (column ∷ columns) (value.Null ∷ row) are short = (tt, short_values columns row are.1 short.1)
short_values (column ∷ columns) (value.Int number ∷ row) are short = (tt, short_values columns row are.1 short.1)
short_values (column ∷ columns) (value.Text text ∷ row) are short = (short.0.short, short_values columns row are.1 short.1)
short_values (column ∷ columns) (value.Sum number ∷ row) are short = absurd are.0

short_row : (table : TableDef) (row : Row) → IsTableWithin table → IsRowOf table row → IsShortRow row
short_row table row within is =
    let count = length-of_kinds table.columns row is.kinds in
    let key = within.key in
    let most = within.columns in
    record { some = omega arith; few = omega arith; values = short_values table.columns row is.kinds is.storable }

short_rows : (table : TableDef) (rows : List Row) → IsTableWithin table → AllByRecursion (IsRowOf table) rows → AllByRecursion IsShortRow rows
short_rows table [] within are = tt
short_rows table (row ∷ rows) within are = (short_row table row within are.0, short_rows table rows within are.1)

-- each table's rows are short, and there is a list of them for each table
tables_short : (tables : List TableDef) (rows : List (List Row)) → AllByRecursion IsTableWithin tables → AreRowsOf tables rows → sum_by length rows ≤ STORE_ROWS
    → AllByRecursion AreShortRows rows × (length rows ≡ length tables)
tables_short [] [] within are few = (tt, refl)
tables_short [] (one ∷ rows) within are few = absurd are
tables_short (table ∷ tables) [] within are few = absurd are
tables_short (table ∷ tables) (one ∷ rows) within are few =
    let whole = sum_by-cons length one rows in
    let later = tables_short tables rows within.1 are.1 (omega arith) in
    let count = later.1 in
    ((((omega arith), short_rows table one within.0 are.0), later.0), omega arith)

-- so are those of a sound database, whose tables are few
pub sound_rows : (db : Db) → Sound db → AllByRecursion AreShortRows db.rows × (length db.rows ≡ length db.schema.tables) × (length db.schema.tables ≤ TABLES)
sound_rows db sound =
    let within = within-created db sound.well_formed.created in
    let both = tables_short db.schema.tables db.rows within.each sound.well_formed.rows (few_rows db sound.faultless) in
    (both.0, both.1, within.tables)

-- ---- creates

abbrev texts_of : List Create → List CreateText
texts_of creates = map text_of creates

more_tables : (schema : Schema) (table : TableCreate) → length (with_table schema table).tables ≡ length schema.tables + 1
unfolding with_table
more_tables schema table = length-append schema.tables (new_table schema table ∷ [])

same_views : (schema : Schema) (table : TableCreate) → length (with_table schema table).views ≡ length schema.views
unfolding with_table
same_views schema table = refl

more_views : (schema : Schema) (view : ViewCreate) → length (with_view schema view).views ≡ length schema.views + 1
unfolding with_view
more_views schema view = length-append schema.views (new_view schema view ∷ [])

same_tables : (schema : Schema) (view : ViewCreate) → length (with_view schema view).tables ≡ length schema.tables
unfolding with_view
same_tables schema view = refl

-- how many tables a create makes
abbrev tables_of : CreateText → ℕ
tables_of create = cond (not create.view) 1 0

-- the creates make so many tables and views
made : (creates : List Create) (schema : Schema) → (length (fold with_create schema creates).tables ≡ length schema.tables + table_count (texts_of creates))
    × (length (fold with_create schema creates).tables + length (fold with_create schema creates).views ≡ length schema.tables + length schema.views + length creates)
made [] schema = (omega arith, omega arith)
made (OfTable table ∷ creates) schema =
    let later = made creates (with_table schema table) in
    let tables = more_tables schema table in
    let views = same_views schema table in
    let count = sum_by-cons tables_of (kept_text table) (texts_of creates) in
    (omega (arith, later.0, tables, count), omega (arith, later.1, tables, views))
made (OfView view ∷ creates) schema =
    let later = made creates (with_view schema view) in
    let tables = same_tables schema view in
    let views = more_views schema view in
    let count = sum_by-cons tables_of (kept_view_text view) (texts_of creates) in
    (omega (arith, later.0, tables, count), omega (arith, later.1, tables, views))

length-texts : (creates : List Create) → length (texts_of creates) ≡ length creates
length-texts [] = refl
length-texts (create ∷ creates) = ap suc (length-texts creates)

pub created_texts : (db : Db) → IsCreated db → (length db.schema.tables ≡ table_count db.creates) × (length db.creates ≤ TABLES + VIEWS)
created_texts db created =
    let both = made created.creates empty.schema in
    let tables = (within-created db created).tables in
    let views = (views_within-created db created).count in
    let texts = ap length created.texts in
    let count = length-texts created.creates in
    let schema = created.schema in
    let first : length (schema_after created.creates).tables ≡ table_count (texts_of created.creates) = omega (arith, both.0) in
    let of_tables : length db.schema.tables ≡ table_count (texts_of created.creates) = ap (λ schema. length schema.tables) schema ∙ first in
    let of_views : length db.schema.views ≡ length (schema_after created.creates).views = ap (λ schema. length schema.views) schema in
    let whole : length (schema_after created.creates).tables + length (schema_after created.creates).views ≡ length created.creates = omega (arith, both.1) in
    let same : length db.schema.tables ≡ length (schema_after created.creates).tables = ap (λ schema. length schema.tables) schema in
    (of_tables ∙ ap table_count (sym created.texts), omega arith)

countable : (creates : List Create) → AllByRecursion IsReadableCreate creates → AllByRecursion (λ create. IsCountable create.text) (texts_of creates)
countable [] readable = tt
countable (create ∷ creates) readable = let short = readable.0.short in (omega arith, countable creates readable.1)

-- 32 bits tell the length of each text
pub countable_texts : (db : Db) → IsCreated db → AllByRecursion (λ create. IsCountable create.text) db.creates
countable_texts db created = subst (AllByRecursion (λ create. IsCountable create.text)) (sym created.texts) (countable created.creates created.readable)

pub bounded_image : (db : Db) (commits : ℕ) → Sound db → commits ≤ JOURNAL_ROOM → IsBoundedImage (image_from db commits)
bounded_image db commits sound few =
    let rows = sound_rows db sound in
    let creates = created_texts db sound.well_formed.created in
    record { within = record { commits = few; creates = creates.1; tables = rows.1 ∙ creates.0 }; creates = countable_texts db sound.well_formed.created; tables = rows.0 }
