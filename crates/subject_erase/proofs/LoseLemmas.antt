-- What a row loses, by flags of the rows that stay.
use Rattle.std.proofs.Common.{◌≡◌, ℕ, ◌+◌, ◌<◌, ◌≤◌, List, [], ◌∷◌, length, map, Bool, true, false, not, get_or, refl, ap, sym, ◌∙◌, arith}
use Rattle.std.specs.Prelude.{◌&&◌, ◌||◌, Option, Some, None, slice_get, if◌then◌else◌}
use Rattle.std.specs.List.{enumerate_from, list_any}
use Rattle.std.specs.Option.{option_and_then, option_map_or}
use Rattle.own_base.specs.declared.number.ColumnSet.{ColumnSet}
use Rattle.own_base.specs.declared.number.EdgeNo.{EdgeNo}
use Rattle.own_base.specs.declared.number.TableNo.{TableNo}
use Rattle.own_base.specs.declared.row_name.RowName.{RowName}
use Rattle.own_base.specs.declared.value.Key.{Key}
use Rattle.own_base.specs.declared.value.Value.{Value}
use Rattle.own_base.specs.declared.value.Value.TheVariants.{Null}
use Rattle.own_model.specs.declared.schema.Column.{Column}
use Rattle.own_model.specs.declared.schema.RefKind.{RefKind}
use Rattle.own_model.specs.declared.schema.TableDef.{TableDef}
use Rattle.own_model.specs.Db.{Db, IsOrdered}
use Rattle.own_model.specs.Stored.{has_key, rows_at}
use Rattle.owner_model.specs.ColumnSets.{set_of}
use Rattle.owner_model.specs.RuledColumns.{is_blanked}
use Rattle.owner_model.proofs.ColumnSetLemmas.{has_column-set_of}
use Rattle.owner_sets.specs.Links.{place_of}
use Rattle.owner_sets.proofs.Searched.{place_of-definition}
use Rattle.owner_sets.proofs.Standing.{StandsAt, place_of-standing, standing_there, there-standing}
use Rattle.query_model.specs.Footprints.{literal_key}
use Rattle.query_model.specs.Truth.{is_null}
use Rattle.schema_model.proofs.Found.{position-some}
use Rattle.subject_model.specs.Forget.{dangles, left_of, loses, names_going}
use Rattle.subject_model.specs.Named.{NamedRow, is_there}
use Rattle.subject_model.specs.Owners.{by}
use Rattle.subject_model.specs.Stays.{stays}
use Rattle.subject_model.proofs.NamedLemmas.{one_key}
use Rattle.subject_erase.specs.Erasures.{erased, loses_some}
use Rattle.subject_erase.specs.Flags.{AreFlagsOf, Flags, flag_at}
use Rattle.subject_erase.specs.Losing.{dangles_by, erased_by, left_by, loses_by, loses_some_by}
use Rattle.subject_erase.proofs.FlagLemmas.{flag-standing}

-- lists that are made of numbered items alike
map_numbered : {X Y : Type 0} (most : ℕ) (f g : ℕ × X → Y) → ((number : ℕ) (x : X) → number < most → f (number, x) ≡ g (number, x)) → (number : ℕ) (xs : List X) → number + length xs ≤ most
    → map f (enumerate_from number xs) ≡ map g (enumerate_from number xs)
map_numbered most f g same number [] few = refl
map_numbered most f g same number (x ∷ xs) few =
    rw (same number x (omega arith), map_numbered most f g same (number + 1) xs (omega arith)) refl

any_numbered : {X : Type 0} (most : ℕ) (f g : ℕ × X → Bool) → ((number : ℕ) (x : X) → number < most → f (number, x) ≡ g (number, x)) → (number : ℕ) (xs : List X) → number + length xs ≤ most
    → list_any f (enumerate_from number xs) ≡ list_any g (enumerate_from number xs)
any_numbered most f g same number [] few = refl
any_numbered most f g same number (x ∷ xs) few =
    rw (same number x (omega arith), any_numbered most f g same (number + 1) xs (omega arith)) refl

module _ (db : Db) (ordered : IsOrdered db) where
  -- the row that is found by a key stands at the place
  found-stands : (table : TableNo) (definition : TableDef) (key : Key) (place : ℕ) → slice_get db.schema.tables table.0 ≡ Some definition → place_of db.schema db.rows table.0 key ≡ Some place
      → StandsAt db (record { table = table; key = key }) place
  found-stands table definition key place table_is found =
      let is = position-some (has_key definition key) (rows_at db.rows table.0) place (sym (place_of-definition db.schema db.rows table.0 definition key table_is) ∙ found) in
      record { definition = definition; row = is.0; table_is = table_is; row_is = is.1; key_is = one_key _ key is.2 }

  module _ (subject : RowName) (staying : Flags) (are : AreFlagsOf db (stays db subject) staying) where
    abbrev leaves_at : ℕ → Option ℕ → Bool
    leaves_at table place = option_map_or (λ at. not (flag_at staying table at)) place false

    -- the row at a place stays where it is flagged
    flag-stays : (name : RowName) (place : ℕ) → StandsAt db name place → flag_at staying name.table.0 place ≡ stays db subject name
    flag-stays name place stands = flag-standing db (stays db subject) name place (get_or staying name.table.0 []) (are.each name.table.0) stands

    there_going : (name : RowName) → (there : Bool) → is_there db name ≡ there → (found : Option ℕ) → place_of db.schema db.rows name.table.0 name.key ≡ found
        → (definition : TableDef) → slice_get db.schema.tables name.table.0 ≡ Some definition → leaves_at name.table.0 found ≡ (there && not (stays db subject name))
    there_going name true there found place definition table_is =
        let (at, stands) = standing_there db name there in
        ap (leaves_at name.table.0) (sym place ∙ place_of-standing db name at ordered stands) ∙ ap not (flag-stays name at stands)
    there_going name false there None place definition table_is = refl
    there_going name false there (Some at) place definition table_is =
        let is = there-standing db name at ordered (found-stands name.table definition name.key at table_is place) in
        let never : true ≡ false = sym is ∙ there in cc

    -- a key names a row that is going where the row at its place isn't flagged
    key_going : (table : TableNo) (definition : TableDef) (key : Option Key) → slice_get db.schema.tables table.0 ≡ Some definition
        → leaves_at table.0 (option_and_then (place_of db.schema db.rows table.0) key) ≡ names_going db subject table key
    key_going table definition None table_is = refl
    key_going table definition (Some key) table_is =
        let name : RowName = record { table = table; key = key } in
        there_going name (is_there db name) refl (place_of db.schema db.rows table.0 key) refl definition table_is

    -- a reference dangles where the row that it names isn't flagged
    dangles-by : (column : Column) (value : Value) (refers : Option (RefKind × TableNo)) → column.refers ≡ refers
        → ((link : RefKind × TableNo) → column.refers ≡ Some link → (definition : TableDef) × (slice_get db.schema.tables link.1.0 ≡ Some definition))
        → dangles_by db.schema db.rows staying column value ≡ dangles db subject column value
    dangles-by column value None refers there = rw refers refl
    dangles-by column value (Some link) refers there =
        let (definition, table_is) = there link refers in rw refers (key_going link.1 definition (literal_key value) table_is)

    module _ (table : TableDef)
        (refer : (number : ℕ) (column : Column) (link : RefKind × TableNo) → slice_get table.columns number ≡ Some column → column.refers ≡ Some link → (definition : TableDef) × (slice_get db.schema.tables link.1.0 ≡ Some definition))
        (named : NamedRow) where
      abbrev ruled : ColumnSet
      ruled = set_of (is_blanked db.schema.edges (by db subject named.name))

      column-by : (number : ℕ) (value : Value) (found : Option Column) → slice_get table.columns number ≡ found
          → option_map_or (λ column. dangles_by db.schema db.rows staying column value) found false ≡ option_map_or (λ column. dangles db subject column value) found false
      column-by number value None is = refl
      column-by number value (Some column) is = dangles-by column value column.refers refl (λ link. refer number column link is)

      -- so what a row loses is told by flags and by the edges that reach it
      loses-by : (number : ℕ) (value : Value) → number < 32 → loses_by db.schema db.rows staying table ruled (number, value) ≡ loses db subject table named.name (number, value)
      unfolding loses
      loses-by number value few =
          ap (λ b. b || option_map_or (λ column. dangles_by db.schema db.rows staying column value) (slice_get table.columns number) false) (has_column-set_of (is_blanked db.schema.edges (by db subject named.name)) number few)
          ∙ ap (λ b. is_blanked db.schema.edges (by db subject named.name) number || b) (column-by number value (slice_get table.columns number) refl)

      pub loses_some-by : length named.row ≤ 32 → loses_some_by db.schema db.rows staying table ruled named.row ≡ loses_some db subject table named
      loses_some-by few =
          any_numbered 32 (λ numbered. loses_by db.schema db.rows staying table ruled numbered && not (is_null numbered.1)) (λ numbered. loses db subject table named.name numbered && not (is_null numbered.1))
          (λ number value within. ap (λ b. b && not (is_null value)) (loses-by number value within)) 0 named.row (omega arith)

      pub left-by : length named.row ≤ 32 → left_by db.schema db.rows staying table ruled named.row ≡ left_of db subject table named
      left-by few =
          map_numbered 32 (λ numbered. if loses_by db.schema db.rows staying table ruled numbered then Null else numbered.1) (λ numbered. if loses db subject table named.name numbered then Null else numbered.1)
          (λ number value within. ap (λ b. if b then Null else value) (loses-by number value within)) 0 named.row (omega arith)

      -- and so is what becomes of it
      pub erased-by : (stay : Bool) (reached : List EdgeNo) → length named.row ≤ 32 → stay ≡ stays db subject named.name → reached ≡ by db subject named.name
          → erased_by db.schema db.rows staying table stay reached named ≡ erased db subject table named
      erased-by stay reached few stay_is reached_is =
          ap (λ b. erased_by db.schema db.rows staying table b reached named) stay_is
          ∙ (ap (λ edges. erased_by db.schema db.rows staying table (stays db subject named.name) edges named) reached_is
          ∙ rw (loses_some-by few, left-by few) refl)
