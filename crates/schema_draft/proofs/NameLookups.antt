-- What a name is among names, however it is looked up, and once names are added.
use Rattle.std.proofs.Common.{not, ◌||◌, map, suc, ◌≤◌, eqb, nat_lt, ◌≡◌, ℕ, ◌+◌, ◌<◌, Bool, true, false, cond, List, [], ◌∷◌, ◌++◌, length, take, get_or, Option, None, Some, refl, sym, ap, ◌∙◌, bytes_eq, is_some, if◌then◌else◌, arith}
use Rattle.std.specs.List.{find, list_any, position, position_or_len}
use Rattle.std.specs.Map.{lookup}
use Rattle.std.specs.Option.{option_and_then, option_map, option_or}
use Rattle.std.proofs.lemmas.Bool.Decides.{same_from_decides, nat_tests}
use Rattle.std.proofs.lemmas.List.{length_push, length-take-le, take_more}
use Rattle.std.proofs.lemmas.List.Folds.{find-append, position_or_len_push}
use Rattle.std.proofs.lemmas.List.Sums.{prefix_len-le-length}
use Rattle.std.proofs.lemmas.Slice.Eq.{bytes_eq-Decides}
use Rattle.indexmap.specs.IndexMap.{IndexMap, insert_entry}
use Rattle.indexmap.proofs.CallerLemmas.{insert_entry-new}
use Rattle.own_model.specs.Db.{empty}
use Rattle.own_model.specs.declared.schema.Schema.{Schema}
use Rattle.own_model.specs.declared.schema.TableDef.{TableDef}
use Rattle.own_model.specs.declared.schema.ViewDef.{ViewDef}
use Rattle.own_base.specs.declared.number.TableNo.{TableNo}
use Rattle.schema_model.specs.Columns.{NameBytes, is_named}
use Rattle.schema_model.specs.Tables.{is_taken}
use Rattle.schema_draft.specs.declared.names.Named.TheVariants.{Table, View}
use Rattle.schema_draft.proofs.Lookups.{list_any-map}
use Rattle.schema_draft.specs.declared.names.Named.{Named}
use Rattle.schema_draft.specs.Names.{AddsNames, AreNamesOf, NameList, as_table, has_name, named_at, table_at, table_named, view_named}

-- names are compared alike from both sides
pub bytes_eq-comm : (one other : List ℕ) → bytes_eq one other ≡ bytes_eq other one
bytes_eq-comm one other =
    let there = bytes_eq-Decides one other in
    let back = bytes_eq-Decides other one in
    same_from_decides (bytes_eq one other) (bytes_eq other one) there (λ e. sym (back.0 e), λ e. back.1 (sym e))

-- a map's look-up among names
pub lookup-named_at : (names : NameList) (name : NameBytes) → lookup (bytes_eq name) names ≡ named_at names name
lookup-named_at [] name = refl
lookup-named_at (entry ∷ names) name =
    ap (λ same. cond same (Some entry.1) (lookup (bytes_eq name) names)) (bytes_eq-comm name entry.0)
    ∙ by (bytes_eq entry.0 name) (lookup-named_at names name)
  where
    by : (same : Bool) → lookup (bytes_eq name) names ≡ named_at names name
        → cond same (Some entry.1) (lookup (bytes_eq name) names) ≡ option_map (λ entry. entry.1) (cond same (Some entry) (find (λ entry. bytes_eq entry.0 name) names))
    by true e = refl
    by false e = e

-- a name that isn't among names has no entry
lookup-absent : (names : NameList) (name : NameBytes) → has_name names name ≡ false → lookup (bytes_eq name) names ≡ None
lookup-absent names name absent = by (lookup (bytes_eq name) names) (ap is_some (lookup-named_at names name) ∙ absent)
  where
    by : (found : Option Named) → is_some found ≡ false → found ≡ None
    by None e = refl
    by (Some named) e = cc

-- what names are before others
named_at-append : (names others : NameList) (name : NameBytes) → named_at (names ++ others) name ≡ option_or (named_at names name) (named_at others name)
named_at-append names others name =
    ap (option_map (λ entry. entry.1)) (find-append (λ entry. bytes_eq entry.0 name) names others)
    ∙ by (find (λ entry. bytes_eq entry.0 name) names)
  where
    by : (found : Option (NameBytes × Named)) → option_map (λ entry. entry.1) (option_or found (find (λ entry. bytes_eq entry.0 name) others)) ≡ option_or (option_map (λ entry. entry.1) found) (named_at others name)
    by None = refl
    by (Some entry) = refl

-- a map that takes a new name
pub AddsNames-insert : {S : Type 0} (numbers : IndexMap NameBytes Named S) (names : NameList) (name : NameBytes) (named : Named) → numbers.entries ≡ names → has_name names name ≡ false
    → AddsNames names (insert_entry bytes_eq numbers.entries name named) (named_at ((name, named) ∷ []))
AddsNames-insert numbers names name named is absent = record {
  named = λ other.
      ap (λ entries. named_at entries other) (insert_entry-new bytes_eq numbers name named (ap (lookup (bytes_eq name)) is ∙ lookup-absent names name absent) ∙ ap (λ entries. entries ++ (name, named) ∷ []) is)
      ∙ named_at-append names ((name, named) ∷ []) other;
}

-- a name that is there already
pub AddsNames-taken : (names : NameList) (name : NameBytes) (named : Named) → has_name names name ≡ true → AddsNames names names (named_at ((name, named) ∷ []))
AddsNames-taken names name named taken = record { named = λ other. by other (bytes_eq name other) refl }
  where
    there : (found rest : Option Named) → is_some found ≡ true → found ≡ option_or found rest
    there None rest e = cc
    there (Some named) rest e = refl

    nothing : (found : Option Named) → found ≡ option_or found None
    nothing None = refl
    nothing (Some named) = refl

    by : (other : NameBytes) (same : Bool) → bytes_eq name other ≡ same → named_at names other ≡ option_or (named_at names other) (option_map {T = NameBytes × Named} (λ entry. entry.1) (cond (bytes_eq name other) (Some (name, named)) None))
    by other true e =
        let is = (bytes_eq-Decides name other).0 e in
        there (named_at names other) _ (ap (has_name names) (sym is) ∙ taken)
    by other false e = nothing (named_at names other) ∙ ap (λ same. option_or (named_at names other) (option_map {T = NameBytes × Named} (λ entry. entry.1) (cond same (Some (name, named)) None))) (sym e)

option_or-assoc : {X : Type 0} (one two three : Option X) → option_or (option_or one two) three ≡ option_or one (option_or two three)
option_or-assoc None two three = refl
option_or-assoc (Some item) two three = refl

-- the first that passes, with one more at the end
position_push : {X : Type 0} (passes : X → Bool) (items : List X) (item : X) → position passes (items ++ item ∷ []) ≡ option_or (position passes items) (if passes item then Some (length items) else None)
position_push passes items item =
    by (position_or_len passes items) (position_or_len passes (items ++ item ∷ [])) (length items) (length (items ++ item ∷ [])) (passes item)
    (prefix_len-le-length (λ item. not (passes item)) items) (position_or_len_push passes items item) (length_push items item)
  where
    by : (first next len more : ℕ) (b : Bool) → first ≤ len → next ≡ cond (eqb first len) (len + cond b 0 1) first → more ≡ len + 1
        → cond (nat_lt next more) (Some next) None ≡ option_or (cond (nat_lt first len) (Some first) None) (cond b (Some len) None)
    by first next len more b within next_is more_is = grind (arith, nat_tests)

module _ {X : Type 0} (kind : ℕ → Named) (name_of : X → NameBytes) where
  -- what a name is among items that have names, by number
  abbrev pub named_among : List X → NameBytes → Option Named
  named_among items name = option_map kind (position (λ item. bytes_eq (name_of item) name) items)

  named_among_push : (items : List X) (item : X) (name : NameBytes)
      → named_among (items ++ item ∷ []) name ≡ option_or (named_among items name) (named_at ((name_of item, kind (length items)) ∷ []) name)
  named_among_push items item name =
      ap (option_map kind) (position_push (λ item. bytes_eq (name_of item) name) items item)
      ∙ by (position (λ item. bytes_eq (name_of item) name) items) (bytes_eq (name_of item) name)
    where
      by : (found : Option ℕ) (same : Bool) → option_map kind (option_or found (if same then Some (length items) else None))
          ≡ option_or (option_map kind found) (option_map {T = NameBytes × Named} (λ entry. entry.1) (cond same (Some (name_of item, kind (length items))) None))
      by (Some number) same = refl
      by None true = refl
      by None false = refl

  -- the names of a list's items, with one item more
  pub AddsNames-push : {old between new : NameList} (items : List X) (at : ℕ) (item : X) → at < length items → item ≡ get_or items at item → AddsNames old between (named_among (take at items))
      → AddsNames between new (named_at ((name_of item, kind at) ∷ [])) → AddsNames old new (named_among (take (at + 1) items))
  AddsNames-push {old} items at item within is before last = record {
    named = λ name.
        last.named name
        ∙ ap (λ found. option_or found (named_at ((name_of item, kind at) ∷ []) name)) (before.named name)
        ∙ option_or-assoc (named_at old name) (named_among (take at items) name) (named_at ((name_of item, kind at) ∷ []) name)
        ∙ ap (option_or (named_at old name)) (
        ap (λ number. option_or (named_among (take at items) name) (named_at ((name_of item, kind number) ∷ []) name)) (sym (length-take-le at items (omega arith)))
        ∙ sym (named_among_push (take at items) item name)
        ∙ ap (λ front. named_among front name) (sym (take_more items at item within ∙ ap (λ last. take at items ++ last ∷ []) (sym is))));
  }

-- a first that passes is there where one passes
is_some-position : {X : Type 0} (passes : X → Bool) (items : List X) → is_some (position passes items) ≡ list_any passes items
is_some-position passes [] = refl
is_some-position passes (item ∷ items) = by (passes item) (position_or_len passes items) (length items) (list_any passes items) (is_some-position passes items)
  where
    by : (passes_first : Bool) (first len : ℕ) (any : Bool) → is_some (cond (nat_lt first len) (Some first) None) ≡ any
        → is_some (cond (nat_lt (cond (not passes_first) (1 + first) 0) (suc len)) (Some (cond (not passes_first) (1 + first) 0)) None) ≡ (passes_first || any)
    by true first len any rest = grind (arith, nat_tests)
    by false first len any rest = grind (arith, nat_tests)

-- the table of this name by number, where it is what the name is
table_at-named : (names : NameList) (schema : Schema) (name : NameBytes) → named_at names name ≡ option_or (table_named schema.tables name) (view_named schema.views name)
    → option_map (λ number. number.0) (table_at names name) ≡ position (λ table. bytes_eq table.name name) schema.tables
table_at-named names schema name is =
    ap (λ found. option_map (λ number. number.0) (option_and_then as_table found)) is
    ∙ by (position (λ table. bytes_eq table.name name) schema.tables) (position (λ view. bytes_eq view.name name) schema.views)
  where
    by : (table view : Option ℕ) → option_map {T = TableNo} (λ number. number.0) (option_and_then as_table (option_or
        (option_map (λ number. Table (record { 0 = number })) table) (option_map (λ number. View (record { 0 = number })) view))) ≡ table
    by (Some table) view = refl
    by None (Some view) = refl
    by None None = refl

-- whether a name is taken, where it is what the schema says
has_name-named : (names : NameList) (schema : Schema) (name : NameBytes) → named_at names name ≡ option_or (table_named schema.tables name) (view_named schema.views name)
    → has_name names name ≡ is_taken schema name
has_name-named names schema name is =
    ap is_some is
    ∙ by (position (λ table. bytes_eq table.name name) schema.tables) (position (λ view. bytes_eq view.name name) schema.views)
    ∙ ap (λ taken. taken || is_some (position (λ view. bytes_eq view.name name) schema.views)) (is_some-position (λ table. bytes_eq table.name name) schema.tables ∙ list_any-map (λ other. bytes_eq other name) (λ table. table.name) schema.tables)
    ∙ ap (λ taken. is_named (map (λ table. table.name) schema.tables) name || taken) (is_some-position (λ view. bytes_eq view.name name) schema.views ∙ list_any-map (λ other. bytes_eq other name) (λ view. view.name) schema.views)
  where
    by : (table view : Option ℕ) → is_some (option_or (option_map (λ number. Table (record { 0 = number })) table) (option_map (λ number. View (record { 0 = number })) view)) ≡ (is_some table || is_some view)
    by (Some table) view = refl
    by None (Some view) = refl
    by None None = refl

-- names that are what a schema says
pub AreNamesOf-from_named : (names : NameList) (schema : Schema) → ((name : NameBytes) → named_at names name ≡ option_or (table_named schema.tables name) (view_named schema.views name)) → AreNamesOf names schema
AreNamesOf-from_named names schema is = record {
  named = is;
  table = λ name. table_at-named names schema name (is name);
  taken = λ name. has_name-named names schema name (is name);
}

-- no names are those of the empty schema
pub AreNamesOf-empty : (names : NameList) → names ≡ [] → AreNamesOf names empty.schema
AreNamesOf-empty names none = AreNamesOf-from_named names empty.schema (λ name. ap (λ names. named_at names name) none)

-- the names of a schema's tables and then of its views
pub AreNamesOf-added : {none between names : NameList} (schema : Schema) (tables : List TableDef) (views : List ViewDef) → tables ≡ schema.tables → views ≡ schema.views
    → AreNamesOf none empty.schema → AddsNames none between (table_named tables) → AddsNames between names (view_named views) → AreNamesOf names schema
AreNamesOf-added {none} {between} {names} schema tables views same_tables same_views before first last = AreNamesOf-from_named names schema (λ name.
    last.named name
    ∙ ap (λ found. option_or found (view_named views name)) (first.named name ∙ ap (λ found. option_or found (table_named tables name)) (before.named name))
    ∙ ap (λ tables. option_or (table_named tables name) (view_named views name)) same_tables
    ∙ ap (λ views. option_or (table_named schema.tables name) (view_named views name)) same_views)
