-- The parts of a version are those of its tables.
use Rattle.std.proofs.Common.{◌≡◌, ◌<◌, ◌∙◌, ℕ, zero, suc, List, [], ◌∷◌, ◌++◌, length, map, ap, sym}
use Rattle.std.proofs.lemmas.List.{get_or-map, length-map, map-append}
use Rattle.std.specs.Prelude.{Some, slice_get, slice_index_or, slice_set}
use Rattle.own_model.specs.declared.schema.TableDef.{TableDef}
use Rattle.own_model.specs.Stored.{rows_at}
use Rattle.table_part.specs.Part.{Part, rows_of}
use Rattle.store_version.specs.Parts.{AreTheirParts}

-- there are as many
pub parts-count : (tables : List TableDef) (parts : List Part) → AreTheirParts tables parts → length parts ≡ length tables
parts-count tables parts are =
    sym (length-map parts (λ (part : Part). part.key)) ∙ (ap length are ∙ length-map tables (λ (table : TableDef). table.key))

-- a part has its table's key
pub part-key : (tables : List TableDef) (parts : List Part) (number : ℕ) (table : TableDef) (part : Part) → AreTheirParts tables parts
    → slice_get tables number ≡ Some table → part ≡ slice_index_or parts number part → part.key ≡ table.key
part-key [] parts number table part are is own = cc
part-key (first ∷ tables) [] number table part are is own = cc
part-key (first ∷ tables) (one ∷ parts) zero table part are is own = cc
part-key (first ∷ tables) (one ∷ parts) (suc number) table part are is own =
    let rest : AreTheirParts tables parts = cc in part-key tables parts number table part rest is own

-- and its rows
pub part-rows : (parts : List Part) (number : ℕ) (part : Part) → number < length parts → part ≡ slice_index_or parts number part
    → rows_at (map rows_of parts) number ≡ rows_of part
part-rows parts number part within own = get_or-map rows_of parts number part [] within ∙ ap rows_of (sym own)

-- another part of the same key in its place
pub parts-set : (tables : List TableDef) (parts : List Part) (number : ℕ) (table : TableDef) (new : Part) → AreTheirParts tables parts
    → slice_get tables number ≡ Some table → new.key ≡ table.key → AreTheirParts tables (slice_set parts number new)
parts-set [] parts number table new are is same = cc
parts-set (first ∷ tables) [] number table new are is same = cc
parts-set (first ∷ tables) (one ∷ parts) zero table new are is same = cc
parts-set (first ∷ tables) (one ∷ parts) (suc number) table new are is same =
    let rest : AreTheirParts tables parts = cc in
    let later = parts-set tables parts number table new rest is same in
    let first_is : one.key ≡ first.key = cc in cc

-- a table more, with its part
pub parts-append : (tables : List TableDef) (parts : List Part) (table : TableDef) (part : Part) → AreTheirParts tables parts → part.key ≡ table.key
    → AreTheirParts (tables ++ table ∷ []) (parts ++ part ∷ [])
parts-append tables parts table part are same =
    map-append (λ (part : Part). part.key) parts (part ∷ [])
    ∙ (ap (λ keys. keys ++ part.key ∷ []) are
    ∙ (ap (λ key. map (λ (table : TableDef). table.key) tables ++ key ∷ []) same ∙ sym (map-append (λ (table : TableDef). table.key) tables (table ∷ []))))
