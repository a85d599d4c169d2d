-- The row of a name in a version.
use Rattle.std.proofs.Common.{◌≡◌, ◌<◌, ◌∙◌, List, length, map, ap, refl, subst, sym}
use Rattle.std.specs.Prelude.{slice_index_or}
use Rattle.own_base.specs.Key.{key_cmp}
use Rattle.own_base.specs.declared.number.ColNo.{ColNo}
use Rattle.own_base.specs.declared.row_name.RowName.{RowName}
use Rattle.own_model.specs.declared.schema.Schema.{Schema}
use Rattle.own_model.specs.Stored.{row_named}
use Rattle.page_model.specs.Found.{found}
use Rattle.schema_model.proofs.Places.{at-place}
use Rattle.table_part.specs.KeyIn.{key_in}
use Rattle.table_part.specs.Part.{Part, rows_of}
use Rattle.table_part.proofs.KeyLemmas.{found-has_key}
use Rattle.store_version.specs.Parts.{AreTheirParts}
use Rattle.store_version.proofs.TheirParts.{part-key, part-rows, parts-count}

-- it is the one that the table's part finds
pub row-named : (schema : Schema) (parts : List Part) (name : RowName) (part : Part) → AreTheirParts schema.tables parts
    → name.table.0 < length schema.tables → part ≡ slice_index_or parts name.table.0 part
    → found (key_in part.key) key_cmp name.key (rows_of part) ≡ row_named schema (map rows_of parts) name
unfolding row_named
row-named schema parts name part are within own =
    let table = at-place schema.tables name.table.0 within in
    let key = part-key schema.tables parts name.table.0 table.0 part are table.1 own in
    let rows = part-rows parts name.table.0 part (subst (λ count. name.table.0 < count) (sym (parts-count schema.tables parts are)) within) own in
    ap (λ (column : ColNo). found (key_in column) key_cmp name.key (rows_of part)) key
    ∙ (found-has_key table.0 name.key (rows_of part)
    ∙ rw (table.1, rows) refl)
