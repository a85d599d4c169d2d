-- What is shown of copies is what a GET shows.
use Rattle.std.proofs.Common.{◌≡◌, ◌≤◌, List, [], ◌∷◌, length, map, refl, ap, sym, ◌∙◌, subst}
use Rattle.std.specs.Prelude.{Contains, Option, Some, filter}
use Rattle.std.specs.List.{AllByRecursion}
use Rattle.std.proofs.lemmas.Option.{slice_get_within}
use Rattle.own_base.specs.declared.row_name.RowName.{RowName}
use Rattle.own_model.specs.declared.limit.TheConstants.{TABLE_COLUMNS}
use Rattle.own_model.specs.declared.reply.GotRow.{GotRow}
use Rattle.own_model.specs.Db.{Db, IsOrdered, Row}
use Rattle.owner_sets.proofs.Standing.{row_of-standing, standing_there}
use Rattle.schema_model.specs.WithinLimits.{IsWithinLimits}
use Rattle.state_model.specs.Rows.{AreRowsOf}
use Rattle.state_model.proofs.StoredRows.{row-within}
use Rattle.subject_model.specs.Get.{get, got_row}
use Rattle.subject_model.specs.Named.{NamedRow, named_rows}
use Rattle.subject_model.specs.Owners.{reaches}
use Rattle.subject_model.proofs.Members.{all_from_contained, contains_of_filter, contains_of_map}
use Rattle.subject_model.proofs.NamedLemmas.{row_of-named, there-named}
use Rattle.shelf_model.specs.declared.shelved.Shelved.{Shelved}
use Rattle.shelf_model.specs.Shelf.{shelved}
use Rattle.shelf_access.specs.Got.{IsWithin, got_copy}
use Rattle.shelf_access.proofs.ReachedLemmas.{reached}

fused : (db : Db) (subject : RowName) (xs : List NamedRow) → map (got_copy db.schema subject) (map (shelved db subject) xs) ≡ map (got_row db subject) xs
fused db subject [] = refl
fused db subject (x ∷ xs) = ap (λ (rest : List GotRow). got_row db subject x ∷ rest) (fused db subject xs)

-- of the rows that a subject reaches
pub got-reached : (db : Db) (subject : RowName) → map (got_copy db.schema subject) (reached db subject) ≡ get db subject
unfolding get
got-reached db subject = fused db subject (filter (λ named. reaches db subject named.name) (named_rows db))

same_row : (one other : Row) → ◌≡◌ {A = Option Row} (Some one) (Some other) → one ≡ other
same_row one other same = cc

-- each copy is of a table that is there, and no longer than it may be
pub reached-within : (db : Db) (subject : RowName) → IsOrdered db → IsWithinLimits db.schema → AreRowsOf db.schema.tables db.rows → AllByRecursion (IsWithin db.schema) (reached db subject)
reached-within db subject ordered limits rows = all_from_contained (IsWithin db.schema) (reached db subject) each
  where
    each : (copy : Shelved) → Contains (reached db subject) copy → IsWithin db.schema copy
    each copy among =
        let (named, kept, same) = contains_of_map (shelved db subject) _ copy among in
        let (at, passes) = contains_of_filter (λ (n : NamedRow). reaches db subject n.name) (named_rows db) named kept in
        let (place, stands) = standing_there db named.name (there-named db named ordered at) in
        let is : named.row ≡ stands.row = same_row named.row stands.row (sym (row_of-named db named ordered at) ∙ row_of-standing db named.name place ordered stands) in
        let short : length stands.row ≤ TABLE_COLUMNS = row-within db.schema db.rows named.name.table.0 place stands.definition stands.row limits rows stands.table_is stands.row_is in
        let within : IsWithin db.schema (shelved db subject named) = record {
          table = slice_get_within db.schema.tables named.name.table.0 stands.definition stands.table_is;
          short = subst (λ (row : Row). length row ≤ TABLE_COLUMNS) (sym is) short;
        } in
        subst (IsWithin db.schema) same within
