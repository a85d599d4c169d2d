-- An index after changes.
use Rattle.std.proofs.Common.{◌≡◌, refl, sym, ◌∙◌, ap, subst, ℕ, List, [], ◌∷◌, map, Option}
use Rattle.std.specs.Prelude.{Bool, true, ◌==◌, ◌&&◌, ◌||◌, IsTrue}
use Rattle.std.specs.List.{list_any}
use Rattle.std.proofs.lemmas.Bool.{eqb-true}
use Rattle.own_base.specs.declared.change.Change.{Change}
use Rattle.own_base.specs.declared.number.ColNo.{ColNo}
use Rattle.own_base.specs.declared.number.TableNo.{TableNo}
use Rattle.own_base.specs.declared.value.Key.{Key}
use Rattle.own_model.specs.Db.{Db, IsOrdered, Row}
use Rattle.owner_model.specs.Joins.{row_of}
use Rattle.page_model.proofs.RisingLemmas.{each_weaker}
use Rattle.state_model.specs.Put.{is_of_table, put}
use Rattle.ref_index.specs.AfterChanges.{after_changes, Fit}
use Rattle.ref_index.specs.IndexOf.{rows_under}
use Rattle.ref_index.specs.Moved.{AreIndexes, AreMoved, place_of}
use Rattle.ref_index.specs.Stands.{is_of, Stands}
use Rattle.ref_index.specs.Tells.{Tell}
use Rattle.ref_index.specs.declared.column_index.ColumnIndex.{ColumnIndex}
use Rattle.ref_index.proofs.PutUnder.{alike, fits, under_put}

-- whether a place is that of a column
abbrev is_at : ℕ → ℕ → TableNo × ColNo → Bool
is_at table column place = place.0.0 == table && place.1.0 == column

any_place : (table column : ℕ) (index : List ColumnIndex) → list_any (is_of table column) index ≡ list_any (is_at table column) (map place_of index)
any_place table column [] = refl
any_place table column (one ∷ index) = ap (λ b. is_of table column one || b) (any_place table column index)

-- indexes of the same columns cover the same
pub same_cover : (table column : ℕ) (before after : List ColumnIndex) → map place_of after ≡ map place_of before → IsTrue (list_any (is_of table column) before) → IsTrue (list_any (is_of table column) after)
same_cover table column before after places there =
    subst IsTrue (any_place table column before ∙ (ap (list_any (is_at table column)) (sym places) ∙ sym (any_place table column after))) there

-- what a change tells of its name it tells of the rows of its table
under_name : (n : ℕ) (db : Db) (change : Change) → change.before ≡ row_of db change.name → is_of_table n change ≡ true → change.before ≡ rows_under db n change.name.key
under_name n db change was of = was ∙ ap (λ m. rows_under db m change.name.key) (eqb-true change.name.table.0 n of)

-- an index of a database becomes one of the database into which the changes are put
pub stands_moved : (db : Db) (changes : List Change) (before after : List ColumnIndex) → IsOrdered db → Stands db before → Tell db changes → AreMoved changes before after → Stands (put db changes) after
stands_moved db changes before after ordered stands tell moved =
    let fit : (table : ℕ) → Fit table changes (rows_under db table) =
    λ table. fits table changes (rows_under db table) (each_weaker _ _ (under_name table db) changes tell.was) (tell.may.once table) in
    let rows : ◌≡◌ {A = ℕ → Key → Option Row} (λ table. after_changes table changes (rows_under db table)) (rows_under (put db changes)) = alike _ _ (under_put db changes ordered tell.may) in
    record {
      each = subst (λ (under : ℕ → Key → Option Row). AreIndexes under after) rows (moved.indexes (rows_under db) fit stands.each);
      covers = λ table column indexed. same_cover table column before after moved.places (stands.covers table column indexed);
    }
