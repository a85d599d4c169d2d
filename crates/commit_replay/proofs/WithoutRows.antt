-- Databases without rows.
use Rattle.std.proofs.Common.{◌≡◌, ◌+◌, ℕ, zero, suc, List, [], ◌∷◌, ◌++◌, refl, arith}
use Rattle.std.specs.Prelude.{sum_by}
use Rattle.std.proofs.lemmas.List.Sums.{sum_by-cons}
use Rattle.own_model.specs.declared.bound.Source1.{Source1}
use Rattle.own_model.specs.declared.bound.Source1.TheVariants.{Table, View, Pair}
use Rattle.own_model.specs.declared.schema.TableDef.{TableDef}
use Rattle.own_model.specs.declared.schema.ViewDef.{ViewDef}
use Rattle.own_model.specs.Db.{Db, Row}
use Rattle.own_model.specs.Stored.{holds_rows, rows_at}
use Rattle.subject_model.specs.Named.{named_rows, rows_from}
use Rattle.state_model.specs.Created.{without_rows}
use Rattle.state_model.specs.Weight.{row_weight, view_weight, weight}
use Rattle.commit_replay.specs.Created.{AreWithoutRows}

-- no table of it has a row
pub none-at : (rows : List (List Row)) (number : ℕ) → AreWithoutRows rows → rows_at rows number ≡ []
none-at [] number are = refl
none-at (one ∷ rows) zero are = are.0
none-at (one ∷ rows) (suc number) are = none-at rows number are.1

held_none : (rows : List (List Row)) (number : ℕ) → AreWithoutRows rows → holds_rows rows number ≡ without_rows number
held_none rows number are = rw (none-at rows number are) refl

pub holds-none : (rows : List (List Row)) → AreWithoutRows rows → holds_rows rows ≡ without_rows
holds-none rows are = λ i number. held_none rows number are i

-- it has no row
none-from : (number : ℕ) (tables : List TableDef) (rows : List (List Row)) → AreWithoutRows rows → rows_from number tables rows ≡ []
unfolding rows_from
none-from number [] rows are = refl
none-from number (table ∷ tables) [] are = refl
none-from number (table ∷ tables) (one ∷ rows) are = rw are.0 (none-from (number + 1) tables rows are.1)

-- a view over no rows weighs nothing
view_step : (db : Db) (view : ViewDef) (source : Source1) → view.query.source ≡ source → AreWithoutRows db.rows → view_weight db view ≡ 0
view_step db view (Table number) is are = rw (is, none-at db.rows number.0 are) refl
view_step db view (Pair left right left_column right_column) is are = rw is refl
view_step db view (View of) is are = rw is refl

pub no-view_weight : (db : Db) (view : ViewDef) → AreWithoutRows db.rows → view_weight db view ≡ 0
no-view_weight db view are = view_step db view view.query.source refl are

views-none : (db : Db) (views : List ViewDef) → AreWithoutRows db.rows → sum_by (view_weight db) views ≡ 0
views-none db [] are = refl
views-none db (view ∷ views) are =
    let own = no-view_weight db view are in
    let later = views-none db views are in
    let all = sum_by-cons (view_weight db) view views in
    omega arith

-- so it weighs nothing
pub no-weight : (db : Db) → AreWithoutRows db.rows → weight db ≡ 0
unfolding weight
no-weight db are =
    let rows : sum_by (row_weight db) (named_rows db) ≡ 0 = rw (none-from 0 db.schema.tables db.rows are) refl in
    let views = views-none db db.schema.views are in
    omega arith

-- a table more without rows
pub without-append : (rows : List (List Row)) → AreWithoutRows rows → AreWithoutRows (rows ++ [] ∷ [])
without-append [] are = (refl, tt)
without-append (one ∷ rows) are = (are.0, without-append rows are.1)
