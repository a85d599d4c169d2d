-- A table that comes weighs nothing, and no row weighs more for it.
use Rattle.std.proofs.Common.{◌≡◌, ◌+◌, ◌*◌, List, [], ◌∷◌, ◌++◌, length, refl, ap, arith}
use Rattle.std.proofs.lemmas.List.Sums.{sum_by-cons}
use Rattle.std.specs.Prelude.{◌&&◌, filter, not, sum_by}
use Rattle.own_base.specs.Row.{row_size}
use Rattle.own_base.specs.declared.row.TheConstants.{ROW_SIZE}
use Rattle.own_base.specs.declared.row_name.RowName.{RowName}
use Rattle.own_model.specs.declared.bound.Source1.{Source1}
use Rattle.own_model.specs.declared.bound.Source1.TheVariants.{Table, View, Pair}
use Rattle.own_model.specs.declared.create.CreateTable.{CreateTable}
use Rattle.own_model.specs.declared.schema.ViewDef.{ViewDef}
use Rattle.own_model.specs.Db.{Db, IsOrdered, Row}
use Rattle.schema_model.specs.OwnerSchema.{IsOwnerSchema}
use Rattle.schema_model.specs.WithTable.{with_table}
use Rattle.subject_model.specs.Named.{NamedRow, named_rows}
use Rattle.subject_model.proofs.SamePaths.{AreAlike, owners-alike, owns-alike, reaches-alike, subjects-alike}
use Rattle.state_model.specs.Create.{create}
use Rattle.state_model.specs.Weight.{at_least_one, item_size, row_count, row_weight, seers, view_weight, weight}
use Rattle.state_model.proofs.TableRows.{rows_at-with}

module _ (one other : Db) (alike : AreAlike one other) (ordered : IsOrdered one) (also : IsOrdered other) (owner : IsOwnerSchema one.schema) (owner_also : IsOwnerSchema other.schema) where
  seers-alike : (name : RowName) → seers other name ≡ seers one name
  seers-alike name = λ i. length (filter (λ subject. reaches-alike one other alike ordered also owner owner_also subject name i
      && not (owns-alike one other alike ordered also owner owner_also subject name i)) (subjects-alike one other alike ordered also owner owner_also i))

  -- with the same paths a row weighs the same
  row_weight-alike : (named : NamedRow) → row_weight other named ≡ row_weight one named
  row_weight-alike named =
      λ i. row_size named.row * at_least_one (length (owners-alike one other alike ordered also owner owner_also named.name i)) + 64 * seers-alike named.name i

  -- and so do all rows
  pub rows-alike : sum_by (row_weight other) (named_rows other) ≡ sum_by (row_weight one) (named_rows one)
  rows-alike = λ i. sum_by (λ named. row_weight-alike named i) (alike.named i)

view_step : (db : Db) (table : CreateTable) (view : ViewDef) (source : Source1) → view.query.source ≡ source → view_weight (create db table) view ≡ view_weight db view
unfolding create
view_step db table view (Table number) is =
    rw is (ap (λ (rows : List Row). sum_by (λ row. ROW_SIZE + sum_by (item_size row) view.query.items) rows) (rows_at-with db.rows number.0))
view_step db table view (Pair left right left_column right_column) is = rw is refl
view_step db table view (View of) is = rw is refl

views-create : (db : Db) (table : CreateTable) → sum_by (view_weight (create db table)) (create db table).schema.views ≡ sum_by (view_weight db) db.schema.views
unfolding create with_table
views-create db table = λ i. sum_by (λ view. view_step db table view view.query.source refl i) db.schema.views

-- the database weighs what it weighed
pub weight-create : (db : Db) (table : CreateTable) → AreAlike db (create db table) → IsOrdered db → IsOrdered (create db table) → IsOwnerSchema db.schema
    → IsOwnerSchema (create db table).schema → weight (create db table) ≡ weight db
unfolding weight
weight-create db table alike ordered also owner owner_also = λ i. rows-alike db (create db table) alike ordered also owner owner_also i + views-create db table i

rows-with : (rows : List (List Row)) → sum_by length (rows ++ [] ∷ []) ≡ sum_by length rows
rows-with [] = refl
rows-with (one ∷ rows) =
    let long = sum_by-cons length one (rows ++ [] ∷ []) in
    let short = sum_by-cons length one rows in
    let later = rows-with rows in
    omega arith

-- and has as many rows as it had
pub row_count-create : (db : Db) (table : CreateTable) → row_count (create db table) ≡ row_count db
unfolding create
row_count-create db table = rows-with db.rows
