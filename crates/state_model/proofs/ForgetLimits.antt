-- What a FORGET leaves is within the limits of a store where it was before.
use Rattle.std.proofs.Common.{◌≡◌, ℕ, zero, suc, ◌+◌, ◌≤◌, List, [], ◌∷◌, length, Bool, true, false, refl, ap, arith}
use Rattle.std.specs.Prelude.{filter, nat_lt, sum_by, if◌then◌else◌}
use Rattle.std.specs.List.{AllByRecursion}
use Rattle.std.proofs.lemmas.Bool.{le-ltb, ltb-false}
use Rattle.std.proofs.lemmas.List.{length-map}
use Rattle.std.proofs.lemmas.List.Sums.{sum_by-cons}
use Rattle.own_base.specs.declared.row_name.RowName.{RowName}
use Rattle.own_model.specs.declared.bound.BoundItem.{BoundItem}
use Rattle.own_model.specs.declared.bound.Source1.{Source1}
use Rattle.own_model.specs.declared.bound.Source1.TheVariants.{Table, View, Pair}
use Rattle.own_model.specs.declared.limit.TheConstants.{STORE_ROWS, STORE_WEIGHT}
use Rattle.own_model.specs.declared.schema.TableDef.{TableDef}
use Rattle.own_model.specs.declared.schema.ViewDef.{ViewDef}
use Rattle.own_model.specs.Db.{Db, IsOrdered, Row}
use Rattle.own_model.specs.Stored.{rows_at}
use Rattle.schema_model.specs.OwnerSchema.{IsOwnerSchema}
use Rattle.schema_model.proofs.Places.{append-none}
use Rattle.query_model.proofs.NoFaults.{none-if}
use Rattle.subject_model.specs.Forget.{forget, left_from, left_in}
use Rattle.subject_model.proofs.ForgetRows.{left_in-images, named_in, row_left, stays_in}
use Rattle.state_model.specs.Fault.{limit_faults}
use Rattle.state_model.specs.Weight.{row_count, view_weight, weight}
use Rattle.state_model.proofs.Counts.{less-images}
use Rattle.state_model.proofs.ForgetSizes.{viewed-left_of, viewed_size}
use Rattle.state_model.proofs.ForgetWeight.{OwnersStay, rows-lighter}

-- what holds of each element
each-le : {X : Type 0} (f g : X → ℕ) (test : X → Bool) → ((x : X) → f x ≤ g x) → (xs : List X) → AllByRecursion (λ x. test x ≡ true → f x ≤ g x) xs
each-le f g test le [] = tt
each-le f g test le (x ∷ xs) = ((λ passes. le x), each-le f g test le xs)

all-le : {X : Type 0} (f g : X → ℕ) → ((x : X) → f x ≤ g x) → (xs : List X) → sum_by f xs ≤ sum_by g xs
all-le f g le [] = omega arith
all-le f g le (x ∷ xs) = let long = sum_by-cons f x xs in let short = sum_by-cons g x xs in let own = le x in let later = all-le f g le xs in omega arith

sum-falls : (a b c d : ℕ) → a ≤ c → b ≤ d → a + b ≤ c + d
sum-falls a b c d one other = omega arith

module _ (db : Db) (subject : RowName) where
  -- the rows of a table: no more of them
  count-left_in : (number : ℕ) (table : TableDef) (rows : List Row) → length (left_in db subject number table rows) ≤ length rows
  count-left_in number table rows =
      let images = ap length (left_in-images db subject number table rows) in
      let same = length-map (filter (stays_in db subject number table) rows) (row_left db subject number table) in
      let kept = filter-length (stays_in db subject number table) rows in
      omega arith
    where
      filter-length : (test : Row → Bool) (rows : List Row) → length (filter test rows) ≤ length rows
      filter-length test [] = omega arith
      filter-length test (row ∷ rows) = by (test row) (filter-length test rows)
        where
          by : (b : Bool) → length (filter test rows) ≤ length rows → length (if b then row ∷ filter test rows else filter test rows) ≤ length (row ∷ rows)
          by true more = omega arith
          by false more = omega arith

  count-left_from : (number : ℕ) (tables : List TableDef) (rows : List (List Row)) → sum_by length (left_from db subject number tables rows) ≤ sum_by length rows
  unfolding left_from
  count-left_from number [] rows = omega arith
  count-left_from number (table ∷ tables) [] = omega arith
  count-left_from number (table ∷ tables) (rows ∷ rest) =
      let long = sum_by-cons length (left_in db subject number table rows) (left_from db subject (number + 1) tables rest) in
      let short = sum_by-cons length rows rest in
      let own = count-left_in number table rows in
      let later = count-left_from (number + 1) tables rest in
      omega arith

  -- no more rows
  pub rows-fewer : row_count (forget db subject) ≤ row_count db
  unfolding forget
  rows-fewer = count-left_from 0 db.schema.tables db.rows

  -- what a view shows of a table's rows
  viewed-left_in : (items : List BoundItem) (number : ℕ) (table : TableDef) (rows : List Row) → sum_by (viewed_size items) (left_in db subject number table rows) ≤ sum_by (viewed_size items) rows
  viewed-left_in items number table rows =
      let each = each-le (λ row. viewed_size items (row_left db subject number table row)) (viewed_size items) (stays_in db subject number table)
      (λ row. viewed-left_of db subject table (named_in number table row) items) rows in
      less-images (viewed_size items) (viewed_size items) (row_left db subject number table) (stays_in db subject number table) rows (left_in db subject number table rows)
      (left_in-images db subject number table rows) each

  viewed-left_from : (items : List BoundItem) (number : ℕ) (tables : List TableDef) (rows : List (List Row)) (place : ℕ)
      → sum_by (viewed_size items) (rows_at (left_from db subject number tables rows) place) ≤ sum_by (viewed_size items) (rows_at rows place)
  unfolding left_from
  viewed-left_from items number [] rows place = omega arith
  viewed-left_from items number (table ∷ tables) [] place = omega arith
  viewed-left_from items number (table ∷ tables) (rows ∷ rest) zero = viewed-left_in items number table rows
  viewed-left_from items number (table ∷ tables) (rows ∷ rest) (suc place) = viewed-left_from items (number + 1) tables rest place

  view_step : (view : ViewDef) (source : Source1) → view.query.source ≡ source → view_weight (forget db subject) view ≤ view_weight db view
  unfolding forget
  view_step view (Table table) is = rw is (viewed-left_from view.query.items 0 db.schema.tables db.rows table.0)
  view_step view (Pair left right left_column right_column) is = rw is (omega arith)
  view_step view (View of) is = rw is (omega arith)

  -- the views weigh no more
  views-lighter : sum_by (view_weight (forget db subject)) db.schema.views ≤ sum_by (view_weight db) db.schema.views
  views-lighter = all-le (view_weight (forget db subject)) (view_weight db) (λ view. view_step view _ refl) db.schema.views

  -- nor does the database
  pub lighter : IsOrdered db → IsOwnerSchema db.schema → OwnersStay db subject → weight (forget db subject) ≤ weight db
  unfolding weight forget
  lighter ordered owner owned = sum-falls _ _ _ _ (rows-lighter db subject ordered owner owned) views-lighter

-- what is less passes no limit
within-still : (most before after : ℕ) → after ≤ before → nat_lt most before ≡ false → nat_lt most after ≡ false
within-still most before after falls within = let least = ltb-false most before within in le-ltb most after (omega arith)

-- Where no limit was passed, none is.
pub limits-forget : (db : Db) (subject : RowName) → IsOrdered db → IsOwnerSchema db.schema → OwnersStay db subject → limit_faults db ≡ [] → limit_faults (forget db subject) ≡ []
limits-forget db subject ordered owner owned none =
    let both = append-none _ _ none in
    let rows : nat_lt STORE_ROWS (row_count (forget db subject)) ≡ false = within-still _ _ _ (rows-fewer db subject) (none-if _ _ both.0) in
    let weights : nat_lt STORE_WEIGHT (weight (forget db subject)) ≡ false = within-still _ _ _ (lighter db subject ordered owner owned) (none-if _ _ both.1) in
    rw (rows, weights) refl
