-- What the views weigh, row by row.
use Rattle.std.proofs.Common.{◌≡◌, ℕ, zero, suc, ◌+◌, ◌<◌, List, [], ◌∷◌, refl, sym, eq-eqb, arith}
use Rattle.std.specs.Prelude.{◌==◌, sum_by, if◌then◌else◌}
use Rattle.std.proofs.lemmas.Bool.{ne_eqb}
use Rattle.std.proofs.lemmas.List.Sums.{sum_by-append, sum_by-cons}
use Rattle.own_base.specs.declared.row.TheConstants.{ROW_SIZE}
use Rattle.own_model.specs.declared.bound.Source1.{Source1}
use Rattle.own_model.specs.declared.bound.Source1.TheVariants.{Table, View, Pair}
use Rattle.own_model.specs.declared.schema.TableDef.{TableDef}
use Rattle.own_model.specs.declared.schema.ViewDef.{ViewDef}
use Rattle.own_model.specs.Db.{AreRising, Db, IsOrdered, Row}
use Rattle.own_model.specs.Stored.{rows_at}
use Rattle.subject_model.specs.Named.{NamedRow, name_of, named_rows, rows_from, rows_in}
use Rattle.state_model.specs.Weight.{item_size, view_weight}
use Rattle.change_weight.specs.Shown.{shown_size}
use Rattle.change_weight.proofs.Sums.{sum_by-both, sum_by-none}

module _ (f : Row → ℕ) (table : ℕ) where
  -- what a row counts in one table alone
  abbrev pub only : NamedRow → ℕ
  only named = if table == named.name.table.0 then f named.row else 0

  -- the rows of the table count
  own_rows : (number : ℕ) (definition : TableDef) (rows : List Row) → table ≡ number → sum_by only (rows_in number definition rows) ≡ sum_by f rows
  own_rows number definition [] is = refl
  own_rows number definition (row ∷ rows) is =
      let named : NamedRow = record { name = name_of number definition row; row = row } in
      let own : only named ≡ f row = rw (eq-eqb table number is) refl in
      let later = own_rows number definition rows is in
      let whole = sum_by-cons only named (rows_in number definition rows) in
      let one = sum_by-cons f row rows in
      omega arith

  -- and no others
  other_rows : (number : ℕ) (definition : TableDef) (rows : List Row) → (table ≡ number → ⊥) → sum_by only (rows_in number definition rows) ≡ 0
  other_rows number definition [] differ = refl
  other_rows number definition (row ∷ rows) differ =
      let named : NamedRow = record { name = name_of number definition row; row = row } in
      let own : only named ≡ 0 = rw (ne_eqb table number differ) refl in
      let later = other_rows number definition rows differ in
      let whole = sum_by-cons only named (rows_in number definition rows) in
      omega arith

  later_rows : (number : ℕ) (tables : List TableDef) (rows : List (List Row)) → table < number → sum_by only (rows_from number tables rows) ≡ 0
  unfolding rows_from
  later_rows number [] rows less = refl
  later_rows number (definition ∷ tables) [] less = refl
  later_rows number (definition ∷ tables) (own ∷ rows) less =
      let both = sum_by-append only (rows_in number definition own) (rows_from (number + 1) tables rows) in
      let first = other_rows number definition own (λ is. absurd (omega arith)) in
      let more = later_rows (number + 1) tables rows (omega arith) in
      omega arith

  -- a sum over the rows of one of the tables
  pub table_sum : (number place : ℕ) (tables : List TableDef) (rows : List (List Row)) → AreRising tables rows → table ≡ number + place
      → sum_by only (rows_from number tables rows) ≡ sum_by f (rows_at rows place)
  unfolding rows_from
  table_sum number place [] [] rising is = refl
  table_sum number place [] (own ∷ rows) rising is = absurd rising
  table_sum number place (definition ∷ tables) [] rising is = absurd rising
  table_sum number zero (definition ∷ tables) (own ∷ rows) rising is =
      let both = sum_by-append only (rows_in number definition own) (rows_from (number + 1) tables rows) in
      let first = own_rows number definition own (omega arith) in
      let more = later_rows (number + 1) tables rows (omega arith) in
      omega arith
  table_sum number (suc place) (definition ∷ tables) (own ∷ rows) rising is =
      let both = sum_by-append only (rows_in number definition own) (rows_from (number + 1) tables rows) in
      let first = other_rows number definition own (λ same. absurd (omega arith)) in
      let more = table_sum (number + 1) place tables rows rising.1 (omega arith) in
      omega arith

module _ (db : Db) (ordered : IsOrdered db) where
  -- what a view shows of a row
  abbrev shown_of : ViewDef → NamedRow → ℕ
  shown_of view named = shown_size named.name.table.0 named.row view

  -- a view weighs what it shows of all rows
  view_sum : (view : ViewDef) (source : Source1) → view.query.source ≡ source → view_weight db view ≡ sum_by (shown_of view) (named_rows db)
  view_sum view (Table table) is =
      rw is (sym (table_sum (λ row. ROW_SIZE + sum_by (item_size row) view.query.items) table.0 0 table.0 db.schema.tables db.rows ordered.rising (omega arith)))
  view_sum view (Pair left right left_column right_column) is = rw is (sym (sum_by-none _ (named_rows db) (λ named among. refl)))
  view_sum view (View of) is = rw is (sym (sum_by-none _ (named_rows db) (λ named among. refl)))

  -- and all views together what they show
  pub views_sum : (views : List ViewDef) → sum_by (view_weight db) views ≡ sum_by (λ named. sum_by (shown_size named.name.table.0 named.row) views) (named_rows db)
  views_sum [] = sym (sum_by-none _ (named_rows db) (λ named among. refl))
  views_sum (view ∷ views) =
      let first = view_sum view view.query.source refl in
      let later = views_sum views in
      let whole = sum_by-cons (view_weight db) view views in
      let both = sum_by-both (shown_of view) (λ (named : NamedRow). sum_by (shown_size named.name.table.0 named.row) views) (λ (named : NamedRow). sum_by (shown_size named.name.table.0 named.row) (view ∷ views))
      (λ named. sum_by-cons (shown_size named.name.table.0 named.row) view views) (named_rows db) in
      omega arith
