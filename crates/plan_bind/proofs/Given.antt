-- The value that a tuple gives a column, by its place.
use Rattle.std.proofs.Common.{◌≡◌, ℕ, suc, ◌+◌, Bool, true, false, not, cond, List, [], ◌∷◌, Option, None, Some, map, length, nat_lt, position, refl, ◌∙◌, sym, arith}
use Rattle.std.specs.List.{find, position_or_len, zip}
use Rattle.std.specs.Option.{option_map, option_map_or}
use Rattle.std.proofs.lemmas.Bool.Decides.{nat_tests}
use Rattle.own_base.specs.declared.value.Value.{Value}
use Rattle.own_base.specs.declared.value.Value.TheVariants.{Null}
use Rattle.own_model.specs.declared.schema.Column.{Column as Definition}
use Rattle.own_model.specs.declared.schema.TableDef.{TableDef}
use Rattle.query_model.specs.Scope.{NameBytes}
use Rattle.query_model.specs.WriteFaults.{columns_for, numbered_columns}
use Rattle.query_model.specs.WriteMeaning.{given, is_for, put_row}
use Rattle.plan_bind.specs.ColumnList.{is_of_number}
use Rattle.plan_bind.specs.InsertTargets.{place_of, places_of, value_at}

-- one number higher, where there is one
past_one : (here there : Bool) (i : ℕ) → there ≡ here → cond there (Some (1 + i)) None ≡ option_map (λ at. suc at) (cond here (Some i) None)
past_one true there i is = rw is (let e : 1 + i ≡ suc i = omega arith in rw e)
past_one false there i is = rw is

-- one item more in front
position_at : (here : Bool) (i n : ℕ)
    → cond (nat_lt (cond (not here) (1 + i) 0) (suc n)) (Some (cond (not here) (1 + i) 0)) None ≡ cond here (Some 0) (option_map (λ at. suc at) (cond (nat_lt i n) (Some i) None))
position_at true i n = grind (arith, nat_tests)
position_at false i n = past_one (nat_lt i n) (nat_lt (1 + i) (suc n)) i (grind (arith, nat_tests))

position-cons : {A : Type 0} (p : A → Bool) (x : A) (xs : List A) → position p (x ∷ xs) ≡ cond (p x) (Some 0) (option_map (λ at. suc at) (position p xs))
position-cons p x xs = position_at (p x) (position_or_len p xs) (length xs)

-- the same of values
value_at-nil : (place : Option ℕ) → value_at [] place ≡ Null
value_at-nil None = refl
value_at-nil (Some at) = refl

value_at-cons : (value : Value) (tuple : List Value) (place : Option ℕ) → value_at (value ∷ tuple) (option_map (λ at. suc at) place) ≡ value_at tuple place
value_at-cons value tuple None = refl
value_at-cons value tuple (Some at) = refl

-- this column's value, or that of one behind it
given_here : (here : Bool) (found : Option (Option (ℕ × Definition) × Value)) (meant : Option (ℕ × Definition)) (value : Value) (tuple : List Value) (place : Option ℕ)
    → option_map_or (λ pair. pair.1) found Null ≡ value_at tuple place
    → option_map_or (λ pair. pair.1) (cond here (Some (meant, value)) found) Null ≡ value_at (value ∷ tuple) (cond here (Some 0) (option_map (λ at. suc at) place))
given_here true found meant value tuple place later = refl
given_here false found meant value tuple place later = later ∙ sym (value_at-cons value tuple place)

given_at : (columns : List (Option (ℕ × Definition))) (tuple : List Value) (column : ℕ × Definition)
    → given (zip columns tuple) column ≡ value_at tuple (position (is_of_number column.0) columns)
given_at [] tuple column = refl
given_at (meant ∷ columns) [] column = sym (value_at-nil (position (is_of_number column.0) (meant ∷ columns)))
given_at (meant ∷ columns) (value ∷ tuple) column = rw (position-cons (is_of_number column.0) meant columns)
    (given_here (is_of_number column.0 meant) (find (is_for column.0) (zip columns tuple)) meant value tuple (position (is_of_number column.0) columns) (given_at columns tuple column))

-- a row, column by column
values_at : (columns : List (Option (ℕ × Definition))) (tuple : List Value) (numbered : List (ℕ × Definition))
    → map (value_at tuple) (map (λ column. place_of columns column.0) numbered) ≡ map (given (zip columns tuple)) numbered
unfolding place_of
values_at columns tuple [] = refl
values_at columns tuple (column ∷ numbered) = rw (given_at columns tuple column, values_at columns tuple numbered)

pub put_row_at : (table : TableDef) (names : Option (List NameBytes)) (tuple : List Value) → put_row table names tuple ≡ map (value_at tuple) (places_of (columns_for table names) table)
unfolding put_row
put_row_at table names tuple = sym (values_at (columns_for table names) tuple (numbered_columns table))
