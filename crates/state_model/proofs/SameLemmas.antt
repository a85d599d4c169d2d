-- What is the same is one.
use Rattle.std.proofs.Common.{◌≡◌, [], ◌∷◌, true, false, ap, refl}
use Rattle.std.specs.Prelude.{Option, None, Some}
use Rattle.std.specs.Ordering.{int_cmp}
use Rattle.std.proofs.lemmas.Bool.{and_from, and_parts}
use Rattle.std.proofs.lemmas.Cmp.{int_cmp_total, tied_itself}
use Rattle.std.proofs.lemmas.Map.Lookups.{exact_signed}
use Rattle.own_base.specs.declared.value.Value.{Value}
use Rattle.own_base.specs.declared.value.Value.TheVariants.{Null, Int, Text, Sum}
use Rattle.own_model.specs.Db.{Row}
use Rattle.own_model.specs.Stored.{is_equal}
use Rattle.schema_model.proofs.Names.{equal_name, same_name}
use Rattle.query_model.proofs.RowOfKey.{equal_from}
use Rattle.state_model.specs.Same.{is_same_row, is_same_state, is_same_value}

-- a value is the same as itself
pub value_same : (value : Value) → is_same_value value value ≡ true
unfolding is_same_value
value_same Null = refl
value_same (Int number) = ap is_equal (tied_itself int_cmp_total number)
value_same (Text bytes) = equal_name bytes bytes refl
value_same (Sum number) = ap is_equal (tied_itself int_cmp_total number)

-- and as no other
pub one_value : (one other : Value) → is_same_value one other ≡ true → one ≡ other
unfolding is_same_value
one_value Null Null is = refl
one_value (Int one) (Int other) is = ap Int (exact_signed one other (equal_from (int_cmp one other) is))
one_value (Text one) (Text other) is = ap Text (same_name one other is)
one_value (Sum one) (Sum other) is = ap Sum (exact_signed one other (equal_from (int_cmp one other) is))
one_value Null (Int other) is = let never : false ≡ true = is in cc
one_value Null (Text other) is = let never : false ≡ true = is in cc
one_value Null (Sum other) is = let never : false ≡ true = is in cc
one_value (Int one) Null is = let never : false ≡ true = is in cc
one_value (Int one) (Text other) is = let never : false ≡ true = is in cc
one_value (Int one) (Sum other) is = let never : false ≡ true = is in cc
one_value (Text one) Null is = let never : false ≡ true = is in cc
one_value (Text one) (Int other) is = let never : false ≡ true = is in cc
one_value (Text one) (Sum other) is = let never : false ≡ true = is in cc
one_value (Sum one) Null is = let never : false ≡ true = is in cc
one_value (Sum one) (Int other) is = let never : false ≡ true = is in cc
one_value (Sum one) (Text other) is = let never : false ≡ true = is in cc

-- so of rows
row_same : (row : Row) → is_same_row row row ≡ true
unfolding is_same_row
row_same [] = refl
row_same (value ∷ row) = and_from _ _ (value_same value) (row_same row)

one_row : (one other : Row) → is_same_row one other ≡ true → one ≡ other
unfolding is_same_row
one_row [] [] is = refl
one_row [] (value ∷ other) is = let never : false ≡ true = is in cc
one_row (value ∷ one) [] is = let never : false ≡ true = is in cc
one_row (left ∷ one) (right ∷ other) is =
    let both = and_parts (is_same_value left right) (is_same_row one other) is in
    let first = one_value left right both.0 in
    let rest = one_row one other both.1 in
    cc

-- that are there or not
pub state_same : (state : Option Row) → is_same_state state state ≡ true
state_same None = refl
state_same (Some row) = row_same row

pub one_state : (one other : Option Row) → is_same_state one other ≡ true → one ≡ other
one_state None None is = refl
one_state (Some one) (Some other) is = ap Some (one_row one other is)
one_state None (Some other) is = let never : false ≡ true = is in cc
one_state (Some one) None is = let never : false ≡ true = is in cc
