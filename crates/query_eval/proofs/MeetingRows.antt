-- The rows that meet a value, by group and by key.
use Rattle.std.proofs.Common.{◌≡◌, ℕ, true, false, List, [], ◌∷◌, refl, sym, ap, ◌∙◌}
use Rattle.std.specs.declared.cmp.Ordering.{Ordering}
use Rattle.std.specs.declared.cmp.Ordering.TheVariants.{Less, Equal, Greater}
use Rattle.std.specs.BTreeMap.{is_at}
use Rattle.std.specs.Map.{lookup}
use Rattle.std.specs.Option.{unwrap_or}
use Rattle.std.proofs.lemmas.List.Elements.{filter_agree}
use Rattle.own_base.specs.declared.value.Value.{Value}
use Rattle.own_base.specs.declared.value.Value.TheVariants.{Null, Int, Text, Sum}
use Rattle.own_model.specs.declared.condition.Cmp.TheVariants.{Eq}
use Rattle.own_model.specs.Db.{Row}
use Rattle.own_model.specs.Stored.{is_equal}
use Rattle.query_model.specs.Order.{value_cmp}
use Rattle.query_model.specs.Query.{group_of}
use Rattle.query_model.specs.Truth.{cell, compared, is_null, is_true, takes, truth_of}
use Rattle.query_eval.specs.Meetings.{meeting, meets}
use Rattle.query_eval.specs.ByValue.{by_value}
use Rattle.query_eval.proofs.RowGroups.{is_equal-back, lookup-by_value}

-- `=` takes what is equal
equal_taken : (o : Ordering) → is_true (truth_of (takes Eq o)) ≡ is_equal o
equal_taken Less = refl
equal_taken Equal = refl
equal_taken Greater = refl

-- a value that isn't NULL meets what it equals
meets-equal : (left right : Value) → is_null left ≡ false → meets left right ≡ is_equal (value_cmp left right)
unfolding compared value_cmp
meets-equal Null right some = cc
meets-equal (Int a) Null some = refl
meets-equal (Int a) (Int b) some = equal_taken _
meets-equal (Int a) (Text b) some = refl
meets-equal (Int a) (Sum b) some = equal_taken _
meets-equal (Text a) Null some = refl
meets-equal (Text a) (Int b) some = refl
meets-equal (Text a) (Text b) some = equal_taken _
meets-equal (Text a) (Sum b) some = refl
meets-equal (Sum a) Null some = refl
meets-equal (Sum a) (Int b) some = equal_taken _
meets-equal (Sum a) (Text b) some = refl
meets-equal (Sum a) (Sum b) some = equal_taken _

-- NULL meets nothing
meets-null : (right : Value) → meets Null right ≡ false
unfolding compared
meets-null right = refl

-- two values that aren't NULL meet each other
both_meet : (left right : Value) → is_null left ≡ false → is_null right ≡ false → meets left right ≡ meets right left
both_meet left right some some' = meets-equal left right some ∙ is_equal-back left right ∙ sym (meets-equal right left some')

-- what a value meets meets it
pub meets-back : (left right : Value) → meets left right ≡ meets right left
unfolding compared
meets-back Null Null = refl
meets-back Null (Int b) = refl
meets-back Null (Text b) = refl
meets-back Null (Sum b) = refl
meets-back (Int a) Null = refl
meets-back (Int a) (Int b) = both_meet (Int a) (Int b) refl refl
meets-back (Int a) (Text b) = both_meet (Int a) (Text b) refl refl
meets-back (Int a) (Sum b) = both_meet (Int a) (Sum b) refl refl
meets-back (Text a) Null = refl
meets-back (Text a) (Int b) = both_meet (Text a) (Int b) refl refl
meets-back (Text a) (Text b) = both_meet (Text a) (Text b) refl refl
meets-back (Text a) (Sum b) = both_meet (Text a) (Sum b) refl refl
meets-back (Sum a) Null = refl
meets-back (Sum a) (Int b) = both_meet (Sum a) (Int b) refl refl
meets-back (Sum a) (Text b) = both_meet (Sum a) (Text b) refl refl
meets-back (Sum a) (Sum b) = both_meet (Sum a) (Sum b) refl refl

-- what meets a value that isn't NULL is its group
pub meeting-group : (value : Value) (column : ℕ) (rows : List Row) → is_null value ≡ false → meeting value column rows ≡ group_of column rows value
meeting-group value column rows some =
    filter_agree (λ row. meets value (cell row column)) (λ row. is_equal (value_cmp (cell row column) value)) (λ row. meets-equal value (cell row column) some ∙ is_equal-back value (cell row column)) rows

-- nothing meets NULL
pub meeting-null : (column : ℕ) (rows : List Row) → meeting Null column rows ≡ []
meeting-null column [] = refl
meeting-null column (row ∷ rows) = rw (meets-null (cell row column)) (meeting-null column rows)

-- what is found by value is what meets it
pub found-meeting : (value : Value) (column : ℕ) (rows : List Row) (entries : List (Value × List Row)) → entries ≡ by_value (λ rows. rows) column rows → is_null value ≡ false
    → unwrap_or (lookup (is_at (value_cmp value)) entries) [] ≡ meeting value column rows
found-meeting value column rows entries is some =
    ap (λ entries. unwrap_or (lookup (is_at (value_cmp value)) entries) []) is ∙ lookup-by_value (λ rows. rows) column rows value ∙ sym (meeting-group value column rows some)

-- what is NULL meets nothing
pub null-meeting : (value : Value) (column : ℕ) (rows : List Row) → is_null value ≡ true → [] ≡ meeting value column rows
null-meeting Null column rows null = sym (meeting-null column rows)
null-meeting (Int number) column rows null = cc
null-meeting (Text bytes) column rows null = cc
null-meeting (Sum number) column rows null = cc
