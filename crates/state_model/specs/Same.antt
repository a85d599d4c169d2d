-- Whether two values, or two rows, are the same.
use Rattle.std.specs.Prelude.{[], ◌∷◌, Bool, true, false, ◌&&◌, Option, None, Some, bytes_eq}
use Rattle.std.specs.Ordering.{int_cmp}
use Rattle.own_base.specs.declared.value.Value.{Value}
use Rattle.own_base.specs.declared.value.Value.TheVariants.{Null, Int, Text, Sum}
use Rattle.own_model.specs.Db.{Row}
use Rattle.own_model.specs.Stored.{is_equal}

-- NULL is the same as NULL here: what stands there, and not what SQL compares
unfoldable pub is_same_value : Value → Value → Bool
is_same_value Null Null = true
is_same_value (Int left) (Int right) = is_equal (int_cmp left right)
is_same_value (Text left) (Text right) = bytes_eq left right
is_same_value (Sum left) (Sum right) = is_equal (int_cmp left right)
is_same_value _ _ = false

unfoldable pub is_same_row : Row → Row → Bool
is_same_row [] [] = true
is_same_row [] (value ∷ row) = false
is_same_row (value ∷ row) [] = false
is_same_row (left ∷ lefts) (right ∷ rights) = is_same_value left right && is_same_row lefts rights

-- a row that is there or not
abbrev pub is_same_state : Option Row → Option Row → Bool
is_same_state None None = true
is_same_state (Some left) (Some right) = is_same_row left right
is_same_state _ _ = false
