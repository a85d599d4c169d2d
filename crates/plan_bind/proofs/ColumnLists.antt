-- The columns that a list names, as they are lent and as they are meant.
use Rattle.std.proofs.Common.{◌≡◌, ℕ, ◌+◌, ◌<◌, List, [], ◌∷◌, Option, None, Some, Bool, is_some, length, map, position, get_or, drop, refl}
use Rattle.std.specs.List.{enumerate_from, list_all, position_or_len}
use Rattle.std.specs.Option.{option_map}
use Rattle.std.proofs.lemmas.List.{length-map}
use Rattle.bind_scope.proofs.Lookups.{drop_here}
use Rattle.plan_bind.specs.ColumnList.{columns_meant, is_of_number}
use Rattle.plan_bind.specs.InsertTargets.{place_of}
use Rattle.plan_bind.specs.NumberedColumns.{column_of}
use Rattle.plan_bind.specs.declared.numbered_column.NumberedColumn.{NumberedColumn}

-- this item, and those behind it
pub enumerate_here : {A : Type 0} (xs : List A) (i : ℕ) (x : A) → i < length xs → x ≡ get_or xs i x
    → enumerate_from i (drop i xs) ≡ (i, x) ∷ enumerate_from (i + 1) (drop (i + 1) xs)
enumerate_here xs i x within is = rw (drop_here xs i x within is)

-- a loop over items with their numbers
pub ruleset numbered = (enumerate_here)

-- how many of them there are
pub length-columns_meant : (columns : List (Option NumberedColumn)) → length (columns_meant columns) ≡ length columns
length-columns_meant columns = length-map columns (option_map column_of)

pub ruleset lengths = (length-columns_meant)

-- whether each is there
pub list_all-columns_meant : (columns : List (Option NumberedColumn)) → list_all is_some (columns_meant columns) ≡ list_all is_some columns
list_all-columns_meant [] = refl
list_all-columns_meant (None ∷ columns) = refl
list_all-columns_meant (Some column ∷ columns) = rw (list_all-columns_meant columns)

-- the first that passes, of what is made of each
position_or_len-map : {A B : Type 0} (p : B → Bool) (f : A → B) (xs : List A) → position_or_len p (map f xs) ≡ position_or_len (λ x. p (f x)) xs
position_or_len-map p f [] = refl
position_or_len-map p f (x ∷ xs) = rw (position_or_len-map p f xs)

-- the place of the first that is of a number
pub place_of-columns_meant : (columns : List (Option NumberedColumn)) (number : ℕ)
    → place_of (columns_meant columns) number ≡ position (λ meant. is_of_number number (option_map column_of meant)) columns
unfolding place_of
place_of-columns_meant columns number = rw (position_or_len-map (is_of_number number) (option_map column_of) columns, length-columns_meant columns)
