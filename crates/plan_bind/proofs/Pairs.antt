-- A loop over two lists side by side.
use Rattle.std.proofs.Common.{◌≡◌, ◌⊎◌, inl, inr, List, [], ◌∷◌, Option, refl}
use Rattle.std.specs.List.{zip}
use Rattle.plan_bind.specs.ColumnList.{columns_meant}
use Rattle.plan_bind.specs.declared.numbered_column.NumberedColumn.{NumberedColumn}

zip-nil : {A B : Type 0} (xs : List A) → zip xs (let none : List B = [] in none) ≡ []
zip-nil [] = refl
zip-nil (x ∷ xs) = refl

-- where one of them has come to its end, no pairs are left
pub no_pairs : {B : Type 0} (columns : List (Option NumberedColumn)) (values : List B) → (columns ≡ []) ⊎ (values ≡ []) → zip (columns_meant columns) values ≡ []
no_pairs columns values (inl none) = rw none
no_pairs columns values (inr none) = rw none (zip-nil (columns_meant columns))
