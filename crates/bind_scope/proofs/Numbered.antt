-- The items of lists by number.
use Rattle.std.proofs.Common.{◌≡◌, ℕ, zero, suc, ◌+◌, ◌-◌, ◌<◌, ◌≤◌, List, [], ◌∷◌, ◌++◌, None, Some, length, refl, arith}
use Rattle.std.specs.List.{slice_get, zip}
use Rattle.std.proofs.lemmas.Option.{slice_get-map}
use Rattle.std.proofs.lemmas.Slice.Zip.{length-zip}
use Rattle.own_model.specs.declared.schema.Kind.{Kind}
use Rattle.query_model.specs.Scope.{NameBytes, scope_from}
use Rattle.query_model.proofs.ViewLimits.{length-scope_from}

-- of two lists side by side: where both have the number
pub slice_get-zip : {A B : Type 0} (xs : List A) (ys : List B) (i : ℕ) (x : A) (y : B)
    → slice_get xs i ≡ Some x → slice_get ys i ≡ Some y → slice_get (zip xs ys) i ≡ Some (x, y)
slice_get-zip [] ys i x y one other = absurd (cc)
slice_get-zip (a ∷ xs) [] i x y one other = absurd (cc)
slice_get-zip (a ∷ xs) (b ∷ ys) zero x y one other = cc
slice_get-zip (a ∷ xs) (b ∷ ys) (suc i) x y one other = slice_get-zip xs ys i x y one other

-- where the first doesn't have it
pub slice_get-zip_left : {A B : Type 0} (xs : List A) (ys : List B) (i : ℕ) → slice_get xs i ≡ None → slice_get (zip xs ys) i ≡ None
slice_get-zip_left [] ys i none = refl
slice_get-zip_left (a ∷ xs) [] i none = refl
slice_get-zip_left (a ∷ xs) (b ∷ ys) zero none = absurd (cc)
slice_get-zip_left (a ∷ xs) (b ∷ ys) (suc i) none = slice_get-zip_left xs ys i none

-- where the second doesn't
pub slice_get-zip_right : {A B : Type 0} (xs : List A) (ys : List B) (i : ℕ) → slice_get ys i ≡ None → slice_get (zip xs ys) i ≡ None
slice_get-zip_right [] ys i none = refl
slice_get-zip_right (a ∷ xs) [] i none = refl
slice_get-zip_right (a ∷ xs) (b ∷ ys) zero none = absurd (cc)
slice_get-zip_right (a ∷ xs) (b ∷ ys) (suc i) none = slice_get-zip_right xs ys i none

-- side by side there are no more than in the first
pub length-zip_left : {A B : Type 0} (xs : List A) (ys : List B) → length (zip xs ys) ≤ length xs
length-zip_left xs ys = rw (length-zip xs ys) (omega arith)

-- columns of tables and of views by number, and how many there are
pub ruleset columns = (length-zip, slice_get-map, slice_get-zip, slice_get-zip_left, slice_get-zip_right, length-zip_left)

-- of one list behind another: a number of the first
pub slice_get-append : {A : Type 0} (xs ys : List A) (i : ℕ) → i < length xs → slice_get (xs ++ ys) i ≡ slice_get xs i
slice_get-append [] ys i within = absurd (omega arith)
slice_get-append (x ∷ xs) ys zero within = refl
slice_get-append (x ∷ xs) ys (suc i) within = slice_get-append xs ys i (omega arith)

-- a number past it
pub slice_get-append_past : {A : Type 0} (xs ys : List A) (i : ℕ) → length xs ≤ i → slice_get (xs ++ ys) i ≡ slice_get ys (i - length xs)
slice_get-append_past [] ys i past = let e : i - 0 ≡ i = omega arith in rw e
slice_get-append_past (x ∷ xs) ys zero past = absurd (omega arith)
slice_get-append_past (x ∷ xs) ys (suc i) past =
    let e : suc i - length (x ∷ xs) ≡ i - length xs = omega arith in rw e (slice_get-append_past xs ys i (omega arith))

-- the column of a number: it stands in the row so far behind the first
pub slice_get-scope_from : (number : ℕ) (table : NameBytes) (columns : List (NameBytes × Kind)) (i : ℕ) (column : NameBytes × Kind)
    → slice_get columns i ≡ Some column
    → slice_get (scope_from number table columns) i ≡ Some (record { table = table; column = column.0; number = number + i; kind = column.1 })
slice_get-scope_from number table [] i column there = absurd (cc)
slice_get-scope_from number table (first ∷ columns) zero column there = let e : number + 0 ≡ number = omega arith in cc
slice_get-scope_from number table (first ∷ columns) (suc i) column there =
    let e : number + 1 + i ≡ number + suc i = omega arith in rw (← e) (slice_get-scope_from (number + 1) table columns i column there)

-- a number past them
pub slice_get-scope_from_past : (number : ℕ) (table : NameBytes) (columns : List (NameBytes × Kind)) (i : ℕ)
    → slice_get columns i ≡ None → slice_get (scope_from number table columns) i ≡ None
slice_get-scope_from_past number table [] i past = refl
slice_get-scope_from_past number table (first ∷ columns) zero past = absurd (cc)
slice_get-scope_from_past number table (first ∷ columns) (suc i) past = slice_get-scope_from_past (number + 1) table columns i past

-- columns that can be named by number, and how many there are
pub ruleset scopes = (slice_get-append, slice_get-append_past, length-scope_from, slice_get-scope_from, slice_get-scope_from_past)
