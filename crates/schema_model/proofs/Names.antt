-- Names that differ.
use Rattle.std.proofs.Common.{◌≡◌, ℕ, zero, suc, List, [], ◌∷◌, ◌++◌, map, Bool, true, false, refl, ap}
use Rattle.std.specs.Prelude.{Some, slice_get, bytes_eq}
use Rattle.std.specs.List.{AllByRecursion, IsDistinct}
use Rattle.std.proofs.lemmas.Bool.{or_parts}
use Rattle.std.proofs.lemmas.List.Folds.{list_any-append}
use Rattle.std.proofs.lemmas.Slice.Eq.{bytes_eq-Decides}
use Rattle.own_model.specs.declared.schema.Column.{Column}
use Rattle.own_model.specs.declared.schema.TableDef.{TableDef}
use Rattle.schema_model.specs.Columns.{NameBytes, is_named}
use Rattle.schema_model.specs.OwnerSchema.{ColumnsDiffer}
use Rattle.schema_model.specs.rules.RepeatedColumns.{repeated_after}
use Rattle.schema_model.proofs.Places.{all-at, all-weaker, slice_get-in_map}

-- names that the test takes for equal are
pub same_name : (one other : NameBytes) → bytes_eq one other ≡ true → one ≡ other
same_name one other equal = (bytes_eq-Decides one other).0 equal

-- and it takes equal names for equal
pub equal_name : (one other : NameBytes) → one ≡ other → bytes_eq one other ≡ true
equal_name one other same = (bytes_eq-Decides one other).1 same

-- a name that none of a list and a name more is equal to
not_among : (before : List NameBytes) (name later : NameBytes) → is_named (before ++ name ∷ []) later ≡ false → (is_named before later ≡ false) × (bytes_eq name later ≡ false)
not_among before name later none =
    let parts = or_parts (is_named before later) (is_named (name ∷ []) later) (rw (list_any-append (λ other. bytes_eq other later) before (name ∷ [])) at none) in
    (parts.0, (or_parts (bytes_eq name later) false parts.1).0)

repeated_step : (before : List NameBytes) (name : NameBytes) (names : List NameBytes) → repeated_after before (name ∷ names) ≡ []
    → (b : Bool) → is_named before name ≡ b → (is_named before name ≡ false) × (repeated_after (before ++ name ∷ []) names ≡ [])
repeated_step before name names none true is = let never : ◌≡◌ {A = List NameBytes} (name ∷ repeated_after (before ++ name ∷ []) names) [] = rw is at none in cc
repeated_step before name names none false is = (is, rw is at none)

-- names of which none repeats one before it aren't among those before them
none_before : (before names : List NameBytes) → repeated_after before names ≡ [] → AllByRecursion (λ name. is_named before name ≡ false) names
none_before before [] none = tt
none_before before (name ∷ names) none =
    let step = repeated_step before name names none _ refl in (
      step.0,
      all-weaker (λ later. is_named (before ++ name ∷ []) later ≡ false) (λ later. is_named before later ≡ false)
          (λ later fresh. (not_among before name later fresh).0) names (none_before (before ++ name ∷ []) names step.1),
    )

-- and differ
distinct_after : (before names : List NameBytes) → repeated_after before names ≡ [] → IsDistinct bytes_eq names
unfolding IsDistinct
distinct_after before [] none = tt
distinct_after before (name ∷ names) none =
    let step = repeated_step before name names none _ refl in (
      all-weaker (λ later. is_named (before ++ name ∷ []) later ≡ false) (λ later. bytes_eq name later ≡ false)
          (λ later fresh. (not_among before name later fresh).1) names (none_before (before ++ name ∷ []) names step.1),
      distinct_after (before ++ name ∷ []) names step.1,
    )

-- names of which none repeats another differ
pub distinct-unrepeated : (names : List NameBytes) → repeated_after [] names ≡ [] → IsDistinct bytes_eq names
distinct-unrepeated names none = distinct_after [] names none

-- a name among ones that differ stands at one place
pub one_place : (names : List NameBytes) → IsDistinct bytes_eq names → (one other : ℕ) (name : NameBytes)
    → slice_get names one ≡ Some name → slice_get names other ≡ Some name → one ≡ other
unfolding IsDistinct
one_place [] distinct one other name is also = cc
one_place (first ∷ names) distinct zero zero name is also = refl
one_place (first ∷ names) distinct zero (suc other) name is also =
    let differs : bytes_eq first name ≡ false = all-at (λ later. bytes_eq first later ≡ false) names distinct.0 other name also in
    let equal : bytes_eq first name ≡ true = equal_name first name (cc) in cc
one_place (first ∷ names) distinct (suc one) zero name is also =
    let differs : bytes_eq first name ≡ false = all-at (λ later. bytes_eq first later ≡ false) names distinct.0 one name is in
    let equal : bytes_eq first name ≡ true = equal_name first name (cc) in cc
one_place (first ∷ names) distinct (suc one) (suc other) name is also = ap suc (one_place names distinct.1 one other name is also)

-- a column of a table is told by its name
pub one_column : (table : TableDef) → ColumnsDiffer table → (one other : ℕ) (column same : Column)
    → slice_get table.columns one ≡ Some column → slice_get table.columns other ≡ Some same → column.name ≡ same.name → one ≡ other
one_column table differ one other column same is also equal =
    one_place (map (λ column. column.name) table.columns) differ one other column.name
    (slice_get-in_map (λ column. column.name) table.columns one column is)
    (rw equal (slice_get-in_map (λ column. column.name) table.columns other same also))
