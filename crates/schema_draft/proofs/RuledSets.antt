-- Sets of a table's columns that have one of some names, as they grow by a column and by a rule.
use Rattle.std.proofs.Common.{◌≡◌, ◌<◌, ◌≤◌, ◌+◌, ◌*◌, ◌%◌, ◌^◌, ℕ, zero, suc, Bool, true, false, cond, List, [], ◌∷◌, ◌++◌, length, take, get_or, map, filter, Option, None, Some, refl, sym, ap, ◌∙◌, if◌then◌else◌, bytes_eq, slice_get, bit_or, arith}
use Rattle.std.specs.Prelude.{◌==◌, ◌&&◌, ◌||◌}
use Rattle.std.specs.List.{flat_map}
use Rattle.std.specs.Option.{option_map_or}
use Rattle.std.proofs.Math.Bool.{and-true, or-false}
use Rattle.std.proofs.Math.Dec.{eqb-suc-suc, eqb-suc-zero, eqb-zero-suc}
use Rattle.std.proofs.lemmas.Bool.{and_right, ne_eqb}
use Rattle.std.proofs.lemmas.Grind.{flat_map-append}
use Rattle.std.proofs.lemmas.List.{append-nil, length-take-le, map-append, take_more}
use Rattle.std.proofs.lemmas.List.Elements.{filter-append}
use Rattle.std.proofs.lemmas.List.Folds.{list_any-append}
use Rattle.own_model.specs.declared.schema.Column.{Column}
use Rattle.own_model.specs.declared.schema.TableDef.{TableDef}
use Rattle.owner_model.specs.ColumnSets.{set_of}
use Rattle.owner_model.proofs.ColumnSetLemmas.{set_of-add_shl, set_of-none, set_of-or, set_of-same}
use Rattle.schema_model.specs.Columns.{NameBytes, is_named}
use Rattle.schema_model.specs.NewEdges.{has_name_of, set_named}
use Rattle.schema_model.specs.OnRules.{OnRule}
use Rattle.schema_draft.specs.declared.draft.OnRule.{OnRule as LentRule}

-- a column that is wanted and that a set can have
pub set_of-wanted : (had : ℕ → Bool) (wanted : Bool) (number : ℕ) → wanted ≡ true → number < 32
    → record { 0 = bit_or (set_of had).0 (1 * 2 ^ number % 2 ^ 32) } ≡ set_of (λ other. had other || (wanted && other == number))
set_of-wanted had wanted number is within = set_of-add_shl had number within ∙ ap (λ wanted. set_of (λ other. had other || (wanted && other == number))) (sym is)

-- one that isn't wanted
pub set_of-unwanted : (had : ℕ → Bool) (wanted : Bool) (number : ℕ) → wanted ≡ false → set_of had ≡ set_of (λ other. had other || (wanted && other == number))
set_of-unwanted had wanted number is =
    set_of-same had (λ other. had other || (false && other == number)) (λ other within. sym (or-false (had other)))
    ∙ ap (λ wanted. set_of (λ other. had other || (wanted && other == number))) (sym is)

-- one past the last that a set can have
pub set_of-past : (had : ℕ → Bool) (wanted : Bool) (number : ℕ) → 32 ≤ number → set_of had ≡ set_of (λ other. had other || (wanted && other == number))
set_of-past had wanted number past =
    set_of-same had (λ other. had other || (wanted && other == number)) (λ other within.
    sym (ap (λ last. had other || last) (and_right wanted (other == number) (ne_eqb other number (λ e. absurd (omega arith)))) ∙ or-false (had other)))

-- whether the column of this number has one of these names
abbrev pub has_one_of : List NameBytes → List Column → ℕ → Bool
has_one_of names columns number = option_map_or (λ column. is_named names column.name) (slice_get columns number) false

-- with one column more
has_one_of-push : (names : List NameBytes) (columns : List Column) (column : Column) (number : ℕ)
    → has_one_of names (columns ++ column ∷ []) number ≡ (has_one_of names columns number || (is_named names column.name && number == length columns))
has_one_of-push names [] column zero = sym (and-true (is_named names column.name))
has_one_of-push names [] column (suc number) = sym (and_right (is_named names column.name) (suc number == 0) (eqb-suc-zero number))
has_one_of-push names (first ∷ columns) column zero =
    sym (ap (λ last. is_named names first.name || last) (and_right (is_named names column.name) (0 == suc (length columns)) (eqb-zero-suc (length columns))) ∙ or-false (is_named names first.name))
has_one_of-push names (first ∷ columns) column (suc number) =
    has_one_of-push names columns column number
    ∙ ap (λ last. has_one_of names columns number || (is_named names column.name && last)) (sym (eqb-suc-suc number (length columns)))

-- the set of the columns that have one of these names, with one column more
pub set_of-push : (names : List NameBytes) (columns : List Column) (number : ℕ) (column : Column) → number < length columns → column ≡ get_or columns number column
    → set_of (λ other. has_one_of names (take number columns) other || (is_named names column.name && other == number)) ≡ set_of (has_one_of names (take (number + 1) columns))
set_of-push names columns number column within is = set_of-same _ _ (λ other small.
    ap (λ len. has_one_of names (take number columns) other || (is_named names column.name && other == len)) (sym (length-take-le number columns (omega arith)))
    ∙ sym (has_one_of-push names (take number columns) column other)
    ∙ ap (λ front. has_one_of names front other) (sym (take_more columns number column within ∙ ap (λ last. take number columns ++ last ∷ []) (sym is))))

-- no column
pub set_of-nothing : (names : List NameBytes) → record { 0 = 0 } ≡ set_of (has_one_of names [])
set_of-nothing names = set_of-none

-- no name
pub set_named-nil : (table : TableDef) → record { 0 = 0 } ≡ set_named (Some table) []
set_named-nil table = set_of-none ∙ set_of-same (λ _. false) (has_name_of (Some table) []) (λ number within. by (slice_get table.columns number))
  where
    by : (column : Option Column) → false ≡ option_map_or (λ column. is_named [] column.name) column false
    by None = refl
    by (Some column) = refl

-- the columns that have one of some names, or of others
pub set_named-append : (table : TableDef) (one other : List NameBytes)
    → record { 0 = bit_or (set_named (Some table) one).0 (set_named (Some table) other).0 } ≡ set_named (Some table) (one ++ other)
set_named-append table one other =
    set_of-or (has_name_of (Some table) one) (has_name_of (Some table) other)
    ∙ set_of-same (λ number. has_name_of (Some table) one number || has_name_of (Some table) other number) (has_name_of (Some table) (one ++ other)) (λ number within. by (slice_get table.columns number))
  where
    by : (column : Option Column) → (option_map_or (λ column. is_named one column.name) column false || option_map_or (λ column. is_named other column.name) column false)
        ≡ option_map_or (λ column. is_named (one ++ other) column.name) column false
    by None = refl
    by (Some column) = sym (list_any-append (λ name. bytes_eq name column.name) one other)

-- the names of the rules that pass, with one rule more
pub ruled-push : (passes : OnRule → Bool) (seen : LentRule → OnRule) (rules : List LentRule) (number : ℕ) (rule : LentRule) → number < length rules → rule ≡ get_or rules number rule
    → flat_map (λ rule. rule.ruled) (filter passes (map seen (take number rules))) ++ (if passes (seen rule) then (seen rule).ruled else [])
    ≡ flat_map (λ rule. rule.ruled) (filter passes (map seen (take (number + 1) rules)))
ruled-push passes seen rules number rule within is = sym (
    ap (λ front. flat_map (λ rule. rule.ruled) (filter passes (map seen front))) (take_more rules number rule within ∙ ap (λ last. take number rules ++ last ∷ []) (sym is))
    ∙ ap (λ front. flat_map (λ rule. rule.ruled) (filter passes front)) (map-append seen (take number rules) (rule ∷ []))
    ∙ ap (flat_map (λ rule. rule.ruled)) (filter-append passes (map seen (take number rules)) (seen rule ∷ []))
    ∙ flat_map-append (λ rule. rule.ruled) (filter passes (map seen (take number rules))) (filter passes (seen rule ∷ []))
    ∙ ap (λ last. flat_map (λ rule. rule.ruled) (filter passes (map seen (take number rules))) ++ last) (by (passes (seen rule))))
  where
    by : (pass : Bool) → flat_map (λ rule. rule.ruled) (cond pass (seen rule ∷ []) []) ≡ (if pass then (seen rule).ruled else [])
    by true = append-nil (seen rule).ruled
    by false = refl
