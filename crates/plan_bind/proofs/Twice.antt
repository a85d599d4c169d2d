-- A column list that names a column twice.
use Rattle.std.proofs.Common.{◌≡◌, ℕ, ◌+◌, ◌<◌, Bool, true, false, ◌&&◌, List, [], ◌∷◌, ◌++◌, Option, None, Some, is_some, map, length, get_or, take, drop, bytes_eq, if◌then◌else◌, refl, ◌∙◌, lit≤}
use Rattle.std.specs.List.{flat_map, list_all, list_any}
use Rattle.std.specs.Option.{option_map_or}
use Rattle.std.proofs.lemmas.List.{take_more}
use Rattle.std.proofs.lemmas.List.Sums.{fold-append}
use Rattle.own_model.specs.declared.refusal.Refusal.{Refusal}
use Rattle.own_model.specs.declared.refusal.Refusal.TheVariants.{Count, NoColumn}
use Rattle.own_model.specs.declared.schema.Column.{Column as Definition}
use Rattle.own_model.specs.declared.schema.TableDef.{TableDef}
use Rattle.query_model.specs.Refused.{sooner}
use Rattle.query_model.specs.Scope.{NameBytes}
use Rattle.query_model.specs.WriteFaults.{column_in, not_a_column, twice}
use Rattle.bind_scope.specs.After.{after}
use Rattle.bind_scope.proofs.Lookups.{drop_here}
use Rattle.plan_bind.specs.ColumnList.{columns_meant}
use Rattle.plan_bind.specs.declared.numbered_column.NumberedColumn.{NumberedColumn}
use Rattle.plan_bind.proofs.ColumnLists.{list_all-columns_meant}
use Rattle.plan_bind.specs.IsNoted.{IsNoted}
use Rattle.plan_bind.proofs.Ranks.{kept_after, kept_new, kept_sooner_than, sooner_stays}

-- the names from one number on that stand before too: this one, and those behind it
pub twice_here : (names : List NameBytes) (i : ℕ) (name : NameBytes) → i < length names → name ≡ get_or names i name
    → twice (take i names) (drop i names)
    ≡ (if list_any (λ other. bytes_eq other name) (take i names) then Count 2 1 ∷ [] else []) ++ twice (take (i + 1) names) (drop (i + 1) names)
twice_here names i name within is = rw (drop_here names i name within is, take_more names i name within, ← is)

-- one fault of them, where one of its rank or sooner is kept
passed_over : (kept : Option Refusal) (here : Bool) (faults : List Refusal) → IsNoted 5 kept
    → after kept ((if here then Count 2 1 ∷ [] else []) ++ faults) ≡ after kept faults
passed_over kept true faults is = rw (sooner_stays 5 kept (Count 2 1) is (lit≤ tt))
passed_over kept false faults is = refl

-- all of them
pub after_twice : (kept : Option Refusal) (before names : List NameBytes) → IsNoted 5 kept → after kept (twice before names) ≡ kept
after_twice kept before [] is = refl
after_twice kept before (name ∷ names) is =
    passed_over kept (list_any (λ other. bytes_eq other name) before) (twice (before ++ name ∷ []) names) is ∙ after_twice kept (before ++ name ∷ []) names is

-- the first of them is enough
pub twice_once : (kept : Option Refusal) (before names : List NameBytes) → after (sooner kept (Count 2 1)) (twice before names) ≡ sooner kept (Count 2 1)
twice_once kept before names = after_twice (sooner kept (Count 2 1)) before names (kept_new 5 kept (Count 2 1) (lit≤ tt))

-- one name that means no column is noted
unknown_here : (kept : Option Refusal) (name : NameBytes) (found : Option (ℕ × Definition)) (others : Bool) (faults : List Refusal)
    → (is_some found && others) ≡ false → (others ≡ false → IsNoted 3 (after kept faults))
    → IsNoted 3 (after kept (option_map_or (λ column. []) found (NoColumn name ∷ []) ++ faults))
unknown_here kept name None others faults some later = kept_after 3 (sooner kept (NoColumn name)) faults (kept_new 3 kept (NoColumn name) (lit≤ tt))
unknown_here kept name (Some column) others faults some later = later some

-- where some name means none
pub after_unknown : (table : TableDef) (names : List NameBytes) (kept : Option Refusal) → list_all is_some (map (column_in table) names) ≡ false
    → IsNoted 3 (after kept (flat_map (not_a_column table) names))
after_unknown table [] kept some = absurd (cc)
after_unknown table (name ∷ names) kept some =
    unknown_here kept name (column_in table name) (list_all is_some (map (column_in table) names)) (flat_map (not_a_column table) names) some (after_unknown table names kept)

-- where some name means no column, it is not looked whether one stands twice
pub twice_unknown : (table : TableDef) (names : List NameBytes) (kept : Option Refusal) (columns : List (Option NumberedColumn))
    → columns_meant columns ≡ map (column_in table) names → list_all is_some columns ≡ false
    → after kept (flat_map (not_a_column table) names ++ twice [] names) ≡ after kept (flat_map (not_a_column table) names)
twice_unknown table names kept columns found some = let each : list_all is_some (map (column_in table) names) ≡ false = rw (← found, list_all-columns_meant) some in
    fold-append sooner kept (flat_map (not_a_column table) names) (twice [] names)
    ∙ after_twice (after kept (flat_map (not_a_column table) names)) [] names (kept_sooner_than 3 5 (after kept (flat_map (not_a_column table) names)) (lit≤ tt) (after_unknown table names kept each))
