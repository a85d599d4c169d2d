-- What holds where a CREATE TABLE isn't refused.
use Rattle.std.proofs.Common.{◌≡◌, ℕ, ◌+◌, ◌≤◌, List, [], ◌∷◌, ◌++◌, length, Bool, true, false, ltb, cond, refl}
use Rattle.std.specs.Prelude.{Option, Some, None}
use Rattle.std.specs.Option.{option_map, option_or}
use Rattle.std.specs.List.{AllByRecursion}
use Rattle.std.proofs.lemmas.Bool.{ltb-false}
use Rattle.own_model.specs.declared.create.CreateTable.{CreateTable}
use Rattle.own_model.specs.declared.limit.LimitName.TheVariants as limit
use Rattle.own_model.specs.declared.limit.TheConstants.{TABLES, TABLE_COLUMNS}
use Rattle.own_model.specs.declared.refusal.Refusal.TheVariants.{Cycle, Limit}
use Rattle.own_model.specs.declared.schema.Schema.{Schema}
use Rattle.owner_model.specs.Cycle.{Cycle as Closed, cycle_of}
use Rattle.schema_model.specs.Columns.{NameBytes, columns_of}
use Rattle.schema_model.specs.NewEdges.{new_edges}
use Rattle.schema_model.specs.Refusal.{broken, closed, first_broken, name_of, owned_rows, refusal_of, taken}
use Rattle.schema_model.specs.rules.ColumnsNotToRule.{columns_not_to_rule}
use Rattle.schema_model.specs.rules.MissingColumns.{missing_columns}
use Rattle.schema_model.specs.rules.MissingTables.{missing_tables}
use Rattle.schema_model.specs.rules.NotOnePrimaryKey.{not_one_primary_key}
use Rattle.schema_model.specs.rules.OwnedSubjects.{owned_subjects}
use Rattle.schema_model.specs.rules.PastTheKey.{past_the_key}
use Rattle.schema_model.specs.rules.PrimaryKeysThatRefer.{primary_keys_that_refer}
use Rattle.schema_model.specs.rules.RepeatedColumns.{repeated_columns}
use Rattle.schema_model.specs.rules.UnequalKinds.{unequal_kinds}

-- the causes that the laws read, none of which is there
pub record IsAdmitted (schema : Schema) (create : CreateTable) : Type 0 where
  pub one_primary_key : not_one_primary_key create ≡ []
  pub differ : repeated_columns create ≡ []
  pub there : missing_columns create ≡ []
  pub named : missing_tables schema create ≡ []
  pub keys : past_the_key schema create ≡ []
  pub kinds : unequal_kinds schema create ≡ []
  pub no_key : primary_keys_that_refer create ≡ []
  pub subjects : owned_subjects schema create ≡ []
  pub ruled : columns_not_to_rule schema create ≡ []
  pub acyclic : cycle_of (length schema.tables + 1) (schema.edges ++ new_edges schema create) ≡ None
  pub few_columns : length (columns_of create) ≤ TABLE_COLUMNS
  pub few_tables : length schema.tables + 1 ≤ TABLES

or_none : {T : Type 0} (one other : Option T) → option_or one other ≡ None → (one ≡ None) × (other ≡ None)
or_none None other none = (refl, none)
or_none (Some why) other none = let never : ⊥ = cc in absurd never

pub map_none : {T U : Type 0} (f : T → U) (o : Option T) → option_map f o ≡ None → o ≡ None
map_none f None none = refl
map_none f (Some x) none = cc

-- where no rule is broken, each has no name that breaks it
pub unbroken : (rule : ℕ) (rules : List (List NameBytes)) → first_broken rule rules ≡ None → AllByRecursion (λ names. names ≡ []) rules
unbroken rule [] none = tt
unbroken rule ([] ∷ rules) none = (refl, unbroken (rule + 1) rules none)
unbroken rule ((name ∷ names) ∷ rules) none = let never : ⊥ = cc in absurd never

tables_step : (tables : ℕ) → (b : Bool) → cond b (Some (Limit limit.Tables)) None ≡ None → ltb TABLES (tables + 1) ≡ b → tables + 1 ≤ TABLES
tables_step tables true none is = cc
tables_step tables false none is = ltb-false TABLES (tables + 1) is

columns_step : (columns tables : ℕ) → (b : Bool)
    → cond b (Some (Limit limit.Columns)) (cond (ltb TABLES (tables + 1)) (Some (Limit limit.Tables)) None) ≡ None → ltb TABLE_COLUMNS columns ≡ b
    → (columns ≤ TABLE_COLUMNS) × (tables + 1 ≤ TABLES)
columns_step columns tables true none is = let never : ⊥ = cc in absurd never
columns_step columns tables false none is = (ltb-false TABLE_COLUMNS columns is, tables_step tables _ none refl)

-- a CREATE that isn't refused is admitted
pub admitted : (schema : Schema) (holds_rows : ℕ → Bool) (create : CreateTable) → refusal_of schema holds_rows create ≡ None → IsAdmitted schema create
unfolding refusal_of broken
admitted schema holds_rows create none =
    let untaken = or_none (taken schema create) _ none in
    let rules = or_none (first_broken 1 (broken schema create)) _ untaken.1 in
    let walks = or_none (closed schema create) _ rules.1 in
    let rows = or_none (owned_rows schema holds_rows create) _ walks.1 in
    let each = unbroken 1 (broken schema create) rules.0 in
    let few = columns_step (length (columns_of create)) (length schema.tables) _ rows.1 refl in
    record {
      one_primary_key = each.0;
      differ = each.1.0;
      there = each.1.1.0;
      named = each.1.1.1.1.0;
      keys = each.1.1.1.1.1.0;
      kinds = each.1.1.1.1.1.1.0;
      no_key = each.1.1.1.1.1.1.1.0;
      subjects = each.1.1.1.1.1.1.1.1.0;
      ruled = each.1.1.1.1.1.1.1.1.1.1.1.1.0;
      acyclic = map_none (λ (cycle : Closed). Cycle (name_of schema create cycle.table) (name_of schema create cycle.through)) (cycle_of _ _) walks.0;
      few_columns = few.0;
      few_tables = few.1;
    }
