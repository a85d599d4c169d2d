-- Why a CREATE TABLE is refused.
use Rattle.std.specs.Prelude.{ℕ, ◌+◌, List, [], ◌∷◌, ◌++◌, Bool, ◌&&◌, Option, None, Some, find, length, nat_lt, option_map, slice_get, if◌then◌else◌}
use Rattle.std.specs.Option.{option_map_or, option_or}
use Rattle.own_model.specs.declared.create.CreateTable.{CreateTable}
use Rattle.own_model.specs.declared.limit.LimitName.TheVariants as limit
use Rattle.own_model.specs.declared.limit.TheConstants.{TABLES, TABLE_COLUMNS}
use Rattle.own_model.specs.declared.refusal.Refusal.{Refusal as Why}
use Rattle.own_model.specs.declared.refusal.Refusal.TheVariants.{BadSchema, Cycle, HasRows, Limit, NameTaken}
use Rattle.own_model.specs.declared.schema.Schema.{Schema}
use Rattle.owner_model.specs.Cycle.{cycle_of}
use Rattle.schema_model.specs.Columns.{NameBytes, columns_of}
use Rattle.schema_model.specs.Kinds.{is_owns}
use Rattle.schema_model.specs.NewEdges.{new_edges}
use Rattle.schema_model.specs.NewTable.{tables_with}
use Rattle.schema_model.specs.References.{references_of}
use Rattle.schema_model.specs.Tables.{is_taken, number_of}
use Rattle.schema_model.specs.rules.ColumnsNotToRule.{columns_not_to_rule}
use Rattle.schema_model.specs.rules.MisplacedRules.{misplaced_rules}
use Rattle.schema_model.specs.rules.MissingColumns.{missing_columns}
use Rattle.schema_model.specs.rules.MissingTables.{missing_tables}
use Rattle.schema_model.specs.rules.NotOnePrimaryKey.{not_one_primary_key}
use Rattle.schema_model.specs.rules.OwnedByPublic.{owned_by_public}
use Rattle.schema_model.specs.rules.OwnedSubjects.{owned_subjects}
use Rattle.schema_model.specs.rules.OwnersWithoutOwner.{owners_without_owner}
use Rattle.schema_model.specs.rules.PastTheKey.{past_the_key}
use Rattle.schema_model.specs.rules.PrimaryKeysThatRefer.{primary_keys_that_refer}
use Rattle.schema_model.specs.rules.RepeatedColumns.{repeated_columns}
use Rattle.schema_model.specs.rules.RowsStruckByAccess.{rows_struck_by_access}
use Rattle.schema_model.specs.rules.SecondReferences.{second_references}
use Rattle.schema_model.specs.rules.UnequalKinds.{unequal_kinds}

-- the name of a table or a view, where it is taken
abbrev pub taken : Schema → CreateTable → Option Why
taken schema create = if is_taken schema create.name then Some (NameTaken create.name) else None

-- the names that break each rule, from rule 1 on
unfoldable pub broken : Schema → CreateTable → List (List NameBytes)
broken schema create =
    not_one_primary_key create
    ∷ repeated_columns create
    ∷ missing_columns create
    ∷ second_references create
    ∷ missing_tables schema create
    ∷ past_the_key schema create
    ∷ unequal_kinds schema create
    ∷ primary_keys_that_refer create
    ∷ owned_subjects schema create
    ∷ owned_by_public schema create
    ∷ owners_without_owner create
    ∷ misplaced_rules create
    ∷ columns_not_to_rule schema create
    ∷ rows_struck_by_access create
    ∷ []

-- the first of these rules that is broken, counted from this number on, with the first name that breaks it
abbrev pub first_broken : ℕ → List (List NameBytes) → Option Why
first_broken rule [] = None
first_broken rule ([] ∷ rules) = first_broken (rule + 1) rules
first_broken rule ((name ∷ names) ∷ rules) = Some (BadSchema rule name)

-- the name of the table of this number, the new one counted
abbrev pub name_of : Schema → CreateTable → ℕ → NameBytes
name_of schema create table = option_map_or (λ definition. definition.name) (slice_get (tables_with schema create) table) []

-- the cycle that the edges would have with the new ones
abbrev pub closed : Schema → CreateTable → Option Why
closed schema create = option_map (λ cycle. Cycle (name_of schema create cycle.table) (name_of schema create cycle.through))
    (cycle_of (length schema.tables + 1) (schema.edges ++ new_edges schema create))

-- the first table that an OWNS column names and that holds rows, by which tables do
abbrev pub owned_rows : Schema → (ℕ → Bool) → CreateTable → Option Why
owned_rows schema holds_rows create = option_map (λ reference. HasRows reference.refers.table)
    (find (λ reference. is_owns reference.refers.kind && holds_rows (number_of schema reference.refers.table)) (references_of create))

-- more columns than a table may have, or a table more than a store may have
abbrev pub past_limits : Schema → CreateTable → Option Why
past_limits schema create = if nat_lt TABLE_COLUMNS (length (columns_of create)) then Some (Limit limit.Columns)
    else if nat_lt TABLES (length schema.tables + 1) then Some (Limit limit.Tables)
    else None

-- The first cause for which a CREATE TABLE is refused over a schema, by which tables hold rows; none where it is admitted.
unfoldable pub refusal_of : Schema → (ℕ → Bool) → CreateTable → Option Why
refusal_of schema holds_rows create = option_or (taken schema create) (option_or (first_broken 1 (broken schema create))
    (option_or (closed schema create) (option_or (owned_rows schema holds_rows create) (past_limits schema create))))
