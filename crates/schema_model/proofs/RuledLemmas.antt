-- What the edges of an admitted CREATE TABLE rule ON DEL.
use Rattle.std.proofs.Common.{◌≡◌, ℕ, ◌<◌, ◌≤◌, List, [], length, Bool, true, false, ◌&&◌, not, inl, inr, refl, ap, sym, ◌∙◌}
use Rattle.std.specs.Prelude.{◌⊎◌, Option, Some, None, slice_get, IsTrue, filter, position, bytes_eq}
use Rattle.std.specs.Option.{option_map_or}
use Rattle.std.proofs.lemmas.Bool.{and_parts, cases_lt, cond-false, cond-true, not-false, or_cases}
use Rattle.own_model.specs.declared.create.CreateTable.{CreateTable}
use Rattle.own_model.specs.declared.schema.Column.{Column}
use Rattle.own_model.specs.declared.schema.Edge.{Edge}
use Rattle.own_model.specs.declared.schema.Schema.{Schema}
use Rattle.own_model.specs.declared.schema.TableDef.{TableDef}
use Rattle.owner_model.specs.ColumnSets.{has_column}
use Rattle.owner_model.proofs.ColumnSetLemmas.{has_column-set_of, has_column-set_of_above}
use Rattle.schema_model.specs.Columns.{NameBytes, is_named}
use Rattle.schema_model.specs.Kinds.{gives_edge, is_upward}
use Rattle.schema_model.specs.NewEdges.{has_name_of, new_edge, set_named}
use Rattle.schema_model.specs.NewTable.{new_table, tables_with, target_of}
use Rattle.schema_model.specs.OnRules.{Effect, OnRule, edge_on, is_blank, rules_of, ruled_by}
use Rattle.schema_model.specs.OwnerSchema.{ColumnsDiffer}
use Rattle.schema_model.specs.References.{Reference, references_of}
use Rattle.schema_model.specs.Tables.{is_subject, number_of}
use Rattle.schema_model.specs.WithTable.{with_table}
use Rattle.schema_model.specs.rules.ColumnsNotToRule.{columns_not_to_rule, has_open_column, is_open, lower_table, may_rule, may_rule_itself, not_to_rule_by}
use Rattle.schema_model.specs.rules.OwnedSubjects.{names_subjects}
use Rattle.schema_model.proofs.Admitted.{IsAdmitted}
use Rattle.schema_model.proofs.Found.{find-narrower, position-some}
use Rattle.schema_model.proofs.Names.{one_column, same_name}
use Rattle.schema_model.proofs.NewColumns.{IsReferring, referring}
use Rattle.schema_model.proofs.NewEdgeLemmas.{IsNewEdge, lower_down, lower_up, upper_up}
use Rattle.schema_model.proofs.Places.{IsIn, all-at, any-place, filter-none, filter-passes, flat_map-none, in_filter, in_flat_map, slice_get-push}
use Rattle.schema_model.proofs.Targets.{target-at, target-there}

-- a set of columns that have names has only such
named_case : (table : Option TableDef) (names : List NameBytes) (column : ℕ) → has_column (set_named table names) column ≡ true
    → (column < 32) ⊎ (32 ≤ column) → has_name_of table names column ≡ true
named_case table names column has (inl within) = sym (has_column-set_of (has_name_of table names) column within) ∙ has
named_case table names column has (inr above) = let none = has_column-set_of_above (has_name_of table names) column above in cc

-- a column of a table, by its number, whose name is one of these
pub record IsNamed (table : TableDef) (names : List NameBytes) (number : ℕ) : Type 0 where
  pub column : Column
  pub column_is : slice_get table.columns number ≡ Some column
  pub among : IsIn names column.name

column_step : (table : TableDef) (names : List NameBytes) (number : ℕ) (o : Option Column) → slice_get table.columns number ≡ o
    → option_map_or (λ column. is_named names column.name) o false ≡ true → IsNamed table names number
column_step table names number None is named = let never : ⊥ = cc in absurd never
column_step table names number (Some column) is named =
    let there = any-place (λ other. bytes_eq other column.name) names named in
    record { column = column; column_is = is; among = (there.1.0, there.1.1 ∙ ap (λ name. Some name) (same_name there.0 column.name there.2)) }

-- a column that such a set has is one
pub named-in_set : (table : TableDef) (names : List NameBytes) (number : ℕ) → has_column (set_named (Some table) names) number ≡ true → IsNamed table names number
named-in_set table names number has =
    column_step table names number (slice_get table.columns number) refl (named_case (Some table) names number has (cases_lt number 32))

-- what the rules of one effect on a column name, some such rule does
pub ruled_by-rule : (is_effect : Effect → Bool) (create : CreateTable) (column name : NameBytes) → IsIn (ruled_by is_effect create column) name
    → (rule : OnRule) × IsIn (rules_of create) rule × (rule.column ≡ column) × IsIn rule.ruled name
ruled_by-rule is_effect create column name among =
    let kept = in_flat_map (λ rule. rule.ruled) (filter (λ rule. is_effect rule.effect && bytes_eq rule.column column) (rules_of create)) name among in
    let passes = filter-passes (λ rule. is_effect rule.effect && bytes_eq rule.column column) (rules_of create) kept.0 kept.1 in (
      kept.0,
      in_filter (λ rule. is_effect rule.effect && bytes_eq rule.column column) (rules_of create) kept.0 kept.1,
      same_name kept.0.column column (and_parts (is_effect kept.0.effect) (bytes_eq kept.0.column column) passes).1,
      kept.2,
    )

-- a rule on a column that has an edge names only what it may
rule_step : (schema : Schema) (create : CreateTable) (rule : OnRule) (reference : Reference) → edge_on create rule.column ≡ Some reference
    → not_to_rule_by schema create rule ≡ [] → (name : NameBytes) → IsIn rule.ruled name → may_rule schema create reference name ≡ true
rule_step schema create rule reference on none name among =
    let kept : filter (λ name. not (may_rule schema create reference name)) rule.ruled ≡ [] = rw on at none in
    let each = filter-none (λ name. not (may_rule schema create reference name)) rule.ruled kept in
    not-false _ (all-at (λ name. not (may_rule schema create reference name) ≡ false) rule.ruled each among.0 name among.1)

may_be_ruled : (schema : Schema) (create : CreateTable) (rule : OnRule) (reference : Reference) → columns_not_to_rule schema create ≡ []
    → IsIn (rules_of create) rule → edge_on create rule.column ≡ Some reference → (name : NameBytes) → IsIn rule.ruled name → may_rule schema create reference name ≡ true
unfolding columns_not_to_rule
may_be_ruled schema create rule reference none among on name named =
    let each = flat_map-none (not_to_rule_by schema create) (rules_of create) none in
    rule_step schema create rule reference on (all-at (λ rule. not_to_rule_by schema create rule ≡ []) (rules_of create) each among.0 rule among.1) name named

open_step : (name : NameBytes) (table : TableDef) (o : Option ℕ) → position (λ column. bytes_eq column.name name) table.columns ≡ o
    → option_map_or (is_open table) o false ≡ true → (number : ℕ) (column : Column) → slice_get table.columns number ≡ Some column → column.name ≡ name
    → ColumnsDiffer table → is_open table number ≡ true
open_step name table None at opens number column is equal differ = let never : ⊥ = cc in absurd never
open_step name table (Some first) at opens number column is equal differ =
    let there = position-some (λ column. bytes_eq column.name name) table.columns first at in
    let same = one_column table differ first number there.0 column there.1 is (same_name there.0.name name there.2 ∙ sym equal) in
    rw same at opens

-- a table that has an opens column of a name has it where a column of that name stands
pub open-at : (name : NameBytes) (table : TableDef) (number : ℕ) (column : Column) → ColumnsDiffer table → has_open_column name table ≡ true
    → slice_get table.columns number ≡ Some column → column.name ≡ name → is_open table number ≡ true
open-at name table number column differ opens is equal = open_step name table _ refl opens number column is equal differ

-- where there is a table of data subjects, there is a table
test_step : (o : Option TableDef) → option_map_or (λ table. table.subject) o false ≡ true → (table : TableDef) × (o ≡ Some table) × (table.subject ≡ true)
test_step None is = let never : ⊥ = cc in absurd never
test_step (Some table) is = (table, refl, is)

-- a reference that names data subjects does so in the schema with the new table
subjects_named : (schema : Schema) (create : CreateTable) (reference : Reference) → names_subjects schema create reference ≡ true
    → is_subject (with_table schema create) (number_of schema reference.refers.table) ≡ true
unfolding with_table
subjects_named schema create reference names =
    let there = test_step (target_of schema create reference.refers) names in
    ap (λ o. option_map_or (λ table. table.subject) o false) (target-at schema create reference.refers there.0 there.1) ∙ there.2

-- What an edge of the new table rules ON DEL is open, or its own column, and then the edge leads up to data subjects.
abbrev pub IsRuledWell : (schema : Schema) (create : CreateTable) (ruling : Edge) → IsNewEdge schema create ruling → TableDef → ℕ → Type 0
IsRuledWell schema create ruling by lower number = (is_open lower number ≡ true)
    ⊎ ((is_upward by.from.kind ≡ true) × (number ≡ by.from.column) × IsTrue (is_subject (with_table schema create) ruling.upper.0))

module _ (schema : Schema) (create : CreateTable) (admitted : IsAdmitted schema create) (ruling : Edge) (by : IsNewEdge schema create ruling) where
  -- the reference that gives the edge
  pub reference_of_edge : IsReferring schema create by.from.column by.column (by.from.kind, by.from.target)
  reference_of_edge = referring schema create by.from.column by.column (by.from.kind, by.from.target) by.column_is by.gives.refers

  -- it is of the edge's kind
  pub kind_of_edge : by.from.kind ≡ reference_of_edge.reference.refers.kind
  kind_of_edge = ap (λ link. link.0) reference_of_edge.link_is

  -- and names the edge's table
  pub target_of_edge : by.from.target.0 ≡ number_of schema reference_of_edge.reference.refers.table
  target_of_edge = ap (λ link. link.1.0) reference_of_edge.link_is

  -- a rule on the edge's column stands on that reference
  edge_on-rule : (rule : OnRule) → rule.column ≡ by.from.name → edge_on create rule.column ≡ Some reference_of_edge.reference
  edge_on-rule rule is =
      let name : rule.column ≡ by.column.name = is ∙ by.gives.name in
      let own : gives_edge reference_of_edge.reference.refers.kind ≡ true = rw (← kind_of_edge) by.gives.gives in
      ap (edge_on create) name
      ∙ find-narrower (λ reference. bytes_eq reference.column by.column.name) (λ reference. gives_edge reference.refers.kind) (references_of create) reference_of_edge.reference
      reference_of_edge.found own

  -- the lower table that the rules are read over is the edge's
  lower_case : (lower : TableDef) → slice_get (tables_with schema create) ruling.lower.0 ≡ Some lower → (b : Bool) → is_upward by.from.kind ≡ b
      → lower_table schema create reference_of_edge.reference ≡ Some lower
  lower_case lower is true up =
      let own : is_upward reference_of_edge.reference.refers.kind ≡ true = rw (← kind_of_edge) up in
      let at : slice_get (tables_with schema create) (length schema.tables) ≡ Some lower = rw (lower_up schema create ruling by up) at is in
      cond-true _ (Some (new_table schema create)) _ own ∙ sym (slice_get-push schema.tables (new_table schema create)) ∙ at
  lower_case lower is false down =
      let own : is_upward reference_of_edge.reference.refers.kind ≡ false = rw (← kind_of_edge) down in
      let there = target-there schema create reference_of_edge.reference admitted.named reference_of_edge.among in
      let at = target-at schema create reference_of_edge.reference.refers there.0 there.1 in
      let number : ruling.lower.0 ≡ number_of schema reference_of_edge.reference.refers.table = ap (λ table. table.0) (lower_down schema create ruling by down) ∙ target_of_edge in
      let there_is = there.1 in
      let place : slice_get (tables_with schema create) (number_of schema reference_of_edge.reference.refers.table) ≡ Some lower = rw number at is in
      cond-false _ (Some (new_table schema create)) _ own ∙ (cc)

  -- what the set of the edge's ON DEL rules has, is named by one of them
  ruled_name : (lower : TableDef) (number : ℕ) → slice_get (tables_with schema create) ruling.lower.0 ≡ Some lower → has_column ruling.del number ≡ true
      → IsNamed lower (ruled_by is_blank create by.from.name) number
  unfolding new_edge
  ruled_name lower number is has =
      let del : ruling.del ≡ set_named (slice_get (tables_with schema create) ruling.lower.0) (ruled_by is_blank create by.from.name) =
      ap (λ edge. edge.del) by.edge_is ∙ ap (λ lower. set_named (slice_get (tables_with schema create) lower.0) (ruled_by is_blank create by.from.name)) (ap (λ edge. edge.lower) (sym by.edge_is)) in
      named-in_set lower (ruled_by is_blank create by.from.name) number (rw (del, is) at has)

  -- a column that a rule may name as its own is the edge's, and the edge leads up to data subjects
  own_case : (lower : TableDef) (number : ℕ) (column : Column) → slice_get (tables_with schema create) ruling.lower.0 ≡ Some lower → ColumnsDiffer lower
      → slice_get lower.columns number ≡ Some column → bytes_eq column.name reference_of_edge.reference.column ≡ true
      → (is_upward reference_of_edge.reference.refers.kind ≡ true) × (names_subjects schema create reference_of_edge.reference ≡ true)
      → (is_upward by.from.kind ≡ true) × (number ≡ by.from.column) × IsTrue (is_subject (with_table schema create) ruling.upper.0)
  own_case lower number column is differ column_is equal own =
      let up : is_upward by.from.kind ≡ true = ap is_upward kind_of_edge ∙ own.0 in
      let at : slice_get (tables_with schema create) (length schema.tables) ≡ Some lower = rw (lower_up schema create ruling by up) at is in
      let new = slice_get-push schema.tables (new_table schema create) in
      let same : new_table schema create ≡ lower = cc in
      let there : slice_get lower.columns by.from.column ≡ Some by.column = rw same at by.column_is in
      let name : column.name ≡ by.column.name = same_name column.name reference_of_edge.reference.column equal ∙ reference_of_edge.own in
      let upper : ruling.upper.0 ≡ number_of schema reference_of_edge.reference.refers.table = ap (λ table. table.0) (upper_up schema create ruling by up) ∙ target_of_edge in
      (up, one_column lower differ number by.from.column column by.column column_is there name, rw upper (subjects_named schema create reference_of_edge.reference own.1))

  -- each column that the edge rules ON DEL is ruled well
  pub ruled_well : (lower : TableDef) (number : ℕ) → slice_get (tables_with schema create) ruling.lower.0 ≡ Some lower → ColumnsDiffer lower → has_column ruling.del number ≡ true
      → IsRuledWell schema create ruling by lower number
  ruled_well lower number is differ has =
      let named = ruled_name lower number is has in
      let rule = ruled_by-rule is_blank create by.from.name named.column.name named.among in
      let may = may_be_ruled schema create rule.0 reference_of_edge.reference admitted.ruled rule.1 (edge_on-rule rule.0 rule.2) named.column.name rule.3 in
      either named (or_cases (option_map_or (has_open_column named.column.name) (lower_table schema create reference_of_edge.reference) false)
      (bytes_eq named.column.name reference_of_edge.reference.column && may_rule_itself schema create reference_of_edge.reference) may)
    where
      either : (named : IsNamed lower (ruled_by is_blank create by.from.name) number)
          → (option_map_or (has_open_column named.column.name) (lower_table schema create reference_of_edge.reference) false ≡ true)
          ⊎ ((bytes_eq named.column.name reference_of_edge.reference.column && may_rule_itself schema create reference_of_edge.reference) ≡ true)
          → IsRuledWell schema create ruling by lower number
      either named (inl opens) = inl (open-at named.column.name lower number named.column differ (rw (lower_case lower is _ refl) at opens) named.column_is refl)
      either named (inr own) =
          let parts = and_parts (bytes_eq named.column.name reference_of_edge.reference.column) (may_rule_itself schema create reference_of_edge.reference) own in
          inr (own_case lower number named.column is differ named.column_is parts.0
          (and_parts (is_upward reference_of_edge.reference.refers.kind) (names_subjects schema create reference_of_edge.reference) parts.1))
