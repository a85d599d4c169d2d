-- What binding leaves of an INSERT, an UPDATE or a DELETE is a write.
use Rattle.std.proofs.Common.{◌≡◌, ◌==◌, List, [], false, Option, None, Some, inl, inr, sym, ap, subst, arith}
use Rattle.std.specs.Prelude.{Ok, slice_get}
use Rattle.std.specs.List.{AllByRecursion as Each}
use Rattle.std.specs.Option.{option_map_or}
use Rattle.std.proofs.lemmas.Option.{slice_get_cases}
use Rattle.own_base.specs.declared.number.ColNo.{ColNo}
use Rattle.own_base.specs.declared.number.TableNo.{TableNo}
use Rattle.own_model.specs.declared.bound.Bound.{Bound}
use Rattle.own_model.specs.declared.bound.BoundExpr.{BoundExpr}
use Rattle.own_model.specs.declared.condition.Cond.{Cond}
use Rattle.own_model.specs.declared.expression.Expr.{Expr}
use Rattle.own_model.specs.declared.schema.Schema.{Schema}
use Rattle.own_model.specs.declared.schema.TableDef.{TableDef}
use Rattle.own_model.specs.declared.statement.Statement.{Statement}
use Rattle.own_model.specs.declared.statement.Statement.TheVariants.{Delete, Insert, Update}
use Rattle.query_model.specs.BoundStatement.{bound_statement, faults, meaning}
use Rattle.query_model.specs.ConditionFaults.{where_faults}
use Rattle.query_model.specs.Footprints.{key_column}
use Rattle.query_model.specs.Refused.{lowest}
use Rattle.query_model.specs.Scope.{NameBytes, table_named, table_scope}
use Rattle.query_model.specs.SelectFaults.{no_table}
use Rattle.query_model.specs.SelectMeaning.{table_number}
use Rattle.query_model.specs.WriteFaults.{delete_faults, faults_in, insert_faults, insert_faults_in, update_faults}
use Rattle.query_model.specs.WriteMeaning.{bound_sets}
use Rattle.query_model.proofs.NoFaults.{none-first, none-lowest}
use Rattle.readable_model.proofs.Sources.{table-there}
use Rattle.run_model.specs.Update.{Sets}
use Rattle.run_model.proofs.KeylessSets.{keyless-bound_sets, sets_over}
use Rattle.run_model.proofs.RisingKeys.{AreKeyless}
use Rattle.run_model.proofs.Outcomes.{bound_unless-ok}
use Rattle.write_eval.specs.Write.{IsThere, IsWrite, SpareKey}

-- a statement that changes rows by a table's name
abbrev pub ChangesRows : Statement → Type 0
ChangesRows (Insert table columns rows) = Unit {0}
ChangesRows (Update table sets cond) = Unit {0}
ChangesRows (Delete table cond) = Unit {0}
ChangesRows _ = ⊥

-- sets of no primary key of the table of a number
spare : (schema : Schema) (number : TableNo) (table : TableDef) (sets : Sets) → slice_get schema.tables number.0 ≡ Some table → AreKeyless table sets → SpareKey schema number sets
spare schema number table sets is keyless =
    let same : key_column schema number ≡ table.key.0 = ap (λ found. option_map_or (λ (table : TableDef). table.key.0) found 0) is in
    subst (λ key. Each (λ (set : ColNo × BoundExpr). (set.0.0 == key) ≡ false) sets) (sym same) keyless

module _ (schema : Schema) (name : NameBytes) (sets : List (NameBytes × Expr)) (cond : Option Cond) (reported : lowest (update_faults schema name sets cond) ≡ None) where
  update_there : IsThere schema (table_number schema name)
  unfolding update_faults
  update_there = table-there schema name (none-first (no_table schema name) _ (none-first _ (where_faults (table_scope schema name) cond) (none-lowest _ reported)))

  -- an UPDATE without faults sets no primary key
  update_spares : SpareKey schema (table_number schema name) (option_map_or (λ found. bound_sets found.1 sets) (table_named schema name) [])
  update_spares = elim ((slice_get_cases schema.tables (table_number schema name).0).1) [
    | inl (table, within, found, is) ↦
        let over = sets_over schema name sets cond table reported found in
        spare schema (table_number schema name) table _ found (rw over.bound (keyless-bound_sets table sets over.none))
    | inr (past, none) ↦ let there : IsThere schema (table_number schema name) = update_there in absurd (omega arith)
  ]

-- what a statement means that has no fault
meant_write : (schema : Schema) (found : Statement) → ChangesRows found → lowest (faults schema found) ≡ None → IsWrite schema (meaning schema found)
unfolding faults meaning insert_faults delete_faults
meant_write schema (Insert name columns rows) changes reported = table-there schema name (none-first (no_table schema name) (faults_in schema name (insert_faults_in columns rows)) (none-lowest _ reported))
meant_write schema (Update name sets cond) changes reported = (update_there schema name sets cond reported, update_spares schema name sets cond reported)
meant_write schema (Delete name cond) changes reported = table-there schema name (none-first (no_table schema name) (where_faults (table_scope schema name) cond) (none-lowest _ reported))
meant_write schema _ changes reported = absurd changes

-- So what binding answers to an INSERT, an UPDATE or a DELETE is a write.
pub bound_write : (schema : Schema) (found : Statement) (meant : Bound) → bound_statement schema found ≡ Ok meant → ChangesRows found → IsWrite schema meant
unfolding bound_statement
bound_write schema found meant is changes =
    let both = bound_unless-ok (lowest (faults schema found)) (meaning schema found) meant is in
    subst (IsWrite schema) both.1 (meant_write schema found changes both.0)
