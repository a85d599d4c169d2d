-- No statement of rows means that memory was refused.
use Rattle.std.proofs.Common.{◌≢◌, ℕ, List, [], ◌∷◌, Bool, true, false, Option, None, Some, Result, Ok, Err, length}
use Rattle.std.specs.Prelude.{filter, flat_map, is_none, nat_lt, slice_get, ◌&&◌, if◌then◌else◌}
use Rattle.std.specs.List.{AllByRecursion as Each}
use Rattle.std.specs.Option.{option_map_or}
use Rattle.own_base.specs.declared.number.ColNo.{ColNo}
use Rattle.own_base.specs.declared.value.Key.{Key}
use Rattle.own_model.specs.declared.bound.Bound.{Bound}
use Rattle.own_model.specs.declared.bound.Bound.TheVariants.{Delete, Explain, Forget, Get, Insert, Select, Update}
use Rattle.own_model.specs.declared.bound.BoundExpr.{BoundExpr}
use Rattle.own_model.specs.declared.limit.LimitName.TheVariants as limit
use Rattle.own_model.specs.declared.limit.TheConstants.{REPLY_ROWS}
use Rattle.own_model.specs.declared.refusal.Refusal.{Refusal}
use Rattle.own_model.specs.declared.refusal.Refusal.TheVariants.{Limit, Memory, NullValue, Range}
use Rattle.own_model.specs.declared.reply.Reply.TheVariants.{Refused, Rows}
use Rattle.own_model.specs.declared.schema.Column.{Column}
use Rattle.own_model.specs.declared.schema.Schema.{Schema}
use Rattle.own_model.specs.declared.schema.TableDef.{TableDef}
use Rattle.own_model.specs.Db.{Db, Row}
use Rattle.own_model.specs.Stored.{rows_at}
use Rattle.query_model.specs.Expression.{value_of}
use Rattle.query_model.specs.Query.{query_rows}
use Rattle.query_model.specs.Truth.{keeps}
use Rattle.run_model.specs.Insert.{with_tuples}
use Rattle.run_model.specs.Run.{delete, insert, insert_into, put, run_bound, stored_unless, update, update_in}
use Rattle.run_model.specs.Update.{Sets, is_null_value, null_faults, range_faults, update_faults, updated_rows}
use Rattle.schema_model.proofs.Places.{all-append}
use Rattle.state_model.specs.Fault.{first_of}
use Rattle.txn_core.specs.Runs.{IsRowStatement}

-- another cause than want of memory
abbrev IsOther : Refusal → Type 0
IsOther why = why ≢ Memory

-- what each element gives is of other causes
each_other : {X : Type 0} (causes : X → List Refusal) → ((x : X) → Each IsOther (causes x)) → (xs : List X) → Each IsOther (flat_map causes xs)
each_other causes own [] = tt
each_other causes own (x ∷ xs) = all-append IsOther (causes x) (flat_map causes xs) (own x) (each_other causes own xs)

column_other : (cause : Column → List Refusal) → ((column : Column) → Each IsOther (cause column)) → (found : Option Column) → Each IsOther (option_map_or cause found [])
column_other cause own None = tt
column_other cause own (Some column) = own column

null_other : (column : Column) (is : Bool) → Each IsOther (if is then NullValue column.name ∷ [] else [])
null_other column true = (λ same. cc, tt)
null_other column false = tt

range_other : (column : Column) (is : Bool) → Each IsOther (if is then Range column.name ∷ [] else [])
range_other column true = (λ same. cc, tt)
range_other column false = tt

module _ (table : TableDef) (sets : Sets) where
  nulls_other : (row : Row) → Each IsOther (null_faults table sets row)
  nulls_other row =
      each_other _
      (λ (set : ColNo × BoundExpr). column_other (λ column. if column.not_null && is_null_value (value_of set.1 row) then NullValue column.name ∷ [] else [])
      (λ column. null_other column (column.not_null && is_null_value (value_of set.1 row))) (slice_get table.columns set.0.0)) sets

  ranges_other : (row : Row) → Each IsOther (range_faults table sets row)
  ranges_other row =
      each_other _
      (λ (set : ColNo × BoundExpr). column_other (λ column. if is_none (value_of set.1 row) then Range column.name ∷ [] else [])
      (λ column. range_other column (is_none (value_of set.1 row))) (slice_get table.columns set.0.0)) sets

  -- what is wrong with an UPDATE as it runs is of other causes
  faults_other : (rows : List Row) → Each IsOther (update_faults table sets rows)
  unfolding update_faults
  faults_other rows =
      all-append IsOther (flat_map (null_faults table sets) rows) (flat_map (range_faults table sets) rows)
      (each_other (null_faults table sets) nulls_other rows) (each_other (range_faults table sets) ranges_other rows)

unless_other : (db : Db) (number : ℕ) (rows : List Row) (count : ℕ) (causes : List Refusal) → Each IsOther causes → (stored_unless db number rows count (first_of causes)).reply ≢ Refused Memory
unless_other db number rows count [] each = λ is. cc
unless_other db number rows count (cause ∷ causes) each = λ is. each.0 (cc)

rows_other : (rows : List Row) (many : Bool) → (if many then Refused (Limit limit.Reply) else Rows rows) ≢ Refused Memory
rows_other rows true = λ is. cc
rows_other rows false = λ is. cc

put_other : (db : Db) (number : ℕ) (table : TableDef) (count : ℕ) (result : Result (List Row) Key) → (put db number table count result).reply ≢ Refused Memory
put_other db number table count (Ok rows) = λ is. cc
put_other db number table count (Err key) = λ is. cc

insert_other : (db : Db) (number : ℕ) (tuples : List Row) (found : Option TableDef) → (insert_into db number tuples found).reply ≢ Refused Memory
insert_other db number tuples None = λ is. cc
insert_other db number tuples (Some table) = put_other db number table (length tuples) (with_tuples table (rows_at db.rows number) tuples)

-- so no SELECT and no write means it
pub never_memory : (db : Db) (schema : Schema) (bound : Bound) → IsRowStatement schema bound → (run_bound db bound).reply ≢ Refused Memory
unfolding run_bound insert update delete
never_memory db schema (Select query) is = rows_other (query_rows db.schema db.rows query) (nat_lt REPLY_ROWS (length (query_rows db.schema db.rows query)))
never_memory db schema (Insert table tuples) is = insert_other db table.0 tuples (slice_get db.schema.tables table.0)
never_memory db schema (Update table sets cond) is = by (slice_get db.schema.tables table.0)
  where
    by : (found : Option TableDef) → (update_in db table.0 sets cond found).reply ≢ Refused Memory
    by None = λ is. cc
    by (Some definition) =
        unless_other db table.0 (updated_rows sets cond (rows_at db.rows table.0)) (length (filter (keeps cond) (rows_at db.rows table.0)))
        (update_faults definition sets (filter (keeps cond) (rows_at db.rows table.0))) (faults_other definition sets (filter (keeps cond) (rows_at db.rows table.0)))
never_memory db schema (Delete table cond) is = λ is. cc
never_memory db schema (Get subject) is = absurd is
never_memory db schema (Forget subject) is = absurd is
never_memory db schema Explain is = absurd is
