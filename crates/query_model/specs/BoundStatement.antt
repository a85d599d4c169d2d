-- What a statement means, and why binding refuses it.
use Rattle.std.specs.Prelude.{List, [], Option, None, Some, Result, Ok, Err, map}
use Rattle.std.specs.Option.{option_map_or}
use Rattle.own_model.specs.declared.bound.Bound.{Bound}
use Rattle.own_model.specs.declared.bound.Bound.TheVariants as bound
use Rattle.own_model.specs.declared.refusal.Refusal.{Refusal}
use Rattle.own_model.specs.declared.schema.Schema.{Schema}
use Rattle.own_model.specs.declared.statement.Statement.{Statement}
use Rattle.own_model.specs.declared.statement.Statement.TheVariants.{Delete, GdprForget, GdprGet, Insert, Select, Update}
use Rattle.query_model.specs.ConditionFaults.{bound_where}
use Rattle.query_model.specs.Refused.{lowest}
use Rattle.query_model.specs.Scope.{table_named, table_scope}
use Rattle.query_model.specs.SelectFaults.{select_faults}
use Rattle.query_model.specs.SelectMeaning.{bound_select, table_number}
use Rattle.query_model.specs.WriteFaults.{delete_faults, gdpr_faults, insert_faults, update_faults}
use Rattle.query_model.specs.WriteMeaning.{bound_sets, put_row}

-- All that is wrong with a statement. CREATE, transactions and CHECKPOINT aren't bound.
unfoldable pub faults : Schema → Statement → List Refusal
faults schema (Select select) = select_faults schema select
faults schema (Insert table columns rows) = insert_faults schema table columns rows
faults schema (Update table sets cond) = update_faults schema table sets cond
faults schema (Delete table cond) = delete_faults schema table cond
faults schema (GdprGet table key) = gdpr_faults schema table key
faults schema (GdprForget table key) = gdpr_faults schema table key
faults schema _ = []

-- What a statement means, whether anything is wrong with it or not; a name that means nothing counts as the first.
unfoldable pub meaning : Schema → Statement → Bound
meaning schema (Select select) = bound.Select (bound_select schema select)
meaning schema (Insert table columns rows) = bound.Insert (table_number schema table)
    (option_map_or (λ found. map (put_row found.1 columns) rows) (table_named schema table) [])
meaning schema (Update table sets cond) = bound.Update (table_number schema table)
    (option_map_or (λ found. bound_sets found.1 sets) (table_named schema table) []) (bound_where (table_scope schema table) cond)
meaning schema (Delete table cond) = bound.Delete (table_number schema table) (bound_where (table_scope schema table) cond)
meaning schema (GdprGet table key) = bound.Get (record { 0 = record { table = table_number schema table; key = key } })
meaning schema (GdprForget table key) = bound.Forget (record { 0 = record { table = table_number schema table; key = key } })
meaning schema _ = bound.Explain

-- the first fault of the lowest rank, else what the statement means
abbrev pub bound_unless : Option Refusal → Bound → Result Bound Refusal
bound_unless None meant = Ok meant
bound_unless (Some fault) meant = Err fault

unfoldable pub bound_statement : Schema → Statement → Result Bound Refusal
bound_statement schema statement = bound_unless (lowest (faults schema statement)) (meaning schema statement)
