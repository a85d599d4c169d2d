-- An UPDATE of the row under a key: what it means and what it does.
use Prim.Native.String.{String}
use Rattle.std.proofs.Common.{◌≡◌, ◌∙◌, ℕ, List, [], ◌∷◌, ◌++◌, Bool, Option, None, Some, Ok, codes, ap, refl, filter, length, map, slice_get}
use mathlib.Core.Path.{fun_ext}
use Rattle.std.specs.Prelude.{if◌then◌else◌}
use Rattle.std.specs.List.{flat_map}
use Rattle.std.specs.Option.{option_map_or}
use Rattle.own_model.specs.declared.bound.Bound.{Bound}
use Rattle.own_model.specs.declared.bound.Bound.TheVariants as bound
use Rattle.own_model.specs.declared.bound.BoundCond.{BoundCond}
use Rattle.own_model.specs.declared.bound.BoundCond.TheOpen.{BoundCond-F}
use Rattle.own_model.specs.declared.bound.BoundOperand.TheVariants as bound_operand
use Rattle.own_model.specs.declared.condition.Cmp.TheVariants.{Eq}
use Rattle.own_model.specs.declared.condition.Operand.TheVariants as operand
use Rattle.own_model.specs.declared.expression.Expr.{Expr}
use Rattle.own_model.specs.declared.refusal.Refusal.{Refusal}
use Rattle.own_model.specs.declared.reply.Reply.TheVariants.{Counted}
use Rattle.own_model.specs.declared.request.Request.TheVariants.{Run}
use Rattle.own_model.specs.declared.schema.Schema.{Schema}
use Rattle.own_model.specs.declared.schema.TableDef.{TableDef}
use Rattle.own_model.specs.declared.statement.Statement.{Statement}
use Rattle.own_model.specs.Db.{Db, Row}
use Rattle.own_model.specs.Stored.{rows_at}
use Rattle.query_model.specs.BoundStatement.{bound_statement, bound_unless, faults, meaning}
use Rattle.query_model.specs.ConditionFaults.{bound_step, fault_step}
use Rattle.query_model.specs.Refused.{lowest}
use Rattle.query_model.specs.Scope.{number_meant, table_named, table_scope}
use Rattle.query_model.specs.SelectFaults.{no_table}
use Rattle.query_model.specs.SelectMeaning.{table_number}
use Rattle.query_model.specs.Truth.{is_true, keeps, truth_step}
use Rattle.query_model.specs.WriteFaults.{faults_in, set_faults, twice, update_faults as faults_of_update}
use Rattle.query_model.specs.WriteMeaning.{bound_sets}
use Rattle.state_model.specs.Fault.{first_of}
use Rattle.run_model.specs.Run.{Outcome, answered, run, run_bound, run_unless, stored_unless, update as update_table, update_in}
use Rattle.run_model.specs.Update.{Sets, update_faults, updated, updated_rows}
use Rattle.history_model.specs.History.{after_reply, left_by}
use Rattle.history_model.specs.World.{Outside, World}
use Rattle.history_tests.specs.Written.{here, int, update}
use Rattle.history_tests.proofs.Conditions.{faults_are, holds, means}
use Rattle.history_tests.proofs.KeyedSelect.{written_as}
use Rattle.history_tests.proofs.Steps.{call_of}

-- what is wrong with it but for its condition
abbrev pub faults_before : Schema → String → String → Expr → List Refusal
faults_before schema table name to = no_table schema (codes table)
    ++ faults_in schema (codes table) (λ table. flat_map (set_faults table) ((codes name, to) ∷ []) ++ twice [] (codes name ∷ []))

-- nothing is wrong with it
abbrev pub IsRightUpdate : Schema → String → String → Expr → ℕ → Type 0
IsRightUpdate schema table name to number =
    lowest (faults_before schema table name to ++ fault_step (table_scope schema (codes table)) (written_as number)) ≡ None

abbrev pub sets_meant : Schema → String → String → Expr → Sets
sets_meant schema table name to = option_map_or (λ found. bound_sets found.1 ((codes name, to) ∷ [])) (table_named schema (codes table)) []

-- what it means
abbrev pub meant_update : Schema → String → String → Expr → ℕ → Bound
meant_update schema table name to number =
    bound.Update (table_number schema (codes table)) (sets_meant schema table name to) (Some (bound_step (table_scope schema (codes table)) (written_as number)))

pub bound_update_is : (schema : Schema) (table name : String) (to : Expr) (number : ℕ) → IsRightUpdate schema table name to number
    → bound_statement schema (update table name to number) ≡ Ok (meant_update schema table name to number)
unfolding bound_statement faults meaning faults_of_update
bound_update_is schema table name to number right =
    ap (λ found. bound_unless (lowest (faults_before schema table name to ++ found)) (meaning schema (update table name to number)))
    (faults_are (table_scope schema (codes table)) (here "id") Eq (operand.Literal (int number)))
    ∙ ap (λ found. bound_unless found (meaning schema (update table name to number))) right
    ∙ ap (λ condition. Ok (bound.Update (table_number schema (codes table)) (sets_meant schema table name to) (Some condition)))
    (means (table_scope schema (codes table)) (here "id") Eq (operand.Literal (int number)))

-- whether a row has the key
abbrev pub has_key_of : Schema → String → ℕ → Row → Bool
has_key_of schema table number row = is_true (truth_step row
    (BoundCond-F.Compare (record { 0 = number_meant (table_scope schema (codes table)) (here "id") }) Eq (bound_operand.Literal (int number))))

-- the rows of a table for which a test holds are updated
abbrev pub update_where : Db → ℕ → Sets → (Row → Bool) → Option TableDef → Outcome
update_where db number sets test None = answered db (Counted 0)
update_where db number sets test (Some table) = stored_unless db number (map (λ row. if test row then updated sets row else row) (rows_at db.rows number))
    (length (filter test (rows_at db.rows number))) (first_of (update_faults table sets (filter test (rows_at db.rows number))))

update_in_is : (db : Db) (number : ℕ) (sets : Sets) (condition : BoundCond) (found : Option TableDef)
    → update_in db number sets (Some condition) found ≡ update_where db number sets (keeps (Some condition)) found
unfolding updated_rows
update_in_is db number sets condition None = refl
update_in_is db number sets condition (Some table) = refl

-- what it does
abbrev pub update_left : Db → String → String → Expr → ℕ → Outcome
update_left db table name to number = update_where db (table_number db.schema (codes table)).0 (sets_meant db.schema table name to)
    (has_key_of db.schema table number) (slice_get db.schema.tables (table_number db.schema (codes table)).0)

pub update_runs : (db : Db) (table name : String) (to : Expr) (number : ℕ) → IsRightUpdate db.schema table name to number
    → run db (update table name to number) ≡ update_left db table name to number
unfolding run run_bound update_table
update_runs db table name to number right =
    ap (run_unless db) (bound_update_is db.schema table name to number right)
    ∙ update_in_is db (table_number db.schema (codes table)).0 (sets_meant db.schema table name to) _ (slice_get db.schema.tables (table_number db.schema (codes table)).0)
    ∙ ap (λ test. update_where db (table_number db.schema (codes table)).0 (sets_meant db.schema table name to) test (slice_get db.schema.tables (table_number db.schema (codes table)).0))
    (fun_ext (λ row. ap is_true (holds row _ Eq (bound_operand.Literal (int number)))))

-- the database after a write outside of transactions
pub write_leaves : (world : World) (session call count : ℕ) (asked : Statement) (outcome : Outcome) → world.standing session ≡ Outside
    → run world.flat asked ≡ outcome → (after_reply world (call_of session call asked) (Counted count)).flat ≡ outcome.db
write_leaves world session call count asked outcome stands runs =
    ap (λ standing. left_by world.flat standing (Run asked)) stands ∙ ap (λ outcome. outcome.db) runs
