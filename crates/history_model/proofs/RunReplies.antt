-- What a statement is answered as it runs, and what refuses a commit, is the statement's own: no conflict, no doom, and no
-- failure of the disk.
use Rattle.std.proofs.Common.{◌≡◌, ℕ, ◌+◌, List, [], ◌∷◌, ◌++◌, length, map, Bool, true, false, refl, subst}
use Rattle.std.specs.Prelude.{◌&&◌, ◌==◌, Option, Some, None, Result, Ok, Err, filter, flat_map, nat_lt, slice_get, if◌then◌else◌}
use Rattle.std.specs.Option.{option_map_or}
use Rattle.own_base.specs.declared.number.ColNo.{ColNo}
use Rattle.own_base.specs.declared.value.Key.{Key}
use Rattle.own_model.specs.declared.bound.Bound.{Bound}
use Rattle.own_model.specs.declared.bound.Bound.TheVariants as bound
use Rattle.own_model.specs.declared.bound.BoundCond.{BoundCond}
use Rattle.own_model.specs.declared.bound.BoundExpr.{BoundExpr}
use Rattle.own_model.specs.declared.condition.Cond.{Cond}
use Rattle.own_model.specs.declared.create.CreateTable.{CreateTable}
use Rattle.own_model.specs.declared.create.CreateView.{CreateView}
use Rattle.own_model.specs.declared.expression.Expr.{Expr}
use Rattle.own_model.specs.declared.expression.Expr.TheVariants.{Column, Literal, Minus, Plus}
use Rattle.own_model.specs.declared.history.Verdict.TheVariants.{Took}
use Rattle.own_model.specs.declared.limit.LimitName.TheVariants as limit
use Rattle.own_model.specs.declared.limit.TheConstants.{STORE_ROWS, STORE_WEIGHT}
use Rattle.own_model.specs.declared.refusal.Refusal.{Refusal}
use Rattle.own_model.specs.declared.refusal.Refusal.TheVariants as refusal
use Rattle.own_model.specs.declared.reply.Reply.{Reply}
use Rattle.own_model.specs.declared.reply.Reply.TheVariants.{Done, Refused, Rows}
use Rattle.own_model.specs.declared.schema.Column.{Column as Definition}
use Rattle.own_model.specs.declared.schema.Kind.{Kind}
use Rattle.own_model.specs.declared.schema.Schema.{Schema}
use Rattle.own_model.specs.declared.schema.TableDef.{TableDef}
use Rattle.own_model.specs.declared.statement.Statement.{Statement}
use Rattle.own_model.specs.declared.statement.Statement.TheVariants as statement
use Rattle.own_model.specs.Db.{Db, Row}
use Rattle.own_model.specs.Stored.{holds_rows, rows_at}
use Rattle.query_model.specs.BoundStatement.{bound_statement, bound_unless, faults, meaning}
use Rattle.query_model.specs.BoundView.{repeated_after, view_faults, view_names}
use Rattle.query_model.specs.ConditionFaults.{where_faults}
use Rattle.query_model.specs.Kinds.{are_compared, goes_with, is_text, key_kind}
use Rattle.query_model.specs.Refused.{lowest}
use Rattle.query_model.specs.Scope.{NameBytes, Scope, table_named, table_scope}
use Rattle.query_model.specs.SelectFaults.{no_table}
use Rattle.query_model.specs.Truth.{is_null, keeps}
use Rattle.query_model.specs.WriteFaults.{assigned_kind, column_in, delete_faults, expression_faults, gdpr_faults, key_write, not_a_column, set_faults, sum_faults, update_faults}
use Rattle.subject_model.specs.Named.{is_there}
use Rattle.state_model.specs.Fault.{column_values, fault, first_of, limit_faults, over_rows, owner_faults, owner_rule, reference_faults, reference_rule, unique_faults, unique_rule}
use Rattle.state_model.specs.Weight.{row_count, weight}
use Rattle.state_model.specs.CommitRefusal.{commit_refusal, first_refusal}
use Rattle.run_model.specs.Run.{Outcome, add_view, create_table, create_unless, delete, forget_subject, insert, insert_into, put, run, run_bound, run_unless, show_subject, stored_unless, update, update_in, view_unless}
use Rattle.run_model.specs.Update.{Sets, null_faults, range_faults, set_fault, update_faults as running_faults}
use Rattle.history_model.specs.Reply.{changes, commit_reply, committed, committing, is_refusal}
use Rattle.history_model.proofs.StatementRefusals.{AreOfStatement, IfOfStatement, IsOfStatement, both, condition-of_statement, create-of_statement, each, if_meant, if_none, if_one, insert-of_statement, is_of_others, lowest-of_statement, select-of_statement, twice-of_statement, wrong_step}

-- the faults of an UPDATE: of what a column is set to
if_found : {X : Type 0} (h : X → List Refusal) (found : Option X) → ((x : X) → AreOfStatement (h x)) → AreOfStatement (option_map_or h found [])
if_found h None own = tt
if_found h (Some x) own = own x

assigned-of_statement : (name : NameBytes) (column : Option (ℕ × Definition)) (kind : Kind) → AreOfStatement (assigned_kind name column kind)
assigned-of_statement name None kind = tt
assigned-of_statement name (Some column) kind = if_none _ _ refl

sum_step : (first second : Bool) (assigned name : NameBytes)
    → AreOfStatement (if first then refusal.WrongKind assigned ∷ [] else (if second then refusal.WrongKind name ∷ [] else []))
sum_step true second assigned name = (refl, tt)
sum_step false second assigned name = if_one second (refusal.WrongKind name) refl

sum-of_statement : (assigned : NameBytes) (column summed : Option (ℕ × Definition)) (name : NameBytes) → AreOfStatement (sum_faults assigned column summed name)
sum-of_statement assigned column summed name =
    sum_step (option_map_or (λ (found : ℕ × Definition). is_text found.1.kind) column false) (option_map_or (λ (found : ℕ × Definition). is_text found.1.kind) summed false) assigned name

column-of_statement : (table : TableDef) (name : NameBytes) → AreOfStatement (not_a_column table name)
column-of_statement table name = if_meant (column_in table name) _ refl

expression-of_statement : (table : TableDef) (assigned : NameBytes) (column : Option (ℕ × Definition)) (expr : Expr) → AreOfStatement (expression_faults table assigned column expr)
expression-of_statement table assigned column (Literal value) = if_found _ column (λ found. wrong_step (goes_with found.1.kind value) (is_null value && found.1.not_null) (refusal.WrongKind assigned) (refusal.NullValue assigned) refl refl)
expression-of_statement table assigned column (Column name) = both (not_a_column table name) _ (column-of_statement table name) (if_found _ (column_in table name) (λ found. assigned-of_statement assigned column found.1.kind))
expression-of_statement table assigned column (Plus name number) = both (not_a_column table name) _ (column-of_statement table name) (sum-of_statement assigned column (column_in table name) name)
expression-of_statement table assigned column (Minus name number) = both (not_a_column table name) _ (column-of_statement table name) (sum-of_statement assigned column (column_in table name) name)

set-of_statement : (table : TableDef) (set : NameBytes × Expr) → AreOfStatement (set_faults table set)
set-of_statement table set =
    both (not_a_column table set.0 ++ key_write table set.0) _
    (both (not_a_column table set.0) (key_write table set.0) (column-of_statement table set.0)
    (if_one (option_map_or (λ (found : ℕ × Definition). found.0 == table.key.0) (column_in table set.0) false) (refusal.KeyWrite set.0) refl))
    (expression-of_statement table set.0 (column_in table set.0) set.1)

-- and of WHERE
where-of_statement : (scope : Scope) (cond : Option Cond) → AreOfStatement (where_faults scope cond)
where-of_statement scope None = tt
where-of_statement scope (Some cond) = condition-of_statement scope cond

update-of_statement : (schema : Schema) (name : NameBytes) (sets : List (NameBytes × Expr)) (cond : Option Cond) → AreOfStatement (update_faults schema name sets cond)
unfolding update_faults
update-of_statement schema name sets cond =
    both _ _ (both (no_table schema name) _ (if_one _ _ refl)
    (if_found _ (table_named schema name) (λ found. both _ _ (each (set_faults found.1) sets (set-of_statement found.1)) (twice-of_statement [] (map (λ set. set.0) sets)))))
    (where-of_statement (table_scope schema name) cond)

-- the faults of a DELETE
delete-of_statement : (schema : Schema) (name : NameBytes) (cond : Option Cond) → AreOfStatement (delete_faults schema name cond)
unfolding delete_faults
delete-of_statement schema name cond = both (no_table schema name) _ (if_one _ _ refl) (where-of_statement (table_scope schema name) cond)

-- the faults of a GDPR call
gdpr-of_statement : (schema : Schema) (name : NameBytes) (key : Key) → AreOfStatement (gdpr_faults schema name key)
unfolding gdpr_faults
gdpr-of_statement schema name key =
    both (no_table schema name) _ (if_one _ _ refl)
    (if_found _ (table_named schema name) (λ found. both (option_map_or (λ (column : Definition). if are_compared column.kind (key_kind key) then [] else refusal.WrongKind column.name ∷ []) (slice_get found.1.columns found.1.key.0) []) _
    (if_found _ (slice_get found.1.columns found.1.key.0) (λ column. if_none (are_compared column.kind (key_kind key)) (refusal.WrongKind column.name) refl))
    (if_none found.1.subject (refusal.NotSubject name) refl)))

-- the faults of a CREATE VIEW
repeated-of_statement : (before names : List NameBytes) → AreOfStatement (repeated_after before names)
repeated-of_statement before [] = tt
repeated-of_statement before (name ∷ names) = both _ _ (if_one _ _ refl) (repeated-of_statement (before ++ name ∷ []) names)

view-of_statement : (schema : Schema) (create : CreateView) → AreOfStatement (view_faults schema create)
unfolding view_faults
view-of_statement schema create =
    both _ _ (both _ _ (both _ _ (both (no_table schema create.select.from) _ (if_one _ _ refl) (select-of_statement schema create.select)) (if_one _ _ refl))
    (repeated-of_statement [] (view_names schema create))) (if_one _ _ refl)

-- what binding refuses a statement for
faults-of_statement : (schema : Schema) (found : Statement) → IfOfStatement (lowest (faults schema found))
unfolding faults lowest
faults-of_statement schema (statement.Select select) = lowest-of_statement _ (select-of_statement schema select)
faults-of_statement schema (statement.Insert name names tuples) = lowest-of_statement _ (insert-of_statement schema name names tuples)
faults-of_statement schema (statement.Update name sets cond) = lowest-of_statement _ (update-of_statement schema name sets cond)
faults-of_statement schema (statement.Delete name cond) = lowest-of_statement _ (delete-of_statement schema name cond)
faults-of_statement schema (statement.GdprGet name key) = lowest-of_statement _ (gdpr-of_statement schema name key)
faults-of_statement schema (statement.GdprForget name key) = lowest-of_statement _ (gdpr-of_statement schema name key)
faults-of_statement schema _ = tt

pub binding-of_statement : (schema : Schema) (found : Statement) (why : Refusal) → bound_statement schema found ≡ Err why → IsOfStatement why
unfolding bound_statement
binding-of_statement schema found why is = by _ (faults-of_statement schema found) is
  where
    by : (told : Option Refusal) → IfOfStatement told → bound_unless told (meaning schema found) ≡ Err why → IsOfStatement why
    by None own is = absurd (cc)
    by (Some fault) own is = let same : fault ≡ why = cc in subst IsOfStatement same own

-- an answer of the statement's own
abbrev AnswersForItself : Outcome → Type 0
AnswersForItself outcome = is_of_others outcome.reply ≡ false

first-of_statement : (faults : List Refusal) → AreOfStatement faults → IfOfStatement (first_of faults)
first-of_statement [] own = tt
first-of_statement (fault ∷ faults) own = own.0

module _ (db : Db) where
  -- what a CREATE is answered
  table_step : (table : CreateTable) (why : Option Refusal) → IfOfStatement why → AnswersForItself (create_unless db table why)
  table_step table None own = refl
  table_step table (Some why) own = own

  view_step : (view : CreateView) (why : Option Refusal) → IfOfStatement why → AnswersForItself (view_unless db view why)
  view_step view None own = refl
  view_step view (Some why) own = own

  shown_step : (b : Bool) (rows : List Row) → is_of_others (if b then Refused (refusal.Limit limit.Reply) else Rows rows) ≡ false
  shown_step true rows = refl
  shown_step false rows = refl

  put_step : (number : ℕ) (table : TableDef) (count : ℕ) (result : Result (List Row) Key) → AnswersForItself (put db number table count result)
  put_step number table count (Ok rows) = refl
  put_step number table count (Err key) = refl

  into_step : (number : ℕ) (tuples : List Row) (found : Option TableDef) → AnswersForItself (insert_into db number tuples found)
  into_step number tuples None = refl
  into_step number tuples (Some table) = put_step number table (length tuples) _

  -- an UPDATE: NULLs and sums
  one-of_statement : (table : TableDef) (set : ColNo × BoundExpr) (h : Definition → List Refusal) → ((column : Definition) → AreOfStatement (h column)) → AreOfStatement (set_fault table h set)
  one-of_statement table set h own = if_found h (slice_get table.columns set.0.0) own

  running-of_statement : (table : TableDef) (sets : Sets) (rows : List Row) → AreOfStatement (running_faults table sets rows)
  unfolding running_faults
  running-of_statement table sets rows =
      both (flat_map (null_faults table sets) rows) (flat_map (range_faults table sets) rows)
      (each (null_faults table sets) rows (λ row. each _ sets (λ set. one-of_statement table set _ (λ column. if_one _ _ refl))))
      (each (range_faults table sets) rows (λ row. each _ sets (λ set. one-of_statement table set _ (λ column. if_one _ _ refl))))

  stored_step : (number : ℕ) (rows : List Row) (count : ℕ) (why : Option Refusal) → IfOfStatement why → AnswersForItself (stored_unless db number rows count why)
  stored_step number rows count None own = refl
  stored_step number rows count (Some why) own = own

  update_step : (number : ℕ) (sets : Sets) (cond : Option BoundCond) (found : Option TableDef) → AnswersForItself (update_in db number sets cond found)
  update_step number sets cond None = refl
  update_step number sets cond (Some table) = stored_step number _ _ _ (first-of_statement _ (running-of_statement table sets (filter (keeps cond) (rows_at db.rows number))))

  there_step : (b : Bool) (outcome other : Outcome) → AnswersForItself outcome → AnswersForItself other → AnswersForItself (if b then outcome else other)
  there_step true outcome other own more = own
  there_step false outcome other own more = more

  bound_step : (meant : Bound) → AnswersForItself (run_bound db meant)
  unfolding run_bound insert update delete show_subject forget_subject
  bound_step (bound.Select query) = shown_step _ _
  bound_step (bound.Insert table tuples) = into_step table.0 tuples _
  bound_step (bound.Update table sets cond) = update_step table.0 sets cond _
  bound_step (bound.Delete table cond) = refl
  bound_step (bound.Get subject) = there_step (is_there db subject.0) _ _ refl refl
  bound_step (bound.Forget subject) = there_step (is_there db subject.0) _ _ refl refl
  bound_step bound.Explain = refl

  unless_step : (told : Option Refusal) (meant : Bound) → IfOfStatement told → AnswersForItself (run_unless db (bound_unless told meant))
  unless_step None meant own = bound_step meant
  unless_step (Some why) meant own = own

  pub run-of_statement : (found : Statement) → AnswersForItself (run db found)
  unfolding run create_table add_view bound_statement faults meaning
  run-of_statement (statement.CreateTable table) = table_step table _ (create-of_statement db.schema (holds_rows db.rows) table)
  run-of_statement (statement.CreateView view) = view_step view _ (lowest-of_statement _ (view-of_statement db.schema view))
  run-of_statement (statement.Insert name names tuples) = unless_step _ _ (lowest-of_statement _ (insert-of_statement db.schema name names tuples))
  run-of_statement (statement.Update name sets cond) = unless_step _ _ (lowest-of_statement _ (update-of_statement db.schema name sets cond))
  run-of_statement (statement.Delete name cond) = unless_step _ _ (lowest-of_statement _ (delete-of_statement db.schema name cond))
  run-of_statement (statement.Select select) = unless_step _ _ (lowest-of_statement _ (select-of_statement db.schema select))
  run-of_statement (statement.GdprGet name key) = unless_step _ _ (lowest-of_statement _ (gdpr-of_statement db.schema name key))
  run-of_statement (statement.GdprForget name key) = unless_step _ _ (lowest-of_statement _ (gdpr-of_statement db.schema name key))
  run-of_statement statement.Begin = refl
  run-of_statement statement.Commit = refl
  run-of_statement statement.Rollback = refl
  run-of_statement statement.Explain = refl
  run-of_statement statement.Checkpoint = refl

-- why a commit is refused: what a rule finds
rule-of_statement : (rule : ℕ → TableDef → List Row → Row → List Refusal)
    → ((number : ℕ) (table : TableDef) (rows : List Row) (row : Row) → AreOfStatement (rule number table rows row))
    → (number : ℕ) (tables : List TableDef) (rows : List (List Row)) → AreOfStatement (over_rows rule number tables rows)
unfolding over_rows
rule-of_statement rule own number [] rows = tt
rule-of_statement rule own number (table ∷ tables) [] = tt
rule-of_statement rule own number (table ∷ tables) (rows ∷ rest) =
    both (flat_map (rule number table rows) rows) _ (each (rule number table rows) rows (own number table rows)) (rule-of_statement rule own (number + 1) tables rest)

module _ (db : Db) where
  unique-of_statement : AreOfStatement (unique_faults db)
  unfolding unique_faults
  unique-of_statement = rule-of_statement unique_rule (λ number table rows row. each _ (column_values table row) (λ one. if_one _ _ refl)) 0 db.schema.tables db.rows

  reference-of_statement : AreOfStatement (reference_faults db)
  unfolding reference_faults
  reference-of_statement = rule-of_statement (reference_rule db) (λ number table rows row. each _ (column_values table row) (λ one. if_one _ _ refl)) 0 db.schema.tables db.rows

  owner-of_statement : AreOfStatement (owner_faults db)
  unfolding owner_faults
  owner-of_statement = rule-of_statement (owner_rule db) (λ number table rows row. if_one _ _ refl) 0 db.schema.tables db.rows

  limits-of_statement : AreOfStatement (limit_faults db)
  limits-of_statement =
      both (if nat_lt STORE_ROWS (row_count db) then refusal.Limit limit.Rows ∷ [] else []) _
      (if_one (nat_lt STORE_ROWS (row_count db)) (refusal.Limit limit.Rows) refl) (if_one (nat_lt STORE_WEIGHT (weight db)) (refusal.Limit limit.Weight) refl)

  pub fault-of_statement : IfOfStatement (fault db)
  unfolding fault
  fault-of_statement =
      first-of_statement _ (both (unique_faults db ++ reference_faults db ++ owner_faults db) _ (both (unique_faults db ++ reference_faults db) _
      (both (unique_faults db) _ unique-of_statement reference-of_statement) owner-of_statement) limits-of_statement)

first_refusal-of_statement : (why big : Option Refusal) → IfOfStatement why → IfOfStatement big → IfOfStatement (first_refusal why big)
first_refusal-of_statement None big own more = more
first_refusal-of_statement (Some why) big own more = own

big-of_statement : (b : Bool) (bytes : ℕ) → IfOfStatement (if b then Some (refusal.TooBig bytes) else None)
big-of_statement true bytes = refl
big-of_statement false bytes = tt

pub commit_refusal-of_statement : (before after : Db) → IfOfStatement (commit_refusal before after)
unfolding commit_refusal
commit_refusal-of_statement before after = first_refusal-of_statement (fault after) _ (fault-of_statement after) (big-of_statement _ _)

-- what asks nothing of the disk, and what the disk takes, is refused by what a commit asks, or as it ran
pub committing-of_statement : (needed : Bool) (cause : Option Refusal) (reply : Reply) → IfOfStatement cause → is_of_others reply ≡ false
    → is_of_others (committing Took needed cause reply) ≡ false
committing-of_statement needed cause reply causes own = by (is_refusal reply) needed cause causes
  where
    by : (refused needed : Bool) (cause : Option Refusal) → IfOfStatement cause
        → is_of_others (if refused then reply else committed Took needed cause reply) ≡ false
    by true needed cause causes = own
    by false needed (Some why) causes = causes
    by false true None causes = own
    by false false None causes = own

-- a COMMIT that the disk takes
pub commit-of_statement : (db after : Db) → is_of_others (commit_reply Took db after) ≡ false
commit-of_statement db after = committing-of_statement (changes db after) (commit_refusal db after) Done (commit_refusal-of_statement db after) refl
