-- What binding or the catalog refuses a statement for is the statement's own: no conflict, no doom, and no failure of the disk.
use Rattle.std.proofs.Common.{◌≡◌, ℕ, ◌+◌, List, [], ◌∷◌, ◌++◌, length, map, Bool, true, false, fold, refl, subst}
use Rattle.std.specs.Prelude.{◌&&◌, ◌||◌, Option, Some, None, find, flat_map, zip, if◌then◌else◌}
use Rattle.std.specs.List.{AllByRecursion}
use Rattle.std.specs.Option.{option_map, option_map_or, option_or}
use Rattle.own_base.specs.declared.value.Value.{Value}
use Rattle.own_model.specs.declared.condition.Cond.{Cond, roll-Cond}
use Rattle.own_model.specs.declared.condition.Cond.TheFolds.{fold-roll-Cond, ind-Cond, map-Cond}
use Rattle.own_model.specs.declared.condition.Cond.TheOpen.{Cond-F}
use Rattle.own_model.specs.declared.condition.Operand.{Operand}
use Rattle.own_model.specs.declared.condition.Operand.TheVariants as operand
use Rattle.own_model.specs.declared.create.CreateTable.{CreateTable}
use Rattle.own_model.specs.declared.limit.LimitName.TheVariants as limit
use Rattle.own_model.specs.declared.refusal.Refusal.{Refusal}
use Rattle.own_model.specs.declared.refusal.Refusal.TheVariants as refusal
use Rattle.own_model.specs.declared.refusal.Refusal.TheVariants.{NoColumn, NullValue, WrongKind}
use Rattle.own_model.specs.declared.reply.Reply.{Reply}
use Rattle.own_model.specs.declared.reply.Reply.TheVariants.{Refused}
use Rattle.own_model.specs.declared.schema.Column.{Column as Definition}
use Rattle.own_model.specs.declared.schema.Kind.{Kind}
use Rattle.own_model.specs.declared.schema.Schema.{Schema}
use Rattle.own_model.specs.declared.schema.TableDef.{TableDef}
use Rattle.own_model.specs.declared.select.ColRef.{ColRef}
use Rattle.own_model.specs.declared.select.Item.{Item}
use Rattle.own_model.specs.declared.select.Join.{Join}
use Rattle.own_model.specs.declared.select.Order.{Order}
use Rattle.own_model.specs.declared.select.Select.{Select}
use Rattle.own_model.specs.declared.select.What.{What}
use Rattle.own_model.specs.declared.select.What.TheVariants as what
use Rattle.owner_model.specs.Cycle.{cycle_of}
use Rattle.schema_model.specs.References.{references_of}
use Rattle.schema_model.specs.Refusal.{broken, first_broken, refusal_of}
use Rattle.query_model.specs.ConditionFaults.{condition_faults, fault_step, kind_meant, operand_faults, operand_kind, together, unlike, where_faults}
use Rattle.query_model.specs.Kinds.{are_compared, goes_with}
use Rattle.query_model.specs.Refused.{lowest, sooner}
use Rattle.query_model.specs.Scope.{NameBytes, Scope, column_meant, no_column, table_named}
use Rattle.query_model.specs.SelectFaults.{from_faults, group_faults, is_grouped, item_faults, join_faults, listed_items, no_table, order_faults, scoped_faults, select_faults, select_scope}
use Rattle.query_model.specs.Truth.{is_null}
use Rattle.query_model.specs.WriteFaults.{column_in, columns_for, columns_left, insert_faults, insert_faults_in, list_faults, not_a_column, takes_no_null, tuple_faults, twice, value_faults, wrong_count}
use Rattle.history_model.specs.History.{is_doomed}
use Rattle.history_model.specs.Since.{is_left_out}

-- an answer that others give rise to: a conflict with a session, the doom of one's own, or a failure of the disk
abbrev pub is_of_others : Reply → Bool
is_of_others reply = is_left_out reply || is_doomed reply

-- a refusal that the statement itself gives rise to
abbrev pub IsOfStatement : Refusal → Type 0
IsOfStatement why = is_of_others (Refused why) ≡ false

abbrev pub AreOfStatement : List Refusal → Type 0
AreOfStatement faults = AllByRecursion IsOfStatement faults

-- one that is such a refusal, or none
abbrev pub IfOfStatement : Option Refusal → Type 0
IfOfStatement None = Unit {0}
IfOfStatement (Some why) = IsOfStatement why

-- where a test says so, one such refusal
pub if_one : (b : Bool) (why : Refusal) → IsOfStatement why → AreOfStatement (if b then why ∷ [] else [])
if_one true why own = (own, tt)
if_one false why own = tt

pub if_none : (b : Bool) (why : Refusal) → IsOfStatement why → AreOfStatement (if b then [] else why ∷ [])
if_none true why own = tt
if_none false why own = (own, tt)

pub if_either : (b : Bool) (some others : List Refusal) → AreOfStatement some → AreOfStatement others → AreOfStatement (if b then some else others)
if_either true some others all more = all
if_either false some others all more = more

-- two lists of them, and one for each element of a list
pub both : (some others : List Refusal) → AreOfStatement some → AreOfStatement others → AreOfStatement (some ++ others)
both [] others all more = more
both (why ∷ some) others all more = (all.0, both some others all.1 more)

pub each : {X : Type 0} (f : X → List Refusal) (xs : List X) → ((x : X) → AreOfStatement (f x)) → AreOfStatement (flat_map f xs)
each f [] own = tt
each f (x ∷ xs) own = both (f x) (flat_map f xs) (own x) (each f xs own)

-- a name that means nothing
pub if_meant : {X : Type 0} (found : Option X) (why : Refusal) → IsOfStatement why → AreOfStatement (option_map_or (λ found. []) found (why ∷ []))
if_meant None why own = (own, tt)
if_meant (Some x) why own = tt

no_column-of_statement : (scope : Scope) (reference : ColRef) → AreOfStatement (no_column scope reference)
no_column-of_statement scope reference = if_meant (column_meant scope reference) _ refl

unlike-of_statement : (left : ColRef) (kind other : Option Kind) → AreOfStatement (unlike left kind other)
unlike-of_statement left None None = tt
unlike-of_statement left None (Some other) = tt
unlike-of_statement left (Some kind) None = tt
unlike-of_statement left (Some kind) (Some other) = if_none (are_compared kind other) _ refl

operand-of_statement : (scope : Scope) (right : Operand) → AreOfStatement (operand_faults scope right)
operand-of_statement scope (operand.Column reference) = no_column-of_statement scope reference
operand-of_statement scope (operand.Literal value) = tt

module _ (scope : Scope) where
  abbrev HasOwnFaults : Cond → Type 0
  HasOwnFaults cond = AreOfStatement (condition_faults scope cond)

  parts-of_statement : (parts : List ((cond : Cond) × HasOwnFaults cond)) → AreOfStatement (together (map (condition_faults scope) (map (λ part. part.0) parts)))
  parts-of_statement [] = tt
  parts-of_statement (part ∷ parts) = both (condition_faults scope part.0) _ part.1 (parts-of_statement parts)

  step-of_statement : (cond : Cond-F ((cond : Cond) × HasOwnFaults cond))
      → AreOfStatement (fault_step scope (map-Cond Cond (List Refusal) (condition_faults scope) (map-Cond ((cond : Cond) × HasOwnFaults cond) Cond (λ part. part.0) cond)))
  step-of_statement (Cond-F.Every parts) = parts-of_statement parts
  step-of_statement (Cond-F.Some1 parts) = parts-of_statement parts
  step-of_statement (Cond-F.Not part) = part.1
  step-of_statement (Cond-F.Compare left sign right) =
      both (no_column scope left ++ operand_faults scope right) _ (both (no_column scope left) _ (no_column-of_statement scope left) (operand-of_statement scope right))
      (unlike-of_statement left (kind_meant scope left) (operand_kind scope right))
  step-of_statement (Cond-F.IsNull column negated) = no_column-of_statement scope column

  rolled-of_statement : (x : Cond-F Cond) → AreOfStatement (fault_step scope (map-Cond Cond (List Refusal) (condition_faults scope) x)) → HasOwnFaults (roll-Cond x)
  unfolding condition_faults
  rolled-of_statement x plain = rw (fold-roll-Cond (List Refusal) (fault_step scope) x) plain

  -- the faults of a condition
  pub condition-of_statement : (cond : Cond) → HasOwnFaults cond
  condition-of_statement = ind-Cond HasOwnFaults (λ x y is.
      rolled-of_statement x (subst (λ z. AreOfStatement (fault_step scope (map-Cond Cond (List Refusal) (condition_faults scope) z))) is (step-of_statement y)))

-- the faults of a select: of its tables
module _ (schema : Schema) (select : Select) where
  from_case : (join : Option Join) → select.join ≡ join → AreOfStatement (from_faults schema select)
  from_case None is = rw is (if_either (is_grouped select) _ _ (if_one _ _ refl) (if_one _ _ refl))
  from_case (Some join) is = rw is (both (no_table schema select.from ++ no_table schema join.table) _ (both (no_table schema select.from) _ (if_one _ _ refl) (if_one _ _ refl)) (if_one _ _ refl))

  -- of its items
  item-of_statement : (scope : Scope) (grouped : Bool) (group : Option ColRef) (item : What) → AreOfStatement (item_faults scope grouped group item)
  item-of_statement scope true group (what.Column reference) = if_none _ _ refl
  item-of_statement scope false group (what.Column reference) = no_column-of_statement scope reference
  item-of_statement scope grouped group what.Count = tt
  item-of_statement scope grouped group (what.SumOf reference) = both (no_column scope reference) _ (no_column-of_statement scope reference) (if_one _ _ refl)

  -- of ON
  join-of_statement : (scope : Scope) (join : Option Join) → AreOfStatement (join_faults scope join)
  join-of_statement scope None = tt
  join-of_statement scope (Some join) =
      both (no_column scope join.left ++ no_column scope join.right) _ (both (no_column scope join.left) _ (no_column-of_statement scope join.left) (no_column-of_statement scope join.right))
      (if_either _ (NoColumn join.right.column ∷ []) _ (refl, tt) (unlike-of_statement join.left (kind_meant scope join.left) (kind_meant scope join.right)))

  -- of WHERE, GROUP BY and ORDER BY
  where-of_statement : (scope : Scope) (cond : Option Cond) → AreOfStatement (where_faults scope cond)
  where-of_statement scope None = tt
  where-of_statement scope (Some cond) = condition-of_statement scope cond

  group-of_statement : (scope : Scope) (group : Option ColRef) → AreOfStatement (group_faults scope group)
  group-of_statement scope None = tt
  group-of_statement scope (Some reference) = no_column-of_statement scope reference

  order-of_statement : (scope : Scope) (order : Option Order) → AreOfStatement (order_faults scope select order)
  order-of_statement scope None = tt
  order-of_statement scope (Some order) = if_either (is_grouped select) _ _ (if_none _ _ refl) (no_column-of_statement scope order.column)

  scoped-of_statement : (scope : Scope) → AreOfStatement (scoped_faults scope select)
  scoped-of_statement scope =
      both _ _ (both _ _ (both _ _ (both _ _
      (each (λ (item : Item). item_faults scope (is_grouped select) select.group item.what) (listed_items select.items) (λ item. item-of_statement scope (is_grouped select) select.group item.what))
      (join-of_statement scope select.join)) (where-of_statement scope select.cond)) (group-of_statement scope select.group)) (order-of_statement scope select.order)

  pub select-of_statement : AreOfStatement (select_faults schema select)
  unfolding select_faults
  select-of_statement = both (from_faults schema select) _ (from_case select.join refl) (scoped-of_statement (select_scope schema select))

-- the faults of an INSERT
pub wrong_step : (goes nulls : Bool) (wrong null : Refusal) → IsOfStatement wrong → IsOfStatement null → AreOfStatement ((if goes then [] else wrong ∷ []) ++ (if nulls then null ∷ [] else []))
wrong_step true true wrong null own more = (more, tt)
wrong_step true false wrong null own more = tt
wrong_step false true wrong null own more = (own, (more, tt))
wrong_step false false wrong null own more = (own, tt)

value-of_statement : (table : TableDef) (target : Option (ℕ × Definition)) (value : Value) → AreOfStatement (value_faults table target value)
value-of_statement table None value = tt
value-of_statement table (Some column) value =
    wrong_step (goes_with column.1.kind value) (is_null value && takes_no_null table column) (WrongKind column.1.name) (NullValue column.1.name) refl refl

pub twice-of_statement : (before names : List NameBytes) → AreOfStatement (twice before names)
twice-of_statement before [] = tt
twice-of_statement before (name ∷ names) = both _ (twice (before ++ name ∷ []) names) (if_one _ _ refl) (twice-of_statement (before ++ name ∷ []) names)

pub list-of_statement : (table : TableDef) (names : Option (List NameBytes)) → AreOfStatement (list_faults table names)
list-of_statement table None = tt
list-of_statement table (Some names) = both _ (twice [] names) (each (not_a_column table) names (λ name. if_meant (column_in table name) _ refl)) (twice-of_statement [] names)

tuple-of_statement : (table : TableDef) (names : Option (List NameBytes)) (tuple : List Value) → AreOfStatement (tuple_faults table names tuple)
tuple-of_statement table names tuple =
    both _ _ (both (wrong_count (length tuple) (length (columns_for table names))) _ (if_none _ _ refl)
    (each (λ (pair : Option (ℕ × Definition) × Value). value_faults table pair.0 pair.1) (zip (columns_for table names) tuple) (λ pair. value-of_statement table pair.0 pair.1)))
    (each _ (columns_left table names) (λ column. if_one _ _ refl))

named-of_statement : (found : Option (ℕ × TableDef)) (names : Option (List NameBytes)) (tuples : List (List Value))
    → AreOfStatement (option_map_or (λ found. insert_faults_in names tuples found.1) found [])
named-of_statement None names tuples = tt
named-of_statement (Some found) names tuples = both (list_faults found.1 names) _ (list-of_statement found.1 names) (each (tuple_faults found.1 names) tuples (tuple-of_statement found.1 names))

pub insert-of_statement : (schema : Schema) (name : NameBytes) (names : Option (List NameBytes)) (tuples : List (List Value)) → AreOfStatement (insert_faults schema name names tuples)
unfolding insert_faults
insert-of_statement schema name names tuples = both (no_table schema name) _ (if_one _ _ refl) (named-of_statement (table_named schema name) names tuples)

-- what is told of faults is one of them
sooner_step : (kept : Refusal) (fault : Refusal) (b : Bool) → IsOfStatement kept → IsOfStatement fault → IfOfStatement (if b then Some fault else Some kept)
sooner_step kept fault true own next = next
sooner_step kept fault false own next = own

lowest_fold : (faults : List Refusal) (kept : Option Refusal) → AreOfStatement faults → IfOfStatement kept → IfOfStatement (fold sooner kept faults)
lowest_fold [] kept all own = own
lowest_fold (fault ∷ faults) None all own = lowest_fold faults (Some fault) all.1 all.0
lowest_fold (fault ∷ faults) (Some kept) all own = lowest_fold faults (sooner (Some kept) fault) all.1 (sooner_step kept fault _ own all.0)

pub lowest-of_statement : (faults : List Refusal) → AreOfStatement faults → IfOfStatement (lowest faults)
unfolding lowest
lowest-of_statement faults all = lowest_fold faults None all tt

-- the causes that refuse a CREATE TABLE
or-of_statement : (first second : Option Refusal) → IfOfStatement first → IfOfStatement second → IfOfStatement (option_or first second)
or-of_statement None second own more = more
or-of_statement (Some why) second own more = own

broken-of_statement : (rule : ℕ) (rules : List (List NameBytes)) → IfOfStatement (first_broken rule rules)
broken-of_statement rule [] = tt
broken-of_statement rule ([] ∷ rules) = broken-of_statement (rule + 1) rules
broken-of_statement rule ((name ∷ names) ∷ rules) = refl

mapped : {X : Type 0} (f : X → Refusal) (o : Option X) → ((x : X) → IsOfStatement (f x)) → IfOfStatement (option_map f o)
mapped f None own = tt
mapped f (Some x) own = own x

if_some : (b : Bool) (why : Refusal) (rest : Option Refusal) → IsOfStatement why → IfOfStatement rest → IfOfStatement (if b then Some why else rest)
if_some true why rest own more = own
if_some false why rest own more = more

limits_step : (many more : Bool) → IfOfStatement (if many then Some (refusal.Limit limit.Columns) else if more then Some (refusal.Limit limit.Tables) else None)
limits_step true more = refl
limits_step false true = refl
limits_step false false = tt

pub create-of_statement : (schema : Schema) (holds : ℕ → Bool) (create : CreateTable) → IfOfStatement (refusal_of schema holds create)
unfolding refusal_of
create-of_statement schema holds create =
    or-of_statement _ _ (if_some _ _ None refl tt)
    (or-of_statement _ _ (broken-of_statement 1 (broken schema create))
    (or-of_statement _ _ (mapped _ (cycle_of _ _) (λ cycle. refl))
    (or-of_statement _ _ (mapped _ (find _ (references_of create)) (λ reference. refl)) (limits_step _ _))))
