-- Where a select has no fault, its source is there.
use Rattle.std.proofs.Common.{◌≡◌, ◌<◌, ◌≤◌, ℕ, ◌+◌, List, [], ◌∷◌, ◌++◌, Bool, true, false, ◌&&◌, cond, Option, None, Some, Ok, length, is_none, if◌then◌else◌, bytes_eq, refl, subst, arith}
use Rattle.std.specs.List.{enumerate_from, find}
use Rattle.std.specs.Option.{option_map_or}
use Rattle.own_base.specs.declared.number.ViewNo.{ViewNo}
use Rattle.own_model.specs.declared.bound.Bound.TheVariants as bound
use Rattle.own_model.specs.declared.bound.BoundSelect.{BoundSelect}
use Rattle.own_model.specs.declared.bound.Source1.{Source1}
use Rattle.own_model.specs.declared.bound.Source1.TheVariants.{Pair, Table, View}
use Rattle.own_model.specs.declared.condition.Cond.{Cond}
use Rattle.own_model.specs.declared.refusal.Refusal.{Refusal}
use Rattle.own_model.specs.declared.refusal.Refusal.TheVariants.{NoTable}
use Rattle.own_model.specs.declared.schema.Schema.{Schema}
use Rattle.own_model.specs.declared.schema.TableDef.{TableDef}
use Rattle.own_model.specs.declared.schema.ViewDef.{ViewDef}
use Rattle.own_model.specs.declared.select.ColRef.{ColRef}
use Rattle.own_model.specs.declared.select.Items.{Items}
use Rattle.own_model.specs.declared.select.Join.{Join}
use Rattle.own_model.specs.declared.select.Order.{Order}
use Rattle.own_model.specs.declared.select.Select.{Select}
use Rattle.own_model.specs.declared.statement.Statement.TheVariants as statement
use Rattle.query_model.specs.BoundStatement.{bound_statement, bound_unless, faults, meaning}
use Rattle.query_model.specs.Refused.{lowest}
use Rattle.query_model.specs.Scope.{NameBytes, table_named, view_named}
use Rattle.query_model.specs.SelectFaults.{from_faults, joined_twice, no_table, scoped_faults, select_faults, select_scope}
use Rattle.query_model.specs.SelectMeaning.{bound_select, table_number}
use Rattle.readable_model.specs.Sources.{IsSourceThere, IsThere}
use Rattle.query_model.proofs.NoFaults.{none-first, none-if, none-last, none-lowest}

-- the number of what is found
abbrev number_found : {A : Type 0} → Option (ℕ × A) → ℕ
number_found found = option_map_or (λ found. found.0) found 0

-- what is found among numbered values, if anything is, has a number of theirs
abbrev IsBelow : {A : Type 0} → ℕ → Option (ℕ × A) → Type 0
IsBelow count found = is_none found ≡ false → number_found found < count

below-step : {A : Type 0} (passes : Bool) (n : ℕ) (x : A) (later : Option (ℕ × A)) (count : ℕ) → n < count → IsBelow count later
    → IsBelow count (cond passes (Some (n, x)) later)
below-step true n x later count here behind there = here
below-step false n x later count here behind there = behind there

find-below : {A : Type 0} (test : A → Bool) (n : ℕ) (xs : List A) (count : ℕ) → n + length xs ≤ count
    → IsBelow count (find (λ numbered. test numbered.1) (enumerate_from n xs))
find-below test n [] count is = λ there. absurd (cc)
find-below test n (x ∷ xs) count is =
    below-step (test x) n x (find (λ numbered. test numbered.1) (enumerate_from (n + 1) xs)) count (omega arith) (find-below test (n + 1) xs count (omega arith))

-- the table of a name, and the view
table-below : (schema : Schema) (name : NameBytes) → IsBelow (length schema.tables) (table_named schema name)
table-below schema name = find-below (λ table. bytes_eq table.name name) 0 schema.tables (length schema.tables) (omega arith)

view-below : (schema : Schema) (name : NameBytes) → IsBelow (length schema.views) (view_named schema name)
view-below schema name = find-below (λ view. bytes_eq view.name name) 0 schema.views (length schema.views) (omega arith)

-- a table that has to be there
pub table-there : (schema : Schema) (name : NameBytes) → no_table schema name ≡ [] → (table_number schema name).0 < length schema.tables
table-there schema name none = table-below schema name (none-if (is_none (table_named schema name)) (NoTable name) none)

-- where no table is named, a view is, and then nothing is grouped
only_view : (grouped viewless : Bool) (fault : Refusal) → (if grouped then fault ∷ [] else (if viewless then fault ∷ [] else [])) ≡ []
    → (viewless ≡ false) × (grouped ≡ false)
only_view true viewless fault none = absurd (cc)
only_view false true fault none = absurd (cc)
only_view false false fault none = (refl, refl)

-- a source that is one table, or else one view
one-there : (schema : Schema) (grouped : Bool) (table : Option (ℕ × TableDef)) (view : Option (ℕ × ViewDef)) (fault : Refusal)
    → IsBelow (length schema.tables) table → IsBelow (length schema.views) view
    → (if grouped then (if is_none table then fault ∷ [] else []) else (if is_none table && is_none view then fault ∷ [] else [])) ≡ []
    → IsSourceThere schema grouped (option_map_or (λ found. Table (record { 0 = found.0 })) table (View (record { 0 = number_found view })))
one-there schema grouped (Some table) view fault tables views none = tables refl
one-there schema grouped None view fault tables views none =
    let only = only_view grouped (is_none view) fault none in
    (views only.0, only.1)

-- by the join, where there is one
there-by_join : (schema : Schema) (items : Items) (from : NameBytes) (join : Option Join) (condition : Option Cond) (group : Option ColRef) (order : Option Order)
    → from_faults schema (record { items = items; from = from; join = join; cond = condition; group = group; order = order }) ≡ []
    → IsThere schema (bound_select schema (record { items = items; from = from; join = join; cond = condition; group = group; order = order }))
unfolding bound_select
there-by_join schema items from None condition group order none =
    one-there schema _ (table_named schema from) (view_named schema from) (NoTable from) (table-below schema from) (view-below schema from) none
there-by_join schema items from (Some join) condition group order none =
    let both = none-first (no_table schema from ++ no_table schema join.table) (joined_twice from join) none in (
      table-there schema from (none-first (no_table schema from) (no_table schema join.table) both),
      table-there schema join.table (none-last (no_table schema from) (no_table schema join.table) both),
    )

-- the source of a select that has no fault is there
pub source_is_there : (schema : Schema) (select : Select) → lowest (select_faults schema select) ≡ None → IsThere schema (bound_select schema select)
unfolding select_faults
source_is_there schema select none =
    there-by_join schema select.items select.from select.join select.cond select.group select.order
    (none-first (from_faults schema select) (scoped_faults (select_scope schema select) select) (none-lowest _ none))

-- so that of a bound select is
bound-unless : (told : Option Refusal) (meant given : BoundSelect) → bound_unless told (bound.Select meant) ≡ Ok (bound.Select given) → (told ≡ None) × (meant ≡ given)
bound-unless None meant given is = (refl, cc)
bound-unless (Some fault) meant given is = absurd (cc)

pub bound_source_is_there : (schema : Schema) (select : Select) (query : BoundSelect) → bound_statement schema (statement.Select select) ≡ Ok (bound.Select query)
    → IsThere schema query
unfolding bound_statement faults meaning
bound_source_is_there schema select query is =
    let given = bound-unless (lowest (select_faults schema select)) (bound_select schema select) query is in
    subst (IsThere schema) given.1 (source_is_there schema select given.0)

-- no grouped select reads a view, so that its source is a table, or two
no_view : (schema : Schema) (grouped : Bool) (source : Source1) (view : ViewNo) → IsSourceThere schema grouped source → grouped ≡ true → source ≡ View view → ⊥
no_view schema grouped (Table table) view there is viewed = cc
no_view schema grouped (Pair left right left_column right_column) view there is viewed = cc
no_view schema grouped (View found) view there is viewed = let plain = there.1 in cc

pub grouped_reads_no_view : (schema : Schema) (query : BoundSelect) (view : ViewNo) → IsThere schema query → query.grouped ≡ true → query.source ≡ View view → ⊥
grouped_reads_no_view schema query = no_view schema query.grouped query.source
