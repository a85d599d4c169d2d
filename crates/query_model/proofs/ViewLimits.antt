-- A CREATE VIEW that isn't refused leaves views within the limits.
use Rattle.std.proofs.Common.{◌≡◌, ℕ, ◌+◌, ◌≤◌, List, [], ◌∷◌, ◌++◌, Bool, true, false, cond, Option, None, Some, Ok, length, nat_lt, if◌then◌else◌, bytes_eq, ap, refl, arith, subst}
use Rattle.std.specs.List.{AllByRecursion, enumerate_from, find, fold}
use Rattle.std.specs.Option.{option_map_or}
use Rattle.std.proofs.lemmas.Bool.Decides.{nat_tests}
use Rattle.std.proofs.lemmas.List.{length-append, length-map}
use Rattle.std.proofs.lemmas.Slice.Zip.{length-zip}
use Rattle.own_model.specs.declared.condition.Cond.{Cond}
use Rattle.own_model.specs.declared.create.CreateTable.{CreateTable}
use Rattle.own_model.specs.declared.create.CreateView.{CreateView}
use Rattle.own_model.specs.declared.limit.TheConstants.{SELECT_ITEMS, TABLE_COLUMNS, VIEWS}
use Rattle.own_model.specs.declared.refusal.Refusal.{Refusal}
use Rattle.own_model.specs.declared.schema.Kind.{Kind}
use Rattle.own_model.specs.declared.schema.Schema.{Schema}
use Rattle.own_model.specs.declared.schema.TableDef.{TableDef}
use Rattle.own_model.specs.declared.schema.ViewDef.{ViewDef}
use Rattle.own_model.specs.declared.select.ColRef.{ColRef}
use Rattle.own_model.specs.declared.select.Items.{Items}
use Rattle.own_model.specs.declared.select.Items.TheVariants.{Star, Listed}
use Rattle.own_model.specs.declared.select.Join.{Join}
use Rattle.own_model.specs.declared.select.Order.{Order}
use Rattle.own_model.specs.declared.select.Select.{Select}
use Rattle.schema_model.specs.WithTable.{with_table}
use Rattle.schema_model.specs.WithinLimits.{IsTableWithin, IsWithinLimits}
use Rattle.query_model.specs.BoundView.{bound_view, new_view, view_faults, view_names, view_unless}
use Rattle.query_model.specs.Refused.{lowest}
use Rattle.query_model.specs.Scope.{NameBytes, Scope, columns_named, scope_from, table_columns, table_columns_named, table_named, view_columns, view_named}
use Rattle.query_model.specs.SelectFaults.{listed_items, output_name, select_scope}
use Rattle.query_model.specs.SelectMeaning.{output_names}
use Rattle.query_model.specs.WithinLimits.{AreViewsWithin, IsSelectWithin, IsViewWithin}
use Rattle.query_model.proofs.NoFaults.{none-if, none-last, none-lowest}

-- what holds of an item and of what is found behind it holds of what is found
found-step : {A : Type 0} (P : A → Type 0) (passes : Bool) (n : ℕ) (x : A) (later : Option (ℕ × A)) (found : ℕ × A)
    → P x → (later ≡ Some found → P found.1) → cond passes (Some (n, x)) later ≡ Some found → P found.1
found-step P true n x later found here behind is = let same : x ≡ found.1 = ap (λ o. option_map_or (λ f. f.1) o x) is in subst P same here
found-step P false n x later found here behind is = behind is

-- what holds of all holds of the first that passes
all-find : {A : Type 0} (P : A → Type 0) (test : A → Bool) (n : ℕ) (xs : List A) (found : ℕ × A)
    → AllByRecursion P xs → find (λ numbered. test numbered.1) (enumerate_from n xs) ≡ Some found → P found.1
all-find P test n [] found each is = absurd (cc)
all-find P test n (x ∷ xs) found each is =
    found-step P (test x) n x (find (λ numbered. test numbered.1) (enumerate_from (n + 1) xs)) found each.0 (all-find P test (n + 1) xs found each.1) is

-- what holds of all, and of one more behind them
all-append : {A : Type 0} (P : A → Type 0) (xs : List A) (x : A) → AllByRecursion P xs → P x → AllByRecursion P (xs ++ x ∷ [])
all-append P [] x each last = (last, tt)
all-append P (y ∷ ys) x each last = (each.0, all-append P ys x each.1 last)

-- the columns of a table that is found, which has no more than it may have
length-table_found : (found : Option (ℕ × TableDef)) → ((table : ℕ × TableDef) → found ≡ Some table → IsTableWithin table.1)
    → length (option_map_or (λ table. table_columns table.1) found []) ≤ TABLE_COLUMNS
length-table_found None within = omega arith
length-table_found (Some table) within = let columns = (within table refl).columns in omega (arith, length-map {B = NameBytes × Kind} table.1.columns (λ column. (column.name, column.kind)), columns)

-- those of a view
length-view_found : (found : Option (ℕ × ViewDef)) → ((view : ℕ × ViewDef) → found ≡ Some view → IsViewWithin view.1)
    → length (option_map_or (λ view. view_columns view.1) found []) ≤ SELECT_ITEMS
length-view_found None within = omega arith
length-view_found (Some view) within = omega (arith, length-zip view.1.names view.1.kinds, within view refl)

-- those of a table, or else of a view
length-either_found : (found : Option (ℕ × TableDef)) (viewed : List (NameBytes × Kind))
    → length (option_map_or (λ table. table_columns table.1) found []) ≤ TABLE_COLUMNS → length viewed ≤ SELECT_ITEMS
    → length (option_map_or (λ table. table_columns table.1) found viewed) ≤ SELECT_ITEMS
length-either_found None viewed table view = view
length-either_found (Some found) viewed table view = omega arith

-- the columns of a table by its name
length-table_columns_named : (schema : Schema) (name : NameBytes) → IsWithinLimits schema → length (table_columns_named schema name) ≤ TABLE_COLUMNS
length-table_columns_named schema name within =
    length-table_found (table_named schema name) (λ table is. all-find IsTableWithin (λ table. bytes_eq table.name name) 0 schema.tables table within.each is)

-- those of a table or a view
length-columns_named : (schema : Schema) (name : NameBytes) → IsWithinLimits schema → AreViewsWithin schema → length (columns_named schema name) ≤ SELECT_ITEMS
length-columns_named schema name tables views =
    length-either_found (table_named schema name) _ (length-table_columns_named schema name tables)
    (length-view_found (view_named schema name) (λ view is. all-find IsViewWithin (λ view. bytes_eq view.name name) 0 schema.views view views.each is))

-- how many columns can be named
pub length-scope_from : (number : ℕ) (table : NameBytes) (columns : List (NameBytes × Kind)) → length (scope_from number table columns) ≡ length columns
length-scope_from number table [] = refl
length-scope_from number table (column ∷ columns) = omega (arith, length-scope_from (number + 1) table columns)

-- by the join, where there is one
length-scope_at : (schema : Schema) (items : Items) (from : NameBytes) (join : Option Join) (cond : Option Cond) (group : Option ColRef) (order : Option Order)
    → IsWithinLimits schema → AreViewsWithin schema
    → length (select_scope schema (record { items = items; from = from; join = join; cond = cond; group = group; order = order })) ≤ SELECT_ITEMS
unfolding select_scope
length-scope_at schema items from None cond group order tables views =
    omega (arith, length-scope_from 0 from (columns_named schema from), length-columns_named schema from tables views)
length-scope_at schema items from (Some join) cond group order tables views =
    let left = table_columns_named schema from in
    let right = table_columns_named schema join.table in
    omega (
      arith,
      length-append (scope_from 0 from left) (scope_from (length left) join.table right),
      length-scope_from 0 from left,
      length-scope_from (length left) join.table right,
      length-table_columns_named schema from tables,
      length-table_columns_named schema join.table tables,
    )

-- a select can name no more columns than it may list
pub length-select_scope : (schema : Schema) (select : Select) → IsWithinLimits schema → AreViewsWithin schema → length (select_scope schema select) ≤ SELECT_ITEMS
length-select_scope schema select = length-scope_at schema select.items select.from select.join select.cond select.group select.order

-- a select has no more output columns than it may list items
length-output_names : (scope : Scope) (items : Items) → length scope ≤ SELECT_ITEMS → length (listed_items items) ≤ SELECT_ITEMS → length (output_names scope items) ≤ SELECT_ITEMS
length-output_names scope Star named listed = omega (arith, length-map scope (λ named. named.column))
length-output_names scope (Listed items) named listed = omega (arith, length-map items output_name)

-- a view that is given, and not refused
given-unless : (told : Option Refusal) (made view : ViewDef) → view_unless told made ≡ Ok view → (told ≡ None) × (made ≡ view)
given-unless None made view is = (refl, cc)
given-unless (Some why) made view is = absurd (cc)

-- the views are few enough for one more
few-views : (schema : Schema) (create : CreateView) → view_faults schema create ≡ [] → length schema.views + 1 ≤ VIEWS
unfolding view_faults
few-views schema create none =
    let test : nat_lt VIEWS (length schema.views + 1) ≡ false = none-if _ _ (none-last _ _ none) in grind (arith, nat_tests)

-- The view that a CREATE VIEW gives is within its limit, and so are the views with it.
pub view_within : (schema : Schema) (create : CreateView) (view : ViewDef) → IsWithinLimits schema → AreViewsWithin schema → IsSelectWithin create.select
    → bound_view schema create ≡ Ok view → (length schema.views + 1 ≤ VIEWS) × IsViewWithin view
unfolding bound_view new_view
view_within schema create view tables views items given =
    let is = given-unless (lowest (view_faults schema create)) (new_view schema create) view given in
    let names : length (view_names schema create) ≤ SELECT_ITEMS = length-output_names (select_scope schema create.select) create.select.items (length-select_scope schema create.select tables views) items in
    (few-views schema create (none-lowest (view_faults schema create) is.0), subst IsViewWithin is.1 names)

pub views_within-with_view : (schema : Schema) (create : CreateView) (view : ViewDef) → IsWithinLimits schema → AreViewsWithin schema → IsSelectWithin create.select
    → bound_view schema create ≡ Ok view → AreViewsWithin (record schema { views = schema.views ++ view ∷ [] })
views_within-with_view schema create view tables views items given =
    let within = view_within schema create view tables views items given in
    record {
      count = omega (arith, length-append schema.views (view ∷ []), within.0);
      each = all-append IsViewWithin schema.views view views.each within.1;
    }

-- a CREATE TABLE leaves them as they are
pub views_within-with_table : (schema : Schema) (create : CreateTable) → AreViewsWithin schema → AreViewsWithin (with_table schema create)
unfolding with_table
views_within-with_table schema create views = record { count = views.count; each = views.each }

-- where there are none
pub views_within-empty : AreViewsWithin (record { tables = []; views = []; edges = [] })
views_within-empty = record { count = omega arith; each = tt }
