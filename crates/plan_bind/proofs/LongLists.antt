-- A column list of more names than a table has columns: one of them means none, or one stands twice.
use Rattle.std.proofs.Common.{◌≡◌, ℕ, ◌+◌, ◌<◌, ◌≤◌, Bool, true, false, ◌&&◌, ◌||◌, cond, List, [], ◌∷◌, ◌++◌, Option, None, Some, is_some, map, length, bytes_eq, if◌then◌else◌, refl, ap, sym, ◌∙◌, arith, lit≤}
use Rattle.std.specs.List.{enumerate_from, find, flat_map, list_all, list_any}
use Rattle.std.specs.Set.{is_member}
use Rattle.std.proofs.lemmas.Cmp.{nat_list_eq_equiv}
use Rattle.std.proofs.lemmas.List.{length-map}
use Rattle.std.proofs.lemmas.List.FromFn.{length-enumerate_from}
use Rattle.std.proofs.lemmas.List.Sums.{fold-append}
use Rattle.std.proofs.lemmas.Map.Made.{length-le_from_is_member}
use Rattle.own_model.specs.declared.limit.TheConstants.{TABLE_COLUMNS}
use Rattle.own_model.specs.declared.refusal.Refusal.{Refusal}
use Rattle.own_model.specs.declared.refusal.Refusal.TheVariants.{Count}
use Rattle.own_model.specs.declared.schema.Column.{Column as Definition}
use Rattle.own_model.specs.declared.schema.TableDef.{TableDef}
use Rattle.query_model.specs.Refused.{sooner}
use Rattle.query_model.specs.Scope.{NameBytes}
use Rattle.query_model.specs.WriteFaults.{column_in, columns_for, list_faults, not_a_column, twice}
use Rattle.schema_model.specs.rules.RepeatedColumns.{repeated_after}
use Rattle.schema_model.proofs.Names.{distinct-unrepeated, same_name}
use Rattle.bind_scope.specs.After.{after}
use Rattle.plan_bind.specs.InsertTargets.{IsCounted}
use Rattle.plan_bind.specs.IsNoted.{IsNoted}
use Rattle.plan_bind.proofs.Ranks.{kept_after, kept_new, kept_sooner_than}
use Rattle.plan_bind.proofs.Twice.{after_unknown}

-- the names of a table's columns
abbrev names_of : List Definition → List NameBytes
names_of columns = map (λ column. column.name) columns

-- this column or one behind it
one_of : {A : Type 0} (here : Bool) (item : A) (rest : Option A) (later : Bool) → is_some rest ≡ later → is_some (cond here (Some item) rest) ≡ (here || later)
one_of true item rest later is = refl
one_of false item rest later is = is

-- a name means a column where it is one of their names
found-member : (n : ℕ) (columns : List Definition) (name : NameBytes)
    → is_some (find (λ numbered. bytes_eq numbered.1.name name) (enumerate_from n columns)) ≡ is_member bytes_eq (names_of columns) name
found-member n [] name = refl
found-member n (column ∷ columns) name = rw (nat_list_eq_equiv.symm name column.name)
    (one_of (bytes_eq column.name name) (n, column) _ (is_member bytes_eq (names_of columns) name) (found-member (n + 1) columns name))

-- both tests pass
both_true : (one other : Bool) → (one && other) ≡ true → (one ≡ true) × (other ≡ true)
both_true true other is = (refl, is)
both_true false other is = absurd (cc)

-- this name, or one behind it
member_here : (table : TableDef) (name : NameBytes) (names : List NameBytes) (q : NameBytes) (here : Bool) → bytes_eq q name ≡ here
    → (is_some (column_in table name) && list_all is_some (map (column_in table) names)) ≡ true
    → (list_all is_some (map (column_in table) names) ≡ true → is_member bytes_eq names q ≡ true → is_member bytes_eq (names_of table.columns) q ≡ true)
    → (here || is_member bytes_eq names q) ≡ true → is_member bytes_eq (names_of table.columns) q ≡ true
member_here table name names q true is each later member = rw (same_name q name is) (sym (found-member 0 table.columns name) ∙ (both_true _ _ each).0)
member_here table name names q false is each later member = later (both_true _ _ each).1 member

-- each of names that mean columns is one of the columns' names
each_member : (table : TableDef) (names : List NameBytes) → list_all is_some (map (column_in table) names) ≡ true
    → (q : NameBytes) → is_member bytes_eq names q ≡ true → is_member bytes_eq (names_of table.columns) q ≡ true
each_member table [] each q member = absurd (cc)
each_member table (name ∷ names) each q member = member_here table name names q (bytes_eq q name) refl each (λ others found. each_member table names others q found) member

-- so where none stands twice, there are no more of them
few_names : (table : TableDef) (names : List NameBytes) → list_all is_some (map (column_in table) names) ≡ true → repeated_after [] names ≡ []
    → length names ≤ length table.columns
few_names table names each once =
    rw length-map at (length-le_from_is_member nat_list_eq_equiv names (names_of table.columns) (distinct-unrepeated names once) (each_member table names each))

-- a count for each name that stands twice
count_here : (here : Bool) (name : NameBytes) (names : List NameBytes) (faults : List Refusal) → faults ≡ map (λ again. Count 2 1) names
    → (if here then Count 2 1 ∷ [] else []) ++ faults ≡ map (λ again. Count 2 1) ((if here then name ∷ [] else []) ++ names)
count_here true name names faults are = ap (λ more. Count 2 1 ∷ more) are
count_here false name names faults are = are

twice-repeated : (before names : List NameBytes) → twice before names ≡ map (λ again. Count 2 1) (repeated_after before names)
twice-repeated before [] = refl
twice-repeated before (name ∷ names) = count_here (list_any (λ other. bytes_eq other name) before) name (repeated_after (before ++ name ∷ []) names) _
    (twice-repeated (before ++ name ∷ []) names)

-- where each name means a column
all_found : (table : TableDef) (names : List NameBytes) (kept : Option Refusal) (again : List NameBytes) → repeated_after [] names ≡ again
    → list_all is_some (map (column_in table) names) ≡ true → length table.columns < length names → IsNoted 5 (after kept (twice [] names))
all_found table names kept [] is each long = let few = few_names table names each is in absurd (omega arith)
all_found table names kept (first ∷ rest) is each long =
    rw (twice-repeated [] names, is) (kept_after 5 (sooner kept (Count 2 1)) (map (λ again. Count 2 1) rest) (kept_new 5 kept (Count 2 1) (lit≤ tt)))

-- whether each does
long_list : (table : TableDef) (names : List NameBytes) (kept : Option Refusal) (found : Bool) → list_all is_some (map (column_in table) names) ≡ found
    → length table.columns < length names → IsNoted 5 (after kept (flat_map (not_a_column table) names ++ twice [] names))
long_list table names kept true is long =
    rw fold-append (all_found table names (after kept (flat_map (not_a_column table) names)) (repeated_after [] names) refl is long)
long_list table names kept false is long = rw fold-append (kept_after 5 _ (twice [] names) (kept_sooner_than 3 5 _ (lit≤ tt) (after_unknown table names kept is)))

-- the faults of a column list that is longer than a table can be
pub counted_after : (table : TableDef) (names : Option (List NameBytes)) (kept : Option Refusal) → length table.columns ≤ TABLE_COLUMNS
    → IsCounted (record { table = table; names = names }) (after kept (list_faults table names))
counted_after table None kept within long = let few : length (columns_for table None) ≡ length table.columns = rw (length-map, length-enumerate_from 0 table.columns) in absurd (omega arith)
counted_after table (Some names) kept within long =
    let many : length (map (column_in table) names) ≡ length names = length-map names (column_in table) in
    long_list table names kept (list_all is_some (map (column_in table) names)) refl (omega arith)
