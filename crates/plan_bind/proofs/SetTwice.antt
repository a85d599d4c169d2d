-- Columns that are set twice, by their names and by their numbers.
use Rattle.std.proofs.Common.{◌≡◌, ℕ, ◌+◌, ◌<◌, ◌≤◌, Bool, true, false, ◌||◌, cond, ◌⊎◌, inl, inr, List, [], ◌∷◌, ◌++◌, Option, None, Some, IsSome, map, length, get_or, take, drop, bytes_eq, nat_lt, ◌==◌, arith, refl, sym, ap, ◌∙◌, if◌then◌else◌}
use Rattle.std.specs.List.{AllByRecursion, enumerate_from, find, flat_map, list_any}
use Rattle.std.specs.Option.{option_map_or}
use Rattle.std.proofs.lemmas.Bool.Decides.{Decides-eqb, Decides-like, nat_tests, same_from_decides}
use Rattle.std.proofs.lemmas.List.{map-append, take_more}
use Rattle.std.proofs.lemmas.List.Sums.{fold-append}
use Rattle.std.proofs.lemmas.Slice.Eq.{bytes_eq-Decides}
use Rattle.own_base.specs.declared.number.ColNo.{ColNo}
use Rattle.own_model.specs.declared.bound.BoundExpr.{BoundExpr}
use Rattle.own_model.specs.declared.expression.Expr.{Expr}
use Rattle.own_model.specs.declared.refusal.Refusal.{Refusal}
use Rattle.own_model.specs.declared.refusal.Refusal.TheVariants.{Count, NoColumn}
use Rattle.own_model.specs.declared.schema.Column.{Column}
use Rattle.own_model.specs.declared.schema.TableDef.{TableDef}
use Rattle.query_model.specs.Refused.{rank, sooner}
use Rattle.query_model.specs.Scope.{NameBytes}
use Rattle.query_model.specs.WriteFaults.{column_in, expression_faults, set_faults, twice}
use Rattle.query_model.specs.WriteMeaning.{bound_expression, column_number}
use Rattle.bind_scope.specs.After.{after}
use Rattle.bind_scope.proofs.Lookups.{drop_here}
use Rattle.plan_bind.specs.Repeats.{is_repeated, is_set_in}

-- the columns from one number on that are set twice: this one, and those behind it
pub repeated_here : (sets : List (ColNo × BoundExpr)) (i : ℕ) (set : ColNo × BoundExpr) → i < length sets → set ≡ get_or sets i set
    → is_repeated (take i sets) (drop i sets) ≡ (is_set_in (take i sets) set.0 || is_repeated (take (i + 1) sets) (drop (i + 1) sets))
repeated_here sets i set within is = rw (drop_here sets i set within is, take_more sets i set within, ← is)

-- a loop that ends at the first column that is set twice
pub ruleset here = (repeated_here)

-- one fault where a name stands twice
abbrev once : Bool → List Refusal
once repeated = if repeated then Count 2 1 ∷ [] else []

-- whether a name is one of those before it
abbrev is_named_twice : List NameBytes → List NameBytes → Bool
is_named_twice before [] = false
is_named_twice before (name ∷ names) = list_any (λ other. bytes_eq other name) before || is_named_twice (before ++ name ∷ []) names

-- one count is kept as well as two
count_again-choice : (later : Bool) (first : Refusal) → nat_lt 5 (rank first) ≡ later
    → sooner (cond later (Some (Count 2 1)) (Some first)) (Count 2 1) ≡ cond later (Some (Count 2 1)) (Some first)
count_again-choice true first is = refl
count_again-choice false first is = rw is

count_again : (kept : Option Refusal) → sooner (sooner kept (Count 2 1)) (Count 2 1) ≡ sooner kept (Count 2 1)
count_again None = refl
count_again (Some first) = count_again-choice (nat_lt 5 (rank first)) first refl

once_again : (kept : Option Refusal) (repeated : Bool) → after (sooner kept (Count 2 1)) (once repeated) ≡ sooner kept (Count 2 1)
once_again kept true = count_again kept
once_again kept false = refl

-- the faults of names that stand twice are as good as one
after-twice-step : (here later : Bool) (rest : List Refusal) (kept : Option Refusal) → ((k : Option Refusal) → after k rest ≡ after k (once later))
    → after kept ((if here then Count 2 1 ∷ [] else []) ++ rest) ≡ after kept (once (here || later))
after-twice-step true later rest kept ih = ih (sooner kept (Count 2 1)) ∙ once_again kept later
after-twice-step false later rest kept ih = ih kept

after-twice : (before names : List NameBytes) (kept : Option Refusal) → after kept (twice before names) ≡ after kept (once (is_named_twice before names))
after-twice before [] kept = refl
after-twice before (name ∷ names) kept =
    after-twice-step (list_any (λ other. bytes_eq other name) before) (is_named_twice (before ++ name ∷ []) names) (twice (before ++ name ∷ []) names) kept
    (after-twice (before ++ name ∷ []) names)

-- a fault is kept that is told before a count
abbrev IsEarly : Option Refusal → Type 0
IsEarly None = ⊥
IsEarly (Some fault) = rank fault ≤ 3

early-choice : (sooner_one : Bool) (fault first : Refusal) → nat_lt (rank fault) (rank first) ≡ sooner_one → rank first ≤ 3
    → IsEarly (cond sooner_one (Some fault) (Some first))
early-choice true fault first is early = grind (arith, nat_tests)
early-choice false fault first is early = early

early-sooner : (kept : Option Refusal) (fault : Refusal) → IsEarly kept → IsEarly (sooner kept fault)
early-sooner None fault early = absurd early
early-sooner (Some first) fault early = early-choice (nat_lt (rank fault) (rank first)) fault first refl early

early-after : (faults : List Refusal) (kept : Option Refusal) → IsEarly kept → IsEarly (after kept faults)
early-after [] kept early = early
early-after (fault ∷ faults) kept early = early-after faults (sooner kept fault) (early-sooner kept fault early)

-- a name that is no column is such a fault
no_column-choice : (sooner_one : Bool) (name : NameBytes) (first : Refusal) → nat_lt 3 (rank first) ≡ sooner_one
    → IsEarly (cond sooner_one (Some (NoColumn name)) (Some first))
no_column-choice true name first is = omega arith
no_column-choice false name first is = grind (arith, nat_tests)

early-no_column : (kept : Option Refusal) (name : NameBytes) → IsEarly (sooner kept (NoColumn name))
early-no_column None name = omega arith
early-no_column (Some first) name = no_column-choice (nat_lt 3 (rank first)) name first refl

-- and then a count changes nothing
late-choice : (first : Refusal) → rank first ≤ 3 → nat_lt 5 (rank first) ≡ false
late-choice first early = grind (arith, nat_tests)

late_count : (kept : Option Refusal) (repeated : Bool) → IsEarly kept → after kept (once repeated) ≡ kept
late_count None repeated early = absurd early
late_count (Some first) true early = rw (late-choice first early)
late_count (Some first) false early = refl

-- the faults of a set whose name is no column
early-set : (table : TableDef) (set : NameBytes × Expr) (found : Option (ℕ × Column)) (kept : Option Refusal) → column_in table set.0 ≡ found
    → IsEarly (after kept (set_faults table set)) ⊎ IsSome found
early-set table set (Some column) kept is = inr refl
early-set table set None kept is =
    inl (rw (fold-append, fold-append, is) (early-after (expression_faults table set.0 None set.1) _ (early-no_column kept set.0)))

-- either such a fault is kept of the sets, or each name is a column
abbrev AreColumns : TableDef → List (NameBytes × Expr) → Type 0
AreColumns table sets = AllByRecursion (λ set. IsSome (column_in table set.0)) sets

early_or_columns-step : (table : TableDef) (set : NameBytes × Expr) (sets : List (NameBytes × Expr)) (kept : Option Refusal)
    → IsEarly (after kept (set_faults table set)) ⊎ IsSome (column_in table set.0)
    → IsEarly (after (after kept (set_faults table set)) (flat_map (set_faults table) sets)) ⊎ AreColumns table sets
    → IsEarly (after (after kept (set_faults table set)) (flat_map (set_faults table) sets)) ⊎ AreColumns table (set ∷ sets)
early_or_columns-step table set sets kept (inl early) later = inl (early-after (flat_map (set_faults table) sets) _ early)
early_or_columns-step table set sets kept (inr column) (inl early) = inl early
early_or_columns-step table set sets kept (inr column) (inr columns) = inr (column, columns)

early_or_columns : (table : TableDef) (sets : List (NameBytes × Expr)) (kept : Option Refusal)
    → IsEarly (after kept (flat_map (set_faults table) sets)) ⊎ AreColumns table sets
early_or_columns table [] kept = inr tt
early_or_columns table (set ∷ sets) kept = rw fold-append (early_or_columns-step table set sets kept
    (early-set table set (column_in table set.0) kept refl) (early_or_columns table sets (after kept (set_faults table set))))

-- the column of a name, of those numbered from here on
abbrev column_from : ℕ → List Column → NameBytes → Option (ℕ × Column)
column_from n columns name = find (λ numbered. bytes_eq numbered.1.name name) (enumerate_from n columns)

-- no number is below the first
from-step : (here : Bool) (n : ℕ) (column : Column) (found : ℕ × Column) (rest : Option (ℕ × Column)) → (rest ≡ Some found → n + 1 ≤ found.0)
    → cond here (Some (n, column)) rest ≡ Some found → n ≤ found.0
from-step true n column found rest ih is = let e : (n, column) ≡ found = cc in let same : n ≡ found.0 = ap (λ (p : ℕ × Column). p.0) e in omega arith
from-step false n column found rest ih is = let later : n + 1 ≤ found.0 = ih is in omega arith

found_from : (n : ℕ) (columns : List Column) (name : NameBytes) (found : ℕ × Column) → column_from n columns name ≡ Some found → n ≤ found.0
found_from n [] name found is = absurd (cc)
found_from n (column ∷ columns) name found is =
    from-step (bytes_eq column.name name) n column found (column_from (n + 1) columns name) (found_from (n + 1) columns name found) is

-- columns of one number have one name
bytes_same : (one other : NameBytes) → bytes_eq one other ≡ true → one ≡ other
bytes_same one other is = (bytes_eq-Decides one other).0 is

first_not_later : (n : ℕ) (column : Column) (p q : ℕ × Column) → Some (n, column) ≡ Some p → p.0 ≡ q.0 → n + 1 ≤ q.0 → ⊥
first_not_later n column p q is same later = let e : (n, column) ≡ p = cc in let at : n ≡ p.0 = ap (λ (r : ℕ × Column). r.0) e in omega arith

one_name-step : (here there : Bool) (n : ℕ) (column : Column) (columns : List Column) (one other : NameBytes) (p q : ℕ × Column)
    → bytes_eq column.name one ≡ here → bytes_eq column.name other ≡ there
    → cond here (Some (n, column)) (column_from (n + 1) columns one) ≡ Some p
    → cond there (Some (n, column)) (column_from (n + 1) columns other) ≡ Some q
    → p.0 ≡ q.0
    → (column_from (n + 1) columns one ≡ Some p → column_from (n + 1) columns other ≡ Some q → one ≡ other)
    → one ≡ other
one_name-step true true n column columns one other p q is_one is_other found_one found_other same ih =
    sym (bytes_same column.name one is_one) ∙ bytes_same column.name other is_other
one_name-step true false n column columns one other p q is_one is_other found_one found_other same ih =
    absurd (first_not_later n column p q found_one same (found_from (n + 1) columns other q found_other))
one_name-step false true n column columns one other p q is_one is_other found_one found_other same ih =
    absurd (first_not_later n column q p found_other (sym same) (found_from (n + 1) columns one p found_one))
one_name-step false false n column columns one other p q is_one is_other found_one found_other same ih = ih found_one found_other

one_name : (n : ℕ) (columns : List Column) (one other : NameBytes) (p q : ℕ × Column)
    → column_from n columns one ≡ Some p → column_from n columns other ≡ Some q → p.0 ≡ q.0 → one ≡ other
one_name n [] one other p q found_one found_other same = absurd (cc)
one_name n (column ∷ columns) one other p q found_one found_other same =
    one_name-step (bytes_eq column.name one) (bytes_eq column.name other) n column columns one other p q refl refl found_one found_other same
    (λ one_is other_is. one_name (n + 1) columns one other p q one_is other_is same)

-- so two columns have one name where they have one number
same_number-found : (table : TableDef) (one other : NameBytes) (p q : Option (ℕ × Column)) → column_in table one ≡ p → column_in table other ≡ q → IsSome p → IsSome q
    → bytes_eq one other ≡ (option_map_or (λ found. found.0) p 0 == option_map_or (λ found. found.0) q 0)
same_number-found table one other None q one_is other_is some_one some_other = absurd (cc)
same_number-found table one other (Some p) None one_is other_is some_one some_other = absurd (cc)
same_number-found table one other (Some p) (Some q) one_is other_is some_one some_other =
    same_from_decides (bytes_eq one other) (p.0 == q.0) (bytes_eq-Decides one other)
    (Decides-like (p.0 == q.0) (one_name 0 table.columns one other p q one_is other_is)
    (λ e. let name : Some p ≡ Some q = sym one_is ∙ ap (column_in table) e ∙ other_is in let found : p ≡ q = cc in ap (λ (r : ℕ × Column). r.0) found)
    (Decides-eqb p.0 q.0))

same_number : (table : TableDef) (one other : NameBytes) → IsSome (column_in table one) → IsSome (column_in table other)
    → bytes_eq one other ≡ ((column_number table one).0 == (column_number table other).0)
same_number table one other some_one some_other = same_number-found table one other (column_in table one) (column_in table other) refl refl some_one some_other

-- what a set means, and what sets mean
abbrev bound_set : TableDef → NameBytes × Expr → ColNo × BoundExpr
bound_set table set = (column_number table set.0, bound_expression table set.1)

abbrev names_of : List (NameBytes × Expr) → List NameBytes
names_of sets = map (λ set. set.0) sets

-- a name is among those before it where its number is
named_by_number : (table : TableDef) (before : List (NameBytes × Expr)) (name : NameBytes) → AreColumns table before → IsSome (column_in table name)
    → list_any (λ other. bytes_eq other name) (names_of before) ≡ is_set_in (map (bound_set table) before) (column_number table name)
named_by_number table [] name columns column = refl
named_by_number table (set ∷ before) name columns column = let e = same_number table set.0 name columns.0 column in
    let ih = named_by_number table before name columns.1 column in rw (e, ih)

-- one column more before
are_more : (table : TableDef) (before : List (NameBytes × Expr)) (set : NameBytes × Expr) → AreColumns table before → IsSome (column_in table set.0)
    → AreColumns table (before ++ set ∷ [])
are_more table [] set columns column = (column, tt)
are_more table (first ∷ before) set columns column = (columns.0, are_more table before set columns.1 column)

-- a name stands twice where its number does
repeated_by_number : (table : TableDef) (before sets : List (NameBytes × Expr)) → AreColumns table before → AreColumns table sets
    → is_named_twice (names_of before) (names_of sets) ≡ is_repeated (map (bound_set table) before) (map (bound_set table) sets)
repeated_by_number table before [] columns_before columns = refl
repeated_by_number table before (set ∷ sets) columns_before columns =
    let here = named_by_number table before set.0 columns_before columns.0 in
    let later = repeated_by_number table (before ++ set ∷ []) sets (are_more table before set columns_before columns.0) columns.1 in
    let names = map-append (λ (s : NameBytes × Expr). s.0) before (set ∷ []) in
    let bound = map-append (bound_set table) before (set ∷ []) in
    rw (here, ← names, ← bound, later)

-- the faults of sets, and of names that stand twice among them: by the numbers of their columns
twice-choice : (table : TableDef) (sets : List (NameBytes × Expr)) (kept : Option Refusal) → IsEarly kept ⊎ AreColumns table sets
    → after kept (twice [] (names_of sets)) ≡ after kept (once (is_repeated [] (map (bound_set table) sets)))
twice-choice table sets kept (inl early) = after-twice [] (names_of sets) kept ∙ late_count kept (is_named_twice [] (names_of sets)) early
    ∙ sym (late_count kept (is_repeated [] (map (bound_set table) sets)) early)
twice-choice table sets kept (inr columns) = after-twice [] (names_of sets) kept ∙ ap (λ repeated. after kept (once repeated)) (repeated_by_number table [] sets tt columns)

pub twice_by_number : (table : TableDef) (sets : List (NameBytes × Expr)) (kept : Option Refusal)
    → after kept (flat_map (set_faults table) sets ++ twice [] (map (λ set. set.0) sets))
    ≡ after (after kept (flat_map (set_faults table) sets))
    (if is_repeated [] (map (λ set. (column_number table set.0, bound_expression table set.1)) sets) then Count 2 1 ∷ [] else [])
twice_by_number table sets kept =
    rw fold-append (twice-choice table sets (after kept (flat_map (set_faults table) sets)) (early_or_columns table sets kept))
