-- Parts after changes.
use Rattle.std.proofs.Common.{◌≡◌, ◌∙◌, ℕ, ◌+◌, ◌<◌, ◌≤◌, List, [], ◌∷◌, ◌++◌, Bool, true, false, cond, ap, append_assoc, append-nil, drop, filter, length, map, refl, sym, subst, take}
use Rattle.std.proofs.lemmas.Bool.{and_parts, or_parts}
use Rattle.std.proofs.lemmas.List.{drop_more, take_more}
use Rattle.std.proofs.lemmas.List.Elements.{filter-append}
use Rattle.std.proofs.Math.ListN.{drop_of_length-le}
use Rattle.std.specs.Prelude.{slice_index_or}
use Rattle.std.specs.List.{list_all, list_any}
use Rattle.own_base.specs.Key.{key_cmp}
use Rattle.own_base.specs.declared.change.Change.{Change}
use Rattle.own_base.specs.declared.number.ColNo.{ColNo}
use Rattle.own_base.specs.declared.value.Key.{Key}
use Rattle.own_model.specs.declared.schema.TableDef.{TableDef}
use Rattle.own_model.specs.Db.{Row, key_of}
use Rattle.page_model.specs.Changed.{AreKeyed, with_changes}
use Rattle.state_model.specs.Put.{changed_key, is_of_table, put_from, row_after, rows_put}
use Rattle.table_part.specs.KeyIn.{key_in}
use Rattle.table_part.proofs.KeyLemmas.{key_in-table}

-- where all pass a test, none is filtered out; where none does, all are
pub filter_all : {X : Type 0} (test : X → Bool) (xs : List X) → list_all test xs ≡ true → filter test xs ≡ xs
filter_all test [] all = refl
filter_all test (x ∷ xs) all =
    let both = and_parts (test x) (list_all test xs) all in rw both.0 (ap (λ ys. x ∷ ys) (filter_all test xs both.1))

pub filter_none : {X : Type 0} (test : X → Bool) (xs : List X) → list_any test xs ≡ false → filter test xs ≡ []
filter_none test [] none = refl
filter_none test (x ∷ xs) none =
    let both = or_parts (test x) (list_any test xs) none in rw both.0 (filter_none test xs both.1)

-- those that pass, one more looked at
pub filter_more : {X : Type 0} (test : X → Bool) (xs : List X) (index : ℕ) (x : X) → index < length xs → x ≡ slice_index_or xs index x
    → filter test (take (index + 1) xs) ≡ filter test (take index xs) ++ cond (test x) (x ∷ []) []
filter_more test xs index x within is =
    ap (filter test) (take_more xs index x within ∙ ap (λ last. take index xs ++ last ∷ []) (sym is))
    ∙ filter-append test (take index xs) (x ∷ [])

-- a part's key is its table's
pub keys_same : (table : TableDef) (key : ColNo) → key ≡ table.key → key_in key ≡ key_of table
keys_same table key is = ap key_in is ∙ (λ i row. key_in-table table row i)

pub keyed_in : (table : TableDef) (key : ColNo) (changes : List Change) → key ≡ table.key → AreKeyed (key_of table) changed_key row_after changes
    → AreKeyed (key_in key) changed_key row_after changes
keyed_in table key changes is keyed =
    subst (λ (key_of : Row → Key). AreKeyed key_of changed_key row_after changes) (sym (keys_same table key is)) keyed

pub with_changes_in : (table : TableDef) (key : ColNo) (changes : List Change) (rows : List Row) → key ≡ table.key
    → with_changes (key_in key) key_cmp changed_key row_after changes rows ≡ with_changes (key_of table) key_cmp changed_key row_after changes rows
with_changes_in table key changes rows is =
    ap (λ (key_of : Row → Key). with_changes key_of key_cmp changed_key row_after changes rows) (keys_same table key is)

-- no change changes nothing
pub rows_put_none : (number : ℕ) (table : TableDef) (changes : List Change) (rows : List Row) → list_any (is_of_table number) changes ≡ false
    → rows ≡ rows_put number table changes rows
unfolding with_changes
rows_put_none number table changes rows none = rw (filter_none (is_of_table number) changes none) refl

-- the rows of one table more
pub put_more : (number : ℕ) (tables : List TableDef) (table : TableDef) (changes : List Change) (rows : List (List Row)) (own after : List Row) (before all : List (List Row))
    → number < length tables → number < length rows → table ≡ slice_index_or tables number table → own ≡ slice_index_or rows number own
    → after ≡ rows_put number table changes own → before ++ put_from number (drop number tables) changes (drop number rows) ≡ all
    → (before ++ after ∷ []) ++ put_from (number + 1) (drop (number + 1) tables) changes (drop (number + 1) rows) ≡ all
unfolding put_from
put_more number tables table changes rows own after before all within inside table_is own_is after_is so_far =
    let here = drop_more tables number table within ∙ ap (λ t. t ∷ drop (number + 1) tables) (sym table_is) in
    let there = drop_more rows number own inside ∙ ap (λ r. r ∷ drop (number + 1) rows) (sym own_is) in
    let rest = put_from (number + 1) (drop (number + 1) tables) changes (drop (number + 1) rows) in
    append_assoc before (after ∷ []) rest
    ∙ (ap (λ r. before ++ (r ∷ rest)) after_is
    ∙ (sym (ap (λ ts. before ++ put_from number ts changes (drop number rows)) here ∙ ap (λ rs. before ++ put_from number (table ∷ drop (number + 1) tables) changes rs) there)
    ∙ so_far))

-- and of all
pub put_all : (number : ℕ) (tables : List TableDef) (changes : List Change) (rows : List (List Row)) (before all : List (List Row)) → length tables ≤ number
    → before ++ put_from number (drop number tables) changes (drop number rows) ≡ all → before ≡ all
unfolding put_from
put_all number tables changes rows before all past so_far =
    sym (ap (λ ts. before ++ put_from number ts changes (drop number rows)) (drop_of_length-le tables past) ∙ append-nil before) ∙ so_far

-- the keys of one part more, and of all
pub keys_more : (number : ℕ) (tables : List TableDef) (table : TableDef) (key : ColNo) (before all : List ColNo) → number < length tables
    → table ≡ slice_index_or tables number table → key ≡ table.key
    → before ++ map (λ (table : TableDef). table.key) (drop number tables) ≡ all
    → (before ++ key ∷ []) ++ map (λ (table : TableDef). table.key) (drop (number + 1) tables) ≡ all
keys_more number tables table key before all within table_is key_is so_far =
    let here = drop_more tables number table within ∙ ap (λ t. t ∷ drop (number + 1) tables) (sym table_is) in
    let rest = map (λ (table : TableDef). table.key) (drop (number + 1) tables) in
    append_assoc before (key ∷ []) rest
    ∙ (ap (λ k. before ++ (k ∷ rest)) key_is
    ∙ (sym (ap (λ ts. before ++ map (λ (table : TableDef). table.key) ts) here) ∙ so_far))

pub keys_all : (number : ℕ) (tables : List TableDef) (before all : List ColNo) → length tables ≤ number
    → before ++ map (λ (table : TableDef). table.key) (drop number tables) ≡ all → before ≡ all
keys_all number tables before all past so_far =
    sym (ap (λ ts. before ++ map (λ (table : TableDef). table.key) ts) (drop_of_length-le tables past) ∙ append-nil before) ∙ so_far
