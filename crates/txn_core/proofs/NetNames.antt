-- A net names no row that is the same before and after.
use Rattle.std.proofs.Common.{◌≡◌, ◌∙◌, ℕ, suc, ◌+◌, List, [], ◌∷◌, ◌++◌, Bool, true, false, ap, refl, subst, sym, arith}
use Rattle.std.specs.Prelude.{Option, None, Some, IfSome, cond, filter_map, find, slice_get}
use Rattle.std.specs.List.{AllByRecursion as Each}
use Rattle.own_base.specs.declared.change.Change.{Change}
use Rattle.own_base.specs.declared.value.Key.{Key}
use Rattle.own_model.specs.declared.schema.TableDef.{TableDef}
use Rattle.own_model.specs.Db.{Db, Row}
use Rattle.own_model.specs.Stored.{has_key, row_named, rows_at}
use Rattle.schema_model.proofs.Places.{all-append}
use Rattle.state_model.specs.Net.{change_at, keys_in, net, net_from, net_in}
use Rattle.state_model.specs.Same.{is_same_state}
use Rattle.state_model.proofs.Made.{all-filter_map}
use Rattle.state_model.proofs.NetRows.{named_at}
use Rattle.state_model.proofs.SameLemmas.{state_same}
use Rattle.txn_space.specs.declared.entry.Entry.{Entry}
use Rattle.txn_space.specs.Changed.{changed_db, changed_rows}
use Rattle.txn_space.specs.Sound.{IsBase}
use Rattle.txn_space.proofs.OverLemmas.{changed_none, next, same}

-- a name and what becomes of its row
abbrev changed : ℕ → Key → Option Row → Option Row → Change
changed number key was is = record { name = record { table = record { 0 = number }; key = key }; before = was; after = is }

abbrev differ : TableDef → Key → List Row → List Row → Type 0
differ table key before after = is_same_state (find (has_key table key) before) (find (has_key table key) after) ≡ false

net_in-each : (P : Change → Type 0) (number : ℕ) (table : TableDef) (before after : List Row)
    → ((key : Key) → differ table key before after → (was is : Option Row) → P (changed number key was is)) → Each P (net_in number table before after)
net_in-each P number table before after all =
    all-filter_map P (change_at number table before after) (λ key. by key (is_same_state (find (has_key table key) before) (find (has_key table key) after)) refl) (keys_in table (before ++ after))
  where
    by : (key : Key) (b : Bool) → is_same_state (find (has_key table key) before) (find (has_key table key) after) ≡ b
        → IfSome (cond b None (Some (changed number key (find (has_key table key) before) (find (has_key table key) after)))) P
    by key true is = tt
    by key false is = all key is _ _

net_from-each : (P : Change → Type 0) (number : ℕ) (tables : List TableDef) (befores afters : List (List Row))
    → ((place : ℕ) (table : TableDef) (key : Key) → slice_get tables place ≡ Some table → differ table key (rows_at befores place) (rows_at afters place)
    → (was is : Option Row) → P (changed (number + place) key was is))
    → Each P (net_from number tables befores afters)
unfolding net_from
net_from-each P number [] befores afters all = tt
net_from-each P number (table ∷ tables) [] afters all = tt
net_from-each P number (table ∷ tables) (before ∷ befores) [] all = tt
net_from-each P number (table ∷ tables) (before ∷ befores) (after ∷ afters) all =
    all-append P (net_in number table before after) (net_from (number + 1) tables befores afters)
    (net_in-each P number table before after (λ key others was is. subst (λ n. P (changed n key was is)) (same number) (all 0 table key refl others was is)))
    (net_from-each P (number + 1) tables befores afters
    (λ place other key at others was is. subst (λ n. P (changed n key was is)) (sym (next number place)) (all (suc place) other key at others was is)))

-- whether a change is of a row that is not the same in both
abbrev pub IsOfOther : Db → Db → Change → Type 0
IsOfOther before after change = is_same_state (row_named before.schema before.rows change.name) (row_named after.schema after.rows change.name) ≡ false

pub net_others : (before after : Db) → after.schema ≡ before.schema → Each (IsOfOther before after) (net before after)
unfolding net
net_others before after schema =
    net_from-each (IsOfOther before after) 0 after.schema.tables before.rows after.rows
    (λ place table key at others was is.
    let here : 0 + place ≡ place = omega arith in
    let at_before : slice_get before.schema.tables place ≡ Some table = subst (λ schema. slice_get schema.tables place ≡ Some table) schema at in
    let first = named_at before (record { table = record { 0 = place }; key = key }) table at_before in
    let second = named_at after (record { table = record { 0 = place }; key = key }) table at in
    let own : IsOfOther before after (changed place key was is) = rw (first, second) others in
    subst (λ n. IsOfOther before after (changed n key was is)) (sym here) own)

-- The net of rows that are the same is none.
none_given : {X Y : Type 0} (give : X → Option Y) → ((x : X) → give x ≡ None) → (xs : List X) → filter_map give xs ≡ []
none_given give none [] = refl
none_given give none (x ∷ xs) = rw (none x) (none_given give none xs)

net_in-same : (number : ℕ) (table : TableDef) (rows : List Row) → net_in number table rows rows ≡ []
net_in-same number table rows = none_given (change_at number table rows rows) (λ key. rw (state_same (find (has_key table key) rows)) refl) (keys_in table (rows ++ rows))

net_from-same : (number : ℕ) (tables : List TableDef) (rows : List (List Row)) → net_from number tables rows rows ≡ []
unfolding net_from
net_from-same number [] rows = refl
net_from-same number (table ∷ tables) [] = refl
net_from-same number (table ∷ tables) (one ∷ rows) = rw (net_in-same number table one) (net_from-same (number + 1) tables rows)

no_net : (db : Db) → [] ≡ net db db
unfolding net
no_net db = sym (net_from-same 0 db.schema.tables db.rows)

-- so it is where nothing was changed
pub net_unchanged : (db : Db) (space : List (List Entry)) (changes : List Change) → IsBase db.schema.tables db.rows → space ≡ [] → changes ≡ [] → changes ≡ net db (changed_db db space)
net_unchanged db space changes base none empty =
    let same : changed_rows db.schema.tables db.rows space ≡ db.rows = ap (changed_rows db.schema.tables db.rows) none ∙ changed_none 0 db.schema.tables db.rows base.rising in
    empty ∙ (no_net db ∙ ap (λ rows. net db (record db { rows = rows })) (sym same))
