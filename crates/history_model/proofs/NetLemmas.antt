-- The net of two databases is told by what becomes of the row of each key.
use Rattle.std.proofs.Common.{◌≡◌, ℕ, suc, ◌+◌, List, [], ◌∷◌, ◌++◌, Bool, false, refl, ap, subst, ◌∙◌, arith}
use Rattle.std.specs.Prelude.{None, Some, find, slice_get}
use Rattle.std.specs.List.{AllByRecursion}
use Rattle.own_base.specs.Key.{key_cmp}
use Rattle.own_base.specs.declared.value.Key.{Key}
use Rattle.own_model.specs.declared.schema.TableDef.{TableDef}
use Rattle.own_model.specs.Db.{AreRising, Db, IsOrdered, Row}
use Rattle.own_model.specs.Stored.{has_key, is_equal, rows_at}
use Rattle.own_model.proofs.KeyOrder.{key_order}
use Rattle.state_model.specs.Net.{change_at, keys_in, net, net_from, net_in}
use Rattle.state_model.proofs.NetOrder.{keys_in-rise}
use Rattle.run_model.proofs.InsertItems.{each_row}
use Rattle.history_model.proofs.KeptByKeys.{IsNotAmong, kept_by_keys}

-- where no row has a key, none is found
none_has : (test : Row → Bool) (rows more : List Row) → AllByRecursion (λ row. test row ≡ false) (rows ++ more) → (find test rows ≡ None) × (find test more ≡ None)
none_has test [] more none = (refl, all_fail more none)
  where
    all_fail : (rows : List Row) → AllByRecursion (λ row. test row ≡ false) rows → find test rows ≡ None
    all_fail [] none = refl
    all_fail (row ∷ rows) none = rw none.0 (all_fail rows none.1)
none_has test (row ∷ rows) more none = let later = none_has test rows more none.1 in (rw none.0 later.0, later.1)

-- of a key that none of the rows has, no change is told
unchanged_at : (number : ℕ) (table : TableDef) (before after : List Row) (key : Key) → IsNotAmong (keys_in table (before ++ after)) key
    → change_at number table before after key ≡ None
unchanged_at number table before after key none =
    let rows = each_row (λ own. is_equal (key_cmp own key) ≡ false) (λ own tie tied fails. ap is_equal (key_order.congr own tie key tied) ∙ fails) table (before ++ after) none in
    let found = none_has (has_key table key) before after rows in
    rw (found.0, found.1) refl

-- what becomes of each key is the same between two lists of rows and between two others
abbrev pub AreChangedAlike : ℕ → TableDef → List Row → List Row → List Row → List Row → Type 0
AreChangedAlike number table before after befores afters =
    (key : Key) → change_at number table before after key ≡ change_at number table befores afters key

net_in-alike : (number : ℕ) (table : TableDef) (before after befores afters : List Row) → AreChangedAlike number table before after befores afters
    → net_in number table before after ≡ net_in number table befores afters
net_in-alike number table before after befores afters alike =
    kept_by_keys (change_at number table before after) (change_at number table befores afters) alike (keys_in table (before ++ after)) (keys_in table (befores ++ afters))
    (keys_in-rise table (before ++ after)) (keys_in-rise table (befores ++ afters)) (unchanged_at number table before after) (unchanged_at number table befores afters)

-- and so in each table
abbrev pub AreChangedAlikeFrom : ℕ → List TableDef → List (List Row) → List (List Row) → List (List Row) → List (List Row) → Type 0
AreChangedAlikeFrom number tables before after befores afters = (place : ℕ) (table : TableDef) → slice_get tables place ≡ Some table
    → AreChangedAlike (number + place) table (rows_at before place) (rows_at after place) (rows_at befores place) (rows_at afters place)

net_from-alike : (number : ℕ) (tables : List TableDef) (before after befores afters : List (List Row)) → AreRising tables before → AreRising tables after
    → AreRising tables befores → AreRising tables afters → AreChangedAlikeFrom number tables before after befores afters
    → net_from number tables before after ≡ net_from number tables befores afters
unfolding net_from
net_from-alike number [] before after befores afters rb ra rbs ras alike = refl
net_from-alike number (table ∷ tables) [] after befores afters rb ra rbs ras alike = absurd rb
net_from-alike number (table ∷ tables) (b ∷ before) [] befores afters rb ra rbs ras alike = absurd ra
net_from-alike number (table ∷ tables) (b ∷ before) (a ∷ after) [] afters rb ra rbs ras alike = absurd rbs
net_from-alike number (table ∷ tables) (b ∷ before) (a ∷ after) (bs ∷ befores) [] rb ra rbs ras alike = absurd ras
net_from-alike number (table ∷ tables) (b ∷ before) (a ∷ after) (bs ∷ befores) (as' ∷ afters) rb ra rbs ras alike =
    let here : number + 0 ≡ number = omega arith in
    let first = net_in-alike number table b a bs as' (subst (λ n. AreChangedAlike n table b a bs as') here (alike 0 table refl)) in
    let later : AreChangedAlikeFrom (number + 1) tables before after befores afters =
    λ place found is. let there : number + suc place ≡ number + 1 + place = omega arith in
    subst (λ n. AreChangedAlike n found (rows_at before place) (rows_at after place) (rows_at befores place) (rows_at afters place)) there (alike (suc place) found is) in
    let rest = net_from-alike (number + 1) tables before after befores afters rb.1 ra.1 rbs.1 ras.1 later in
    ap (λ changes. changes ++ net_from (number + 1) tables before after) first ∙ ap (λ changes. net_in number table bs as' ++ changes) rest

-- So two pairs of databases of one schema have the same net, where what becomes of the row of each key is the same.
pub net-alike : (before after befores afters : Db) → IsOrdered before → IsOrdered after → IsOrdered befores → IsOrdered afters
    → after.schema ≡ before.schema → befores.schema ≡ before.schema → afters.schema ≡ before.schema
    → AreChangedAlikeFrom 0 before.schema.tables before.rows after.rows befores.rows afters.rows → net before after ≡ net befores afters
unfolding net
net-alike before after befores afters ob oa obs oas schema schemas schema_after alike =
    rw (schema, schema_after) (net_from-alike 0 before.schema.tables before.rows after.rows befores.rows afters.rows ob.rising
    (subst (λ s. AreRising s.tables after.rows) schema oa.rising) (subst (λ s. AreRising s.tables befores.rows) schemas obs.rising)
    (subst (λ s. AreRising s.tables afters.rows) schema_after oas.rising) alike)
