-- The rows of a table, and the row of a name, as they are looked up.
use Rattle.std.proofs.Common.{◌≡◌, ℕ, zero, suc, List, [], ◌∷◌, Bool, true, false, cond, refl, sym, ap, ◌∙◌, subst}
use Rattle.std.specs.Prelude.{Option, None, Some, IfSome, filter, find, slice_get}
use Rattle.std.specs.List.{AllByRecursion as Each}
use Rattle.std.specs.Ordering.{is_eq}
use Rattle.std.specs.declared.cmp.Ordering.{Ordering}
use Rattle.std.specs.declared.cmp.Ordering.TheVariants.{Less, Equal, Greater}
use Rattle.own_base.specs.Key.{key_cmp}
use Rattle.own_base.specs.declared.change.Change.{Change}
use Rattle.own_base.specs.declared.row_name.RowName.{RowName}
use Rattle.own_base.specs.declared.value.Key.{Key}
use Rattle.own_model.specs.declared.schema.Schema.{Schema}
use Rattle.own_model.specs.declared.schema.TableDef.{TableDef}
use Rattle.own_model.specs.Db.{AreRising, IsRising as IsRisingTable, Row, key_of}
use Rattle.own_model.specs.Stored.{has_key, is_equal, row_named, rows_at}
use Rattle.page_model.specs.Found.{found}
use Rattle.page_model.specs.Rising.{IsRising}
use Rattle.schema_model.proofs.Found.{find-some}
use Rattle.subject_model.proofs.NamedLemmas.{one_key}
use Rattle.state_model.specs.MayBePut.{IsPutIn}

-- two words for one test
pub equal_is : (o : Ordering) → is_eq o ≡ is_equal o
equal_is Less = refl
equal_is Equal = refl
equal_is Greater = refl

-- the row of a key is the first that has it
pub found_key : (table : TableDef) (key : Key) (rows : List Row) → found (key_of table) key_cmp key rows ≡ find (has_key table key) rows
unfolding found
found_key table key [] = refl
found_key table key (row ∷ rows) = rw (equal_is (key_cmp (key_of table row) key), found_key table key rows) refl

-- the row of a name, among the rows of its table
pub named_in : (schema : Schema) (rows : List (List Row)) (name : RowName) (table : TableDef) → slice_get schema.tables name.table.0 ≡ Some table
    → row_named schema rows name ≡ found (key_of table) key_cmp name.key (rows_at rows name.table.0)
unfolding row_named
named_in schema rows name table at = rw at (sym (found_key table name.key (rows_at rows name.table.0)))

-- a table's rows rise
pub rising_at : (tables : List TableDef) (rows : List (List Row)) (place : ℕ) (table : TableDef) → AreRising tables rows → slice_get tables place ≡ Some table
    → IsRising (key_of table) key_cmp (rows_at rows place)
rising_at [] rows place table rising at = let never : ◌≡◌ {A = Option TableDef} None (Some table) = at in cc
rising_at (first ∷ tables) [] place table rising at = absurd rising
rising_at (first ∷ tables) (one ∷ rows) zero table rising at = let this : first ≡ table = cc in subst (λ t. IsRisingTable t one) this rising.0
rising_at (first ∷ tables) (one ∷ rows) (suc place) table rising at = rising_at tables rows place table rising.1 at

-- a row that stands under a name has its key
pub row_keyed : (schema : Schema) (rows : List (List Row)) (table : TableDef) (name : RowName) (state : Option Row) → slice_get schema.tables name.table.0 ≡ Some table
    → state ≡ row_named schema rows name → IfSome state (λ row. key_of table row ≡ name.key)
unfolding row_named
row_keyed schema rows table name None at is = tt
row_keyed schema rows table name (Some row) at is =
    let found : find (has_key table name.key) (rows_at rows name.table.0) ≡ Some row = sym (is ∙ rw at refl) in
    one_key (key_of table row) name.key (find-some (has_key table name.key) (rows_at rows name.table.0) row found).1

-- so a change to what stands under its name may be put there
pub put_in : (schema : Schema) (rows : List (List Row)) (table : TableDef) (change : Change) → slice_get schema.tables change.name.table.0 ≡ Some table
    → change.after ≡ row_named schema rows change.name → IsPutIn schema.tables change
put_in schema rows table change at is = rw at (row_keyed schema rows table change.name change.after at is)

-- what holds of each holds of what is found among those that pass
pub found_passing : {X : Type 0} (P : X → Type 0) (p passes : X → Bool) (xs : List X) → Each P xs → (x : X) → find p (filter passes xs) ≡ Some x
    → (p x ≡ true) × (passes x ≡ true) × P x
found_passing P p passes [] all x is = cc
found_passing {X} P p passes (first ∷ rest) all x is = by (found_passing P p passes rest all.1 x) (passes first) (p first) refl refl is
  where
    by : (find p (filter passes rest) ≡ Some x → (p x ≡ true) × (passes x ≡ true) × P x) → (b c : Bool) → passes first ≡ b → p first ≡ c
        → find p (cond b (first ∷ filter passes rest) (filter passes rest)) ≡ Some x → (p x ≡ true) × (passes x ≡ true) × P x
    by more true true of has is =
        let here : find p (first ∷ filter passes rest) ≡ Some first = rw has refl in
        let both : ◌≡◌ {A = Option X} (Some first) (Some x) = sym here ∙ is in
        let same : first ≡ x = cc in
        (ap p (sym same) ∙ has, ap passes (sym same) ∙ of, subst P same all.0)
    by more true false of has is =
        let later : find p (first ∷ filter passes rest) ≡ find p (filter passes rest) = rw has refl in
        more (sym later ∙ is)
    by more false c of has is = more is
