-- What an index lends is the list of those who hold a value.
use Rattle.std.proofs.Common.{◌≡◌, refl, sym, ◌∙◌, ap, subst, ℕ, List, [], ◌∷◌, Option, Some, None}
use Rattle.std.specs.Prelude.{Bool, true, false, cond, ◌||◌, ◌==◌, IsTrue, find, is_some, slice_get}
use Rattle.std.specs.List.{AllByRecursion as Each, list_any}
use Rattle.std.specs.Option.{option_map_or}
use Rattle.std.proofs.lemmas.Bool.{and_parts, eqb-true}
use Rattle.own_base.specs.Key.{key_cmp}
use Rattle.own_base.specs.declared.value.Key.{Key}
use Rattle.own_model.specs.declared.schema.TableDef.{TableDef}
use Rattle.own_model.specs.Db.{Db, IsOrdered}
use Rattle.own_model.specs.Stored.{row_named, rows_at}
use Rattle.own_model.proofs.KeyOrder.{key_order}
use Rattle.page_model.specs.Found.{found}
use Rattle.page_model.specs.Rising.{IsRising}
use Rattle.state_model.proofs.PutRows.{rising_at}
use Rattle.link_model.specs.Holds.{holders, holders_at}
use Rattle.link_model.specs.Indexed.{is_indexed, is_indexed_at}
use Rattle.link_model.proofs.HolderLemmas.{holders_have, holders_rise, itself}
use Rattle.ordered_pairs.specs.Has.{has}
use Rattle.ordered_pairs.specs.KeyExact.{key_exact}
use Rattle.ordered_pairs.specs.PairOrder.{pair_cmp}
use Rattle.ordered_pairs.specs.RightsOf.{rights_of}
use Rattle.ordered_pairs.proofs.RightsLemmas.{rights_are}
use Rattle.ref_index.specs.IndexOf.{IsIndexOf, rows_under}
use Rattle.ref_index.specs.Stands.{is_of, Stands}
use Rattle.ref_index.specs.declared.column_index.ColumnIndex.{ColumnIndex}

-- what is found passes, and has what each has
found_has : {X : Type 0} (P : X → Type 0) (p : X → Bool) (xs : List X) → Each P xs → (x : X) → find p xs ≡ Some x → (p x ≡ true) × P x
found_has P p [] all x is = cc
found_has {X} P p (first ∷ xs) all x is = by (found_has P p xs all.1 x) (p first) refl is
  where
    by : (find p xs ≡ Some x → (p x ≡ true) × P x) → (b : Bool) → p first ≡ b → cond b (Some first) (find p xs) ≡ Some x → (p x ≡ true) × P x
    by more true passes here = let same : first ≡ x = cc in (subst (λ y. p y ≡ true) same passes, subst P same all.0)
    by more false fails later = more later

-- where nothing is found, none passes
none_passes : {X : Type 0} (p : X → Bool) (xs : List X) → find p xs ≡ None → list_any p xs ≡ false
none_passes p [] none = refl
none_passes {X} p (first ∷ xs) none = by (none_passes p xs) (p first) refl none
  where
    by : (find p xs ≡ None → list_any p xs ≡ false) → (b : Bool) → p first ≡ b → cond b (Some first) (find p xs) ≡ None → (p first || list_any p xs) ≡ false
    by more true passes here = let never : ◌≡◌ {A = Option X} (Some first) None = here in cc
    by more false fails later = ap (λ b. b || list_any p xs) fails ∙ more later

module _ (db : Db) (index : List ColumnIndex) (ordered : IsOrdered db) (stands : Stands db index) (table column : ℕ) (indexed : IsTrue (is_indexed_at db.schema table column)) where
  -- an indexed column has an index
  pub never_missing : find (is_of table column) index ≡ None → ⊥
  never_missing none = let never : false ≡ true = sym (none_passes (is_of table column) index none) ∙ stands.covers table column indexed in cc

  -- and it is one of the rows of its table
  index_is : (one : ColumnIndex) → find (is_of table column) index ≡ Some one → IsIndexOf column (rows_under db table) one.pairs
  index_is one is =
      let has = found_has (λ (each : ColumnIndex). IsIndexOf each.column.0 (rows_under db each.table.0) each.pairs) (is_of table column) index stands.each one is in
      let both = and_parts (one.table.0 == table) (one.column.0 == column) has.0 in
      let same_table : one.table.0 ≡ table = eqb-true one.table.0 table both.0 in
      let same_column : one.column.0 ≡ column = eqb-true one.column.0 column both.1 in
      subst (λ c. IsIndexOf c (rows_under db table) one.pairs) same_column (subst (λ t. IsIndexOf one.column.0 (rows_under db t) one.pairs) same_table has.1)

  -- so what belongs to a value in it are the keys of those who hold it
  pub rights_hold : (one : ColumnIndex) (value : Key) → find (is_of table column) index ≡ Some one → IsRising (λ pair. pair) (pair_cmp key_cmp key_cmp) one.pairs
      → rights_of key_cmp one.pairs value ≡ holders_at db table column value
  unfolding holders_at row_named
  rights_hold one value is rising = by (slice_get db.schema.tables table) refl
    where
      by : (o : Option TableDef) → slice_get db.schema.tables table ≡ o → rights_of key_cmp one.pairs value ≡ holders_at db table column value
      by None none = absurd (let never : false ≡ true = sym (ap (λ o. option_map_or (λ (definition : TableDef). option_map_or is_indexed (slice_get definition.columns column) false) o false) none) ∙ indexed in cc)
      by (Some definition) at =
          let rows = rows_at db.rows table in
          let rises = rising_at db.schema.tables db.rows table definition ordered.rising at in
          let members : (key : Key) → is_some (found itself key_cmp key (holders definition rows column value)) ≡ has key_cmp key_cmp one.pairs value key =
          λ key. holders_have definition column value key rows rises ∙ (rw at refl ∙ sym (index_is one is value key)) in
          rw at (rights_are key_order key_order key_exact one.pairs value (holders definition rows column value) rising (holders_rise definition column value rows rises) members)
