-- What links a table, and what one has with which nothing is linked.
use Rattle.std.proofs.Common.{◌≡◌, ℕ, Bool, true, false, not, refl, sym, ap, ◌∙◌, eq-eqb}
use Rattle.std.specs.Prelude.{◌&&◌, ◌==◌, Contains, Option, None, Some, is_some, slice_get}
use Rattle.std.specs.List.{list_any}
use Rattle.std.specs.Option.{option_map_or}
use Rattle.std.proofs.lemmas.Bool.{or_left, or_right, and_parts}
use Rattle.own_base.specs.declared.number.TableNo.{TableNo}
use Rattle.own_model.specs.declared.schema.Column.{Column}
use Rattle.own_model.specs.declared.schema.RefKind.{RefKind}
use Rattle.own_model.specs.declared.schema.Schema.{Schema}
use Rattle.own_model.specs.declared.schema.TableDef.{TableDef}
use Rattle.subject_model.proofs.Members.{any_contained}
use Rattle.link_model.specs.Indexed.{is_indexed}
use Rattle.commit_judge.specs.Unlinked.{is_unlinked, links, refers_to, table_refers}
use Rattle.schema_model.specs.Lone.{is_lone}

-- one of the causes is enough
first_cause : (a b c : Bool) → a ≡ true → ((not a && not b) && c) ≡ false
first_cause a b c is = rw is refl

second_cause : (a b c : Bool) → b ≡ true → ((not a && not b) && c) ≡ false
second_cause true b c is = refl
second_cause false b c is = rw is refl

module _ (schema : Schema) where
  -- a table that a column refers to is linked
  pub referred-linked : (table : TableDef) (column : Column) (link : RefKind × TableNo) → Contains schema.tables table → Contains table.columns column → column.refers ≡ Some link
      → is_unlinked schema link.1.0 ≡ false
  unfolding is_unlinked
  referred-linked table column link there among is =
      let here : refers_to link.1.0 column ≡ true = ap (λ found. option_map_or (λ (l : RefKind × TableNo). l.1.0 == link.1.0) found false) is ∙ eq-eqb link.1.0 link.1.0 refl in
      let own : table_refers link.1.0 table ≡ true = any_contained (refers_to link.1.0) table.columns column among here in
      second_cause (links schema link.1.0) (list_any (table_refers link.1.0) schema.tables) (is_lone schema link.1.0) (any_contained (table_refers link.1.0) schema.tables table there own)

  -- and one with a column that links it
  linking-linked : (number : ℕ) (table : TableDef) (column : Column) → slice_get schema.tables number ≡ Some table → Contains table.columns column → is_indexed column ≡ true
      → is_unlinked schema number ≡ false
  unfolding is_unlinked
  linking-linked number table column is among linking =
      let own : links schema number ≡ true = ap (λ found. option_map_or (λ (t : TableDef). list_any is_indexed t.columns) found false) is ∙ any_contained is_indexed table.columns column among linking in
      first_cause (links schema number) (list_any (table_refers number) schema.tables) (is_lone schema number) own

  free_step : (unlinked : Bool) (b : Bool) → unlinked ≡ true → (b ≡ true → unlinked ≡ false) → b ≡ false
  free_step unlinked true is linked = let never : true ≡ false = sym is ∙ linked refl in cc
  free_step unlinked false is linked = refl

  none_step : {X : Type 0} (found : Option X) → is_some found ≡ false → found ≡ None
  none_step None is = refl
  none_step (Some x) is = let never : true ≡ false = is in cc

  -- no column of a table with which nothing is linked is UNIQUE, and none refers to a table
  pub lone-unique : (number : ℕ) (table : TableDef) (column : Column) → is_unlinked schema number ≡ true → slice_get schema.tables number ≡ Some table → Contains table.columns column
      → column.unique ≡ false
  lone-unique number table column lone is among =
      free_step (is_unlinked schema number) column.unique lone (λ unique. linking-linked number table column is among (or_left column.unique (is_some column.refers) unique))

  pub lone-refers : (number : ℕ) (table : TableDef) (column : Column) → is_unlinked schema number ≡ true → slice_get schema.tables number ≡ Some table → Contains table.columns column
      → column.refers ≡ None
  lone-refers number table column lone is among =
      none_step column.refers (free_step (is_unlinked schema number) (is_some column.refers) lone (λ refers. linking-linked number table column is among (or_right column.unique (is_some column.refers) refers)))

  -- and it is lone
  pub unlinked-lone : (number : ℕ) → is_unlinked schema number ≡ true → is_lone schema number ≡ true
  unfolding is_unlinked
  unlinked-lone number lone = (and_parts (not (links schema number) && not (list_any (table_refers number) schema.tables)) (is_lone schema number) lone).1
