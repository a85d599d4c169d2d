-- The rows to which an edge leads up from a row, by the column that joins them.
use Rattle.std.proofs.Common.{◌≡◌, ℕ, List, [], ◌∷◌, map, Bool, true, false, inl, inr, refl, ap, sym, ◌∙◌, subst, eq-eqb}
use Rattle.std.specs.Prelude.{◌↔◌, ◌≢◌, ◌==◌, Contains, Option, Some, None, is_some, slice_get}
use Rattle.std.specs.Option.{option_and_then}
use Rattle.std.proofs.lemmas.Bool.{eqb-true}
use Rattle.std.proofs.lemmas.Option.{same_Some}
use Rattle.own_base.specs.declared.number.TableNo.{TableNo}
use Rattle.own_base.specs.declared.row_name.RowName.{RowName}
use Rattle.own_base.specs.declared.value.Key.{Key}
use Rattle.own_base.specs.declared.value.Value.{Value}
use Rattle.own_model.specs.declared.schema.Edge.{Edge}
use Rattle.own_model.specs.Db.{Db, IsOrdered, Row}
use Rattle.owner_model.specs.Joins.{Joins, row_of, value_at, value_of}
use Rattle.schema_model.specs.OwnerSchema.{IsOwnerEdge, IsOwnerSchema}
use Rattle.subject_model.specs.Named.{is_there}
use Rattle.subject_model.proofs.JoinsLemmas.{same_table}
use Rattle.subject_model.proofs.Members.{all_contained, contains_cases, contains_here, contains_map, contains_none, contains_of_map}
use Rattle.link_model.specs.Holds.{holders_at}
use Rattle.shelf_erase.specs.Upper.{AreUppers, named}
use Rattle.shelf_erase.proofs.HoldersLemmas.{holder_holds, holds_holder}

-- the row that a cell names, where it names one of the table
abbrev pub IsNamedBy : Option Value → TableNo → Option RowName → Type 0
IsNamedBy cell table found = (name : RowName) → (found ≡ Some name) ↔ ((name.table ≡ table) × (cell ≡ Some (value_of name.key)))

-- a row and an edge out of its table
pub record Out (db : Db) (name : RowName) (edge : Edge) (row : Row) : Type 0 where
  pub among : Contains db.schema.edges edge
  pub of_lower : name.table ≡ edge.lower
  pub row_is : row_of db name ≡ Some row

module _ (db : Db) (name : RowName) (edge : Edge) (row : Row) (out : Out db name edge row) (held : edge.holder ≡ edge.lower) (found : Option RowName) (is : IsNamedBy (slice_get row edge.column.0) edge.upper found) where
  lower_holds : (edge.holder.0 == edge.lower.0) ≡ true
  lower_holds = eq-eqb edge.holder.0 edge.lower.0 (ap (λ (t : TableNo). t.0) held)

  cell_is : value_at db name edge.column.0 ≡ slice_get row edge.column.0
  cell_is = ap (option_and_then (λ values. slice_get values edge.column.0)) out.row_is

  -- where the lower row holds the column it names each row to which the edge leads
  joined_found : (upper : RowName) → Joins db name edge upper → found ≡ Some upper
  joined_found upper joined =
      let names : value_at db name edge.column.0 ≡ Some (value_of upper.key) = rw lower_holds at joined.names in
      (is upper).1 (joined.of_upper, sym cell_is ∙ names)

  found_joined : (upper : RowName) → found ≡ Some upper → is_there db upper ≡ true → Joins db name edge upper
  found_joined upper found_is there =
      let has = (is upper).0 found_is in
      record {
        among = out.among;
        of_lower = out.of_lower;
        of_upper = has.0;
        lower_there = ap is_some out.row_is;
        upper_there = there;
        names = rw lower_holds (cell_is ∙ has.1);
      }

  -- one that is there is the only one
  pub one-upper : (upper : RowName) (uppers : List RowName) → found ≡ Some upper → is_there db upper ≡ true → uppers ≡ upper ∷ [] → AreUppers db name edge uppers
  one-upper upper uppers found_is there alone = record {
    has = λ other. (
      (λ among. elim (contains_cases upper [] other (subst (λ list. Contains list other) alone among)) [
        | inl same ↦ subst (Joins db name edge) same (found_joined upper found_is there)
        | inr none ↦ absurd (contains_none other none)
      ]),
      (λ joined.
          let same : upper ≡ other = same_Some upper other (sym found_is ∙ joined_found other joined) in
          subst (λ list. Contains list other) (sym alone) (subst (Contains (upper ∷ [])) same (contains_here upper []))),
    );
  }

  -- and else there is none
  pub no-upper : (uppers : List RowName) → uppers ≡ [] → ((upper : RowName) → found ≡ Some upper → is_there db upper ≡ true → ⊥) → AreUppers db name edge uppers
  no-upper uppers empty none = record {
    has = λ other. (
      (λ among. absurd (contains_none other (subst (λ list. Contains list other) empty among))),
      (λ joined. absurd (none other (joined_found other joined) joined.upper_there)),
    );
  }

module _ (db : Db) (name : RowName) (edge : Edge) (row : Row) (out : Out db name edge row) (held : edge.holder ≢ edge.lower) (owner : IsOwnerSchema db.schema) (ordered : IsOrdered db) where
  upper_holds : (edge.holder.0 == edge.lower.0) ≡ false
  upper_holds = by (edge.holder.0 == edge.lower.0) refl
    where
      by : (b : Bool) → (edge.holder.0 == edge.lower.0) ≡ b → (edge.holder.0 == edge.lower.0) ≡ false
      by true is = absurd (held (same_table edge.holder edge.lower (eqb-true edge.holder.0 edge.lower.0 is)))
      by false is = is

  holder_upper : edge.holder ≡ edge.upper
  holder_upper =
      let is : IsOwnerEdge db.schema edge = all_contained (IsOwnerEdge db.schema) db.schema.edges edge owner.edges out.among in
      elim is.held [ inl lower ↦ absurd (held lower) | inr upper ↦ upper ]

  some_row : (o : Option Row) → option_and_then (λ values. slice_get values edge.column.0) o ≡ Some (value_of name.key) → is_some o ≡ true
  some_row None at = let never : ◌≡◌ {A = Option Value} None (Some (value_of name.key)) = at in cc
  some_row (Some values) at = refl

  key_joined : (key : Key) → Contains (holders_at db edge.holder.0 edge.column.0 name.key) key → Joins db name edge (named edge.holder key)
  key_joined key among =
      let holds = holder_holds db ordered edge.holder edge.column.0 name.key key among in
      record {
        among = out.among;
        of_lower = out.of_lower;
        of_upper = holder_upper;
        lower_there = ap is_some out.row_is;
        upper_there = some_row (row_of db (named edge.holder key)) holds;
        names = rw upper_holds holds;
      }

  joined_key : (upper : RowName) → Joins db name edge upper → (upper.table ≡ edge.holder) × Contains (holders_at db edge.holder.0 edge.column.0 name.key) upper.key
  joined_key upper joined =
      let of : upper.table ≡ edge.holder = joined.of_upper ∙ sym holder_upper in
      let names : value_at db upper edge.column.0 ≡ Some (value_of name.key) = rw upper_holds at joined.names in
      (of, holds_holder db ordered edge.holder edge.column.0 name.key upper.key (subst (λ (t : TableNo). value_at db (named t upper.key) edge.column.0 ≡ Some (value_of name.key)) of names))

  -- where the upper rows hold the column, they are those that name the row
  pub naming-uppers : (names : List RowName) → names ≡ map (named edge.holder) (holders_at db edge.holder.0 edge.column.0 name.key) → AreUppers db name edge names
  naming-uppers names lent = record {
    has = λ other. (
      (λ among.
          let (key, there, same) = contains_of_map (named edge.holder) (holders_at db edge.holder.0 edge.column.0 name.key) other (subst (λ list. Contains list other) lent among) in
          subst (Joins db name edge) same (key_joined key there)),
      (λ joined.
          let (of, there) = joined_key other joined in
          let own : named edge.holder other.key ≡ other = ap (λ (t : TableNo). named t other.key) (sym of) in
          subst (λ list. Contains list other) (sym lent)
          (subst (Contains (map (named edge.holder) (holders_at db edge.holder.0 edge.column.0 name.key))) own (contains_map (named edge.holder) (holders_at db edge.holder.0 edge.column.0 name.key) other.key there))),
    );
  }

-- the names of the rows that hold a key in a column
pub referring : (db : Db) (table : TableNo) (column : ℕ) (key : Key) (name : RowName) → IsOrdered db → name.table ≡ table → value_at db name column ≡ Some (value_of key)
    → Contains (map (named table) (holders_at db table.0 column key)) name
referring db table column key name ordered of holds =
    let at : value_at db (named table name.key) column ≡ Some (value_of key) = subst (λ (t : TableNo). value_at db (named t name.key) column ≡ Some (value_of key)) of holds in
    let own : named table name.key ≡ name = ap (λ (t : TableNo). named t name.key) (sym of) in
    subst (Contains (map (named table) (holders_at db table.0 column key))) own (contains_map (named table) (holders_at db table.0 column key) name.key (holds_holder db ordered table column key name.key at))
