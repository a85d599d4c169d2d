-- The links of an edge are the pairs of rows that it joins.
use Rattle.std.proofs.Common.{◌≡◌, ℕ, ◌<◌, length, Bool, true, false, cond, eqb, inl, inr, refl, ap, sym, ◌∙◌, subst, eq-eqb}
use Rattle.std.specs.Prelude.{◌⊎◌, Contains, Option, Some, None, option_map, slice_get}
use Rattle.std.specs.List.{range_with_len}
use Rattle.std.specs.Option.{option_to_list}
use Rattle.std.proofs.lemmas.Bool.{eqb-true}
use Rattle.own_base.specs.declared.number.TableNo.{TableNo}
use Rattle.own_base.specs.declared.row_name.RowName.{RowName}
use Rattle.own_model.specs.declared.schema.Edge.{Edge}
use Rattle.own_model.specs.declared.schema.TableDef.{TableDef}
use Rattle.own_model.specs.Db.{Db, IsOrdered}
use Rattle.own_model.specs.Stored.{rows_at}
use Rattle.owner_model.specs.Joins.{Joins, value_at, value_of}
use Rattle.schema_model.specs.OwnerSchema.{named_table}
use Rattle.schema_model.proofs.Places.{at-place, place-lt}
use Rattle.subject_model.proofs.Members.{contains_flat_map, contains_of_flat_map}
use Rattle.owner_sets.specs.declared.link.Link.{Link}
use Rattle.owner_sets.specs.Gathered.{IsWithin}
use Rattle.owner_sets.specs.Links.{link, link_at, links, place_named}
use Rattle.owner_sets.proofs.Ranges.{contains_of_option, contains_option, contains_range}
use Rattle.owner_sets.proofs.Standing.{Named, NamesRow, StandsAt, standing_value, place_named-names, place_named-row, there-standing}
use Rattle.subject_model.proofs.JoinsLemmas.{same_table}

-- An edge joins the rows at the places of a link.
pub record Linked (db : Db) (edge : Edge) (lower_at upper_at : ℕ) : Type 0 where
  pub lower : RowName
  pub upper : RowName
  pub lower_stands : StandsAt db lower lower_at
  pub upper_stands : StandsAt db upper upper_at
  pub joined : Joins db lower edge upper

-- the table that the column names, by which of the two holds it
abbrev named_by : Bool → Edge → TableNo
named_by b edge = cond b edge.upper edge.lower

abbrev link_by : Bool → ℕ → ℕ → Link
link_by b at named = cond b (record { lower = at; upper = named }) (record { lower = named; upper = at })

module _ (db : Db) (edge : Edge) (ordered : IsOrdered db) (among : Contains db.schema.edges edge) where
  -- the rows that a place names are joined
  linked_by : (at named : ℕ) (l : Link) → (b : Bool) → eqb edge.holder.0 edge.lower.0 ≡ b → (edge.holder ≡ edge.lower) ⊎ (edge.holder ≡ edge.upper)
      → link_by b at named ≡ l → Named db edge.column.0 edge.holder (named_by b edge) at named → Linked db edge l.lower l.upper
  linked_by at named l true is held same found =
      subst (λ (m : Link). Linked db edge m.lower m.upper) same
      (record {
        lower = found.holder;
        upper = found.other;
        lower_stands = found.is.holder_stands;
        upper_stands = found.is.other_stands;
        joined = record {
          among = among;
          of_lower = found.of_holder ∙ same_table edge.holder edge.lower (eqb-true edge.holder.0 edge.lower.0 is);
          of_upper = found.of_other;
          lower_there = there-standing db found.holder at ordered found.is.holder_stands;
          upper_there = there-standing db found.other named ordered found.is.other_stands;
          names = rw is found.is.names;
        };
      })
  linked_by at named l false is (inl own) same found =
      let equal = eq-eqb edge.holder.0 edge.lower.0 (ap (λ (t : TableNo). t.0) own) in let never : true ≡ false = sym equal ∙ is in cc
  linked_by at named l false is (inr other) same found =
      subst (λ (m : Link). Linked db edge m.lower m.upper) same
      (record {
        lower = found.other;
        upper = found.holder;
        lower_stands = found.is.other_stands;
        upper_stands = found.is.holder_stands;
        joined = record {
          among = among;
          of_lower = found.of_other;
          of_upper = found.of_holder ∙ other;
          lower_there = there-standing db found.other named ordered found.is.other_stands;
          upper_there = there-standing db found.holder at ordered found.is.holder_stands;
          names = rw is found.is.names;
        };
      })

  linked_at : (at : ℕ) (l : Link) (definition : TableDef) → (edge.holder ≡ edge.lower) ⊎ (edge.holder ≡ edge.upper) → slice_get db.schema.tables edge.holder.0 ≡ Some definition
      → (o : Option ℕ) → place_named db.schema db.rows (named_table edge).0 (standing_value db edge.holder.0 edge.column.0 at) ≡ o → option_map (link edge at) o ≡ Some l → Linked db edge l.lower l.upper
  linked_at at l definition held table_is None found is = let never : ◌≡◌ {A = Option Link} None (Some l) = is in cc
  linked_at at l definition held table_is (Some named) found is =
      let same : link edge at named ≡ l = cc in
      linked_by at named l (eqb edge.holder.0 edge.lower.0) refl held same
      (place_named-row db edge.column.0 edge.holder (named_table edge) at named definition ordered table_is found)

  -- each link is one of two rows that the edge joins
  pub links-joined : IsWithin db.schema edge → (edge.holder ≡ edge.lower) ⊎ (edge.holder ≡ edge.upper) → (l : Link) → Contains (links db.schema db.rows edge) l → Linked db edge l.lower l.upper
  unfolding links link_at
  links-joined within held l listed =
      let (at, of_range, own) = contains_of_flat_map (λ place. option_to_list (link_at db.schema db.rows edge place)) (range_with_len 0 (length (rows_at db.rows edge.holder.0))) l listed in
      let (definition, table_is) = at-place db.schema.tables edge.holder.0 within.holder in
      linked_at at l definition held table_is (place_named db.schema db.rows (named_table edge).0 (standing_value db edge.holder.0 edge.column.0 at)) refl
      (contains_of_option (link_at db.schema db.rows edge at) l own)

  listed_at : (at : ℕ) (l : Link) → at < length (rows_at db.rows edge.holder.0) → link_at db.schema db.rows edge at ≡ Some l → Contains (links db.schema db.rows edge) l
  unfolding links
  listed_at at l before is =
      contains_flat_map (λ place. option_to_list (link_at db.schema db.rows edge place)) (range_with_len 0 (length (rows_at db.rows edge.holder.0))) at l
      (contains_range (length (rows_at db.rows edge.holder.0)) at before) (contains_option (link_at db.schema db.rows edge at) l is)

  -- the row that holds the column has its place among the rows of its table
  holder_before : (name : RowName) (place : ℕ) → StandsAt db name place → name.table.0 ≡ edge.holder.0 → place < length (rows_at db.rows edge.holder.0)
  holder_before name place stands table = subst (λ n. place < length (rows_at db.rows n)) table (place-lt (rows_at db.rows name.table.0) place stands.row stands.row_is)

  link_named : (holder other : RowName) (at named : ℕ) → NamesRow db edge.column.0 holder other at named → holder.table.0 ≡ edge.holder.0 → other.table.0 ≡ (named_table edge).0
      → link_at db.schema db.rows edge at ≡ Some (link edge at named)
  unfolding link_at
  link_named holder other at named names of_holder of_other =
      let found : place_named db.schema db.rows other.table.0 (standing_value db holder.table.0 edge.column.0 at) ≡ Some named = place_named-names db edge.column.0 holder other at named ordered names in
      let moved : place_named db.schema db.rows (named_table edge).0 (standing_value db edge.holder.0 edge.column.0 at) ≡ Some named =
      subst (λ t. place_named db.schema db.rows t (standing_value db edge.holder.0 edge.column.0 at) ≡ Some named) of_other
      (subst (λ t. place_named db.schema db.rows other.table.0 (standing_value db t edge.column.0 at) ≡ Some named) of_holder found) in
      ap (option_map (link edge at)) moved

  listed_by : (lower upper : RowName) (lower_at upper_at : ℕ) → StandsAt db lower lower_at → StandsAt db upper upper_at → Joins db lower edge upper
      → (edge.holder ≡ edge.lower) ⊎ (edge.holder ≡ edge.upper) → (b : Bool) → eqb edge.holder.0 edge.lower.0 ≡ b
      → value_at db (cond b lower upper) edge.column.0 ≡ Some (value_of (cond b upper lower).key) → Contains (links db.schema db.rows edge) (record { lower = lower_at; upper = upper_at })
  listed_by lower upper lower_at upper_at lower_stands upper_stands joined held true is names =
      let of_holder : lower.table.0 ≡ edge.holder.0 = ap (λ (t : TableNo). t.0) joined.of_lower ∙ sym (eqb-true edge.holder.0 edge.lower.0 is) in
      let of_other : upper.table.0 ≡ (named_table edge).0 = rw is (ap (λ (t : TableNo). t.0) joined.of_upper) in
      let own : link_at db.schema db.rows edge lower_at ≡ Some (link edge lower_at upper_at) =
      link_named lower upper lower_at upper_at (record { holder_stands = lower_stands; other_stands = upper_stands; names = names }) of_holder of_other in
      let same : link edge lower_at upper_at ≡ record { lower = lower_at; upper = upper_at } = rw is refl in
      listed_at lower_at (record { lower = lower_at; upper = upper_at }) (holder_before lower lower_at lower_stands of_holder) (own ∙ ap Some same)
  listed_by lower upper lower_at upper_at lower_stands upper_stands joined (inl also) false is names =
      let equal = eq-eqb edge.holder.0 edge.lower.0 (ap (λ (t : TableNo). t.0) also) in let never : true ≡ false = sym equal ∙ is in cc
  listed_by lower upper lower_at upper_at lower_stands upper_stands joined (inr also) false is names =
      let of_holder : upper.table.0 ≡ edge.holder.0 = ap (λ (t : TableNo). t.0) (joined.of_upper ∙ sym also) in
      let of_other : lower.table.0 ≡ (named_table edge).0 = rw is (ap (λ (t : TableNo). t.0) joined.of_lower) in
      let own : link_at db.schema db.rows edge upper_at ≡ Some (link edge upper_at lower_at) =
      link_named upper lower upper_at lower_at (record { holder_stands = upper_stands; other_stands = lower_stands; names = names }) of_holder of_other in
      let same : link edge upper_at lower_at ≡ record { lower = lower_at; upper = upper_at } = rw is refl in
      listed_at upper_at (record { lower = lower_at; upper = upper_at }) (holder_before upper upper_at upper_stands of_holder) (own ∙ ap Some same)

  -- and two rows that it joins have a link
  pub joined-linked : (edge.holder ≡ edge.lower) ⊎ (edge.holder ≡ edge.upper) → (lower upper : RowName) (lower_at upper_at : ℕ) → StandsAt db lower lower_at → StandsAt db upper upper_at
      → Joins db lower edge upper → Contains (links db.schema db.rows edge) (record { lower = lower_at; upper = upper_at })
  joined-linked held lower upper lower_at upper_at lower_stands upper_stands joined =
      listed_by lower upper lower_at upper_at lower_stands upper_stands joined held (eqb edge.holder.0 edge.lower.0) refl joined.names
