-- The upper rows of a row, edge by edge.
use Rattle.std.proofs.Common.{◌≡◌, ℕ, ◌+◌, ◌<◌, List, [], ◌∷◌, ◌++◌, length, get_or, map, take, Bool, true, false, inl, inr, refl, ap, sym, ◌∙◌, subst, eq-eqb}
use Rattle.std.specs.Prelude.{◌⊎◌, ◌↔◌, ◌≢◌, ◌==◌, Contains, Option, Some, None, filter, is_some, slice_get}
use Rattle.std.specs.Option.{option_and_then}
use Rattle.std.proofs.lemmas.Bool.{eqb-true}
use Rattle.std.proofs.lemmas.List.{take_more}
use Rattle.std.proofs.lemmas.List.Elements.{Contains-append_cases, Contains-append_left, Contains-append_right}
use Rattle.std.proofs.lemmas.Option.{get_or_from_slice_get, same_Some, slice_get-get_or}
use Rattle.own_base.specs.declared.number.TableNo.{TableNo}
use Rattle.own_base.specs.declared.row_name.RowName.{RowName}
use Rattle.own_base.specs.declared.value.Key.{Key}
use Rattle.own_base.specs.declared.value.Value.{Value}
use Rattle.own_model.specs.declared.schema.Edge.{Edge}
use Rattle.own_model.specs.Db.{Db, IsOrdered, Row}
use Rattle.owner_model.specs.Joins.{Joins, row_of, value_at, value_of}
use Rattle.schema_model.specs.OwnerSchema.{IsOwnerEdge, IsOwnerSchema}
use Rattle.subject_model.specs.Named.{is_there}
use Rattle.subject_model.proofs.JoinsLemmas.{same_table}
use Rattle.subject_model.proofs.Members.{all_contained, contains_cases, contains_filter, contains_here, contains_map, contains_none, contains_of_filter, contains_of_map}
use Rattle.link_model.specs.Holds.{holders_at}
use Rattle.owner_index.specs.declared.upper.Upper.{Upper}
use Rattle.owner_index.specs.Referrers.{named}
use Rattle.owner_index.specs.Uppers.{AddsUppers, AreUppers, AreUppersBy, IsUpperBy, as_upper}
use Rattle.owner_index.proofs.HoldersLemmas.{holder_holds, holds_holder}

-- the row that a cell names, where it names one of the table
abbrev pub IsNamedBy : Option Value → TableNo → Option RowName → Type 0
IsNamedBy cell table found = (name : RowName) → (found ≡ Some name) ↔ ((name.table ≡ table) × (cell ≡ Some (value_of name.key)))

-- a row and an edge out of its table
pub record Out (db : Db) (name : RowName) (edge : Edge) (row : Row) : Type 0 where
  pub among : Contains db.schema.edges edge
  pub of_lower : name.table ≡ edge.lower
  pub row_is : row_of db name ≡ Some row

one_upper : (upper : Upper) (owner : Bool) (name : RowName) → upper.owner ≡ owner → upper.name ≡ name → upper ≡ as_upper owner name
one_upper upper owner name same also = ap (λ o. as_upper o upper.name) same ∙ ap (as_upper owner) also

module _ (db : Db) (name : RowName) (edge : Edge) (row : Row) (out : Out db name edge row) (held : edge.holder ≡ edge.lower) (found : Option RowName) (is : IsNamedBy (slice_get row edge.column.0) edge.upper found) where
  lower_holds : (edge.holder.0 == edge.lower.0) ≡ true
  lower_holds = eq-eqb edge.holder.0 edge.lower.0 (ap (λ (t : TableNo). t.0) held)

  cell_is : value_at db name edge.column.0 ≡ slice_get row edge.column.0
  cell_is = ap (option_and_then (λ values. slice_get values edge.column.0)) out.row_is

  -- where the lower row holds the column it names each row to which the edge leads
  joined_found : (upper : RowName) → Joins db name edge upper → found ≡ Some upper
  joined_found upper joined =
      let names : value_at db name edge.column.0 ≡ Some (value_of upper.key) = rw lower_holds at joined.names in
      (is upper).1 (joined.of_upper, sym cell_is ∙ names)

  found_joined : (upper : RowName) → found ≡ Some upper → is_there db upper ≡ true → Joins db name edge upper
  found_joined upper found_is there =
      let has = (is upper).0 found_is in
      record {
        among = out.among;
        of_lower = out.of_lower;
        of_upper = has.0;
        lower_there = ap is_some out.row_is;
        upper_there = there;
        names = rw lower_holds (cell_is ∙ has.1);
      }

  -- one that is there is added
  pub adds-found : (upper : RowName) (old new : List Upper) → found ≡ Some upper → is_there db upper ≡ true → new ≡ old ++ as_upper edge.owner upper ∷ [] → AddsUppers db name edge old new
  adds-found upper old new found_is there added = record { has = λ other. (to other, from other) }
    where
      to : (other : Upper) → Contains new other → Contains old other ⊎ IsUpperBy db name edge other
      to other among =
          elim (Contains-append_cases old (as_upper edge.owner upper ∷ []) other (subst (λ list. Contains list other) added among)) [
            | inl before ↦ inl before
            | inr last ↦ elim (contains_cases (as_upper edge.owner upper) [] other last) [
              | inl same ↦ inr (subst (IsUpperBy db name edge) same (refl, found_joined upper found_is there))
              | inr none ↦ absurd (contains_none other none)
            ]
          ]

      from : (other : Upper) → Contains old other ⊎ IsUpperBy db name edge other → Contains new other
      from other (inl before) = subst (λ list. Contains list other) (sym added) (Contains-append_left old (as_upper edge.owner upper ∷ []) other before)
      from other (inr by) =
          let same : upper ≡ other.name = same_Some upper other.name (sym found_is ∙ joined_found other.name by.1) in
          subst (λ list. Contains list other) (sym added)
          (Contains-append_right old (as_upper edge.owner upper ∷ []) other
          (subst (Contains (as_upper edge.owner upper ∷ [])) (sym (one_upper other edge.owner upper by.0 (sym same))) (contains_here (as_upper edge.owner upper) [])))

  -- and else none is
  pub adds-none : (old : List Upper) → ((upper : RowName) → found ≡ Some upper → is_there db upper ≡ true → ⊥) → AddsUppers db name edge old old
  adds-none old none =
      record {
        has = λ other. (
          (λ among. inl among),
          (λ which. elim which [
            | inl before ↦ before
            | inr by ↦ absurd (none other.name (joined_found other.name by.1) by.1.upper_there)
          ]),
        );
      }

module _ (db : Db) (name : RowName) (edge : Edge) (row : Row) (out : Out db name edge row) (held : edge.holder ≢ edge.lower) (owner : IsOwnerSchema db.schema) (ordered : IsOrdered db) where
  upper_holds : (edge.holder.0 == edge.lower.0) ≡ false
  upper_holds = by (edge.holder.0 == edge.lower.0) refl
    where
      by : (b : Bool) → (edge.holder.0 == edge.lower.0) ≡ b → (edge.holder.0 == edge.lower.0) ≡ false
      by true is = absurd (held (same_table edge.holder edge.lower (eqb-true edge.holder.0 edge.lower.0 is)))
      by false is = is

  holder_upper : edge.holder ≡ edge.upper
  holder_upper =
      let is : IsOwnerEdge db.schema edge = all_contained (IsOwnerEdge db.schema) db.schema.edges edge owner.edges out.among in
      elim is.held [ inl lower ↦ absurd (held lower) | inr upper ↦ upper ]

  some_row : (o : Option Row) → option_and_then (λ values. slice_get values edge.column.0) o ≡ Some (value_of name.key) → is_some o ≡ true
  some_row None at = let never : ◌≡◌ {A = Option Value} None (Some (value_of name.key)) = at in cc
  some_row (Some values) at = refl

  key_joined : (key : Key) → Contains (holders_at db edge.holder.0 edge.column.0 name.key) key → Joins db name edge (named edge.holder key)
  key_joined key among =
      let holds = holder_holds db ordered edge.holder edge.column.0 name.key key among in
      record {
        among = out.among;
        of_lower = out.of_lower;
        of_upper = holder_upper;
        lower_there = ap is_some out.row_is;
        upper_there = some_row (row_of db (named edge.holder key)) holds;
        names = rw upper_holds holds;
      }

  joined_key : (upper : RowName) → Joins db name edge upper → (upper.table ≡ edge.holder) × Contains (holders_at db edge.holder.0 edge.column.0 name.key) upper.key
  joined_key upper joined =
      let of : upper.table ≡ edge.holder = joined.of_upper ∙ sym holder_upper in
      let names : value_at db upper edge.column.0 ≡ Some (value_of name.key) = rw upper_holds at joined.names in
      (of, holds_holder db ordered edge.holder edge.column.0 name.key upper.key (subst (λ (t : TableNo). value_at db (named t upper.key) edge.column.0 ≡ Some (value_of name.key)) of names))

  -- where the upper rows hold the column, those that name the row are added
  pub adds-naming : (old new : List Upper) (names : List RowName) → names ≡ map (named edge.holder) (holders_at db edge.holder.0 edge.column.0 name.key) → new ≡ old ++ map (as_upper edge.owner) names → AddsUppers db name edge old new
  adds-naming old new names lent added = record { has = λ other. (to other, from other) }
    where
      to : (other : Upper) → Contains new other → Contains old other ⊎ IsUpperBy db name edge other
      to other among =
          elim (Contains-append_cases old (map (as_upper edge.owner) names) other (subst (λ list. Contains list other) added among)) [
            | inl before ↦ inl before
            | inr last ↦
                let (own, at, is) = contains_of_map (as_upper edge.owner) names other last in
                let (key, there, same) = contains_of_map (named edge.holder) (holders_at db edge.holder.0 edge.column.0 name.key) own (subst (λ list. Contains list own) lent at) in
                inr (subst (IsUpperBy db name edge) is (refl, subst (Joins db name edge) same (key_joined key there)))
          ]

      from : (other : Upper) → Contains old other ⊎ IsUpperBy db name edge other → Contains new other
      from other (inl before) = subst (λ list. Contains list other) (sym added) (Contains-append_left old (map (as_upper edge.owner) names) other before)
      from other (inr by) =
          let (of, there) = joined_key other.name by.1 in
          let own : named edge.holder other.name.key ≡ other.name = ap (λ (t : TableNo). named t other.name.key) (sym of) in
          let at : Contains names other.name = subst (λ list. Contains list other.name) (sym lent)
          (subst (Contains (map (named edge.holder) (holders_at db edge.holder.0 edge.column.0 name.key))) own (contains_map (named edge.holder) (holders_at db edge.holder.0 edge.column.0 name.key) other.name.key there)) in
          subst (λ list. Contains list other) (sym added)
          (Contains-append_right old (map (as_upper edge.owner) names) other
          (subst (Contains (map (as_upper edge.owner) names)) (sym (one_upper other edge.owner other.name by.0 refl)) (contains_map (as_upper edge.owner) names other.name at)))

module _ (db : Db) (name : RowName) (edges : List Edge) where
  pub uppers-start : AreUppersBy db name (take 0 edges) []
  uppers-start = record { has = λ upper. ((λ among. absurd (contains_none upper among)), (λ by. absurd (contains_none by.0 by.1.0))) }

  -- with those of the next edge they are those of one edge more
  pub uppers-more : (count : ℕ) (edge : Edge) (old new : List Upper) → count < length edges → edge ≡ get_or edges count edge → AreUppersBy db name (take count edges) old → AddsUppers db name edge old new
      → AreUppersBy db name (take (count + 1) edges) new
  uppers-more count edge old new within next are adds = record { has = λ upper. (to upper, from upper) }
    where
      longer : take (count + 1) edges ≡ take count edges ++ edge ∷ []
      longer = take_more edges count edge within ∙ ap (λ e. take count edges ++ e ∷ []) (sym next)

      to : (upper : Upper) → Contains new upper → (e : Edge) × (Contains (take (count + 1) edges) e × IsUpperBy db name e upper)
      to upper among =
          elim ((adds.has upper).0 among) [
            | inl before ↦
                let (e, both) = (are.has upper).0 before in
                (e, (subst (λ list. Contains list e) (sym longer) (Contains-append_left (take count edges) (edge ∷ []) e both.0), both.1))
            | inr by ↦
                (edge, (subst (λ list. Contains list edge) (sym longer) (Contains-append_right (take count edges) (edge ∷ []) edge (contains_here edge [])), by))
          ]

      from : (upper : Upper) → (e : Edge) × (Contains (take (count + 1) edges) e × IsUpperBy db name e upper) → Contains new upper
      from upper (e, (at, by)) =
          elim (Contains-append_cases (take count edges) (edge ∷ []) e (subst (λ list. Contains list e) longer at)) [
            | inl before ↦ (adds.has upper).1 (inl ((are.has upper).1 (e, (before, by))))
            | inr last ↦ elim (contains_cases edge [] e last) [
              | inl same ↦ (adds.has upper).1 (inr (subst (λ own. IsUpperBy db name own upper) (sym same) by))
              | inr none ↦ absurd (contains_none e none)
            ]
          ]

  -- those of all edges out of the row's table are those of all edges
  pub uppers-end : (uppers : List Upper) → edges ≡ filter (λ edge. edge.lower.0 == name.table.0) db.schema.edges → AreUppersBy db name edges uppers → AreUppers db name uppers
  uppers-end uppers out are =
      record {
        has = λ upper. (
          (λ among. let (edge, both) = (are.has upper).0 among in (edge, both.1)),
          (λ by.
              let lower : (by.0.lower.0 == name.table.0) ≡ true = eq-eqb by.0.lower.0 name.table.0 (ap (λ (t : TableNo). t.0) (sym by.1.1.of_lower)) in
              (are.has upper).1 (by.0, (subst (λ list. Contains list by.0) (sym out) (contains_filter (λ (e : Edge). e.lower.0 == name.table.0) db.schema.edges by.0 by.1.1.among lower), by.1))),
        );
      }

-- what is read at a place is there
pub read_at : {X : Type 0} (xs : List X) (i : ℕ) (d : X) → i < length xs → get_or xs i d ≡ get_or xs i (get_or xs i d)
read_at xs i d within = sym (get_or_from_slice_get xs i (get_or xs i d) (get_or xs i d) (slice_get-get_or xs i d within))

-- an edge of those out of a row's table is one of the schema, and goes out of the table
pub edge_out : (db : Db) (name : RowName) (edges : List Edge) (i : ℕ) (d : Edge) → edges ≡ filter (λ edge. edge.lower.0 == name.table.0) db.schema.edges → i < length edges
    → Contains db.schema.edges (get_or edges i d) × (name.table ≡ (get_or edges i d).lower)
edge_out db name edges i d out within =
    let among : Contains edges (get_or edges i d) = (i, within, sym (read_at edges i d within)) in
    let kept = contains_of_filter (λ (e : Edge). e.lower.0 == name.table.0) db.schema.edges (get_or edges i d) (subst (λ list. Contains list (get_or edges i d)) out among) in
    (kept.0, sym (same_table (get_or edges i d).lower name.table (eqb-true (get_or edges i d).lower.0 name.table.0 kept.1)))
