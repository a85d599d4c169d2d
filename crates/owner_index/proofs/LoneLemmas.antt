-- Changes of lone tables leave each row the owners that it had, and those that reach it.
use Rattle.std.proofs.Common.{◌≡◌, ℕ, List, [], ◌∷◌, map, Bool, true, false, cond, not, refl, ap, sym, ◌∙◌, subst, eq-eqb}
use Rattle.std.specs.Prelude.{◌&&◌, ◌==◌, Contains, IsSome, IsTrue, Option, Some, is_some, slice_get}
use Rattle.std.specs.List.{list_any}
use Rattle.std.specs.List.Sorted.{IsStrictlySortedBy}
use Rattle.std.specs.Option.{option_and_then}
use Rattle.std.proofs.lemmas.Bool.{and_parts, or_left, or_right}
use Rattle.own_base.specs.declared.change.Change.{Change}
use Rattle.own_base.specs.declared.number.TableNo.{TableNo}
use Rattle.own_base.specs.declared.row_name.RowName.{RowName}
use Rattle.own_model.specs.declared.schema.Edge.{Edge}
use Rattle.own_model.specs.declared.schema.Schema.{Schema}
use Rattle.own_model.specs.Db.{Db, IsOrdered, Row}
use Rattle.owner_model.specs.Joins.{Joins, other_of, row_of, value_of}
use Rattle.schema_model.specs.Lone.{are_lone, is_lone, touches}
use Rattle.schema_model.specs.OwnerSchema.{IsOwnerSchema}
use Rattle.schema_model.specs.Tables.{is_subject}
use Rattle.state_model.specs.LeadTo.{LeadTo}
use Rattle.subject_model.specs.Named.{is_name, is_there}
use Rattle.subject_model.specs.Owners.{Reaches, owners, reach}
use Rattle.subject_model.specs.Paths.{IsPath, Path, is_subject_row}
use Rattle.subject_model.proofs.Members.{all_contained, all_passes, any_contained, contains_any, contains_none}
use Rattle.subject_model.proofs.NamedLemmas.{one_name}
use Rattle.subject_model.proofs.OwnerLists.{owners-iff_Owns, owners_rise, reach-iff_Reaches, reach_rise}
use Rattle.subject_model.proofs.RisingNames.{name_order, same_rising}
use Rattle.subject_model.proofs.SamePaths.{owns_of}
use Rattle.move_model.specs.declared.owner_move.OwnerMove.{OwnerMove}
use Rattle.move_model.specs.Moves.{AreMovesOf, IsMoveOf}
use Rattle.move_model.specs.Standing.{standing}
use Rattle.move_model.proofs.StandingLemmas.{standing-by, standing_by}
use Rattle.link_model.specs.Whose.{as_subject}
use Rattle.owner_index.specs.Entry.{Entry}
use Rattle.owner_index.specs.Before.{IsBefore}
use Rattle.owner_index.specs.Held.{StandsFor}

and_none : (b c : Bool) → c ≡ true → (b && not c) ≡ false
and_none true true is = refl
and_none true false is = let never : false ≡ true = is in cc
and_none false c is = refl

not_true : (b : Bool) → not b ≡ true → b ≡ false
not_true true is = let never : false ≡ true = is in cc
not_true false is = refl

module _ (schema : Schema) where
  edged : (number : ℕ) (edge : Edge) → Contains schema.edges edge → touches number edge ≡ true → is_lone schema number ≡ false
  unfolding is_lone
  edged number edge among is = and_none (not (is_subject schema number)) (list_any (touches number) schema.edges) (any_contained (touches number) schema.edges edge among is)

  -- the table that an edge goes out of isn't lone
  lower_edged : (edge : Edge) → Contains schema.edges edge → is_lone schema edge.lower.0 ≡ false
  lower_edged edge among = edged edge.lower.0 edge among (or_left _ _ (eq-eqb edge.lower.0 edge.lower.0 refl))

  -- nor the one that it leads up to
  upper_edged : (edge : Edge) → Contains schema.edges edge → is_lone schema edge.upper.0 ≡ false
  upper_edged edge among = edged edge.upper.0 edge among (or_right _ _ (eq-eqb edge.upper.0 edge.upper.0 refl))

  -- and a lone one is no subject table
  no_subject : (number : ℕ) → is_lone schema number ≡ true → is_subject schema number ≡ false
  unfolding is_lone
  no_subject number lone = not_true (is_subject schema number) (and_parts (not (is_subject schema number)) (not (list_any (touches number) schema.edges)) lone).0

-- a row of a lone table is no subject row
lone_row : (db : Db) (name : RowName) → is_lone db.schema name.table.0 ≡ true → is_subject_row db name ≡ false
unfolding is_subject_row
lone_row db name lone = ap (λ (b : Bool). b && is_there db name) (no_subject db.schema name.table.0 lone)

-- Two databases of one schema have the same rows in all tables that aren't lone.
record AreSameElsewhere (schema : Schema) (one other : Db) : Type 0 where
  pub first : one.schema ≡ schema
  pub second : schema ≡ other.schema
  pub row : (name : RowName) → is_lone schema name.table.0 ≡ false → row_of one name ≡ row_of other name

module _ (schema : Schema) (one other : Db) (same : AreSameElsewhere schema one other) where
  same_back : AreSameElsewhere schema other one
  same_back = record { first = sym same.second; second = sym same.first; row = λ name edged. sym (same.row name edged) }

  among_both : (edge : Edge) → Contains one.schema.edges edge → Contains schema.edges edge
  among_both edge among = subst (λ (s : Schema). Contains s.edges edge) same.first among

  -- the same rows are subject rows
  same_subject : (name : RowName) → is_subject_row other name ≡ is_subject_row one name
  unfolding is_subject_row
  same_subject name = by (is_lone schema name.table.0) refl
    where
      by : (b : Bool) → is_lone schema name.table.0 ≡ b → is_subject_row other name ≡ is_subject_row one name
      by true lone =
          let here : is_subject_row one name ≡ false = lone_row one name (ap (λ (s : Schema). is_lone s name.table.0) same.first ∙ lone) in
          let there : is_subject_row other name ≡ false = lone_row other name (ap (λ (s : Schema). is_lone s name.table.0) (sym same.second) ∙ lone) in
          there ∙ sym here
      by false edged =
          let schemas : other.schema ≡ one.schema = sym same.second ∙ sym same.first in
          let rows : row_of other name ≡ row_of one name = sym (same.row name edged) in
          λ i. is_subject (schemas i) name.table.0 && is_some (rows i)

  -- and an edge joins the same ones
  joins_kept : (lower : RowName) (edge : Edge) (upper : RowName) → Joins one lower edge upper → Joins other lower edge upper
  joins_kept lower edge upper joins =
      record {
        among = subst (λ (s : Schema). Contains s.edges edge) same.second (among_both edge joins.among);
        of_lower = joins.of_lower;
        of_upper = joins.of_upper;
        lower_there = subst (λ (found : Option Row). IsSome found) (same.row lower low) joins.lower_there;
        upper_there = subst (λ (found : Option Row). IsSome found) (same.row upper high) joins.upper_there;
        names = subst (λ (found : Option Row). option_and_then (λ (row : Row). slice_get row edge.column.0) found ≡ Some (value_of (other_of edge lower upper).key))
            (held (edge.holder.0 == edge.lower.0)) joins.names;
      }
    where
      low : is_lone schema lower.table.0 ≡ false
      low = subst (λ (t : TableNo). is_lone schema t.0 ≡ false) (sym joins.of_lower) (lower_edged schema edge (among_both edge joins.among))

      high : is_lone schema upper.table.0 ≡ false
      high = subst (λ (t : TableNo). is_lone schema t.0 ≡ false) (sym joins.of_upper) (upper_edged schema edge (among_both edge joins.among))

      held : (b : Bool) → row_of one (cond b lower upper) ≡ row_of other (cond b lower upper)
      held true = same.row lower low
      held false = same.row upper high

  path_kept : (from : RowName) (path : Path) (subject : RowName) → IsPath one from path subject → IsPath other from path subject
  path_kept from [] subject leads = (same_subject from ∙ leads.0, leads.1)
  path_kept from (step ∷ rest) subject leads =
      (joins_kept from step.edge step.upper leads.0, ((λ ends. leads.1.0 (sym (same_subject step.upper) ∙ ends)), path_kept step.upper rest subject leads.1.1))

  -- so a subject reaches the same rows
  reaches_kept : (subject name : RowName) → Reaches one subject name → Reaches other subject name
  reaches_kept subject name is = record { path = is.path; leads = path_kept name is.path subject is.leads }

module _ (schema : Schema) (one other : Db) (same : AreSameElsewhere schema one other) (ordered : IsOrdered one) (also : IsOrdered other) (owner : IsOwnerSchema one.schema) (owner_also : IsOwnerSchema other.schema)
    (name : RowName) where
  back : AreSameElsewhere schema other one
  back = same_back schema one other same

  -- so each row has the same owners
  same_owners : owners one name ≡ owners other name
  same_owners = same_rising name_order (owners one name) (owners other name) (owners_rise one name ordered) (owners_rise other name also) (λ subject.
      let here = owners-iff_Owns one name subject ordered owner in
      let there = owners-iff_Owns other name subject also owner_also in (
        (λ among. there.1 (owns_of one other (same_subject schema one other same) (joins_kept schema one other same) subject name (here.0 among))),
        (λ among. here.1 (owns_of other one (same_subject schema other one back) (joins_kept schema other one back) subject name (there.0 among))),
      ))

  -- and the same subjects reach it
  same_reach : reach one name ≡ reach other name
  same_reach = same_rising name_order (reach one name) (reach other name) (reach_rise one name ordered) (reach_rise other name also) (λ subject.
      let here = reach-iff_Reaches one name subject ordered owner in
      let there = reach-iff_Reaches other name subject also owner_also in (
        (λ among. there.1 (reaches_kept schema one other same subject name (here.0 among))),
        (λ among. here.1 (reaches_kept schema other one back subject name (there.0 among))),
      ))

module _ (before after : Db) (changes : List Change) (ordered : IsOrdered before) (also : IsOrdered after) (owner : IsOwnerSchema before.schema) (schema : after.schema ≡ before.schema)
    (lead : LeadTo before after changes) (lone : IsTrue (are_lone before.schema changes)) where
  -- a row of a table that isn't lone has no change
  no_change : (name : RowName) → is_lone before.schema name.table.0 ≡ false → (b : Bool) → list_any (λ change. is_name change.name name) changes ≡ b → list_any (λ change. is_name change.name name) changes ≡ false
  no_change name edged true some =
      let (change, among, passes) = contains_any (λ change. is_name change.name name) changes some in
      let own : is_lone before.schema change.name.table.0 ≡ true =
      all_contained (λ change. is_lone before.schema change.name.table.0 ≡ true) changes change (all_passes (λ change. is_lone before.schema change.name.table.0) changes lone) among in
      let its : is_lone before.schema name.table.0 ≡ true = subst (λ (n : RowName). is_lone before.schema n.table.0 ≡ true) (one_name change.name name passes) own in
      let never : true ≡ false = sym its ∙ edged in cc
  no_change name edged false none = none

  same_elsewhere : AreSameElsewhere before.schema before after
  same_elsewhere = record { first = refl; second = sym schema; row = λ name edged. lead.others name (no_change name edged _ refl) }

  owner_after : IsOwnerSchema after.schema
  owner_after = subst IsOwnerSchema (sym schema) owner

  owners_left : (name : RowName) → owners before name ≡ owners after name
  owners_left = same_owners before.schema before after same_elsewhere ordered also owner owner_after

  reach_left : (name : RowName) → reach before name ≡ reach after name
  reach_left = same_reach before.schema before after same_elsewhere ordered also owner owner_after

  -- what stood for the one stands for the other
  pub lone-stands : (entries : List Entry) → StandsFor before entries → StandsFor after entries
  lone-stands entries stands =
      record {
        owners = λ name. stands.owners name ∙ ap (map as_subject) (owners_left name);
        reach = λ name. stands.reach name ∙ ap (map as_subject) (reach_left name);
      }

  -- a subject stands to a row as it did
  same_standing : (subject name : RowName) → standing before subject name ≡ standing after subject name
  same_standing subject name =
      standing-by before ordered owner subject name ∙ ((λ i. standing_by (owners_left name i) (reach_left name i) subject) ∙ sym (standing-by after also owner_after subject name))

  no_move : (move : OwnerMove) → IsMoveOf before after move → ⊥
  no_move move is = is.differ (is.was ∙ (same_standing move.subject.0 move.name ∙ sym is.is))

  -- so nothing moves
  pub lone-moves : AreMovesOf before after []
  unfolding IsStrictlySortedBy
  lone-moves = record { told = λ move. ((λ among. absurd (contains_none move among)), (λ is. absurd (no_move move is))); rise = tt }

-- The same of an index for the state before changes, from the state after them.
module _ (db : Db) (ordered : IsOrdered db) (owner : IsOwnerSchema db.schema) (changes : List Change) (lone : IsTrue (are_lone db.schema changes)) (entries : List Entry) where
  module _ (before : Db) (is : IsBefore before db changes entries) where
    owner_before : IsOwnerSchema before.schema
    owner_before = subst IsOwnerSchema is.schema owner

    lone_before : IsTrue (are_lone before.schema changes)
    lone_before = subst (λ (s : Schema). IsTrue (are_lone s changes)) is.schema lone

    pub lone_stands_after : StandsFor db entries
    lone_stands_after = lone-stands before db changes is.ordered ordered owner_before is.schema is.leads lone_before entries is.stands

    pub lone_moves_after : AreMovesOf before db []
    lone_moves_after = lone-moves before db changes is.ordered ordered owner_before is.schema is.leads lone_before
