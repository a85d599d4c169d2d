-- Each row that has no owner any more is the row of some change, or of some move.
use Rattle.std.proofs.Common.{◌≡◌, ℕ, List, [], Bool, true, false, inl, inr, refl, ap, sym, ◌∙◌, subst}
use Rattle.std.specs.Prelude.{◌⊎◌, Option, None, Some, not, is_some, slice_get, ◌&&◌, if◌then◌else◌}
use Rattle.std.proofs.lemmas.Bool.{and_parts, false_from_ne_true, not-true}
use Rattle.std.proofs.lemmas.Option.{slice_get_read}
use Rattle.own_base.specs.declared.change.Change.{Change}
use Rattle.own_base.specs.declared.row_name.RowName.{RowName}
use Rattle.own_model.specs.declared.schema.Schema.{Schema}
use Rattle.own_model.specs.Db.{Db, IsOrdered}
use Rattle.owner_model.specs.Joins.{row_of}
use Rattle.schema_model.specs.OwnerSchema.{IsOwnerSchema}
use Rattle.schema_model.specs.Tables.{is_private}
use Rattle.subject_model.specs.Named.{is_there}
use Rattle.subject_model.specs.Owners.{has_owner, owns, reaches}
use Rattle.subject_model.proofs.OwnerLemmas.{from_owner, from_owns, owner_from, owns_from}
use Rattle.state_model.specs.Fault.{first_of, owner_faults}
use Rattle.state_model.specs.LeadTo.{LeadTo}
use Rattle.move_model.specs.declared.owner_move.OwnerMove.{OwnerMove}
use Rattle.move_model.specs.declared.owner_move.Standing.{Standing}
use Rattle.move_model.specs.declared.owner_move.Standing.TheVariants.{Nothing, Reaches, Owns}
use Rattle.move_model.specs.Moves.{AreMovesOf, IsMoveOf}
use Rattle.move_model.specs.Standing.{standing}
use Rattle.change_check.specs.declared.cell_name.CellName.{CellName}
use Rattle.change_check.specs.Least.{IsFurther}
use Rattle.change_check.specs.Unowned.{IsCaught, is_of_unowned, is_unowned, owner_refusal}
use Rattle.change_check.proofs.CameLemmas.{ChangeNamed, named_or_same}
use Rattle.change_check.proofs.FirstUnowned.{first_of_unowned, none_unowned}

-- whether a standing is that of an owner
abbrev is_owner : Standing → Bool
is_owner Owns = true
is_owner Reaches = false
is_owner Nothing = false

owner_standing : (db : Db) (subject name : RowName) → is_owner (standing db subject name) ≡ owns db subject name
owner_standing db subject name = by (owns db subject name) (reaches db subject name)
  where
    by : (own reach : Bool) → is_owner (if own then Owns else if reach then Reaches else Nothing) ≡ own
    by true reach = refl
    by false true = refl
    by false false = refl

-- a move of a name, among moves
pub record MoveNamed (moves : List OwnerMove) (name : RowName) : Type 0 where
  pub place : ℕ
  pub move : OwnerMove
  pub move_is : slice_get moves place ≡ Some move
  pub name_is : move.name ≡ name

module _ (before after : Db) (changes : List Change) (moves : List OwnerMove) (lead : LeadTo before after changes) (are : AreMovesOf before after moves)
    (ordered_before : IsOrdered before) (ordered : IsOrdered after) (schema : before.schema ≡ after.schema) (owner : IsOwnerSchema after.schema) (none : owner_faults before ≡ []) where
  -- a subject that no longer owns a row has a move of it
  lost : (subject name : RowName) → owns before subject name ≡ true → owns after subject name ≡ false → MoveNamed moves name
  lost subject name owned gone =
      let move : OwnerMove = record { name = name; subject = record { 0 = subject }; before = standing before subject name; after = standing after subject name } in
      let is_move : IsMoveOf before after move = record {
        was = refl;
        is = refl;
        differ = λ same. let never : true ≡ false = sym owned ∙ (sym (owner_standing before subject name) ∙ (ap is_owner same ∙ (owner_standing after subject name ∙ gone))) in cc;
      } in
      let (place, within, at) = (are.told move).1 is_move in
      record { place = place; move = move; move_is = slice_get_read moves _ place move refl within (sym at); name_is = refl }

  -- a row that is as it was, and has no owner any more, has a move
  moved : (name : RowName) → is_unowned after name ≡ true → row_of before name ≡ row_of after name → MoveNamed moves name
  moved name unowned same =
      let private = and_parts (is_private after.schema name.table.0) (is_there after name && not (has_owner after name)) unowned in
      let there = and_parts (is_there after name) (not (has_owner after name)) private.1 in
      let lacks : has_owner after name ≡ false = not-true _ there.1 in
      let has = none_unowned before none name (ap (λ (s : Schema). is_private s name.table.0) schema ∙ private.0) (ap is_some same ∙ there.0) in
      let (subject, is) = owner_from before name has in
      lost subject name (from_owns before subject name ordered_before (subst IsOwnerSchema (sym schema) owner) is)
      (false_from_ne_true _ (λ owned. let never : false ≡ true = sym lacks ∙ from_owner after name ordered owner (subject, owns_from after subject name owned) in cc))

  pub caught_by : (name : RowName) → is_unowned after name ≡ true → ChangeNamed before after changes name ⊎ MoveNamed moves name
  caught_by name unowned = elim (named_or_same before after changes lead name) [
    | inl named ↦ inl named
    | inr same ↦ inr (moved name unowned same)
  ]

  -- So the least cell that was found, where the rows of changes and of moves are caught, has the first fault.
  pub owner_least : (least : Option CellName) → IsFurther (is_of_unowned after) None least
      → ((place : ℕ) (change : Change) → slice_get changes place ≡ Some change → IsCaught after change.name least)
      → ((place : ℕ) (move : OwnerMove) → slice_get moves place ≡ Some move → IsCaught after move.name least)
      → first_of (owner_faults after) ≡ owner_refusal after.schema least
  owner_least least further changed moved_rows =
      first_of_unowned after ordered least (record {
        own = further.own tt;
        reached = λ cell unowned. elim (caught_by cell.row unowned) [
          | inl named ↦ changed named.place named.change named.change_is cell (sym named.name_is) unowned
          | inr named ↦ moved_rows named.place named.move named.move_is cell (sym named.name_is) unowned
        ];
      })
