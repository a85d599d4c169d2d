-- A row whose edges stay, and whose upper rows keep what they have, keeps what it has.
use Rattle.std.proofs.Common.{◌≡◌, List, Bool, true, false, refl, ap, sym, ◌∙◌, subst}
use Rattle.std.specs.Prelude.{◌&&◌, Contains, IsFalse, is_some}
use Rattle.own_base.specs.declared.row_name.RowName.{RowName}
use Rattle.own_model.specs.declared.schema.Edge.{Edge}
use Rattle.own_model.specs.Db.{Db}
use Rattle.owner_model.specs.Joins.{Joins}
use Rattle.schema_model.specs.Tables.{is_subject}
use Rattle.subject_model.specs.Named.{is_there}
use Rattle.subject_model.specs.Paths.{is_subject_row}
use Rattle.subject_model.proofs.RisingNames.{name_order, same_rising}
use Rattle.move_model.specs.KeepsEdges.{KeepsEdges}
use Rattle.move_model.proofs.Listing.{AreListsOf, CarriesOver, Listed, whose_carried}

-- a name is that of a subject row in both of two databases of one schema where it is there in both
same_subject_row : (one other : Db) (name : RowName) → one.schema ≡ other.schema → is_there one name ≡ is_there other name → is_subject_row one name ≡ is_subject_row other name
unfolding is_subject_row
same_subject_row one other name schema there = λ i. is_subject (schema i) name.table.0 && there i

module _ (before after : Db) (name : RowName) (schema : after.schema ≡ before.schema) (keeps : KeepsEdges before after name)
    (old new : RowName → List RowName) (above : (edge : Edge) (upper : RowName) → Joins after name edge upper → IsFalse (is_subject_row after upper) → old upper ≡ new upper) where
  to_after : CarriesOver before after (Listed old) (Listed new) name
  to_after =
      record {
        own = same_subject_row before after name (sym schema) (ap is_some keeps.row);
        joins = keeps.still;
        subject = λ edge upper is. same_subject_row before after upper (sym schema) (is.upper_there ∙ sym (keeps.still edge upper is).upper_there);
        has = λ edge upper subject is other among. subst (λ list. Contains list subject) (above edge upper (keeps.still edge upper is) other) among;
      }

  to_before : CarriesOver after before (Listed new) (Listed old) name
  to_before =
      record {
        own = same_subject_row after before name schema (sym (ap is_some keeps.row));
        joins = keeps.already;
        subject = both;
        has = λ edge upper subject is other among. subst (λ list. Contains list subject) (sym (above edge upper is (both edge upper is ∙ other))) among;
      }
    where
      both : (edge : Edge) (upper : RowName) → Joins after name edge upper → is_subject_row after upper ≡ is_subject_row before upper
      both edge upper is = same_subject_row after before upper schema (is.upper_there ∙ sym (keeps.already edge upper is).upper_there)

  -- so the list of the one is the list of the other
  pub kept_list : (counts : Edge → Bool) → AreListsOf before counts old → AreListsOf after counts new → old name ≡ new name
  kept_list counts were are = by (is_there after name) refl
    where
      by : (b : Bool) → is_there after name ≡ b → old name ≡ new name
      by true there =
          let there_before : is_there before name ≡ true = ap is_some keeps.row ∙ there in
          same_rising name_order (old name) (new name) (were.rise name) (are.rise name) (λ subject. (
            (λ among. (are.meets.local subject name there).1 (whose_carried before after counts (Listed old) (Listed new) subject name to_after ((were.meets.local subject name there_before).0 among))),
            (λ among. (were.meets.local subject name there_before).1 (whose_carried after before counts (Listed new) (Listed old) subject name to_before ((are.meets.local subject name there).0 among))),
          ))
      by false absent = were.none name (ap is_some keeps.row ∙ absent) ∙ sym (are.none name absent)
