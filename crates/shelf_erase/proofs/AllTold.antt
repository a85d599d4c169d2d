-- What becomes of the rows that a subject reaches, and of those that refer to rows that go, is what becomes of all rows.
use Rattle.std.proofs.Common.{◌≡◌, List, [], true, inl, inr, sym, subst}
use Rattle.std.specs.Prelude.{◌⊎◌, Contains}
use Rattle.own_base.specs.declared.change.Change.{Change}
use Rattle.own_base.specs.declared.row_name.RowName.{RowName}
use Rattle.own_model.specs.Db.{Db}
use Rattle.schema_model.specs.Tables.{is_subject}
use Rattle.shelf_model.specs.Seen.{seen}
use Rattle.state_model.specs.Sound.{Sound}
use Rattle.state_model.proofs.Consistency.{consistent_from_sound}
use Rattle.state_model.proofs.CreatedSchema.{owner_schema-created}
use Rattle.subject_model.specs.Owners.{Owns}
use Rattle.shelf_erase.specs.ChangeAt.{change_at}
use Rattle.shelf_erase.specs.Refers.{RefersToGone}
use Rattle.shelf_erase.specs.Told.{AreTold, Tells}
use Rattle.shelf_erase.proofs.Outside.{reached_or_refers}
use Rattle.shelf_erase.proofs.ShelfPlaces.{reached-cases}
use Rattle.shelf_erase.proofs.Strikes.{strikes-created}
use Rattle.shelf_erase.proofs.ToldLemmas.{tells-then, told-all}

-- a row that the subject owns or sees, or that refers to one that goes
abbrev IsLookedAt : Db → RowName → List RowName → RowName → Type 0
IsLookedAt db subject names name = (Owns db subject name ⊎ Contains names name) ⊎ RefersToGone db subject name

pub all-told : (db : Db) (subject : RowName) → Sound db → is_subject db.schema subject.table.0 ≡ true → (names : List RowName) (none shelved named all : List Change)
    → none ≡ [] → names ≡ seen db subject → Tells (change_at db subject) (Owns db subject) none shelved → Tells (change_at db subject) (Contains names) shelved named → Tells (change_at db subject) (RefersToGone db subject) named all
    → AreTold (change_at db subject) all
all-told db subject sound of_subjects names none shelved named all empty are first second third =
    let wanted = change_at db subject in
    let owner = owner_schema-created db sound.well_formed.created in
    let reached : Tells wanted (λ name. Owns db subject name ⊎ Contains names name) none named =
    tells-then wanted (Owns db subject) (Contains names) (λ name. Owns db subject name ⊎ Contains names name) none shelved named (λ name which. which) first second in
    let looked_at : Tells wanted (IsLookedAt db subject names) none all =
    tells-then wanted (λ name. Owns db subject name ⊎ Contains names name) (RefersToGone db subject) (IsLookedAt db subject names) none named all (λ name which. which) reached third in
    told-all wanted (IsLookedAt db subject names) all (subst (λ list. Tells wanted (IsLookedAt db subject names) list all) empty looked_at)
    (λ name. elim (reached_or_refers db subject sound.well_formed.ordered owner of_subjects (strikes-created db sound.well_formed.created) (consistent_from_sound db sound) name) [
      | inl (inl is) ↦ elim (reached-cases db subject sound.well_formed.ordered owner name is) [ inl own ↦ inl (inl (inl own)) | inr among ↦ inl (inl (inr (subst (λ list. Contains list name) (sym are) among))) ]
      | inl (inr refers) ↦ inl (inr refers)
      | inr nothing ↦ inr nothing
    ])
