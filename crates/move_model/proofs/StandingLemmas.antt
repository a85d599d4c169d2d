-- How a subject stands to a row, by the row's lists.
use Rattle.std.proofs.Common.{◌≡◌, List, Bool, true, false, refl, sym, ◌∙◌}
use Rattle.std.specs.Prelude.{Contains, if◌then◌else◌}
use Rattle.std.specs.List.{list_any}
use Rattle.own_base.specs.declared.row_name.RowName.{RowName}
use Rattle.own_model.specs.Db.{Db, IsOrdered}
use Rattle.schema_model.specs.OwnerSchema.{IsOwnerSchema}
use Rattle.subject_model.specs.Named.{is_name}
use Rattle.subject_model.specs.Owners.{owners, owns, reach, reaches}
use Rattle.subject_model.proofs.Members.{any_contained, contains_any}
use Rattle.subject_model.proofs.NamedLemmas.{name_is, one_name}
use Rattle.subject_model.proofs.OwnerLemmas.{from_owns, from_reaches, owns_from, reaches_from}
use Rattle.subject_model.proofs.OwnerLists.{owners-iff_Owns, reach-iff_Reaches}
use Rattle.std.proofs.Common.{subst}
use Rattle.move_model.specs.declared.owner_move.Standing.{Standing}
use Rattle.move_model.specs.declared.owner_move.Standing.TheVariants.{Nothing, Reaches, Owns}
use Rattle.move_model.specs.Standing.{standing}

-- whether a name is among these
abbrev pub is_listed : RowName → List RowName → Bool
is_listed name names = list_any (λ other. is_name other name) names

pub listed_contains : (name : RowName) (names : List RowName) → is_listed name names ≡ true → Contains names name
listed_contains name names some =
    let (other, among, passes) = contains_any (λ other. is_name other name) names some in
    subst (Contains names) (one_name other name passes) among

pub contains_listed : (name : RowName) (names : List RowName) → Contains names name → is_listed name names ≡ true
contains_listed name names among = any_contained (λ other. is_name other name) names name among (name_is name name refl)

pub not_listed : (name : RowName) (names : List RowName) → is_listed name names ≡ false → Contains names name → ⊥
not_listed name names none among = let never : true ≡ false = sym (contains_listed name names among) ∙ none in cc

same_test : (b c : Bool) → (b ≡ true → c ≡ true) → (c ≡ true → b ≡ true) → b ≡ c
same_test true c to from = sym (to refl)
same_test false true to from = from refl
same_test false false to from = refl

-- how it stands by the two lists of the row
abbrev pub standing_by : List RowName → List RowName → RowName → Standing
standing_by owners reach subject = if is_listed subject owners then Owns else if is_listed subject reach then Reaches else Nothing

module _ (db : Db) (ordered : IsOrdered db) (owner : IsOwnerSchema db.schema) (subject name : RowName) where
  owns_listed : owns db subject name ≡ is_listed subject (owners db name)
  owns_listed = same_test _ _
      (λ is. contains_listed subject (owners db name) ((owners-iff_Owns db name subject ordered owner).1 (owns_from db subject name is)))
      (λ is. from_owns db subject name ordered owner ((owners-iff_Owns db name subject ordered owner).0 (listed_contains subject (owners db name) is)))

  reaches_listed : reaches db subject name ≡ is_listed subject (reach db name)
  reaches_listed = same_test _ _
      (λ is. contains_listed subject (reach db name) ((reach-iff_Reaches db name subject ordered owner).1 (reaches_from db subject name is)))
      (λ is. from_reaches db subject name ordered owner ((reach-iff_Reaches db name subject ordered owner).0 (listed_contains subject (reach db name) is)))

  pub standing-by : standing db subject name ≡ standing_by (owners db name) (reach db name) subject
  standing-by = rw (owns_listed, reaches_listed) refl
