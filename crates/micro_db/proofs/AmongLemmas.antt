-- Whose a row is, by looking a subject up among the row's subjects.
use Rattle.std.proofs.Common.{◌≡◌, List, [], ◌∷◌, Bool, true, false, refl, ap, sym, ◌∙◌, subst}
use Rattle.std.specs.Prelude.{Contains, map}
use Rattle.std.specs.List.Sorted.{IsStrictlySortedBy}
use Rattle.std.specs.declared.cmp.Ordering.TheVariants.{Less}
use Rattle.own_base.specs.declared.row_name.RowName.{RowName}
use Rattle.own_base.specs.declared.row_name.Subject.{Subject}
use Rattle.own_model.specs.Db.{Db, IsOrdered}
use Rattle.page_model.proofs.RisingLemmas.{each_mapped}
use Rattle.schema_model.specs.OwnerSchema.{IsOwnerSchema}
use Rattle.subject_model.specs.NameOrder.{name_cmp}
use Rattle.subject_model.specs.Named.{is_name}
use Rattle.subject_model.specs.Owners.{owners, owns, reach, reaches}
use Rattle.subject_model.proofs.Members.{any_contained, contains_any, contains_map, contains_of_map}
use Rattle.subject_model.proofs.NamedLemmas.{name_is, one_name}
use Rattle.subject_model.proofs.OwnerLemmas.{from_owns, from_reaches, owns_from, reaches_from}
use Rattle.subject_model.proofs.OwnerLists.{owners-iff_Owns, owners_rise, reach-iff_Reaches, reach_rise}
use Rattle.link_model.specs.Whose.{as_subject, owners_at, reach_at}
use Rattle.owner_index.specs.HeldMoves.{is_among}
use Rattle.owner_sets.specs.SubjectOrder.{subject_cmp}

-- names that rise rise as subjects
subjects_rise : (xs : List RowName) → IsStrictlySortedBy name_cmp xs → IsStrictlySortedBy subject_cmp (map as_subject xs)
unfolding IsStrictlySortedBy
subjects_rise [] rising = tt
subjects_rise (x ∷ xs) rising = (each_mapped (λ y. subject_cmp (as_subject x) y ≡ Less) as_subject xs rising.0, subjects_rise xs rising.1)

-- a subject is among subjects exactly where its name is among their names
among_subjects : (subject : Subject) (xs : List RowName) → is_among subject (map as_subject xs) ≡ true → Contains xs subject.0
among_subjects subject xs some =
    let (other, among, passes) = contains_any (λ (other : Subject). is_name other.0 subject.0) (map as_subject xs) some in
    let (own, at, same) = contains_of_map as_subject xs other among in
    subst (Contains xs) (ap (λ (s : Subject). s.0) same ∙ one_name other.0 subject.0 passes) at

subjects_among : (subject : Subject) (xs : List RowName) → Contains xs subject.0 → is_among subject (map as_subject xs) ≡ true
subjects_among subject xs at =
    any_contained (λ (other : Subject). is_name other.0 subject.0) (map as_subject xs) (as_subject subject.0) (contains_map as_subject xs subject.0 at) (name_is subject.0 subject.0 refl)

-- tests that imply one another agree
pub same_test : (b c : Bool) → (b ≡ true → c ≡ true) → (c ≡ true → b ≡ true) → b ≡ c
same_test true c to from = sym (to refl)
same_test false true to from = from refl
same_test false false to from = refl

module _ (db : Db) (ordered : IsOrdered db) (owner : IsOwnerSchema db.schema) (subject : Subject) (name : RowName) (subjects : List Subject) where
  pub owns-among : subjects ≡ owners_at db name → (result : Bool) → (IsStrictlySortedBy subject_cmp subjects → result ≡ is_among subject subjects) → result ≡ owns db subject.0 name
  owns-among is result told =
      told (subst (IsStrictlySortedBy subject_cmp) (sym is) (subjects_rise (owners db name) (owners_rise db name ordered)))
      ∙ (ap (is_among subject) is
      ∙ same_test _ _
      (λ some. from_owns db subject.0 name ordered owner ((owners-iff_Owns db name subject.0 ordered owner).0 (among_subjects subject (owners db name) some)))
      (λ own. subjects_among subject (owners db name) ((owners-iff_Owns db name subject.0 ordered owner).1 (owns_from db subject.0 name own))))

  pub reaches-among : subjects ≡ reach_at db name → (result : Bool) → (IsStrictlySortedBy subject_cmp subjects → result ≡ is_among subject subjects) → result ≡ reaches db subject.0 name
  reaches-among is result told =
      told (subst (IsStrictlySortedBy subject_cmp) (sym is) (subjects_rise (reach db name) (reach_rise db name ordered)))
      ∙ (ap (is_among subject) is
      ∙ same_test _ _
      (λ some. from_reaches db subject.0 name ordered owner ((reach-iff_Reaches db name subject.0 ordered owner).0 (among_subjects subject (reach db name) some)))
      (λ own. subjects_among subject (reach db name) ((reach-iff_Reaches db name subject.0 ordered owner).1 (reaches_from db subject.0 name own))))

-- a subject that reaches a row is among those that reach it
pub reaches_contained : (db : Db) (ordered : IsOrdered db) (owner : IsOwnerSchema db.schema) (subject : Subject) (name : RowName) → reaches db subject.0 name ≡ true → Contains (reach_at db name) subject
reaches_contained db ordered owner subject name is =
    contains_map as_subject (reach db name) subject.0 ((reach-iff_Reaches db name subject.0 ordered owner).1 (reaches_from db subject.0 name is))
