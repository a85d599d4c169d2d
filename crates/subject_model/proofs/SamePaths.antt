-- Two databases with the same rows, data subjects and joins have the same paths, so the same owners and the same reach.
use Rattle.std.proofs.Common.{◌≡◌, [], ◌∷◌, map, Bool, true, false, refl, sym, ◌∙◌}
use Rattle.std.specs.Prelude.{filter}
use Rattle.own_base.specs.declared.row_name.RowName.{RowName}
use Rattle.own_model.specs.declared.schema.Edge.{Edge}
use Rattle.own_model.specs.Db.{Db, IsOrdered}
use Rattle.owner_model.specs.Joins.{Joins}
use Rattle.schema_model.specs.OwnerSchema.{IsOwnerSchema}
use Rattle.subject_model.specs.Named.{named_rows}
use Rattle.subject_model.specs.Owners.{Owns, Reaches, has_owner, owners, owns, reach, reaches, subjects}
use Rattle.subject_model.specs.Paths.{IsPath, Path, is_subject_row}
use Rattle.subject_model.proofs.OwnerLemmas.{from_owner, from_owns, from_reaches, owner_from, owns_from, reaches_from}

-- the same rows by the same names, of which the same are data subjects, and the same joins
pub record AreAlike (one other : Db) : Type 0 where
  pub named : named_rows other ≡ named_rows one
  pub subject : (name : RowName) → is_subject_row other name ≡ is_subject_row one name
  pub joins : (lower : RowName) (edge : Edge) (upper : RowName) → Joins one lower edge upper → Joins other lower edge upper
  pub joined : (lower : RowName) (edge : Edge) (upper : RowName) → Joins other lower edge upper → Joins one lower edge upper

module _ (one other : Db) (subject_is : (name : RowName) → is_subject_row other name ≡ is_subject_row one name)
    (joins : (lower : RowName) (edge : Edge) (upper : RowName) → Joins one lower edge upper → Joins other lower edge upper) where
  -- each path of the one is a path of the other
  path_of : (from : RowName) (path : Path) (subject : RowName) → IsPath one from path subject → IsPath other from path subject
  path_of from [] subject leads = (subject_is from ∙ leads.0, leads.1)
  path_of from (step ∷ rest) subject leads =
      (joins from step.edge step.upper leads.0, ((λ ends. leads.1.0 (sym (subject_is step.upper) ∙ ends)), path_of step.upper rest subject leads.1.1))

  -- so who owns a row in the one owns it in the other
  pub owns_of : (subject name : RowName) → Owns one subject name → Owns other subject name
  owns_of subject name is = record { path = is.path; leads = path_of name is.path subject is.leads; owner = is.owner }

  reaches_of : (subject name : RowName) → Reaches one subject name → Reaches other subject name
  reaches_of subject name is = record { path = is.path; leads = path_of name is.path subject is.leads }

same_test : (b c : Bool) → (b ≡ true → c ≡ true) → (c ≡ true → b ≡ true) → b ≡ c
same_test true c to from = sym (to refl)
same_test false true to from = from refl
same_test false false to from = refl

module _ (one other : Db) (alike : AreAlike one other) (ordered : IsOrdered one) (also : IsOrdered other) (owner : IsOwnerSchema one.schema) (owner_also : IsOwnerSchema other.schema) where
  back : (name : RowName) → is_subject_row one name ≡ is_subject_row other name
  back name = sym (alike.subject name)

  -- a subject owns the same rows
  pub owns-alike : (subject name : RowName) → owns other subject name ≡ owns one subject name
  owns-alike subject name = same_test _ _
      (λ is. from_owns one subject name ordered owner (owns_of other one back alike.joined subject name (owns_from other subject name is)))
      (λ is. from_owns other subject name also owner_also (owns_of one other alike.subject alike.joins subject name (owns_from one subject name is)))

  -- and reaches the same
  pub reaches-alike : (subject name : RowName) → reaches other subject name ≡ reaches one subject name
  reaches-alike subject name = same_test _ _
      (λ is. from_reaches one subject name ordered owner (reaches_of other one back alike.joined subject name (reaches_from other subject name is)))
      (λ is. from_reaches other subject name also owner_also (reaches_of one other alike.subject alike.joins subject name (reaches_from one subject name is)))

  -- the same rows have an owner
  pub has_owner-alike : (name : RowName) → has_owner other name ≡ has_owner one name
  has_owner-alike name = same_test _ _
      (λ is. let own = owner_from other name is in from_owner one name ordered owner (own.0, owns_of other one back alike.joined own.0 name own.1))
      (λ is. let own = owner_from one name is in from_owner other name also owner_also (own.0, owns_of one other alike.subject alike.joins own.0 name own.1))

  -- the data subjects are the same
  pub subjects-alike : subjects other ≡ subjects one
  subjects-alike = λ i. filter (λ name. alike.subject name i) (map (λ named. named.name) (alike.named i))

  -- so are the owners of each row, and those that reach it
  pub owners-alike : (name : RowName) → owners other name ≡ owners one name
  unfolding owners
  owners-alike name = λ i. filter (λ subject. owns-alike subject name i) (subjects-alike i)

  pub reach-alike : (name : RowName) → reach other name ≡ reach one name
  unfolding reach
  reach-alike name = λ i. filter (λ subject. reaches-alike subject name i) (subjects-alike i)
