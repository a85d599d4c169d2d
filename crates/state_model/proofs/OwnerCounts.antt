-- How many own a row, and how many see it.
use Rattle.std.proofs.Common.{◌≡◌, ◌+◌, ◌<◌, length, true, false, sym, ◌∙◌}
use Rattle.std.specs.Prelude.{◌&&◌, filter}
use Rattle.std.proofs.lemmas.Bool.{and_parts, false_from_ne_true}
use Rattle.own_base.specs.declared.row_name.RowName.{RowName}
use Rattle.own_model.specs.Db.{Db, IsOrdered}
use Rattle.schema_model.specs.OwnerSchema.{IsOwnerSchema}
use Rattle.subject_model.specs.Owners.{has_owner, is_owner_path, leads_to, owners, owns, reaches, subjects}
use Rattle.subject_model.specs.Paths.{paths}
use Rattle.subject_model.proofs.Members.{any_contained, contains_any, contains_filter}
use Rattle.subject_model.proofs.OwnerLemmas.{from_owns, owner_from}
use Rattle.subject_model.proofs.OwnerLists.{subject_row-ends, subjects_contain}
use Rattle.state_model.specs.Weight.{seers}
use Rattle.state_model.proofs.Counts.{apart, none-counted, some-counted}

-- who owns a row reaches it
pub owner-reaches : (db : Db) (name subject : RowName) → owns db subject name ≡ true → reaches db subject name ≡ true
unfolding owns reaches
owner-reaches db name subject is =
    let (path, among, passes) = contains_any (λ path. leads_to subject name path && is_owner_path path) (paths db name) is in
    any_contained (leads_to subject name) (paths db name) path among (and_parts (leads_to subject name path) (is_owner_path path) passes).0

-- and it has an owner
owner-had : (db : Db) (name subject : RowName) → owns db subject name ≡ true → has_owner db name ≡ true
unfolding owns
owner-had db name subject is =
    let (path, among, passes) = contains_any (λ path. leads_to subject name path && is_owner_path path) (paths db name) is in
    any_contained is_owner_path (paths db name) path among (and_parts (leads_to subject name path) (is_owner_path path) passes).1

-- those that reach a row own it or see it alone
pub seers-owners : (db : Db) (name : RowName) → seers db name + length (owners db name) ≡ length (filter (λ subject. reaches db subject name) (subjects db))
unfolding owners
seers-owners db name = apart (λ subject. reaches db subject name) (λ subject. owns db subject name) (owner-reaches db name) (subjects db)

-- where a row has an owner, some are counted
pub some-owners : (db : Db) (name : RowName) → IsOrdered db → IsOwnerSchema db.schema → has_owner db name ≡ true → 0 < length (owners db name)
unfolding owners
some-owners db name ordered owner has =
    let (subject, is) = owner_from db name has in
    let there = subjects_contain db subject ordered (subject_row-ends db name is.path subject is.leads) in
    some-counted _ subject (contains_filter (λ subject. owns db subject name) (subjects db) subject there (from_owns db subject name ordered owner is))

-- and where it has none, none are
pub no-owners : (db : Db) (name : RowName) → has_owner db name ≡ false → length (owners db name) ≡ 0
unfolding owners
no-owners db name none =
    none-counted (λ subject. owns db subject name) (λ subject. false_from_ne_true _ (λ is. let never : true ≡ false = sym (owner-had db name subject is) ∙ none in cc)) (subjects db)
