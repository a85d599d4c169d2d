-- The tests of owning, reaching and reaching by an edge say what they are said of.
use Rattle.std.proofs.Common.{◌≡◌, [], ◌∷◌, true, false, refl, ap, subst, eq-eqb}
use Rattle.std.specs.Prelude.{◌↔◌, ◌&&◌, Contains, IsTrue}
use Rattle.std.proofs.lemmas.Bool.{and_from, and_parts, eqb-true}
use Rattle.own_base.specs.declared.row_name.RowName.{RowName}
use Rattle.own_model.specs.declared.schema.Edge.{Edge}
use Rattle.own_model.specs.Db.{Db, IsOrdered}
use Rattle.schema_model.specs.OwnerSchema.{IsOwnerSchema}
use Rattle.subject_model.specs.Owners.{By, IsOwnerPath, Owns, Reaches, begins_with, by, has_owner, is_owner_path, leads_to, owns, reaches, reaches_by}
use Rattle.subject_model.specs.Paths.{IsPath, Path, end_of}
use Rattle.subject_model.proofs.EdgeNumbers.{one_edge}
use Rattle.subject_model.proofs.Members.{all_passes, contains_filter, contains_map, contains_of_filter, contains_of_map, passes_all}
use Rattle.subject_model.proofs.NamedLemmas.{name_is, one_name}
use Rattle.subject_model.proofs.PathLemmas.{passing_path, path_ends, path_passes, path_to_end}

-- a path of owner edges alone, as a test
pub owner_path : (path : Path) → is_owner_path path ≡ true → IsOwnerPath path
owner_path path is = all_passes (λ step. step.edge.owner) path is

pub is_owner_path-from : (path : Path) → IsOwnerPath path → is_owner_path path ≡ true
is_owner_path-from path is = passes_all (λ step. step.edge.owner) path is

-- a path that ends at a subject leads to it
pub leads_there : (db : Db) (from : RowName) (path : Path) (subject : RowName) → IsPath db from path (end_of from path) → leads_to subject from path ≡ true → IsPath db from path subject
leads_there db from path subject leads there = subst (IsPath db from path) (one_name (end_of from path) subject there) leads

-- and one that leads to it ends at it
pub there_leads : (db : Db) (from : RowName) (path : Path) (subject : RowName) → IsPath db from path subject → leads_to subject from path ≡ true
there_leads db from path subject leads = name_is (end_of from path) subject (path_ends db from path subject leads)

-- the test of reaching
pub reaches_from : (db : Db) (subject name : RowName) → reaches db subject name ≡ true → Reaches db subject name
unfolding reaches
reaches_from db subject name is =
    let some = passing_path db name (leads_to subject name) is in
    record { path = some.path; leads = leads_there db name some.path subject some.leads some.passes }

pub from_reaches : (db : Db) (subject name : RowName) → IsOrdered db → IsOwnerSchema db.schema → Reaches db subject name → reaches db subject name ≡ true
unfolding reaches
from_reaches db subject name ordered owner is =
    path_passes db name (leads_to subject name) ordered owner
    (record { path = is.path; leads = path_to_end db name is.path subject is.leads; passes = there_leads db name is.path subject is.leads })

pub reaches-iff_Reaches : (db : Db) (subject name : RowName) → IsOrdered db → IsOwnerSchema db.schema → IsTrue (reaches db subject name) ↔ Reaches db subject name
reaches-iff_Reaches db subject name ordered owner = (reaches_from db subject name, from_reaches db subject name ordered owner)

-- the test of owning
pub owns_from : (db : Db) (subject name : RowName) → owns db subject name ≡ true → Owns db subject name
unfolding owns
owns_from db subject name is =
    let some = passing_path db name (λ path. leads_to subject name path && is_owner_path path) is in
    let both = and_parts (leads_to subject name some.path) (is_owner_path some.path) some.passes in
    record { path = some.path; leads = leads_there db name some.path subject some.leads both.0; owner = owner_path some.path both.1 }

pub from_owns : (db : Db) (subject name : RowName) → IsOrdered db → IsOwnerSchema db.schema → Owns db subject name → owns db subject name ≡ true
unfolding owns
from_owns db subject name ordered owner is =
    path_passes db name (λ path. leads_to subject name path && is_owner_path path) ordered owner
    (record {
      path = is.path;
      leads = path_to_end db name is.path subject is.leads;
      passes = and_from _ _ (there_leads db name is.path subject is.leads) (is_owner_path-from is.path is.owner);
    })

pub owns-iff_Owns : (db : Db) (subject name : RowName) → IsOrdered db → IsOwnerSchema db.schema → IsTrue (owns db subject name) ↔ Owns db subject name
owns-iff_Owns db subject name ordered owner = (owns_from db subject name, from_owns db subject name ordered owner)

-- the test of reaching by an edge
pub by_from : (db : Db) (subject name : RowName) (edge : Edge) → IsOwnerSchema db.schema → Contains db.schema.edges edge → reaches_by db subject name edge ≡ true → By db subject name edge
by_from db subject name edge owner among is =
    let some = passing_path db name (λ path. leads_to subject name path && begins_with edge path) is in
    let both = and_parts (leads_to subject name some.path) (begins_with edge some.path) some.passes in
    by some.path (leads_there db name some.path subject some.leads both.0) both.1
  where
    by : (path : Path) → IsPath db name path subject → begins_with edge path ≡ true → By db subject name edge
    by [] leads begins = let never : false ≡ true = begins in cc
    by (step ∷ rest) leads begins =
        let same : step.edge ≡ edge = one_edge db.schema step.edge edge owner leads.0.among among (eqb-true step.edge.number.0 edge.number.0 begins) in
        record { upper = step.upper; rest = rest; leads = subst (λ e. IsPath db name (record { edge = e; upper = step.upper } ∷ rest) subject) same leads }

pub from_by : (db : Db) (subject name : RowName) (edge : Edge) → IsOrdered db → IsOwnerSchema db.schema → By db subject name edge → reaches_by db subject name edge ≡ true
from_by db subject name edge ordered owner is =
    let path : Path = record { edge = edge; upper = is.upper } ∷ is.rest in
    path_passes db name (λ path. leads_to subject name path && begins_with edge path) ordered owner
    (record {
      path = path;
      leads = path_to_end db name path subject is.leads;
      passes = and_from _ _ (there_leads db name path subject is.leads) (eq-eqb edge.number.0 edge.number.0 refl);
    })

pub reaches_by-iff_By : (db : Db) (subject name : RowName) (edge : Edge) → IsOrdered db → IsOwnerSchema db.schema → Contains db.schema.edges edge
    → IsTrue (reaches_by db subject name edge) ↔ By db subject name edge
reaches_by-iff_By db subject name edge ordered owner among = (by_from db subject name edge owner among, from_by db subject name edge ordered owner)

-- the edges by which a subject reaches a row are listed by their numbers
pub by_contains : (db : Db) (subject name : RowName) (edge : Edge) → IsOrdered db → IsOwnerSchema db.schema → By db subject name edge → Contains (by db subject name) edge.number
unfolding by
by_contains db subject name edge ordered owner is =
    contains_map (λ (e : Edge). e.number) _ edge (contains_filter (reaches_by db subject name) db.schema.edges edge is.leads.0.among (from_by db subject name edge ordered owner is))

-- and no others
pub contained_by : (db : Db) (subject name : RowName) (edge : Edge) → IsOwnerSchema db.schema → Contains db.schema.edges edge → Contains (by db subject name) edge.number → By db subject name edge
unfolding by
contained_by db subject name edge owner among listed =
    let (own, kept, same) = contains_of_map (λ (e : Edge). e.number) _ edge.number listed in
    let both = contains_of_filter (reaches_by db subject name) db.schema.edges own kept in
    let here : own ≡ edge = one_edge db.schema own edge owner both.0 among (ap (λ n. n.0) same) in
    subst (By db subject name) here (by_from db subject name own owner both.0 both.1)

pub by-iff_By : (db : Db) (subject name : RowName) (edge : Edge) → IsOrdered db → IsOwnerSchema db.schema → Contains db.schema.edges edge
    → Contains (by db subject name) edge.number ↔ By db subject name edge
by-iff_By db subject name edge ordered owner among = (contained_by db subject name edge owner among, by_contains db subject name edge ordered owner)

-- the test of having an owner
pub owner_from : (db : Db) (name : RowName) → has_owner db name ≡ true → (subject : RowName) × Owns db subject name
owner_from db name is =
    let some = passing_path db name is_owner_path is in
    (end_of name some.path, record { path = some.path; leads = some.leads; owner = owner_path some.path some.passes })

pub from_owner : (db : Db) (name : RowName) → IsOrdered db → IsOwnerSchema db.schema → (subject : RowName) × Owns db subject name → has_owner db name ≡ true
from_owner db name ordered owner (subject, is) =
    path_passes db name is_owner_path ordered owner
    (record { path = is.path; leads = path_to_end db name is.path subject is.leads; passes = is_owner_path-from is.path is.owner })

pub has_owner-iff_owned : (db : Db) (name : RowName) → IsOrdered db → IsOwnerSchema db.schema → IsTrue (has_owner db name) ↔ ((subject : RowName) × Owns db subject name)
has_owner-iff_owned db name ordered owner = (owner_from db name, from_owner db name ordered owner)
