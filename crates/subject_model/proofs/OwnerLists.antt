-- The lists of subjects, of a row's owners, and of those that reach it.
use Rattle.std.proofs.Common.{◌≡◌, List, [], ◌∷◌, map, true, subst}
use Rattle.std.specs.Prelude.{◌↔◌, Contains, IsTrue}
use Rattle.std.specs.List.Sorted.{IsStrictlySortedBy}
use Rattle.std.proofs.lemmas.Bool.{and_parts}
use Rattle.std.proofs.lemmas.List.Kept.{IsStrictlySortedBy-filter}
use Rattle.own_base.specs.declared.row_name.RowName.{RowName}
use Rattle.own_model.specs.Db.{Db, IsOrdered}
use Rattle.schema_model.specs.OwnerSchema.{IsOwnerSchema}
use Rattle.schema_model.specs.Tables.{is_subject}
use Rattle.subject_model.specs.LocalEquation.{MeetsLocalEquation, counts_for_owners, counts_for_reach}
use Rattle.subject_model.specs.NameOrder.{name_cmp}
use Rattle.subject_model.specs.Named.{NamedRow, is_there, named_rows}
use Rattle.subject_model.specs.Owners.{Owns, Reaches, owners, owns, reach, reaches, subjects}
use Rattle.subject_model.specs.Paths.{IsPath, Path, is_subject_row}
use Rattle.subject_model.proofs.LocalLemmas.{meets_same, one_solution, owns_meets, reaches_meets}
use Rattle.subject_model.proofs.Members.{contains_filter, contains_map, contains_of_filter}
use Rattle.subject_model.proofs.NameOrderLemmas.{named_rows_rise}
use Rattle.subject_model.proofs.NamedLemmas.{named-there}
use Rattle.subject_model.proofs.OwnerLemmas.{from_owns, from_reaches, owns_from, reaches_from}
use Rattle.subject_model.proofs.RisingNames.{name_order, same_rising}

-- a path ends at a subject row
pub subject_row-ends : (db : Db) (from : RowName) (path : Path) (subject : RowName) → IsPath db from path subject → is_subject_row db subject ≡ true
subject_row-ends db from [] subject is = subst (λ name. is_subject_row db name ≡ true) is.1 is.0
subject_row-ends db from (step ∷ rest) subject is = subject_row-ends db step.upper rest subject is.1.1

-- a subject row is there
pub there-subject_row : (db : Db) (name : RowName) → is_subject_row db name ≡ true → is_there db name ≡ true
unfolding is_subject_row
there-subject_row db name is = (and_parts (is_subject db.schema name.table.0) (is_there db name) is).1

-- the list of subjects has exactly the subject rows
pub subjects_contain : (db : Db) (name : RowName) → IsOrdered db → is_subject_row db name ≡ true → Contains (subjects db) name
subjects_contain db name ordered is =
    let (row, at) = named-there db name ordered (there-subject_row db name is) in
    let named : NamedRow = record { name = name; row = row } in
    contains_filter (is_subject_row db) (map (λ n. n.name) (named_rows db)) name (contains_map (λ (n : NamedRow). n.name) (named_rows db) named at) is

pub subject_row-listed : (db : Db) (name : RowName) → Contains (subjects db) name → is_subject_row db name ≡ true
subject_row-listed db name among = (contains_of_filter (is_subject_row db) (map (λ n. n.name) (named_rows db)) name among).1

pub subjects-iff_subject_row : (db : Db) (name : RowName) → IsOrdered db → Contains (subjects db) name ↔ IsTrue (is_subject_row db name)
subjects-iff_subject_row db name ordered = (subject_row-listed db name, subjects_contain db name ordered)

-- by table, then by key
pub subjects_rise : (db : Db) → IsOrdered db → IsStrictlySortedBy name_cmp (subjects db)
subjects_rise db ordered = IsStrictlySortedBy-filter name_cmp (is_subject_row db) (map (λ named. named.name) (named_rows db)) (named_rows_rise db ordered)

-- the list of owners has exactly those that own the row
pub owners-iff_Owns : (db : Db) (name subject : RowName) → IsOrdered db → IsOwnerSchema db.schema → Contains (owners db name) subject ↔ Owns db subject name
unfolding owners
owners-iff_Owns db name subject ordered owner = (
  (λ among. owns_from db subject name (contains_of_filter (λ u. owns db u name) (subjects db) subject among).1),
  (λ is. contains_filter (λ u. owns db u name) (subjects db) subject (subjects_contain db subject ordered (subject_row-ends db name is.path subject is.leads)) (from_owns db subject name ordered owner is)),
)

pub owners_rise : (db : Db) (name : RowName) → IsOrdered db → IsStrictlySortedBy name_cmp (owners db name)
unfolding owners
owners_rise db name ordered = IsStrictlySortedBy-filter name_cmp (λ u. owns db u name) (subjects db) (subjects_rise db ordered)

-- and the list of reach those that reach it
pub reach-iff_Reaches : (db : Db) (name subject : RowName) → IsOrdered db → IsOwnerSchema db.schema → Contains (reach db name) subject ↔ Reaches db subject name
unfolding reach
reach-iff_Reaches db name subject ordered owner = (
  (λ among. reaches_from db subject name (contains_of_filter (λ u. reaches db u name) (subjects db) subject among).1),
  (λ is. contains_filter (λ u. reaches db u name) (subjects db) subject (subjects_contain db subject ordered (subject_row-ends db name is.path subject is.leads)) (from_reaches db subject name ordered owner is)),
)

pub reach_rise : (db : Db) (name : RowName) → IsOrdered db → IsStrictlySortedBy name_cmp (reach db name)
unfolding reach
reach_rise db name ordered = IsStrictlySortedBy-filter name_cmp (λ u. reaches db u name) (subjects db) (subjects_rise db ordered)

-- the lists of owners meet the local equation
pub owners_meet : (db : Db) → IsOrdered db → IsOwnerSchema db.schema → MeetsLocalEquation db counts_for_owners (λ subject name. Contains (owners db name) subject)
owners_meet db ordered owner =
    meets_same db counts_for_owners (Owns db) (λ subject name. Contains (owners db name) subject)
    (λ subject name. let same = owners-iff_Owns db name subject ordered owner in (same.1, same.0)) (owns_meets db)

pub reach_meets : (db : Db) → IsOrdered db → IsOwnerSchema db.schema → MeetsLocalEquation db counts_for_reach (λ subject name. Contains (reach db name) subject)
reach_meets db ordered owner =
    meets_same db counts_for_reach (Reaches db) (λ subject name. Contains (reach db name) subject)
    (λ subject name. let same = reach-iff_Reaches db name subject ordered owner in (same.1, same.0)) (reaches_meets db)

-- and rising lists that meet it are those of the owners
pub only_owners : (db : Db) (given : RowName → List RowName) → IsOrdered db → IsOwnerSchema db.schema → MeetsLocalEquation db counts_for_owners (λ subject name. Contains (given name) subject)
    → (name : RowName) → IsTrue (is_there db name) → IsStrictlySortedBy name_cmp (given name) → given name ≡ owners db name
only_owners db given ordered owner meets name there rising =
    same_rising name_order (given name) (owners db name) rising (owners_rise db name ordered)
    (λ subject. one_solution db counts_for_owners (λ s n. Contains (given n) s) (λ s n. Contains (owners db n) s) owner meets (owners_meet db ordered owner) subject name there)

pub only_reach : (db : Db) (given : RowName → List RowName) → IsOrdered db → IsOwnerSchema db.schema → MeetsLocalEquation db counts_for_reach (λ subject name. Contains (given name) subject)
    → (name : RowName) → IsTrue (is_there db name) → IsStrictlySortedBy name_cmp (given name) → given name ≡ reach db name
only_reach db given ordered owner meets name there rising =
    same_rising name_order (given name) (reach db name) rising (reach_rise db name ordered)
    (λ subject. one_solution db counts_for_reach (λ s n. Contains (given n) s) (λ s n. Contains (reach db n) s) owner meets (reach_meets db ordered owner) subject name there)
