-- The sets of owners tell which rows a subject owns.
use Rattle.std.proofs.Common.{◌≡◌, ℕ, Bool, sym, subst, map}
use Rattle.std.specs.Prelude.{◌↔◌, Contains, IsTrue, Some, slice_get}
use Rattle.own_base.specs.declared.row_name.RowName.{RowName}
use Rattle.own_base.specs.declared.row_name.Subject.{Subject}
use Rattle.own_model.specs.declared.schema.TableDef.{TableDef}
use Rattle.own_model.specs.Db.{Db, IsOrdered, Row}
use Rattle.own_model.specs.Stored.{rows_at}
use Rattle.owner_sets.specs.Sets.{AreSetsOf, Sets, as_subject, set_at}
use Rattle.owner_sets.proofs.GatheredLemmas.{subjects-names}
use Rattle.schema_model.specs.OwnerSchema.{IsOwnerSchema}
use Rattle.subject_model.specs.Named.{name_of}
use Rattle.subject_model.specs.Owners.{owners, owns}
use Rattle.subject_model.proofs.OwnerLemmas.{from_owns, owns_from}
use Rattle.subject_model.proofs.OwnerLists.{owners-iff_Owns}
use Rattle.subject_erase.proofs.TableFlags.{same_test}

-- a subject that is found in the set of a row owns the row, and no other does
pub found-owns : (db : Db) (sets : Sets) (subject : Subject) (table place : ℕ) (definition : TableDef) (row : Row) (found : Bool) → IsOrdered db → IsOwnerSchema db.schema → AreSetsOf db (owners db) sets
    → slice_get db.schema.tables table ≡ Some definition → slice_get (rows_at db.rows table) place ≡ Some row → IsTrue found ↔ Contains (set_at sets table place) subject
    → found ≡ owns db subject.0 (name_of table definition row)
found-owns db sets subject table place definition row found ordered owner are table_is row_is same =
    let name : RowName = name_of table definition row in
    let set : set_at sets table place ≡ map as_subject (owners db name) = (are.each table).at place definition row table_is row_is in
    same_test found (owns db subject.0 name) (
      (λ yes. from_owns db subject.0 name ordered owner ((owners-iff_Owns db name subject.0 ordered owner).0 ((subjects-names (owners db name) subject).0 (subst (λ list. Contains list subject) set (same.0 yes))))),
      (λ owned. same.1 (subst (λ list. Contains list subject) (sym set) ((subjects-names (owners db name) subject).1 ((owners-iff_Owns db name subject.0 ordered owner).1 (owns_from db subject.0 name owned))))),
    )
