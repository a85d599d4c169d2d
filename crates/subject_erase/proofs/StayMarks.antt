-- The rows that stay, by flags.
use Rattle.std.proofs.Common.{◌≡◌, ℕ, ◌<◌, List, length, map, get_or, Bool, true, false, not, ap, ◌∙◌, arith}
use Rattle.std.specs.Prelude.{◌&&◌, ◌||◌, IsTrue}
use Rattle.std.specs.List.{range_with_len}
use Rattle.std.proofs.lemmas.Bool.{and_from, and_parts}
use Rattle.std.proofs.lemmas.List.FromFn.{get_or-map-range_with_len}
use Rattle.own_base.specs.declared.number.TableNo.{TableNo}
use Rattle.own_base.specs.declared.row_name.RowName.{RowName}
use Rattle.own_model.specs.Db.{Db, IsOrdered}
use Rattle.own_model.specs.Stored.{rows_at}
use Rattle.owner_sets.proofs.Standing.{StandsAt, standing_at, subject_row-standing}
use Rattle.schema_model.specs.OwnerSchema.{IsOwnerSchema}
use Rattle.schema_model.specs.Tables.{is_private, is_subject}
use Rattle.schema_model.proofs.Places.{place-lt}
use Rattle.subject_model.specs.Named.{is_name, name_of}
use Rattle.subject_model.specs.Owners.{owns}
use Rattle.subject_model.specs.Stays.{stays}
use Rattle.subject_model.proofs.NamedLemmas.{name_is, one_name}
use Rattle.subject_erase.specs.Flags.{AreFlagsOf, AreFlagsOfTable, Flags, flag_at}
use Rattle.subject_erase.specs.Staying.{is_claimed, stays_by}
use Rattle.subject_erase.proofs.SubjectRows.{itself-owned, owned-itself}
use Rattle.subject_erase.proofs.TableFlags.{same_test}

module _ (db : Db) (subject : RowName) (ordered : IsOrdered db) (owner : IsOwnerSchema db.schema) (of_subjects : IsTrue (is_subject db.schema subject.table.0)) where
  -- a subject row that the subject owns is the subject's own
  own-owned : (name : RowName) (place : ℕ) → StandsAt db name place → (is_subject db.schema name.table.0 && owns db subject name) ≡ is_name name subject
  own-owned name place stands =
      same_test (is_subject db.schema name.table.0 && owns db subject name) (is_name name subject) (
        (λ is.
            let both = and_parts (is_subject db.schema name.table.0) (owns db subject name) is in
            name_is name subject (owned-itself db owner subject name (subject_row-standing db name place ordered stands ∙ both.0) both.1)),
        (λ is.
            let same : name ≡ subject = one_name name subject is in
            let table : is_subject db.schema name.table.0 ≡ true = ap (λ (n : RowName). is_subject db.schema n.table.0) same ∙ of_subjects in
            and_from (is_subject db.schema name.table.0) (owns db subject name) table
            (itself-owned db owner subject name ordered (subject_row-standing db name place ordered stands ∙ table) same)),
      )

  -- so it is told by its table and by who owns and holds it whether a row stays
  pub stays-by : (name : RowName) (place : ℕ) → StandsAt db name place → stays_by db.schema name.table.0 (owns db subject name) (is_claimed db subject name) ≡ stays db subject name
  unfolding stays
  stays-by name place stands =
      ap (λ b. not b && (not (is_private db.schema name.table.0) || is_claimed db subject name)) (own-owned name place stands)

  -- and so it is told by their flags
  pub map-stays : (table : TableNo) (owned claimed : Flags) (flags : List Bool) → AreFlagsOf db (owns db subject) owned → AreFlagsOf db (is_claimed db subject) claimed
      → flags ≡ map (λ place. stays_by db.schema table.0 (flag_at owned table.0 place) (flag_at claimed table.0 place)) (range_with_len 0 (length (rows_at db.rows table.0)))
      → AreFlagsOfTable db (stays db subject) table.0 flags
  map-stays table owned claimed flags are held_are is =
      record {
        at = λ place definition row table_is row_is.
            let name : RowName = name_of table.0 definition row in
            let test : ℕ → Bool = λ place. stays_by db.schema table.0 (flag_at owned table.0 place) (flag_at claimed table.0 place) in
            let count = length (rows_at db.rows table.0) in
            let within : place < count = place-lt (rows_at db.rows table.0) place row row_is in
            ap (λ all. get_or all place false) is
            ∙ (get_or-map-range_with_len test 0 count place place false within (omega arith)
            ∙ (ap (λ b. stays_by db.schema table.0 b (flag_at claimed table.0 place)) ((are.each table.0).at place definition row table_is row_is)
            ∙ (ap (λ b. stays_by db.schema table.0 (owns db subject name) b) ((held_are.each table.0).at place definition row table_is row_is)
            ∙ stays-by name place (standing_at db table place definition row table_is row_is))));
      }
