-- The rows that edges ruled DELETE_ROW mark are those that are struck.
use Rattle.std.proofs.Common.{◌≡◌, ℕ, ◌<◌, List, length, Bool, true, refl, ap, sym, ◌∙◌, arith}
use Rattle.std.specs.Prelude.{◌==◌, ◌||◌, filter}
use Rattle.own_base.specs.declared.number.TableNo.{TableNo}
use Rattle.own_base.specs.declared.row_name.RowName.{RowName}
use Rattle.own_model.specs.declared.schema.Edge.{Edge}
use Rattle.own_model.specs.Db.{Db, IsOrdered}
use Rattle.own_model.specs.Stored.{rows_at}
use Rattle.owner_sets.proofs.Standing.{StandsAt, standing_at}
use Rattle.schema_model.specs.OwnerSchema.{IsOwnerSchema}
use Rattle.schema_model.proofs.Places.{place-lt}
use Rattle.subject_model.specs.Named.{name_of}
use Rattle.subject_model.specs.Owners.{owns}
use Rattle.subject_model.specs.Stays.{struck}
use Rattle.subject_model.proofs.OwnerLemmas.{from_owns, owns_from}
use Rattle.subject_model.proofs.StayLemmas.{from_struck, struck_from}
use Rattle.subject_erase.specs.declared.followed.Followed.TheVariants.{Strikes}
use Rattle.subject_erase.specs.Flags.{AreFlagsOf, AreFlagsOfTable, Flags}
use Rattle.subject_erase.specs.Marked.{HaveMore, is_marked}
use Rattle.subject_erase.proofs.MarkLemmas.{AreUnmarked, JoinsPassing, joins-marked, marked-joins}
use Rattle.subject_erase.proofs.TableFlags.{same_test}

module _ (db : Db) (subject : RowName) (ordered : IsOrdered db) (owner : IsOwnerSchema db.schema) where
  -- a row is struck where an edge ruled DELETE_ROW joins it to a row that the subject owns
  struck-joins : (name : RowName) → struck db subject name ≡ true → JoinsPassing Strikes db (owns db subject) name
  struck-joins name is =
      let by = struck_from db subject name is in
      record { edge = by.edge; upper = by.upper; counted = by.strikes; joined = by.joined; passes = from_owns db subject by.upper ordered owner by.owned }

  joins-struck : (name : RowName) → JoinsPassing Strikes db (owns db subject) name → struck db subject name ≡ true
  joins-struck name by =
      from_struck db subject name ordered owner
      (record { edge = by.edge; upper = by.upper; joined = by.joined; strikes = by.counted; owned = owns_from db subject by.upper by.passes })

  module _ (owned : Flags) (are : AreFlagsOf db (owns db subject) owned) (table : TableNo) (edges : List Edge) (out : edges ≡ filter (λ edge. edge.lower.0 == table.0) db.schema.edges) where
    -- so it is where it is marked
    marked-struck : (name : RowName) (place : ℕ) → StandsAt db name place → name.table ≡ table → is_marked Strikes db.schema db.rows owned edges place ≡ struck db subject name
    marked-struck name place stands of_table =
        let same_out : edges ≡ filter (λ edge. edge.lower.0 == name.table.0) db.schema.edges = out ∙ ap (λ (t : TableNo). filter (λ (edge : Edge). edge.lower.0 == t.0) db.schema.edges) (sym of_table) in
        same_test (is_marked Strikes db.schema db.rows owned edges place) (struck db subject name) (
          (λ marked. joins-struck name (marked-joins Strikes db (owns db subject) owned ordered owner name place stands edges same_out (λ edge among. are.each edge.upper.0) marked)),
          (λ is. joins-marked Strikes db (owns db subject) owned ordered owner name place stands edges same_out (λ edge among. are.each edge.upper.0) (struck-joins name is)),
        )

    -- and the marks of a table's rows are its flags
    pub marks-struck : (before marks : List Bool) → AreUnmarked (length (rows_at db.rows table.0)) before → HaveMore (is_marked Strikes db.schema db.rows owned edges) before marks
        → AreFlagsOfTable db (struck db subject) table.0 marks
    marks-struck before marks unmarked have =
        record {
          at = λ place definition row table_is row_is.
              let within : place < length before = omega (arith, unmarked.all, place-lt (rows_at db.rows table.0) place row row_is) in
              have.at place within
              ∙ (ap (λ b. b || is_marked Strikes db.schema db.rows owned edges place) (unmarked.none place)
              ∙ marked-struck (name_of table.0 definition row) place (standing_at db table place definition row table_is row_is) refl);
        }
