-- The rows that owner edges mark, and those of other subjects, are claimed where they aren't struck.
use Rattle.std.proofs.Common.{◌≡◌, ℕ, ◌<◌, List, [], length, Bool, true, false, not, get_or, inl, inr, refl, ap, sym, ◌∙◌, arith}
use Rattle.std.specs.Prelude.{◌==◌, ◌&&◌, ◌||◌, ◌≢◌, Contains, filter}
use Rattle.std.proofs.lemmas.Bool.{and_from, and_parts, false_from_ne_true, not-true, not_from_false, or_cases, or_left, or_right}
use Rattle.own_base.specs.declared.number.TableNo.{TableNo}
use Rattle.own_base.specs.declared.row_name.RowName.{RowName}
use Rattle.own_model.specs.declared.schema.Edge.{Edge}
use Rattle.own_model.specs.Db.{Db, IsOrdered}
use Rattle.own_model.specs.Stored.{rows_at}
use Rattle.owner_sets.proofs.Standing.{StandsAt, standing_at, subject_row-standing}
use Rattle.schema_model.specs.OwnerSchema.{IsOwnerSchema}
use Rattle.schema_model.specs.Tables.{is_subject}
use Rattle.schema_model.proofs.Places.{place-lt}
use Rattle.subject_model.specs.Named.{name_of}
use Rattle.subject_model.specs.Owners.{owns}
use Rattle.subject_model.specs.Paths.{is_subject_row}
use Rattle.subject_model.specs.Stays.{struck}
use Rattle.subject_model.proofs.StayLemmas.{from_held, held_from}
use Rattle.subject_erase.specs.declared.followed.Followed.TheVariants.{Owners}
use Rattle.subject_erase.specs.Flags.{AreFlagsOf, AreFlagsOfTable, Flags}
use Rattle.subject_erase.specs.Marked.{HaveMore, is_marked}
use Rattle.subject_erase.specs.Staying.{is_claimed, is_other_subject}
use Rattle.subject_erase.proofs.ClaimedLocal.{ClaimedAbove, held_locally, locally_held}
use Rattle.subject_erase.proofs.MarkLemmas.{JoinsPassing, joins-marked, marked-joins}
use Rattle.subject_erase.proofs.SubjectRows.{itself-owned, owned-itself}
use Rattle.subject_erase.proofs.TableFlags.{same_test}

module _ (db : Db) (subject : RowName) (ordered : IsOrdered db) (owner : IsOwnerSchema db.schema) where
  above-joins : (name : RowName) → ClaimedAbove db subject name → JoinsPassing Owners db (is_claimed db subject) name
  above-joins name by =
      record { edge = by.edge; upper = by.upper; counted = by.owner; joined = by.joined; passes = from_held db subject by.upper ordered owner by.claimed }

  joins-above : (name : RowName) → JoinsPassing Owners db (is_claimed db subject) name → ClaimedAbove db subject name
  joins-above name by =
      record { edge = by.edge; upper = by.upper; joined = by.joined; owner = by.counted; claimed = held_from db subject by.upper by.passes }

  -- a row that stands in its table is another subject's own where the table is one of subjects and the subject doesn't own it
  other-subject : (name : RowName) (place : ℕ) → StandsAt db name place → is_other_subject db.schema name.table.0 (owns db subject name) ≡ true → (is_subject_row db name ≡ true) × (name ≢ subject)
  other-subject name place stands is =
      let both = and_parts (is_subject db.schema name.table.0) (not (owns db subject name)) is in
      let own : is_subject_row db name ≡ true = subject_row-standing db name place ordered stands ∙ both.0 in
      (own, λ same. let never : true ≡ false = sym (itself-owned db owner subject name ordered own same) ∙ not-true (owns db subject name) both.1 in cc)

  subject-other : (name : RowName) (place : ℕ) → StandsAt db name place → is_subject_row db name ≡ true → name ≢ subject → is_other_subject db.schema name.table.0 (owns db subject name) ≡ true
  subject-other name place stands own differs =
      and_from (is_subject db.schema name.table.0) (not (owns db subject name)) (sym (subject_row-standing db name place ordered stands) ∙ own)
      (not_from_false (owns db subject name) (false_from_ne_true (owns db subject name) (λ owned. differs (owned-itself db owner subject name own owned))))

  module _ (table : TableNo) (edges : List Edge) (out : edges ≡ filter (λ edge. edge.lower.0 == table.0) db.schema.edges) (claimed : Flags)
      (above : (edge : Edge) → Contains edges edge → AreFlagsOfTable db (is_claimed db subject) edge.upper.0 (get_or claimed edge.upper.0 [])) where
    -- what is marked at a row's place
    abbrev Marked : RowName → ℕ → Bool
    Marked name place = is_other_subject db.schema name.table.0 (owns db subject name) || is_marked Owners db.schema db.rows claimed edges place

    marked-claimed : (name : RowName) (place : ℕ) → StandsAt db name place → name.table ≡ table → (Marked name place && not (struck db subject name)) ≡ is_claimed db subject name
    marked-claimed name place stands of_table =
        let same_out : edges ≡ filter (λ edge. edge.lower.0 == name.table.0) db.schema.edges = out ∙ ap (λ (t : TableNo). filter (λ (edge : Edge). edge.lower.0 == t.0) db.schema.edges) (sym of_table) in
        let other : Bool = is_other_subject db.schema name.table.0 (owns db subject name) in
        let marked : Bool = is_marked Owners db.schema db.rows claimed edges place in
        same_test (Marked name place && not (struck db subject name)) (is_claimed db subject name) (
          (λ is.
              let both = and_parts (other || marked) (not (struck db subject name)) is in
              from_held db subject name ordered owner
              (held_locally db subject name owner (
                not-true (struck db subject name) both.1,
                elim (or_cases other marked both.0) [
                  | inl own ↦ inl (other-subject name place stands own)
                  | inr by ↦ inr (joins-above name (marked-joins Owners db (is_claimed db subject) claimed ordered owner name place stands edges same_out above by))
                ],
              ))),
          (λ is.
              let local = locally_held db subject name (held_from db subject name is) in
              and_from (other || marked) (not (struck db subject name))
              (elim local.1 [
                | inl own ↦ or_left other marked (subject-other name place stands own.0 own.1)
                | inr by ↦ or_right other marked (joins-marked Owners db (is_claimed db subject) claimed ordered owner name place stands edges same_out above (above-joins name by))
              ])
              (not_from_false (struck db subject name) local.0)),
        )

    -- the marks of a table's rows, without those that are struck, are its flags
    pub marks-claimed : (owned struck_flags : Flags) (others marks flags : List Bool) → AreFlagsOf db (owns db subject) owned → AreFlagsOf db (struck db subject) struck_flags
        → length others ≡ length (rows_at db.rows table.0)
        → ((place : ℕ) → place < length (rows_at db.rows table.0) → get_or others place false ≡ is_other_subject db.schema table.0 (get_or (get_or owned table.0 []) place false))
        → HaveMore (is_marked Owners db.schema db.rows claimed edges) others marks
        → ((place : ℕ) → place < length (rows_at db.rows table.0) → get_or flags place false ≡ (get_or marks place false && not (get_or (get_or struck_flags table.0 []) place false)))
        → AreFlagsOfTable db (is_claimed db subject) table.0 flags
    marks-claimed owned struck_flags others marks flags are struck_are many own have left =
        record {
          at = λ place definition row table_is row_is.
              let name : RowName = name_of table.0 definition row in
              let stands : StandsAt db name place = standing_at db table place definition row table_is row_is in
              let within : place < length (rows_at db.rows table.0) = place-lt (rows_at db.rows table.0) place row row_is in
              let there : place < length others = omega (arith, many, within) in
              let owned_is : get_or (get_or owned table.0 []) place false ≡ owns db subject name = (are.each table.0).at place definition row table_is row_is in
              let struck_is : get_or (get_or struck_flags table.0 []) place false ≡ struck db subject name = (struck_are.each table.0).at place definition row table_is row_is in
              left place within
              ∙ (ap (λ b. get_or marks place false && not b) struck_is
              ∙ (ap (λ b. b && not (struck db subject name)) (have.at place there ∙ ap (λ b. b || is_marked Owners db.schema db.rows claimed edges place) (own place within ∙ ap (is_other_subject db.schema table.0) owned_is))
              ∙ marked-claimed name place stands refl));
        }
