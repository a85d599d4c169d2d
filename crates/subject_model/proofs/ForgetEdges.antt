-- Which edge makes a column NULL in a FORGET.
use Rattle.std.proofs.Common.{◌≡◌, ℕ, true, ap, sym, subst}
use Rattle.std.specs.Prelude.{◌==◌, ◌&&◌, Contains}
use Rattle.std.proofs.lemmas.Bool.{and_parts, eqb-true}
use Rattle.own_base.specs.declared.number.EdgeNo.{EdgeNo}
use Rattle.own_base.specs.declared.row_name.RowName.{RowName}
use Rattle.own_model.specs.declared.schema.Edge.{Edge}
use Rattle.own_model.specs.Db.{Db}
use Rattle.owner_model.specs.ColumnSets.{has_column}
use Rattle.owner_model.specs.RuledColumns.{blanks, is_blanked}
use Rattle.schema_model.specs.OwnerSchema.{IsOwnerSchema}
use Rattle.subject_model.specs.Owners.{By, by}
use Rattle.subject_model.proofs.Members.{contains_any}
use Rattle.subject_model.proofs.OwnerLemmas.{contained_by}

-- what makes a column of a row NULL: an edge by which the subject reaches the row, and that rules the column
pub record Blanks (db : Db) (subject name : RowName) (column : ℕ) : Type 0 where
  pub ruling : Edge
  pub among : Contains db.schema.edges ruling
  pub rules : has_column ruling.del column ≡ true
  pub reaches : By db subject name ruling

-- where a column is made NULL, something makes it
pub blanked_by : (db : Db) (subject name : RowName) (column : ℕ) → IsOwnerSchema db.schema → is_blanked db.schema.edges (by db subject name) column ≡ true
    → Blanks db subject name column
blanked_by db subject name column owner is =
    let (number, reached, rules) = contains_any (blanks db.schema.edges column) (by db subject name) is in
    let (ruling, among, ruled) = contains_any (λ (edge : Edge). edge.number.0 == number.0 && has_column edge.del column) db.schema.edges rules in
    let both = and_parts (ruling.number.0 == number.0) (has_column ruling.del column) ruled in
    let same : number ≡ ruling.number = ap (λ (n : ℕ). let own : EdgeNo = record { 0 = n } in own) (sym (eqb-true ruling.number.0 number.0 both.0)) in
    record {
      ruling = ruling;
      among = among;
      rules = both.1;
      reaches = contained_by db subject name ruling owner among (subst (Contains (by db subject name)) same reached);
    }
