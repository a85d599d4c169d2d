-- Where rows differ only in lone tables, each row of the others that has an owner has one after too.
use Rattle.std.proofs.Common.{◌≡◌, [], ◌∷◌, Bool, true, false, sym, ap, subst}
use Rattle.std.specs.Prelude.{◌&&◌, IsTrue, IsSome, Option, Some, if◌then◌else◌, is_some, slice_get}
use Rattle.std.specs.Option.{option_and_then}
use Rattle.own_base.specs.declared.number.TableNo.{TableNo}
use Rattle.own_base.specs.declared.row_name.RowName.{RowName}
use Rattle.own_model.specs.declared.schema.Edge.{Edge}
use Rattle.own_model.specs.Db.{Db, IsOrdered, Row}
use Rattle.owner_model.specs.Joins.{Joins, holder_of, other_of, value_of}
use Rattle.schema_model.specs.OwnerSchema.{IsOwnerSchema}
use Rattle.schema_model.specs.Tables.{is_subject}
use Rattle.subject_model.specs.Owners.{Owns, has_owner}
use Rattle.subject_model.specs.Paths.{IsPath, Path, is_subject_row}
use Rattle.subject_model.proofs.OwnerLemmas.{from_owner, owner_from}
use Rattle.schema_model.specs.Lone.{is_lone}
use Rattle.commit_judge.proofs.EdgeLemmas.{lower-edged, upper-edged}
use Rattle.commit_judge.proofs.SameElsewhere.{AreSameElsewhere, same_row, under}

module _ (db next : Db) (are : AreSameElsewhere (is_lone db.schema) db.rows next.rows) where
  same_subject : (name : RowName) → is_lone db.schema name.table.0 ≡ false → is_subject_row db name ≡ is_subject_row (under db next) name
  unfolding is_subject_row
  same_subject name edged = ap (λ (found : Option Row). is_subject db.schema name.table.0 && is_some found) (same_row (is_lone db.schema) db next are name edged)

  -- an edge is at the tables of the rows that it joins
  lower_edged : (lower : RowName) (edge : Edge) (upper : RowName) → Joins db lower edge upper → is_lone db.schema lower.table.0 ≡ false
  lower_edged lower edge upper joins = subst (λ (t : TableNo). is_lone db.schema t.0 ≡ false) (sym joins.of_lower) (lower-edged db.schema edge joins.among)

  upper_edged : (lower : RowName) (edge : Edge) (upper : RowName) → Joins db lower edge upper → is_lone db.schema upper.table.0 ≡ false
  upper_edged lower edge upper joins = subst (λ (t : TableNo). is_lone db.schema t.0 ≡ false) (sym joins.of_upper) (upper-edged db.schema edge joins.among)

  holder_edged : (lower upper : RowName) (b : Bool) → is_lone db.schema lower.table.0 ≡ false → is_lone db.schema upper.table.0 ≡ false
      → is_lone db.schema (if b then lower else upper).table.0 ≡ false
  holder_edged lower upper true low high = low
  holder_edged lower upper false low high = high

  -- an edge joins the same rows in both
  joins_kept : (lower : RowName) (edge : Edge) (upper : RowName) → Joins db lower edge upper → Joins (under db next) lower edge upper
  joins_kept lower edge upper joins =
      let low = lower_edged lower edge upper joins in
      let high = upper_edged lower edge upper joins in
      let holder = holder_of edge lower upper in
      let held : is_lone db.schema holder.table.0 ≡ false = holder_edged lower upper _ low high in
      record {
        among = joins.among;
        of_lower = joins.of_lower;
        of_upper = joins.of_upper;
        lower_there = subst (λ (found : Option Row). IsSome found) (same_row (is_lone db.schema) db next are lower low) joins.lower_there;
        upper_there = subst (λ (found : Option Row). IsSome found) (same_row (is_lone db.schema) db next are upper high) joins.upper_there;
        names = subst (λ (found : Option Row). option_and_then (λ (row : Row). slice_get row edge.column.0) found ≡ Some (value_of (other_of edge lower upper).key)) (same_row (is_lone db.schema) db next are holder held) joins.names;
      }

  -- a path from a row of such a table is one in both
  path_kept : (from : RowName) (path : Path) (subject : RowName) → is_lone db.schema from.table.0 ≡ false → IsPath db from path subject → IsPath (under db next) from path subject
  path_kept from [] subject edged leads = (subst IsTrue (same_subject from edged) leads.0, leads.1)
  path_kept from (step ∷ rest) subject edged leads =
      let high = upper_edged from step.edge step.upper leads.0 in
      (joins_kept from step.edge step.upper leads.0, ((λ first. leads.1.0 (subst IsTrue (sym (same_subject step.upper high)) first)), path_kept step.upper rest subject high leads.1.1))

  owns_kept : (subject name : RowName) → is_lone db.schema name.table.0 ≡ false → Owns db subject name → Owns (under db next) subject name
  owns_kept subject name edged own = record { path = own.path; leads = path_kept name own.path subject edged own.leads; owner = own.owner }

  -- and one that has an owner has one in both
  pub owner_kept : (name : RowName) → IsOrdered (under db next) → IsOwnerSchema db.schema → is_lone db.schema name.table.0 ≡ false
      → has_owner db name ≡ true → has_owner (under db next) name ≡ true
  owner_kept name ordered owner edged has =
      let (subject, own) = owner_from db name has in
      from_owner (under db next) name ordered owner (subject, owns_kept subject name edged own)
