use Rattle.std.proofs.Common.{List, subst, sym}
use Rattle.own_model.specs.Db.{Db, IsOrdered}
use Rattle.annot_schema.specs.Created.{IsAdmissible}
use Rattle.owner_index.specs.Entry.{Entry}
use Rattle.owner_index.specs.Held.{StandsFor}
use Rattle.store_version.specs.Added.{db_with}
use Rattle.store_version.proofs.CreatedOwners.{stands-with}
use Rattle.store_version.proofs.owned.OwnedRows.with_table.Goals as goal

-- a table without rows leaves whose the rows are
pub invariant_of-result : goal.invariant_of-result
invariant_of-result c =
    let rows = c.self.inside.rows in
    let ordered = subst IsOrdered (sym c.self.view_is) c.requires.ordered in
    let by = subst (λ (db : Db). IsAdmissible db.schema c.args.admitted) (sym c.self.view_is) c.requires.admissible in
    subst (λ db. StandsFor db c.in_ok-owners.owners) (sym c.in_ok-rows.ensures.rows)
    (subst (λ (entries : List Entry). StandsFor (db_with rows c.args.admitted c.args.text) entries) (sym c.in_ok-owners.ensures)
    (stands-with rows c.args.admitted c.args.text c.self.inside.owners ordered c.in_ok-rows.ensures.sound.owner by c.self.invariant))
