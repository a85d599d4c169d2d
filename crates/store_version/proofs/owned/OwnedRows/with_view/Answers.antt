use Rattle.std.proofs.Common.{List, subst, sym}
use Rattle.owner_index.specs.Entry.{Entry}
use Rattle.owner_index.specs.Held.{StandsFor}
use Rattle.store_version.specs.Added.{db_viewed}
use Rattle.store_version.proofs.CreatedOwners.{stands-viewed}
use Rattle.store_version.proofs.owned.OwnedRows.with_view.Goals as goal

-- a view leaves whose the rows are
pub invariant_of-result : goal.invariant_of-result
invariant_of-result c =
    subst (λ db. StandsFor db c.in_ok-owners.owners) (sym c.in_ok-rows.ensures)
    (subst (λ (entries : List Entry). StandsFor (db_viewed c.self.inside.rows c.args.definition c.args.text) entries) (sym c.in_ok-owners.ensures)
    (stands-viewed c.self.inside.rows c.args.definition c.args.text c.self.inside.owners c.self.invariant))
