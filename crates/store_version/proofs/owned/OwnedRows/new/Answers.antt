use Rattle.std.proofs.Common.{List, subst, sym}
use Rattle.own_model.specs.Db.{empty}
use Rattle.owner_index.specs.Entry.{Entry}
use Rattle.owner_index.specs.Held.{StandsFor}
use Rattle.store_version.proofs.CreatedOwners.{stands-empty}
use Rattle.store_version.proofs.owned.OwnedRows.new.Goals as goal

pub invariant_of-result : goal.invariant_of-result
invariant_of-result c =
    subst (λ db. StandsFor db c.new-2.result) (sym c.in_ok-rows.ensures)
    (subst (λ (entries : List Entry). StandsFor empty entries) (sym c.new-2.ensures) stands-empty)
