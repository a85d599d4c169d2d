use Rattle.std.proofs.Common.{[], ◌∷◌, subst, sym}
use Rattle.std.specs.Prelude.{IsTrue}
use Rattle.own_model.specs.Db.{Db, IsOrdered}
use Rattle.schema_model.specs.Lone.{is_lone}
use Rattle.schema_model.specs.OwnerSchema.{IsOwnerSchema}
use Rattle.ref_index.specs.Tells.{Tell}
use Rattle.store_version.proofs.LoneChange.{stands-lone}
use Rattle.store_version.proofs.owned.OwnedRows.change.Goals as goal

-- the owner sets stay those of the rows
pub invariant_of-self : goal.invariant_of-self
invariant_of-self c =
    let same = sym c.self.view_is in
    stands-lone c.self.inside.rows c.args.change.now c.self.inside.owners
    (subst IsOrdered same c.requires.ordered)
    (subst (λ (db : Db). IsOwnerSchema db.schema) same c.requires.owner)
    (subst (λ (db : Db). IsTrue (is_lone db.schema c.args.change.now.name.table.0)) same c.requires.lone)
    (subst (λ (db : Db). Tell db (c.args.change.now ∷ [])) same c.requires.tells)
    c.self.invariant c.change.result c.change.new.self c.change.ensures.changed c.change.ensures.unchanged
