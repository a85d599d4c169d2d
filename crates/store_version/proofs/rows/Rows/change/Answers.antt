use Rattle.std.proofs.Common.{sym, subst}
use Rattle.ref_index.specs.Stands.{Stands}
use Rattle.ref_index.specs.Tells.{Tell}
use Rattle.store_version.proofs.Indexed.{version-changed}
use Rattle.store_version.proofs.OneChange.{keyed-there, parts-changed}
use Rattle.store_version.proofs.rows.Rows.change.Goals as goal

pub change-requires : goal.change-requires
change-requires c =
    keyed-there c.self.inside.catalog.value.schema.tables c.self.inside.parts.items c.args.change.now c.index_mut.result.now c.self.invariant.0
    (rw (← c.self.view_is) at c.requires.tells.may.theirs.0) c.index_mut.ensures.value

-- the parts stay those of the tables, and the index is that of the rows with the change
pub invariant_of-self : goal.invariant_of-self
invariant_of-self c =
    let may = rw (← c.self.view_is) at c.requires.tells.may.theirs.0 in
    let catalog = c.self.inside.catalog.value in
    let parts = c.self.inside.parts.items in
    let stands = subst (λ db. Stands db c.self.inside.index) c.self.view_is c.self.invariant.1 in
    let is = version-changed catalog parts c.args.change.now c.index_mut.result.now c.change.new.self c.args.self.now c.self.invariant.0 may c.index_mut.ensures.value c.in-Ok.ensures.rows c.self.view_is in (
      parts-changed catalog.schema.tables parts c.args.change.now c.index_mut.result.now c.change.new.self c.self.invariant.0 may c.index_mut.ensures.value c.in-Ok.ensures.key,
      subst (λ db. Stands db c.in_ok-index.index) (sym is)
          (rw c.from_ref.ensures.value at
          (c.in_ok-index.ensures c.args.self.now c.requires.ordered stands (subst (Tell c.args.self.now) (sym c.from_ref.ensures.value) c.requires.tells))),
    )

-- the rows of its table alone have the change
pub returns-in-Ok-clause-changed : goal.returns-in-Ok-clause-changed
returns-in-Ok-clause-changed c =
    version-changed c.self.inside.catalog.value c.self.inside.parts.items c.args.change.now c.index_mut.result.now c.change.new.self c.args.self.now c.self.invariant.0
    (rw (← c.self.view_is) at c.requires.tells.may.theirs.0) c.index_mut.ensures.value c.in-Ok.ensures.rows c.self.view_is
