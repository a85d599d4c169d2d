use Rattle.std.proofs.Common.{subst}
use Rattle.ref_index.specs.Stands.{Stands}
use Rattle.store_version.proofs.rows.Rows.holders_from.Goals as goal

pub returns : goal.returns
returns c =
    c.holders_from.ensures.run c.args.self.now c.requires.ordered (subst (λ db. Stands db c.self.inside.index) c.self.view_is c.self.invariant.1) c.requires.indexed
