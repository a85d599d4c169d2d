use Rattle.std.proofs.Common.{subst}
use Rattle.ref_index.specs.Stands.{Stands}
use Rattle.store_version.proofs.rows.Rows.holder_count.Goals as goal

pub returns : goal.returns
returns c =
    c.holder_count.ensures c.args.self.now c.requires.ordered (subst (λ db. Stands db c.self.inside.index) c.self.view_is c.self.invariant.1) c.requires.indexed
