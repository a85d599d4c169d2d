use Rattle.std.proofs.Common.{List, subst}
use Rattle.own_base.specs.declared.row_name.RowName.{RowName}
use Rattle.micro_db.specs.declared.micro.MicroDb.{MicroDb}
use Rattle.micro_db.specs.Renewed.{ForSomeOf, IsMoveAt, IsReachedAt, Renews}
use Rattle.micro_db.proofs.RenewLemmas.{renews-end}
use Rattle.micro_db.proofs.micro.MicroDb.with_moves.Goals as goal

pub returns : goal.returns
returns g c = λ before is.
    let db = g.N.StoreView.db c.args.after.now in
    let moved : Renews db (ForSomeOf IsMoveAt c.args.moves.now) c.args.self.now c.renew_moved.new.self = subst (λ (old : MicroDb). Renews db (ForSomeOf IsMoveAt c.args.moves.now) old c.renew_moved.new.self) c.in_ok-kept.ensures c.in_ok-renew_moved.ensures in
    renews-end before db c.args.moves.now c.args.changes.now c.in_ok-names.names c.args.self.now c.renew_rows.new.self is (g.met.N.StoreView.ordered c.args.after.now) c.requires c.in_ok-names.ensures c.renew_moved.new.self
    moved (subst (λ (names : List RowName). Renews db (ForSomeOf (IsReachedAt db) names) c.renew_moved.new.self c.renew_rows.new.self) c.items.ensures (c.in_ok-renew_rows.ensures moved.right))
