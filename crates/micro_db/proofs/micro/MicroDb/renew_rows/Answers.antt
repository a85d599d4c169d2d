use Rattle.std.proofs.Common.{List, subst}
use Rattle.std.proofs.lemmas.List.{take_all}
use Rattle.own_base.specs.declared.row_name.RowName.{RowName}
use Rattle.micro_db.specs.Renewed.{ForSomeOf, IsReachedAt, Renews}
use Rattle.micro_db.proofs.RenewLemmas.{renews-more-right, renews-start}
use Rattle.micro_db.proofs.micro.MicroDb.renew_rows.Goals as goal

pub loop-name-init : goal.loop-name-init
loop-name-init g c = λ are. renews-start (g.N.StoreView.db c.args.after.now) (IsReachedAt (g.N.StoreView.db c.args.after.now)) c.args.names.now c.args.self.now

pub loop-name-preserved : goal.loop-name-preserved
loop-name-preserved g c =
    renews-more-right (g.N.StoreView.db c.args.after.now) (IsReachedAt (g.N.StoreView.db c.args.after.now)) c.args.names.now c.args.moves.now c.loop-name.name-index c.name-item.result c.args.self.now c.loop-name.self c.renew_row.new.self
    c.loop-name-test.true c.name-item.is c.loop-name.invariant c.in_ok-renew_row.ensures

pub returns : goal.returns
returns g c = λ are.
    subst (λ (names : List RowName). Renews (g.N.StoreView.db c.args.after.now) (ForSomeOf (IsReachedAt (g.N.StoreView.db c.args.after.now)) names) c.args.self.now c.loop-name.self)
    (take_all c.loop-name.name-index c.args.names.now c.loop-name-test.false) (c.loop-name.invariant are)
