use Rattle.std.proofs.Common.{List, subst}
use Rattle.std.proofs.lemmas.List.{take_all}
use Rattle.own_base.specs.declared.row_name.Subject.{Subject}
use Rattle.micro_db.specs.Renewed.{ForSomeOf, IsOf, Renews}
use Rattle.micro_db.proofs.RenewLemmas.{renews-more-right, renews-row, renews-start}
use Rattle.micro_db.proofs.micro.MicroDb.renew_row.Goals as goal

pub loop-subject-init : goal.loop-subject-init
loop-subject-init g c = λ are. renews-start (g.N.StoreView.db c.args.after.now) (λ (subject : Subject). IsOf subject c.args.name.now) c.reach-subject-items.result.now c.args.self.now

pub loop-subject-preserved : goal.loop-subject-preserved
loop-subject-preserved g c =
    renews-more-right (g.N.StoreView.db c.args.after.now) (λ (subject : Subject). IsOf subject c.args.name.now) c.reach-subject-items.result.now c.args.moves.now c.loop-subject.subject-index c.subject-item.result c.args.self.now c.loop-subject.self
    c.renew_unmoved.new.self c.loop-subject-test.true c.subject-item.is c.loop-subject.invariant c.in_ok-renew_unmoved.ensures

pub returns : goal.returns
returns g c = λ are.
    renews-row (g.N.StoreView.db c.args.after.now) c.args.name.now c.reach-subject-items.result.now c.args.self.now c.loop-subject.self c.reach-subject-items.ensures
    (subst (λ (subjects : List Subject). Renews (g.N.StoreView.db c.args.after.now) (ForSomeOf (λ (subject : Subject). IsOf subject c.args.name.now) subjects) c.args.self.now c.loop-subject.self)
    (take_all c.loop-subject.subject-index c.reach-subject-items.result.now c.loop-subject-test.false) (c.loop-subject.invariant are))
