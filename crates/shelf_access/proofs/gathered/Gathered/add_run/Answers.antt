use Rattle.std.proofs.Common.{List, map, ap, subst}
use Rattle.std.proofs.lemmas.List.{take_all}
use Rattle.own_base.specs.declared.row_name.Subject.{Subject}
use Rattle.shelf_model.specs.declared.shelved.Shelved.{Shelved}
use Rattle.shelf_access.specs.Gathered.{Gathers}
use Rattle.shelf_access.proofs.GatherLemmas.{gathers-more, gathers-none}
use Rattle.shelf_access.proofs.gathered.Gathered.add_run.Goals as goal

pub loop-filed-init : goal.loop-filed-init
loop-filed-init c = gathers-none c.args.self.now

pub loop-filed-preserved : goal.loop-filed-preserved
loop-filed-preserved c =
    gathers-more (λ (filed : Subject × Shelved). filed.1) c.args.run.now c.loop-filed.filed-index c.filed-item.result c.args.self.now c.loop-filed.self c.add.new.self
    c.loop-filed-test.true c.filed-item.is c.loop-filed.invariant c.in_ok-add.ensures

pub returns : goal.returns
returns c =
    subst (λ (given : List Shelved). Gathers given c.args.self.now c.loop-filed.self)
    (ap (map (λ (filed : Subject × Shelved). filed.1)) (take_all c.loop-filed.filed-index c.args.run.now c.loop-filed-test.false)) c.loop-filed.invariant
