use Rattle.own_model.specs.Db.{empty}
use Rattle.commit_replay.proofs.MadeSoFar.{made-nothing, more-at, none-at}
use Rattle.commit_replay.proofs.WithoutRows.{no-weight}
use Rattle.commit_replay.proofs.image.with_creates.Goals as goal

pub loop-create-init : goal.loop-create-init
loop-create-init c = rw c.in_ok-version.ensures (record { made = made-nothing c.args.creates.now; weighs = no-weight empty tt })

-- where a CREATE doesn't follow, the texts aren't those of CREATEs that are admitted
pub returns-in_default : goal.returns-in_default
returns-in_default c =
    none-at c.args.creates.now c.loop-create.create-index c.create-item.result c.loop-create.version c.create-item.is c.loop-create-test.true c.loop-create.invariant.made
    (rw c.in_default.is at c.in_ok-followed.ensures)

pub loop-create-preserved : goal.loop-create-preserved
loop-create-preserved c =
    let leads = rw c.in-Some.is at c.in_ok-followed.ensures in
    rw c.publish.ensures (record {
      made =
          more-at c.args.creates.now c.loop-create.create-index c.create-item.result c.loop-create.version c.in-Some.field-0.next c.create-item.is c.loop-create-test.true
          c.loop-create.invariant.made leads.0;
      weighs = leads.1;
    })
