use Rattle.disk_model.proofs.Spelled.{payload-spelled}
use Rattle.crash_recover.proofs.ReadParts.{unlawful}
use Rattle.crash_recover.proofs.records.follow_payload.Goals as goal

pub returns-in_default : goal.returns-in_default
returns-in_default c = λ commit after lawful. (rw c.in_default.is at c.in_ok-commit.ensures) commit lawful.is_payload

pub follow-requires : goal.follow-requires
follow-requires c = record { bounded = (payload-spelled c.in-Some.commit c.args.payload.now (rw c.in-Some.is at c.in_ok-commit.ensures)).1 }

pub returns-else-branch : goal.returns-else-branch
returns-else-branch c =
    unlawful c.args.state.now c.args.payload.now c.in-Some.commit (rw c.in-Some.is at c.in_ok-commit.ensures) (λ after. let followed = rw c.if-branch.false at c.in_ok-follow.ensures.followed in followed.1 after)
