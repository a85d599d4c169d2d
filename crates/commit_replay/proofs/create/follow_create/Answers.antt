use Rattle.commit_replay.proofs.Leading.{text-none}
use Rattle.commit_replay.proofs.create.follow_create.Goals as goal

-- a text that is that of no CREATE
pub returns-in-None : goal.returns-in-None
returns-in-None c = λ after. text-none c.args.version.now after c.args.view c.args.text.now (rw c.in-None.is at c.in_ok-statement.ensures)
