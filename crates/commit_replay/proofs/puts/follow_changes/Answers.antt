use Rattle.std.proofs.Common.{List, subst, sym}
use Rattle.std.proofs.lemmas.Result.{IfOk-weaker}
use Rattle.own_base.specs.declared.change.Change.{Change}
use Rattle.state_model.specs.Put.{put}
use Rattle.commit_replay.specs.Taken.{AreTold, IsTaken}
use Rattle.commit_replay.proofs.PutsMade.{taken-follows, told-puts}
use Rattle.commit_replay.proofs.puts.follow_changes.Goals as goal

-- the changes tell what stands
pub make-requires-clause-told : goal.make-requires-clause-told
make-requires-clause-told c =
    let db = c.args.version.now in
    let made = rw c.in-Some.is at c.in_ok-changes.ensures in
    subst (AreTold db) (sym c.items.ensures) (told-puts db c.args.puts.now c.in-Some.changes made.0 made.2 c.requires.sound made.1 c.requires.changes)

-- what is made of them is what follows
pub returns-clause-followed : goal.returns-clause-followed
returns-clause-followed c =
    let db = c.args.version.now in
    let made = rw c.in-Some.is at c.in_ok-changes.ensures in
    IfOk-weaker c.make.result _ _ (λ went taken.
    (taken-follows db c.args.puts.now c.in-Some.changes made.0 made.2 c.make.new.version c.make.new.weighs went
    (subst (λ (changes : List Change). IsTaken db (put db changes) c.make.new.version c.make.new.weighs went) c.items.ensures taken)).0) c.make.ensures.taken
