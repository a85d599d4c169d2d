use Rattle.disk_model.specs.declared.commit.Commit.TheVariants.{Changes, CreateTable, CreateView, Forget}
use Rattle.commit_replay.proofs.Kept.{kept}
use Rattle.commit_replay.proofs.replayed.Replayed.follow.Goals as goal

pub invariant_of-self : goal.invariant_of-self
invariant_of-self c =
    let made = c.go_on_by_create in
    kept made.result c.self.inside.version (CreateTable c.in-CreateTable.text) made.new.version c.self.inside.weighs made.new.weighs c.self.invariant
    made.ensures.followed made.ensures.weighs made.ensures.version_stays made.ensures.weighs_stays

pub invariant_of-self-in-CreateView : goal.invariant_of-self-in-CreateView
invariant_of-self-in-CreateView c =
    let made = c.go_on_by_create-in-CreateView in
    kept made.result c.self.inside.version (CreateView c.in-CreateView.text) made.new.version c.self.inside.weighs made.new.weighs c.self.invariant
    made.ensures.followed made.ensures.weighs made.ensures.version_stays made.ensures.weighs_stays

pub invariant_of-self-in-Changes : goal.invariant_of-self-in-Changes
invariant_of-self-in-Changes c =
    let made = c.follow_changes in
    kept made.result c.self.inside.version (Changes c.items.result.now) made.new.version c.self.inside.weighs made.new.weighs c.self.invariant
    made.ensures.followed made.ensures.weighs made.ensures.version_stays made.ensures.weighs_stays

pub invariant_of-self-in-Forget : goal.invariant_of-self-in-Forget
invariant_of-self-in-Forget c =
    let made = c.go_on_by_forget in
    kept made.result c.self.inside.version (Forget c.in-Forget.name) made.new.version c.self.inside.weighs made.new.weighs c.self.invariant
    made.ensures.followed made.ensures.weighs made.ensures.version_stays made.ensures.weighs_stays
