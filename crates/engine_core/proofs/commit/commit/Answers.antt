use Rattle.std.proofs.Common.{false, refl, sym}
use Rattle.state_model.specs.Put.{put}
use Rattle.engine_core.proofs.Commits.{tells-left, tells-refusal}
use Rattle.engine_core.proofs.Nets.{left-none, none-of, told-none}
use Rattle.engine_core.proofs.commit.commit.Goals as goal

-- a refusal stays one
pub returns-then-is_refusal-clause-tells : goal.returns-then-is_refusal-clause-tells
returns-then-is_refusal-clause-tells c =
    let refused = sym c.if-is_refusal.ensures in
    tells-refusal c.args.version.now (put c.args.version.now c.args.changes) false _ c.args.reply c.told.result refused (λ verdict. rw refused refl) c.told.ensures.reply c.told.ensures.stays

-- without any change it is told as it ran
pub returns-then-is_empty-clause-tells : goal.returns-then-is_empty-clause-tells
returns-then-is_empty-clause-tells c =
    let db = c.args.version.now in
    let list = c.args.changes in
    let none = none-of list (rw (← c.items.ensures) (sym c.if-is_empty.ensures)) in
    tells-left db (put db list) _ c.args.reply c.told-then-is_empty.result (left-none db c.requires.sound list none)
    (λ verdict. told-none db c.requires.sound verdict list c.args.reply none) c.told-then-is_empty.ensures.reply c.told-then-is_empty.ensures.stays
