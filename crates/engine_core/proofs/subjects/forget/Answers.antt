use Rattle.std.proofs.Common.{◌+◌, ◌∙◌, List, false, ap, subst, sym}
use Rattle.own_base.specs.declared.change.Change.{Change}
use Rattle.move_model.specs.declared.owner_move.OwnerMove.{OwnerMove}
use Rattle.move_model.specs.Moves.{AreMovesOf}
use Rattle.std.specs.Prelude.{IfOk}
use Rattle.state_model.specs.Put.{put}
use Rattle.state_model.specs.Sound.{Sound}
use Rattle.check_image.specs.Gated.{IsGatedImage}
use Rattle.engine_core.proofs.Erased.{erases-forgotten, forgot-accepted, tells-erasing}
use Rattle.engine_core.proofs.Forgotten.{erased-sound, few-erased, lent-there, planned-next, tells-forgotten}
use Rattle.engine_core.proofs.subjects.forget.Goals as goal

pub prepare-requires : goal.prepare-requires
prepare-requires c = record {
  tells = rw c.items-2.ensures (record { was = c.in_ok-changes.ensures.was; may = c.in_ok-changes.ensures.may });
  well_formed = c.requires.sound.well_formed;
}

pub forgotten-reply-requires : goal.forgotten-reply-requires
forgotten-reply-requires c =
    let db = c.args.version.now in
    rw c.items-3.ensures (few-erased db c.args.subject.now.0 c.in_ok-changes.changes c.requires.sound.faultless c.in_ok-changes.ensures.plan)

-- what the changes leave is sound
pub weight_left-left-requires : goal.weight_left-left-requires
weight_left-left-requires c =
    let db = c.args.version.now in
    let subject = c.args.subject.now.0 in
    let next = c.in_ok-next.next in
    let is = planned-next db next subject c.items-2.result.now c.in_ok-changes.changes c.in_ok-next.ensures.next c.items-2.ensures c.in_ok-changes.ensures.put in
    let same = c.items-2.ensures ∙ sym c.items-4.ensures in
    let moves : AreMovesOf db (put db c.items-4.result.now) c.in_ok-next.moves = subst (λ (list : List Change). AreMovesOf db (put db list) c.in_ok-next.moves) same c.in_ok-next.ensures.moves in
    record {
      sound = c.requires.sound;
      weighs = c.requires.weighs;
      tells = rw c.items-4.ensures (record { was = c.in_ok-changes.ensures.was; may = c.in_ok-changes.ensures.may });
      next = c.in_ok-next.ensures.next ∙ ap (put db) same;
      sound_next = erased-sound db next subject c.requires.subject c.requires.sound is;
      moves = subst (λ (list : List OwnerMove). AreMovesOf db (put db c.items-4.result.now) list) (sym c.items-5.ensures) moves;
    }

-- what is laid anew is sound
pub image_of-image-requires : goal.image_of-image-requires
image_of-image-requires c =
    let db = c.args.version.now in
    let subject = c.args.subject.now.0 in
    let next = c.in_ok-next.next in
    let is = planned-next db next subject c.items-2.result.now c.in_ok-changes.changes c.in_ok-next.ensures.next c.items-2.ensures c.in_ok-changes.ensures.put in
    record { sound = subst Sound (sym c.version.ensures) (erased-sound db next subject c.requires.subject c.requires.sound is) }

-- it is told with its counts
told : goal.returns-in-Ok-clause-tells
told c =
    let db = c.args.version.now in
    let subject = c.args.subject.now.0 in
    let next = c.in_ok-next.next in
    let is = planned-next db next subject c.items-2.result.now c.in_ok-changes.changes c.in_ok-next.ensures.next c.items-2.ensures c.in_ok-changes.ensures.put in
    let sound = erased-sound db next subject c.requires.subject c.requires.sound is in
    let there = lent-there db subject c.row.result c.row.ensures c.if-is_none.ensures in
    let counted = rw c.items-3.ensures at c.forgotten-reply.ensures in
    tells-erasing db false _ _ c.in_ok-laid-in-Ok.field-0 c.erasing.result c.erasing.ensures.reply c.erasing.ensures.next
    (tells-forgotten db next subject c.in_ok-changes.changes c.forgotten-reply.result c.in-Ok.left (c.args.commits + 1) c.in_ok-laid-in-Ok.field-0 c.requires.sound sound there is
    c.in-Ok.ensures c.in_ok-changes.ensures.plan counted c.image_of-image.result
    (subst (λ db. IfOk c.image_of-image.result (IsGatedImage db (c.args.commits + 1))) c.version.ensures c.image_of-image.ensures) c.in_ok-laid-in-Ok.ensures.told)

pub returns-in-Ok-clause-tells : goal.returns-in-Ok-clause-tells
returns-in-Ok-clause-tells c = told c

-- and names what it removes and changes
pub returns-in-Ok-clause-erases : goal.returns-in-Ok-clause-erases
returns-in-Ok-clause-erases c =
    let db = c.args.version.now in
    let there = lent-there db c.args.subject.now.0 c.row.result c.row.ensures c.if-is_none.ensures in
    erases-forgotten db c.args.subject.now c.in_ok-changes.changes c.in_ok-names.names c.erasing.result c.in_ok-changes.ensures.plan
    (rw c.items.ensures at c.in_ok-names.ensures) c.erasing.ensures.erased
    (forgot-accepted db _ c.args.subject.now.0 c.erasing.result there (told c))
