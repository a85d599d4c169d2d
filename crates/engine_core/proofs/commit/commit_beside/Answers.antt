use Rattle.std.proofs.Common.{◌≡◌, refl, subst}
use Rattle.std.specs.Prelude.{Some}
use Rattle.std.proofs.lemmas.Result.{IfOk-weaker}
use Rattle.own_model.specs.Db.{Db}
use Rattle.state_model.specs.Fault.{fault}
use Rattle.state_model.specs.Put.{put}
use Rattle.commit_check.specs.Judged.{IsJudged}
use Rattle.commit_check.specs.declared.judged.Judged.TheVariants.{Weighs}
use Rattle.commit_record.specs.Recorded.{IsNetOf}
use Rattle.engine_core.specs.Answered.{IsRecorded}
use Rattle.engine_core.proofs.Commits.{tells-changed, tells-faulty}
use Rattle.engine_core.proofs.Nets.{tells-net}
use Rattle.engine_core.proofs.commit.commit_beside.Goals as goal

-- a net tells what stands
pub prepare-requires : goal.prepare-requires
prepare-requires c = record {
  tells = tells-net c.args.version.now c.args.changes.now c.requires.sound.well_formed.ordered c.requires.well_formed.ordered c.requires.net;
  well_formed = c.requires.sound.well_formed;
}

-- without a fault it is answered as its record says
pub returns-in-Ok-Weighs-clause-tells : goal.returns-in-Ok-Weighs-clause-tells
returns-in-Ok-Weighs-clause-tells c =
    let db = c.args.version.now in
    let list = c.args.changes.now in
    let after = put db list in
    let weighs = c.in-Ok-Weighs.sum in
    let judged = subst (λ (next : Db). IsJudged next (Weighs weighs)) c.in_ok-next.ensures.next (rw c.in-Ok-Weighs.field-0-is at c.in-Ok-Weighs.ensures) in
    let net_is : IsNetOf db after list = record {
      sound_before = c.requires.sound;
      sound_after = record { well_formed = c.requires.well_formed; faultless = judged.0 };
      schema = refl;
      creates = refl;
      is = c.requires.net;
      some = c.requires.some;
    } in
    IfOk-weaker c.recorded.result _ _ (λ answer is.
    tells-changed db after c.args.reply c.requires.accepted list net_is weighs c.record_of_changes-framed.result answer judged.1 (c.record_of_changes-framed.ensures db after net_is)
    (subst (λ (next : Db). IsRecorded next weighs c.args.reply c.record_of_changes-framed.result answer) c.in_ok-next.ensures.next is))
    c.recorded.ensures.told

-- and with one by it
pub returns-in-Ok-Fault-clause-tells : goal.returns-in-Ok-Fault-clause-tells
returns-in-Ok-Fault-clause-tells c =
    let db = c.args.version.now in
    let after = put db c.args.changes.now in
    let why = c.in-Ok-Fault.why in
    let judged = subst (λ (next : Db). fault next ≡ Some why) c.in_ok-next.ensures.next (rw c.in-Ok-Fault.field-0-is at c.in-Ok-Fault.ensures) in
    tells-faulty db after c.args.reply c.requires.accepted why c.told.result judged c.told.ensures.reply c.told.ensures.stays
