use Rattle.std.proofs.Common.{◌≡◌, ◌∙◌, [], ◌∷◌, ap, refl, subst, sym}
use Rattle.std.specs.Prelude.{IsTrue, List, Some}
use Rattle.std.proofs.lemmas.Result.{IfOk-weaker}
use Rattle.own_base.specs.declared.change.Change.{Change}
use Rattle.schema_model.specs.Lone.{is_lone}
use Rattle.state_model.specs.Fault.{fault}
use Rattle.state_model.specs.Put.{put}
use Rattle.ref_index.specs.Tells.{Tell}
use Rattle.commit_check.specs.Judged.{IsJudged}
use Rattle.commit_record.specs.Recorded.{IsNetOf, RecordsChanges}
use Rattle.engine_core.proofs.Commits.{tells-faulty, tells-placed}
use Rattle.engine_core.proofs.Nets.{tells-net}
use Rattle.engine_core.proofs.commit.commit_in_place.Goals as goal

-- without a fault it is answered as its record says
pub returns-in-Weighs-clause-tells : goal.returns-in-Weighs-clause-tells
returns-in-Weighs-clause-tells c =
    let db = c.args.version.now in
    let list = c.args.changes in
    let after = put db list in
    let weighs = c.in-Weighs.sum in
    let change = c.only_change-change.result in
    let only : list ≡ change ∷ [] = c.only_change-change.ensures in
    let judged = subst (IsJudged after) c.in-Weighs.is c.requires.judged in
    let net_is : IsNetOf db after list = record {
      sound_before = c.requires.sound;
      sound_after = record { well_formed = c.requires.well_formed; faultless = judged.0 };
      schema = refl;
      creates = refl;
      is = c.requires.net;
      some = λ none. let never : ◌≡◌ {A = List Change} [] (change ∷ []) = sym none ∙ only in absurd (cc);
    } in
    let same : c.requires.lone.change ≡ change = let both : ◌≡◌ {A = List Change} (c.requires.lone.change ∷ []) (change ∷ []) = sym c.requires.lone.only ∙ only in cc in
    IfOk-weaker c.recorded.result _ _ (λ answer is.
    tells-placed db after c.args.reply c.requires.accepted list net_is change weighs c.record_of_changes-framed.result answer (ap (put db) (sym only))
    (record {
      tells = subst (Tell db) only (tells-net db list c.requires.sound.well_formed.ordered c.requires.well_formed.ordered c.requires.net);
      lone = subst (λ (change : Change). IsTrue (is_lone db.schema change.name.table.0)) same c.requires.lone.lone;
    })
    judged.1
    (subst (λ list. RecordsChanges db after list c.record_of_changes-framed.result) c.items.ensures
    (c.record_of_changes-framed.ensures db after (subst (IsNetOf db after) (sym c.items.ensures) net_is)))
    is)
    c.recorded.ensures.told

-- and with one by it
pub returns-in-Fault-clause-tells : goal.returns-in-Fault-clause-tells
returns-in-Fault-clause-tells c =
    let db = c.args.version.now in
    let after = put db c.args.changes in
    let why = c.in-Fault.why in
    let judged : fault after ≡ Some why = subst (IsJudged after) c.in-Fault.is c.requires.judged in
    tells-faulty db after c.args.reply c.requires.accepted why c.told.result judged c.told.ensures.reply c.told.ensures.stays
