use Rattle.std.proofs.Common.{◌≡◌, ◌≤◌, ◌∙◌, ℕ, ap, arith, subst, sym}
use Rattle.std.specs.Prelude.{IfOk}
use Rattle.own_model.specs.declared.limit.TheConstants.{STORE_WEIGHT}
use Rattle.own_model.specs.Db.{Db}
use Rattle.move_model.specs.Moves.{AreMovesOf}
use Rattle.state_model.specs.LeadTo.{LeadTo}
use Rattle.state_model.specs.Weight.{weight}
use Rattle.commit_check.specs.Saturated.{saturated}
use Rattle.commit_check.proofs.LightStores.{weight-most}
use Rattle.store_version.proofs.PutLemmas.{tell_leads}
use Rattle.commit_replay.proofs.erasure.weight_left.Goals as goal

pub weight_by-requires : goal.weight_by-requires
weight_by-requires c =
    let db = c.args.version.now in
    let is = c.version.ensures ∙ c.requires.next in
    record {
      schema = ap (λ (db : Db). db.schema) is;
      weight = c.requires.weighs;
      leads = subst (λ (next : Db). LeadTo db next c.args.changes.now) (sym is) (tell_leads db c.args.changes.now c.requires.sound.well_formed.ordered c.requires.tells);
      moves = subst (λ (next : Db). AreMovesOf db next c.args.moves.now) (sym is) c.requires.moves;
    }

-- 64 bits tell it whole
pub returns : goal.returns
returns c =
    let light : weight c.args.next.now ≤ STORE_WEIGHT = weight-most c.args.next.now c.requires.sound_next.faultless in
    let whole : saturated (weight c.args.next.now) ≡ weight c.args.next.now = omega arith in
    subst (λ (sum : ℕ). IfOk c.weight_by.result (λ left. left ≡ sum)) (ap (λ (db : Db). saturated (weight db)) c.version.ensures ∙ whole) c.weight_by.ensures
