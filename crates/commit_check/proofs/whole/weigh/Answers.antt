use Rattle.std.proofs.Common.{◌≡◌, ◌≤◌, ◌∙◌, arith}
use Rattle.own_model.specs.declared.limit.TheConstants.{STORE_WEIGHT}
use Rattle.state_model.specs.Weight.{weight}
use Rattle.commit_check.specs.Saturated.{saturated}
use Rattle.commit_check.proofs.LightStores.{weight-most}
use Rattle.commit_check.proofs.whole.weigh.Goals as goal

-- 64 bits tell it whole
pub returns : goal.returns
returns g c =
    let db = g.V.StoreView.db c.args.after.now in
    let light : weight db ≤ STORE_WEIGHT = weight-most db c.requires.faultless in
    let whole : saturated (weight db) ≡ weight db = omega arith in
    c.weight_of.ensures ∙ whole
