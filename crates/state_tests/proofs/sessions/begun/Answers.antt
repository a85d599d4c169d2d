use Rattle.std.proofs.Common.{subst, sym}
use Rattle.state_tests.specs.Ready.{AreReady, IsReady}
use Rattle.state_tests.proofs.Readiness.{ready-begun, ready-outside}
use Rattle.state_tests.proofs.sessions.begun.Goals as goal

-- each is outside, and then the two begin
pub returns : goal.returns
returns c =
    let db = c.args.version.now in
    let outside : AreReady db c.in_ok-txns.txns = λ session. subst (IsReady db) (sym (c.in_ok-txns.ensures.outside session)) (ready-outside db c.requires) in
    ready-begun db c.requires 2 _ _ (ready-begun db c.requires 1 _ _ outside c.begin.ensures.begun c.begin.ensures.others) c.begin-2.ensures.begun c.begin-2.ensures.others
