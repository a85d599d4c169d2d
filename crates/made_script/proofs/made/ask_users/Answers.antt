use Rattle.std.proofs.Common.{◌+◌, arith}
use Rattle.made_model.specs.MadeTexts.{user_text}
use Rattle.made_script.proofs.AskMore.{more-mapped}
use Rattle.made_script.proofs.made.ask_users.Goals as goal

pub loop-before-preserved : goal.loop-before-preserved
loop-before-preserved c = record {
  asked = more-mapped user_text 1 c.loop-before.before (c.loop-before.before + 1) (omega arith) c.loop-before.invariant.asked c.in_ok-ask_user.ensures.asks;
  longer = omega (arith, c.in_ok-ask_user.ensures.longer);
}
