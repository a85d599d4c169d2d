use Rattle.std.proofs.Common.{◌+◌, arith}
use Rattle.made_script.proofs.AskMore.{more-erased}
use Rattle.made_script.proofs.made.ask_erasures.Goals as goal

pub ask_erasure-requires-clause-room : goal.ask_erasure-requires-clause-room
ask_erasure-requires-clause-room c = omega (arith, c.loop-before.invariant.longer)

pub loop-before-preserved : goal.loop-before-preserved
loop-before-preserved c = record {
  asked = more-erased c.loop-before.before (c.loop-before.before + 1) (omega arith) c.loop-before.invariant.asked c.in_ok-ask_erasure.ensures.asks;
  longer = omega (arith, c.in_ok-ask_erasure.ensures.longer, c.loop-before.invariant.longer);
}
