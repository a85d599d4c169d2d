use Rattle.std.proofs.Common.{◌≡◌, ◌∙◌}
use Rattle.own_model.specs.declared.truth.Truth.TheVariants.{True, False}
use Rattle.pred_eval.proofs.ShortCuts.{greatest_decided, least_decided}
use Rattle.pred_eval.proofs.condition.+condition.Goals as goal
use Rattle.pred_eval.proofs.condition.+condition.Goals.{greatest-in-True, greatest-in_default, least-in-False, least-in_default}

-- a part is True, so the OR is
pub greatest-returns-then-matches : goal.greatest-returns-then-matches
greatest-returns-then-matches t c =
    let is : c.greater-greatest.result ≡ True = elim c.match-matches.branch [ greatest-in-True w ↦ w.in-True.is | greatest-in_default w ↦ cc ] in
    is ∙ greatest_decided c.args.row.now c.args.parts.now c.loop-part.part-index c.part-item.result c.loop-part.greatest c.loop-part-test.true c.part-item.is
    c.loop-part.invariant (cc)

-- a part is False, so the AND is
pub least-returns-then-matches : goal.least-returns-then-matches
least-returns-then-matches t c =
    let is : c.lesser-least.result ≡ False = elim c.match-matches.branch [ least-in-False w ↦ w.in-False.is | least-in_default w ↦ cc ] in
    is ∙ least_decided c.args.row.now c.args.parts.now c.loop-part.part-index c.part-item.result c.loop-part.least c.loop-part-test.true c.part-item.is
    c.loop-part.invariant (cc)
