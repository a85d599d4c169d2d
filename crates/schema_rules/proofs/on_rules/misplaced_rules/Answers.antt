use Rattle.std.proofs.Common.{◌≡◌, [], ap, ◌∙◌, map, true, false, take, arith}
use Rattle.std.specs.List.{slice_get}
use Rattle.schema_draft.specs.Lent.{rule_seen}
use Rattle.schema_model.specs.rules.MisplacedRules.{misplaced_after, misplaced_rules}
use Rattle.schema_rules.proofs.Firsts.{none_of_all}
use Rattle.schema_rules.proofs.Repeats.{is_misplaced, misplaced, well_placed}
use Rattle.schema_rules.proofs.on_rules.misplaced_rules.Goals as goal

pub returns-then-is_misplaced : goal.returns-then-is_misplaced
unfolding misplaced_rules
returns-then-is_misplaced c =
    let create = c.args.draft.now in
    let rules = c.rules-rules.result.now in
    let broken : is_misplaced create (map rule_seen (take c.loop-index.index rules)) (rule_seen c.index-rules-index.result) ≡ true = grind arith in
    misplaced create rule_seen rules c.loop-index.index c.index-rules-index.result (omega arith) c.index-rules-index.is c.loop-index.invariant broken
    ∙ ap (λ seen. slice_get (misplaced_after create [] seen) 0) c.rules-rules.ensures

pub loop-index-preserved : goal.loop-index-preserved
loop-index-preserved c =
    let create = c.args.draft.now in
    let rules = c.rules-rules.result.now in
    let kept : is_misplaced create (map rule_seen (take c.loop-index.index rules)) (rule_seen c.index-rules-index.result) ≡ false = grind arith in
    well_placed create rule_seen rules c.loop-index.index c.index-rules-index.result (omega arith) c.index-rules-index.is c.loop-index.invariant kept

pub returns : goal.returns
unfolding misplaced_rules
returns c =
    let create = c.args.draft.now in
    none_of_all (λ items. misplaced_after create [] (map rule_seen items)) c.rules-rules.result.now c.loop-index.index (omega arith) c.loop-index.invariant
    ∙ ap (λ seen. slice_get (misplaced_after create [] seen) 0) c.rules-rules.ensures
