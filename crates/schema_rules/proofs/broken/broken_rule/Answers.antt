use Rattle.std.proofs.Common.{arith}
use Rattle.schema_model.specs.Refusal.{broken}
use Rattle.schema_rules.proofs.FirstBroken.{first_broken-end, first_broken-here, first_broken-next, length-broken}
use Rattle.schema_rules.proofs.broken.broken_rule.Goals as goal

pub returns-in-Some : goal.returns-in-Some
returns-in-Some c =
    let rules = broken c.args.schema.now c.args.draft.now in
    let count = length-broken c.args.schema.now c.args.draft.now in
    first_broken-here c.loop-rule.rule rules (omega arith) (omega arith) c.loop-rule.invariant _ c.in-Some.ensures

pub loop-rule-preserved : goal.loop-rule-preserved
loop-rule-preserved c =
    let rules = broken c.args.schema.now c.args.draft.now in
    let count = length-broken c.args.schema.now c.args.draft.now in
    first_broken-next c.loop-rule.rule rules (omega arith) (omega arith) c.loop-rule.invariant c.in_default.ensures

pub returns : goal.returns
returns c =
    let rules = broken c.args.schema.now c.args.draft.now in
    let count = length-broken c.args.schema.now c.args.draft.now in
    first_broken-end c.loop-rule.rule rules (omega arith) c.loop-rule.invariant
