use Rattle.std.proofs.Common.{[], Some, ◌++◌, ap, sym, ◌∙◌, bit_or, if◌then◌else◌}
use Rattle.own_base.specs.declared.number.ColumnSet.{ColumnSet}
use Rattle.schema_model.specs.NewEdges.{set_named}
use Rattle.schema_draft.proofs.RuledSets.{set_named-append}
use Rattle.schema_draft.proofs.ruled.with_rule.Goals as goal

pub returns-then-stands_on : goal.returns-then-stands_on
returns-then-stands_on c = λ before is.
    let table = Some c.args.table.now in
    let ruled = c.args.rule.now.ruled.now in
    ap (λ (set : ColumnSet). record { 0 = bit_or set.0 c.columns_named.result.0 }) is
    ∙ ap (λ (other : ColumnSet). record { 0 = bit_or (set_named table before).0 other.0 }) c.columns_named.ensures
    ∙ set_named-append c.args.table.now before ruled
    ∙ ap (λ stands. set_named table (before ++ (if stands then ruled else []))) (sym (sym c.stands_on.ensures ∙ c.if-stands_on.true))
