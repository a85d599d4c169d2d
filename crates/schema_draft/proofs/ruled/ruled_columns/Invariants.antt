use Rattle.std.proofs.Common.{◌≡◌, Some, filter, map, take, ◌&&◌, bytes_eq}
use Rattle.std.specs.List.{flat_map}
use Rattle.schema_model.specs.NewEdges.{set_named}
use Rattle.schema_draft.specs.Lent.{is_effect, rule_seen}
use Rattle.schema_draft.proofs.ruled.ruled_columns.Given as goal

abbrev pub invariant-loop-rule : goal.invariant-loop-rule
invariant-loop-rule l =
    l.set ≡ set_named (Some l.table) (flat_map (λ rule. rule.ruled) (filter (λ rule. is_effect l.effect rule.effect && bytes_eq rule.column l.column) (map rule_seen (take l.rule-index l.rule-items))))
