use Rattle.std.proofs.Common.{ap, filter, rules, ◌∙◌}
use Rattle.std.proofs.lemmas.List.Elements.{filter_from_retain}
use Rattle.txn_space.specs.Differs.{differs}
use Rattle.txn_space.proofs.net.net_of_write.Goals as goal

-- what stays is what differs
pub returns : goal.returns
returns c =
    c.from_vec.ensures ∙ (filter_from_retain _ differs (λ p x b q called. search rules) _ _ _ c.retain.ensures.filtered
    ∙ ap (filter differs) c.into_vec-changes.ensures)
