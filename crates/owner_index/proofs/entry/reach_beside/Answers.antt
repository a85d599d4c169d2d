use Rattle.std.proofs.Common.{sym, ◌∙◌}
use Rattle.owner_index.proofs.OneRowLemmas.{equal_lists}
use Rattle.owner_index.proofs.entry.reach_beside.Goals as goal

-- equal ones are those that own it
pub returns-then-eq : goal.returns-then-eq
returns-then-eq c = equal_lists c.args.owners.now c.items.result.now (sym c.eq.ensures ∙ c.if-eq.true) ∙ c.items.ensures
