use Rattle.std.proofs.Common.{sym, ◌∙◌}
use Rattle.owner_index.proofs.OneRowLemmas.{equal_lists}
use Rattle.owner_index.proofs.settle.Subjects.are_held.Goals as goal

pub returns-then-eq-clause-owners : goal.returns-then-eq-clause-owners
returns-then-eq-clause-owners c = λ held. sym c.items.ensures ∙ (equal_lists c.items.result.now c.owners.result.now (sym c.eq.ensures ∙ c.if-eq.true) ∙ c.owners.ensures)

pub returns-then-eq-clause-reach : goal.returns-then-eq-clause-reach
returns-then-eq-clause-reach c = λ held. sym c.items-then-eq.ensures ∙ (equal_lists c.items-then-eq.result.now c.reach.result.now (sym c.eq-then-eq.ensures ∙ held) ∙ c.reach.ensures)
