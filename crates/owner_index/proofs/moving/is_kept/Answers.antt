use Rattle.std.proofs.Common.{sym, ◌∙◌}
use Rattle.owner_index.proofs.OneRowLemmas.{equal_lists}
use Rattle.owner_index.proofs.moving.is_kept.Goals as goal

pub returns-then-eq-clause-owners : goal.returns-then-eq-clause-owners
returns-then-eq-clause-owners c = λ kept. sym c.owners.ensures ∙ (equal_lists c.owners.result.now c.owners-2.result.now (sym c.eq.ensures ∙ c.if-eq.true) ∙ c.owners-2.ensures)

pub returns-then-eq-clause-reach : goal.returns-then-eq-clause-reach
returns-then-eq-clause-reach c = λ kept. sym c.reach.ensures ∙ (equal_lists c.reach.result.now c.reach-then-eq.result.now (sym c.eq-then-eq.ensures ∙ kept) ∙ c.reach-then-eq.ensures)
