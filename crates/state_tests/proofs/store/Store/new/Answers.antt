use Rattle.state_model.proofs.WellFormedLemmas.{sound-empty}
use Rattle.state_tests.proofs.store.Store.new.Goals as goal

pub invariant_of-result : goal.invariant_of-result
invariant_of-result g c = rw (rw c.expect.ensures at c.new.ensures) sound-empty
