use Rattle.history_model.proofs.EveryHistory.{serial-history}
use Rattle.engine_core.proofs.engine.Engine.history.Goals as goal

pub returns-clause-serial : goal.returns-clause-serial
returns-clause-serial g c = rw c.deref.ensures.value (rw (← c.self.view_is) (serial-history _ _ c.self.invariant.0.begun c.self.invariant.0.entries))

pub returns-clause-exact : goal.returns-clause-exact
returns-clause-exact g c = rw c.deref.ensures.value (rw (← c.self.view_is) c.self.invariant.0.exact)
