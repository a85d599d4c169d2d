use Rattle.std.proofs.Common.{◌∙◌, ap, sym}
use Rattle.state_model.specs.Weight.{weight}
use Rattle.engine_core.proofs.RepresentsLemmas.{stands-none}
use Rattle.engine_core.proofs.engine.begun.Goals as goal

pub taken-requires : goal.taken-requires
taken-requires c = c.into_parts-version.ensures.sound.well_formed

-- nothing was made yet, and weighs what it weighs
pub returns-clause-stands : goal.returns-clause-stands
returns-clause-stands c = stands-none _ _ (sym c.in_ok-opened.ensures) (ap weight c.into_parts-version.ensures.version ∙ c.into_parts-version.ensures.weighs) c.in_ok-txns.ensures.outside c.in_ok-txns.ensures.free
