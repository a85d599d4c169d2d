use Rattle.readable_model.proofs.Sources.{source_is_there}
use Rattle.readable_model.proofs.laws.faultless_select_has_its_source.Goals as goal

pub returns : goal.returns
returns c = source_is_there
