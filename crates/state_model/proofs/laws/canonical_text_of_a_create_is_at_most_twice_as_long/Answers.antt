use Rattle.state_model.proofs.CanonicalBytes.{canonical-short}
use Rattle.state_model.proofs.laws.canonical_text_of_a_create_is_at_most_twice_as_long.Goals as goal

pub returns : goal.returns
returns c = canonical-short
