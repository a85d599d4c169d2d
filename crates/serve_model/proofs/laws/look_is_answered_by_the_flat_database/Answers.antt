use Rattle.serve_model.proofs.LookLemmas.{look-answered, look-asked, look-replied}
use Rattle.serve_model.proofs.laws.look_is_answered_by_the_flat_database.Goals as goal

pub returns : goal.returns
returns c = record { answered = look-answered; replied = look-replied; asked = look-asked }
