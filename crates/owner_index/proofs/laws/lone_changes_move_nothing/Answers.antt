use Rattle.owner_index.proofs.LoneLemmas.{lone-moves, lone-stands}
use Rattle.owner_index.proofs.laws.lone_changes_move_nothing.Goals as goal

pub returns-clause-stands : goal.returns-clause-stands
returns-clause-stands c before after changes entries ordered also owner schema lead lone stands = lone-stands before after changes ordered also owner schema lead lone entries stands

pub returns-clause-moves : goal.returns-clause-moves
returns-clause-moves c before after changes ordered also owner schema lead lone = lone-moves before after changes ordered also owner schema lead lone
