use Rattle.std.proofs.Common.{rules}
use Rattle.commit_turn.proofs.Joining.{joins}
use Rattle.commit_turn.proofs.steps.unite.Goals as goal

pub join_seat-requires : goal.join_seat-requires
join_seat-requires g c = (search rules, search rules, search rules, search rules, joins _ _ _ _ _ _ _ _ c.requires.lead.0 c.requires.lead.1 c.requires.lead.2 c.requires.done.0 c.requires.done.1)
