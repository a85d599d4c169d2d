use Rattle.std.proofs.Common.{rules, sym}
use Rattle.commit_turn.proofs.Splitting.{splits}
use Rattle.commit_turn.proofs.steps.part.Goals as goal

pub split_seat-requires : goal.split_seat-requires
split_seat-requires g c = (search rules, search rules, rw (sym c.requires.chosen) (splits _ _ _ _ _ _ _ c.requires.lead.0 c.requires.lead.1 c.requires.lead.2 c.requires.fresh.0 c.requires.fresh.1))
